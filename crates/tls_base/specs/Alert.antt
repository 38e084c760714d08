-- Alerts.
use Rattle.std.specs.Prelude.{ℕ}
use Rattle.layouts.specs.Layout.{Layout, done, number, ◌>>=◌}
use Rattle.tls_base.specs.declared.alert.TlsMessageAlert.{TlsMessageAlert}

-- struct { AlertLevel level; AlertDescription description; } Alert (RFC 5246, section 7.2).
pub record Alert : Type 0 where
  pub level : ℕ
  pub description : ℕ

abbrev pub view_alert : TlsMessageAlert → Alert
view_alert a = record { level = a.severity.0; description = a.code.0 }

unfoldable pub alert : Layout Alert
alert = do
  level ← number 1
  description ← number 1
  done (record { level = level; description = description })
