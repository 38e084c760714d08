-- Parts whose content isn't parsed: a type, a length, and that many bytes. Extensions in a hello
-- and handshake messages in a record have this form.
use Rattle.std.specs.Prelude.{ℕ}
use Rattle.layouts.specs.Bytes.{Bytes}
use Rattle.layouts.specs.Layout.{Layout, done, number, ◌>>=◌, counted}

pub record Framed : Type 0 where
  pub kind : ℕ
  pub content : Bytes

-- A type of w bytes, then a length of k bytes and the content.
unfoldable pub framed : ℕ → ℕ → Layout Framed
framed w k = do
  kind ← number w
  content ← counted k
  done (record { kind = kind; content = content })
