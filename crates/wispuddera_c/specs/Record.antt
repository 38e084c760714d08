-- TLS records as C structs.
use Rattle.std.specs.Prelude.{◌≡◌}
use Rattle.layouts.specs.Bytes.{Bytes}
use Rattle.tls_records.specs.Record.{RawRecord}
use Rattle.wispuddera_c.specs.declared.record.Record.{Record}
use Rattle.wispuddera_c.specs.Place.{StandsAt, Follows}

-- The struct shows the record v in b, and that r follows it.
pub record ShowsRecord (b : Bytes) (c : Record) (v : RawRecord) (r : Bytes) : Type 0 where
  pub content_type : c.content_type ≡ v.header.content_type
  pub version : c.version ≡ v.header.version
  pub length : c.length ≡ v.header.length
  pub fragment : StandsAt b c.fragment v.fragment
  pub next : Follows b c.next r
