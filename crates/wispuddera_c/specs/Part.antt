-- Handshake messages, extensions and key shares as C structs.
use Rattle.std.specs.Prelude.{◌≡◌}
use Rattle.layouts.specs.Bytes.{Bytes}
use Rattle.layouts.specs.Framed.{Framed}
use Rattle.wispuddera_c.specs.declared.part.Part.{Part}
use Rattle.wispuddera_c.specs.Place.{StandsAt, Follows}

-- The struct shows the part v in b, and that r follows it.
pub record ShowsPart (b : Bytes) (c : Part) (v : Framed) (r : Bytes) : Type 0 where
  pub kind : c.kind ≡ v.kind
  pub content : StandsAt b c.content v.content
  pub next : Follows b c.next r

-- The struct shows bytes after a length, which have no kind, and that r follows them.
pub record ShowsBytes (b : Bytes) (c : Part) (v : Bytes) (r : Bytes) : Type 0 where
  pub kind : c.kind ≡ 0
  pub content : StandsAt b c.content v
  pub next : Follows b c.next r
