-- TLS as the payload of TDS packets ([MS-TDS], sections 2.2.3.1 and 2.2.6.5). Until the handshake
-- is over, each side sends its TLS in packets of the type 18. A packet's header has 8 bytes: the
-- type, the status, the packet's length with its header in 2 bytes, and 4 bytes that don't matter.
--
-- Where a packet would begin, a byte other than 18 is TLS's, and so are all behind it: then the
-- handshake is over. No record of TLS has the type 18 (RFC 8446, section 5.1).
use Rattle.std.specs.Prelude.{◌≡◌, ℕ, ◌+◌, ◌-◌, ◌*◌, Bool, true, false, ◌&&◌, ◌==◌, not, nat_le, nat_lt, fold, if◌then◌else◌, List, [], ◌∷◌, ◌++◌, length}
use Rattle.preambles.specs.declared.tds_payload.Position.{Position}
use Rattle.preambles.specs.declared.tds_payload.Position.TheVariants.{Header, Payload, Bare}
use Rattle.preambles.specs.declared.tds_payload.TdsReader.{TdsReader}

-- The position of the next byte: in a header, behind this many bytes of it, with the two bytes of
-- the length as far as they came; in a payload, with this many bytes left; or in TLS that isn't in
-- packets.
abbrev pub begun : Position
begun = Header 0 0 0

abbrev pub reader_at : Position → TdsReader
reader_at p = record { position = p }

-- Behind the header of a packet of this length. It may have no payload.
abbrev pub behind_header : ℕ → Position
behind_header n = if nat_le n 8 then Header 0 0 0 else Payload (n - 8)

-- Behind one more byte.
unfoldable pub next_position : Position → ℕ → Position
next_position (Header n high low) b =
    if n == 0 && not (b == 18) then Bare
    else if n == 2 then Header 3 b low
    else if n == 3 then Header 4 high b
    else if nat_lt n 7 then Header (n + 1) high low
    else behind_header (high * 256 + low)
next_position (Payload n) b = if nat_le n 1 then Header 0 0 0 else Payload (n - 1)
next_position Bare b = Bare

-- A byte there is TLS's.
unfoldable pub is_tls : Position → ℕ → Bool
is_tls (Header n high low) b = n == 0 && not (b == 18)
is_tls (Payload n) b = true
is_tls Bare b = true

abbrev pub with_tls : Bool → ℕ → List ℕ → List ℕ
with_tls is b tls = if is then tls ++ b ∷ [] else tls

-- The TLS that was taken out of a side's bytes, and the position behind them.
pub record Taken : Type 0 where
  pub position : Position
  pub tls : List ℕ

abbrev pub taken_by : TdsReader → List ℕ → Taken
taken_by r tls = record { position = r.position; tls = tls }

abbrev pub with_byte : Taken → ℕ → Taken
with_byte t b = record {
  position = next_position t.position b;
  tls = with_tls (is_tls t.position b) b t.tls;
}

-- What is taken out of a side's next bytes.
abbrev pub taken_from : Position → List ℕ → Taken
taken_from p bytes = fold with_byte (record { position = p; tls = [] }) bytes

-- What is taken out of further bytes is behind what was taken before.
abbrev pub taken_behind : Taken → List ℕ → Taken
taken_behind t bytes = record {
  position = (taken_from t.position bytes).position;
  tls = t.tls ++ (taken_from t.position bytes).tls;
}

-- A side's bytes hold this TLS: in packets, and behind these as it is.
pub data Holds : List ℕ → List ℕ → Type 0 where
  nothing : Holds [] []
  bare : (b : ℕ) (rest : List ℕ) → (b == 18) ≡ false → Holds (b ∷ rest) (b ∷ rest)
  packet :
      (status high low spid1 spid2 number window : ℕ) (payload bytes tls : List ℕ)
      → high * 256 + low ≡ length payload + 8 → Holds bytes tls
      → Holds
      (18 ∷ status ∷ high ∷ low ∷ spid1 ∷ spid2 ∷ number ∷ window ∷ payload ++ bytes)
      (payload ++ tls)
