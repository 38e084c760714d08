-- What a dialogue reads of both sides' bytes.
use Rattle.std.specs.Prelude.{◌≡◌, ℕ, ◌-◌, ◌<◌, Bool, true, false, ◌&&◌, ◌==◌, not, nat_le, if◌then◌else◌, List, [], ◌∷◌, ◌++◌, length, Option, Some, None}
use Rattle.preambles.specs.Fronts.{bytes_of, pushed}
use Rattle.preambles.specs.Rows.{frame_of, is_text, next, reads}
use Rattle.preambles.specs.declared.phase.Frame.{Frame}
use Rattle.preambles.specs.declared.phase.Frame.TheVariants.{Opening, Until, Count}
use Rattle.preambles.specs.declared.phase.Phase.{Phase}
use Rattle.preambles.specs.declared.phase.Phase.TheVariants as phase
use Rattle.preambles.specs.declared.phase.Side.{Side}
use Rattle.preambles.specs.declared.phase.Side.TheVariants.{Client, Server}
use Rattle.preambles.specs.declared.preamble.Preamble.{Preamble}

-- A place in a dialogue: the phase, the first bytes of its line or packet, and how many bytes of a
-- packet are left.
pub record Place : Type 0 where
  pub phase : Phase
  pub front : List ℕ
  pub left : ℕ

abbrev pub view : Preamble → Place
view p = record { phase = p.phase; front = bytes_of p.front; left = p.left }

abbrev pub begun : Place
begun = record { phase = phase.Opening; front = []; left = 0 }

unfoldable pub is_end : Frame → Bool → ℕ → ℕ → Bool
is_end Opening is_first left b = if is_first then not (is_text b) else b == 10
is_end (Until last) is_first left b = b == last
is_end (Count n) is_first left b = nat_le left 1

-- The byte that ends a line isn't kept.
unfoldable pub keeps : Frame → ℕ → Bool
keeps Opening b = not (b == 10)
keeps (Until last) b = not (b == last)
keeps (Count n) b = true

-- Lines are kept in upper case.
abbrev pub upper : ℕ → ℕ
upper b = if nat_le 97 b && nat_le b 122 then b - 32 else b

unfoldable pub cased : Frame → ℕ → ℕ
cased (Count n) b = b
cased Opening b = upper b
cased (Until last) b = upper b

unfoldable pub left_in : Frame → ℕ
left_in (Count n) = n
left_in Opening = 0
left_in (Until last) = 0

abbrev pub is_empty : List ℕ → Bool
is_empty front = length front == 0

abbrev pub kept_with : Frame → List ℕ → ℕ → List ℕ
kept_with f front b = if keeps f b then pushed front (cased f b) else front

abbrev pub enter : Phase → Place
enter p = record { phase = p; front = []; left = left_in (frame_of p) }

-- The place behind one byte of the side that is read.
unfoldable pub step : Place → ℕ → Place
step p b =
    if is_end (frame_of p.phase) (is_empty p.front) p.left b
    then enter (next p.phase (kept_with (frame_of p.phase) p.front b))
    else record {
      phase = p.phase;
      front = kept_with (frame_of p.phase) p.front b;
      left = p.left - 1;
    }

abbrev pub is_side : Side → Option Side → Bool
is_side Client (Some Client) = true
is_side Client (Some Server) = false
is_side Server (Some Client) = false
is_side Server (Some Server) = true
is_side s None = false

unfoldable pub is_due : Side → Place → Bool
is_due s p = is_side s (reads p.phase)

-- Where reading comes to, and the bytes of both sides that aren't read.
pub record End : Type 0 where
  pub place : Place
  pub client : List ℕ
  pub server : List ℕ

-- The server's bytes are read while they are due; then it goes on with k.
unfoldable pub read_server : (List ℕ → Place → End) → List ℕ → Place → End
read_server k [] p = k [] p
read_server k (b ∷ server) p =
    if is_due Server p then read_server k server (step p b) else k (b ∷ server) p

-- What is read of both sides' bytes from a place on: each byte of the side that is due, until it
-- has no more.
unfoldable pub read : List ℕ → List ℕ → Place → End
read [] server p = read_server (λ s q. record { place = q; client = []; server = s }) server p
read (b ∷ client) server p =
    read_server
    (λ s q. if is_due Client q then read client s (step q b)
    else record { place = q; client = b ∷ client; server = s })
    server p

-- With further bytes of a side in front of what both send.
unfoldable pub walk_behind : Side → List ℕ → List ℕ → List ℕ → Place → End
walk_behind Client bytes client server p = read (bytes ++ client) server p
walk_behind Server bytes client server p = read client (bytes ++ server) p

-- The side whose byte is read next, if the client has m more bytes and the server n. None if the
-- side that is due has none, or no side is due.
abbrev pub IsNextDue : Option Side → ℕ → ℕ → Place → Type 0
IsNextDue (Some Client) m n p = (0 < m) × (is_due Client p ≡ true)
IsNextDue (Some Server) m n p = (0 < n) × (is_due Server p ≡ true)
IsNextDue None m n p = (0 < m → is_due Client p ≡ false) × (0 < n → is_due Server p ≡ false)
