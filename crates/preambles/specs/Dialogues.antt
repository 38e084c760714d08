-- What keeps to the grammar of dialogues.
use Rattle.std.specs.Prelude.{◌≡◌, ◌<◌, ℕ, Bool, true, false, ◌||◌, ◌==◌, List, [], ◌∷◌, ◌++◌, length, map, take, Some}
use Rattle.preambles.specs.Rows.{frame_of, is_text, next, reads}
use Rattle.preambles.specs.Walk.{End, enter, upper}
use Rattle.preambles.specs.declared.phase.Frame.{Frame}
use Rattle.preambles.specs.declared.phase.Frame.TheVariants.{Opening, Until, Count}
use Rattle.preambles.specs.declared.phase.Outcome.{Outcome}
use Rattle.preambles.specs.declared.phase.Phase.{Phase}
use Rattle.preambles.specs.declared.phase.Phase.TheVariants.{Over}
use Rattle.preambles.specs.declared.phase.Side.TheVariants.{Client, Server}

-- The byte is one of these.
abbrev pub has_byte : ℕ → List ℕ → Bool
has_byte e [] = false
has_byte e (b ∷ body) = b == e || has_byte e body

-- The bytes that a phase reads at once, and which of them count: a whole line, whose first 64 bytes
-- count, in either case; a packet of a number of bytes; or a client's first byte that isn't text.
pub data IsUnit : Frame → List ℕ → List ℕ → Type 0 where
  line :
      (e : ℕ) (body : List ℕ) → has_byte e body ≡ false
      → IsUnit (Until e) (body ++ e ∷ []) (take 64 (map upper body))
  packet :
      (n : ℕ) (b : List ℕ) → 0 < n → length b ≡ n → IsUnit (Count n) b (take 64 b)
  text :
      (first : ℕ) (body : List ℕ) → is_text first ≡ true → has_byte 10 (first ∷ body) ≡ false
      → IsUnit Opening (first ∷ body ++ 10 ∷ []) (take 64 (map upper (first ∷ body)))
  byte :
      (first : ℕ) → is_text first ≡ false → has_byte 10 (first ∷ []) ≡ false
      → IsUnit Opening (first ∷ []) (upper first ∷ [])

-- A dialogue goes from a phase to another by these bytes of the client and of the server: they are
-- what each phase reads of the side that it reads, and the next phase follows by what counts of it.
pub data Keeps : Phase → List ℕ → List ℕ → Phase → Type 0 where
  over : (p : Phase) → Keeps p [] [] p
  client_reads :
      (p q : Phase) (unit kept c s : List ℕ) → reads p ≡ Some Client
      → IsUnit (frame_of p) unit kept → Keeps (next p kept) c s q → Keeps p (unit ++ c) s q
  server_reads :
      (p q : Phase) (unit kept c s : List ℕ) → reads p ≡ Some Server
      → IsUnit (frame_of p) unit kept → Keeps (next p kept) c s q → Keeps p c (unit ++ s) q

-- A dialogue that ended with this outcome. The bytes behind it are left.
abbrev pub ended : Outcome → List ℕ → List ℕ → End
ended o client server = record { place = enter (Over o); client = client; server = server }
