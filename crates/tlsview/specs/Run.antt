-- What a run reads and writes; `remaining` and `contents` give the bytes of its reader and of its
-- writer.
use Rattle.std.specs.Prelude.{◌≡◌, ℕ, ◌<◌, List, [], length, take, Option, Some, IfSome}
use Rattle.std.specs.Io.KnownBytes.{Appends}
use Rattle.tlsview.specs.Out.{out}

-- it reads all, and writes and returns what `out` gives
abbrev pub WritesOut : {R W : Type 0} → (R → Option (List ℕ)) → (W → Option (List ℕ)) → R → R → W
    → W → ℕ → Type 0
WritesOut remaining contents r r' w w' status = IfSome (remaining r) (λ x. (remaining r' ≡ Some [])
    × Appends (contents w) (contents w') (out x).0 × (status ≡ (out x).1))

-- it reads all, and writes a proper prefix of what `out` gives
abbrev pub WritesFront : {R W : Type 0} → (R → Option (List ℕ)) → (W → Option (List ℕ)) → R → R → W
    → W → Type 0
WritesFront remaining contents r r' w w' = IfSome (remaining r) (λ x. (remaining r' ≡ Some [])
    × (n : ℕ) × (n < length (out x).0) × Appends (contents w) (contents w') (take n (out x).0))
