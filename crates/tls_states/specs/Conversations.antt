-- Where a conversation ends, by the grammar.
use Rattle.std.specs.Prelude.{◌≡◌, [], ◌∷◌, ◌++◌}
use Rattle.tls_words.specs.Words.{HasFront, MayBecome}
use Rattle.tls_states.specs.Symbols.{symbol, Word}
use Rattle.tls_states.specs.Grammar.{handshake, clean}
use Rattle.tls_states.specs.declared.symbol.Kind.TheVariants.{Fatal}
use Rattle.tls_states.specs.declared.symbol.Direction.{Direction}

-- Some prefix of w, cleaned, is a handshake.
abbrev pub HasHandshake : Word → Type 0
HasHandshake w = HasFront clean handshake w

-- w, cleaned, is a prefix of a handshake, possibly empty.
abbrev pub MayBecomeHandshake : Word → Type 0
MayBecomeHandshake w = MayBecome clean handshake w

-- The last symbol of w is a fatal alert, and the symbols before it are a prefix of a handshake.
abbrev pub IsBrokenOff : Word → Type 0
IsBrokenOff w = (u : Word) × (d : Direction) × (w ≡ u ++ symbol Fatal d ∷ []) × MayBecomeHandshake u

-- No prefix of w is a handshake, no further symbols can complete w to one, and w isn't one that a
-- fatal alert broke off with its last symbol.
abbrev pub IsNoHandshake : Word → Type 0
IsNoHandshake w = ¬ HasHandshake w × ¬ MayBecomeHandshake w × ¬ IsBrokenOff w
