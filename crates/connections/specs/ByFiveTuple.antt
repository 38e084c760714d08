-- A table by five-tuples with their hashes.
use Rattle.std.specs.Prelude.{◌≡◌, ℕ, List, map}
use Rattle.std.specs.List.{AllByRecursion}
use Rattle.connections.specs.HashKeys.{hash_of}
use Rattle.connections.specs.declared.five_tuple.FiveTuple.{FiveTuple}
use Rattle.connections.specs.declared.hash_keys.HashKeys.{HashKeys}
use Rattle.connections.specs.declared.by_five_tuple.HashedEnds.{HashedEnds}

-- A five-tuple with its hash.
abbrev pub hashed_ends : HashKeys → FiveTuple → HashedEnds
hashed_ends keys e = record { hash = hash_of keys e; five_tuple = e }

abbrev pub IsHashed : HashKeys → HashedEnds → Type 0
IsHashed keys k = k.hash ≡ hash_of keys k.five_tuple

-- A table by five-tuples: its entries, the most recently used first; how many there may be; and the
-- keys of its hashes.
pub record KeyedTable (V : Type 0) : Type 0 where
  pub entries : List (FiveTuple × V)
  pub cap : ℕ
  pub keys : HashKeys

module _ {V : Type 0} where
  abbrev pub keyed_table : HashKeys → List (FiveTuple × V) → ℕ → KeyedTable V
  keyed_table keys es n = record { entries = es; cap = n; keys = keys }

  abbrev pub AreHashed : HashKeys → List (HashedEnds × V) → Type 0
  AreHashed keys = AllByRecursion (λ e. IsHashed keys e.0)

  -- An entry without the hash.
  abbrev pub unhashed_entry : HashedEnds × V → FiveTuple × V
  unhashed_entry e = (e.0.five_tuple, e.1)

  abbrev pub unhashed : List (HashedEnds × V) → List (FiveTuple × V)
  unhashed = map unhashed_entry
