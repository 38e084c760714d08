-- The table of datagrams in reassembly, by key. The datagram whose first fragment arrived last
-- comes first.
use Rattle.std.specs.Prelude.{◌≡◌, ℕ, ◌+◌, ◌-◌, ◌*◌, ◌≤◌, nat_lt, Bool, false, if◌then◌else◌, Option, Some, None, List, [], ◌∷◌, length, reverse}
use Rattle.std.specs.Map.{lookup, remove_entry, set_value}
use Rattle.capture.specs.declared.ip.Address.{Address}
use Rattle.capture.specs.declared.ip.Address.TheVariants.{V4, V6}
use Rattle.capture.specs.declared.fragment.IpFragment.{IpFragment}
use Rattle.ip_fragments.specs.Key.{are_keys, key_of}
use Rattle.ip_fragments.specs.Waiting.{Waiting, Effect, Drops, Keeps, Completes, HandsOut, Receives, begun, counted, is_other_end, most_of, received, refused_alone, weight_of}
use Rattle.ip_fragments.specs.declared.key.Key.{Key}
use Rattle.ip_fragments.specs.declared.outcome.FragmentOutcome.{FragmentOutcome}
use Rattle.ip_fragments.specs.declared.outcome.FragmentOutcome.TheVariants as outcome
use Rattle.ip_fragments.specs.declared.outcome.FragmentRefusal.{FragmentRefusal}
use Rattle.ip_fragments.specs.declared.fragments.Received.{Received}
use Rattle.ip_fragments.specs.declared.fragments.TheConstants.{HELD_LIMIT, WAIT_LIMIT, WAIT_LIMIT_V6}

abbrev pub Table : Type 0
Table = List (Key × Waiting)

-- The datagram of a key, and the table without it.
abbrev pub at : Key → Table → Option Waiting
at k t = lookup (are_keys k) t

abbrev pub others : Key → Table → Table
others k t = remove_entry (are_keys k) t

abbrev pub with_other : Key → Waiting → Table → Table
with_other k w t = set_value (are_keys k) t w

-- A datagram that is in the table keeps its place, a new one comes first.
abbrev pub put_at : Option Waiting → Key → Waiting → Table → Table
put_at (Some v) k w t = with_other k w t
put_at None k w t = (k, w) ∷ t

abbrev pub putting : Key → Waiting → Table → Table
putting k w t = put_at (at k t) k w t

-- The memory that all count, in bytes.
abbrev pub weight : Table → ℕ
weight [] = 0
weight (e ∷ t) = weight_of e.1 + weight t

-- The table, and how many datagrams were dropped: late ones, and those evicted over the memory
-- limit.
pub record Reassembly : Type 0 where
  pub waiting : Table
  pub late : ℕ
  pub evicted : ℕ

-- How long a datagram waits after its first fragment: 30 seconds in IPv4, as in Linux, 60 in IPv6
-- (RFC 8200, section 4.5).
abbrev pub limit_of : Address → ℕ
limit_of (V4 n) = WAIT_LIMIT
limit_of (V6 upper lower) = WAIT_LIMIT_V6

-- A fragment arrives too late for its datagram.
abbrev pub is_late : ℕ → Address → Waiting → Bool
is_late time a w = nat_lt (limit_of a) (time - w.since)

-- It drops that datagram then. Only its own fragments show that a datagram's time is over: times of
-- others may come from another clock.
abbrev pub without_late_at : Option Waiting → ℕ → Key → Address → Reassembly → Reassembly
without_late_at None time k a r = r
without_late_at (Some w) time k a r = if is_late time a w then
    record r { waiting = others k r.waiting; late = counted r.late 1 } else r

abbrev pub without_late : ℕ → Key → Address → Reassembly → Reassembly
without_late time k a r = without_late_at (at k r.waiting) time k a r

-- What is left of these datagrams, which count `held` bytes, once the oldest are dropped until
-- there is room for `more`.
unfoldable pub left_of : ℕ → ℕ → Table → Table
left_of more held [] = []
left_of more held (e ∷ t) =
    if nat_lt HELD_LIMIT (held + more) then left_of more (held - weight_of e.1) t else e ∷ t

-- What is left of a table. Its last datagram is the oldest.
abbrev pub kept : ℕ → Table → Table
kept more t = reverse (left_of more (weight t) (reverse t))

-- The oldest datagrams are dropped and counted until there is room for `more` bytes.
abbrev pub forgetting : ℕ → Reassembly → Reassembly
forgetting more r = record {
  waiting = kept more r.waiting;
  late = r.late;
  evicted = counted r.evicted (length r.waiting - length (kept more r.waiting));
}

-- The datagram to which a fragment is added: the one in the table, or an empty one.
abbrev pub found_or_begun : ℕ → Option Waiting → Waiting
found_or_begun time None = begun time
found_or_begun time (Some v) = v

abbrev pub its : ℕ → Key → Table → Waiting
its time k t = found_or_begun time (at k t)

-- A fragment is added to the datagram of its key, which counts so much more memory afterwards; or
-- there is none.
abbrev pub ReceivesAt : Key → IpFragment → Option Received → Table → Table → Type 0
ReceivesAt k f None t u = (at k t ≡ None) × (u ≡ t)
ReceivesAt k f (Some x) t u = (v w : Waiting) × (at k t ≡ Some v)
    × Receives f x.outcome v w (received f v) × (weight_of w ≡ weight_of v + x.added)
    × (x.added ≤ length f.payload.now * 2 + 128) × (u ≡ with_other k w t)

-- A fragment begins a datagram.
abbrev pub BeginsAt : Key → IpFragment → FragmentOutcome → Table → Table → Effect → Type 0
BeginsAt k f o t u (Drops r) = (o ≡ outcome.Refused r) × (u ≡ t)
BeginsAt k f o t u (Keeps w) = (o ≡ outcome.Waits) × (u ≡ (k, w) ∷ t)
BeginsAt k f o t u (Completes w) = HandsOut f w o × (u ≡ t)

-- A fragment's datagram is dropped, waits for more in the table, or is complete and returned. Other
-- keys keep their datagrams.
abbrev pub BecomesBy : Key → IpFragment → FragmentOutcome → Table → Table → Effect → Type 0
BecomesBy k f o t u (Drops r) = (o ≡ outcome.Refused r) × (u ≡ others k t)
BecomesBy k f o t u (Keeps w) = (o ≡ outcome.Waits) × (u ≡ putting k w t)
BecomesBy k f o t u (Completes w) = HandsOut f w o × (u ≡ others k t)

abbrev pub Becomes : ℕ → Key → IpFragment → FragmentOutcome → Table → Table → Type 0
Becomes time k f o t u = BecomesBy k f o t u (received f (its time k t))

-- The table when a fragment arrives in a network. Its datagram is dropped if the fragment is late, and then the
-- oldest ones until there is room for a new one.
abbrev pub ready : ℕ → ℕ → IpFragment → Reassembly → Reassembly
ready time n f r = forgetting (most_of f) (without_late time (key_of n f) f.source r)

-- A fragment that isn't refused alone.
pub record Takes (time n : ℕ) (f : IpFragment) (o : FragmentOutcome) (r s : Reassembly) : Type 0 where
  pub becomes : Becomes time (key_of n f) f o (ready time n f r).waiting s.waiting
  pub late : s.late ≡ (ready time n f r).late
  pub evicted : s.evicted ≡ (ready time n f r).evicted

-- What a fragment of a network does to the table and the counts.
abbrev pub AddsBy : ℕ → ℕ → IpFragment → FragmentOutcome → Reassembly → Reassembly
    → Option FragmentRefusal → Type 0
AddsBy time n f o r s (Some q) = (o ≡ outcome.Refused q) × (s ≡ r)
AddsBy time n f o r s None = Takes time n f o r s

abbrev pub Adds : ℕ → ℕ → IpFragment → FragmentOutcome → Reassembly → Reassembly → Type 0
Adds time n f o r s = AddsBy time n f o r s (refused_alone f)

-- There was no memory for the bytes of a fragment that would be added. Datagrams that are late or
-- over the limit were dropped before.
pub record LeavesOut (time n : ℕ) (f : IpFragment) (r s : Reassembly) : Type 0 where
  pub alone : refused_alone f ≡ None
  pub agrees : is_other_end f (its time (key_of n f) (ready time n f r).waiting) ≡ false
  pub forgets : s ≡ ready time n f r
