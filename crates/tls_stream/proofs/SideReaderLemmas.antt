-- Sides of conversations.
use Rattle.std.proofs.Common.{
  ◌≡◌,
  ℕ,
  List,
  [],
  ◌∷◌,
  ◌++◌,
  Bool,
  true,
  false,
  Option,
  Some,
  None,
  Ok,
  refl,
  sym,
  ◌∙◌,
  ap,
  subst,
  append_assoc,
  append-nil,
}
use Rattle.std.specs.Prelude.{IsSome, option_map}
use Rattle.layouts.specs.Bytes.{Bytes}
use Rattle.tls_stream.specs.Item.{Event as StreamEvent, Failed}
use Rattle.tls_stream.specs.Stream.{FirstTaken}
use Rattle.tls_stream.specs.Events.{IsReady as IsMadeReady, ReadsOnly, ReadsTheSame, events, fed, first, switched_to_tls13}
use Rattle.tls_stream.specs.declared.event_reader.EventReader.{EventReader}
use Rattle.tls_stream.specs.declared.fault.Fault.{Fault}
use Rattle.tls_stream.proofs.DirectionLemmas.{fed_nothing, fed_twice, first_event}
use Rattle.tls_stream.specs.SideReaders.{IsFed, IsFirst, IsReady, IsTaken, ReadsAs, first_in, front_of, further_events}
use Rattle.tls_stream.specs.declared.side_reader.SideReader.{SideReader}
use Rattle.tls_stream.specs.declared.side_reader.Standing.{Standing}
use Rattle.tls_stream.specs.declared.side_reader.Standing.TheVariants.{Active, AtFault, Over}

abbrev pub active : EventReader → SideReader
active d = record { direction = d; standing = Active }

abbrev pub faulty : EventReader → Fault → SideReader
faulty d f = record { direction = d; standing = AtFault f }

-- Nothing follows.
pub none_to_come : (d : EventReader) → events (fed d []) ≡ events d
none_to_come d = ap events (fed_nothing d)

-- A direction that was made ready.
pub same_waits : (d n : EventReader) → ReadsTheSame n d → ReadsAs (active d) (active n)
same_waits d n same t = sym (same t)

pub same_fails : (d n m : EventReader) (f : Fault) → ReadsTheSame n d → ReadsOnly n (Failed f ∷ [])
    → ReadsAs (active d) (faulty m f)
same_fails d n m f same only t = sym (same t) ∙ only t

pub ready_some : (d : EventReader) → IsSome (first d) → IsReady (active d)
ready_some d some = go (first d) refl some
  where
    go : (a : Option (StreamEvent × EventReader)) → first d ≡ a → IsSome a
        → first_in (events (fed d [])) ≡ option_map (λ x. x.0) a
    go None is some = absurd cc
    go (Some x) is some = ap first_in (first_event d x.1 x.0 [] is)

pub ready_none : (d : EventReader) → events d ≡ [] → IsReady (active d)
ready_none d none = go (first d) refl
  where
    go : (a : Option (StreamEvent × EventReader)) → first d ≡ a
        → first_in (events (fed d [])) ≡ option_map (λ x. x.0) a
    go None is = ap first_in (none_to_come d ∙ none)
    go (Some x) is =
        let e : x.0 ∷ events (fed x.1 []) ≡ [] = sym (first_event d x.1 x.0 [] is)
        ∙ none_to_come d ∙ none in
        absurd cc

-- Another piece.
pub fed_more : (d : EventReader) (p t : Bytes) → events (fed d (p ++ t)) ≡ events (fed (fed d p) t)
fed_more d p t = ap events (sym (fed_twice d p t))

pub fed_is : (d n : EventReader) (p : Bytes) (e : SideReader) → n ≡ fed d p → ReadsAs (active n) e
    → IsFed (active d) p e
fed_is d n p e is same t = fed_more d p t ∙ ap (λ m. events (fed m t)) (sym is) ∙ same t

-- The next event is taken.
pub taken_is : (d n : EventReader) (e : SideReader) → FirstTaken (first d) d true n
    → ReadsAs (active n) e
    → IsTaken (front_of (active d)) (active d) true e
taken_is d n e off same = go (first d) refl off
  where
    go : (a : Option (StreamEvent × EventReader)) → first d ≡ a → FirstTaken a d true n
        → IsTaken (option_map (λ x. x.0) a) (active d) true e
    go None is off = let t : true ≡ false = off.0 in absurd cc
    go (Some x) is off = (
      refl,
      λ t. first_event d x.1 x.0 t is ∙ ap (λ m. x.0 ∷ events (fed m t)) (sym off.1)
          ∙ ap (λ vs. x.0 ∷ vs) (same t),
    )

pub none_taken : (d n : EventReader) → FirstTaken (first d) d false n
    → IsTaken (front_of (active d)) (active d) false (active n)
none_taken d n off = go (first d) off
  where
    go : (a : Option (StreamEvent × EventReader)) → FirstTaken a d false n
        → IsTaken (option_map (λ x. x.0) a) (active d) false (active n)
    go None off = (refl, ap active off.1)
    go (Some x) off = let t : false ≡ true = off.0 in absurd cc

-- By the side's standing.
pub ready_by : (s : Standing) (d : EventReader) (b : Bool) → s ≡ Active → IsMadeReady d (Ok b)
    → IsReady (record { direction = d; standing = s })
ready_by s d true is h =
    subst (λ s. IsReady (record { direction = d; standing = s })) (sym is) (ready_some d h)
ready_by s d false is h =
    subst (λ s. IsReady (record { direction = d; standing = s })) (sym is) (ready_none d h)

pub ready_silent : (s : Standing) (d : EventReader) → (s ≡ Active → ⊥)
    → IsReady (record { direction = d; standing = s })
ready_silent Active d other = absurd (other refl)
ready_silent (AtFault f) d other = refl
ready_silent Over d other = refl

pub taken_by : (s : Standing) (d n : EventReader) (e : SideReader) (t : Bool)
    → s ≡ Active → t ≡ true
    → FirstTaken (first d) d t n
    → ReadsAs (record { direction = n; standing = s }) e
    → IsTaken (front_of (record { direction = d; standing = s }))
    (record { direction = d; standing = s }) t e
taken_by s d n e t is took off same =
    let at : IsTaken (front_of (active d)) (active d) true e
    = taken_is d n e (subst (λ t. FirstTaken (first d) d t n) took off)
    (subst (λ s. ReadsAs (record { direction = n; standing = s }) e) is same) in
    subst (λ t. IsTaken (front_of (record { direction = d; standing = s }))
    (record { direction = d; standing = s }) t
    e) (sym took)
    (subst (λ s. IsTaken (front_of (record { direction = d; standing = s }))
    (record { direction = d; standing = s })
    true e) (sym is) at)

pub kept_ready : (s : Standing) (d n : EventReader) (t : Bool) → t ≡ false
    → FirstTaken (first d) d t n
    → IsReady (record { direction = d; standing = s })
    → IsReady (record { direction = n; standing = s })
kept_ready s d n t none off ready =
    subst (λ m. IsReady (record { direction = m; standing = s }))
    (sym (is (first d) (subst (λ t. FirstTaken (first d) d t n) none off))) ready
  where
    is : (a : Option (StreamEvent × EventReader)) → FirstTaken a d false n → n ≡ d
    is None off = off.1
    is (Some x) off = let t : false ≡ true = off.0 in absurd cc

pub ruleset reader_rules = (ready_silent, fed_is)
