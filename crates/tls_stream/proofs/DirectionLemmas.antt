-- The events of a direction, up to its fault.
use Rattle.std.proofs.Common.{
  ◌≡◌,
  List,
  [],
  ◌∷◌,
  ◌++◌,
  Option,
  Some,
  None,
  refl,
  sym,
  ◌∙◌,
  ap,
  append_assoc,
  append-nil,
}
use Rattle.std.specs.Prelude.{IsSome, option_map, true, false, Bool}
use Rattle.std.specs.List.{concat}
use Rattle.layouts.specs.Bytes.{Bytes}
use Rattle.tls_stream.specs.Item.{Event, Failed, Item}
use Rattle.tls_stream.specs.Stream as stream
use Rattle.tls_stream.specs.Stream.{FirstTaken, joined_items}
use Rattle.tls_stream.specs.Events.{
  ReadsOnly,
  ReadsTheSame,
  events,
  fed,
  fed_all,
  first,
  items_with,
  with_more,
  none_behind,
}
use Rattle.tls_stream.specs.declared.event_reader.EventReader.{EventReader}
use Rattle.tls_stream.specs.declared.stream.Stream.{Stream}
use Rattle.tls_stream.specs.declared.fault.Fault.{Fault}
use Rattle.tls_stream.proofs.EventLemmas.{same_joined}
use Rattle.tls_stream.proofs.StreamLemmas as streams

abbrev with_stream : EventReader → Stream → EventReader
with_stream d s = record d { stream = s }

-- Feeding two pieces.
pub fed_twice : (d : EventReader) (s t : Bytes) → fed (fed d s) t ≡ fed d (s ++ t)
fed_twice d s t = ap (with_stream d) (go d.fault)
  where
    go : (f : Option Fault) → with_more f (with_more f d.stream s) t ≡ with_more f d.stream (s ++ t)
    go (Some f) = refl
    go None = ap (λ u. record d.stream { held = record { part = d.stream.held.part; unread = u } })
        (append_assoc d.stream.held.unread s t)

pub fed_nothing : (d : EventReader) → fed d [] ≡ d
fed_nothing d = ap (with_stream d) (go d.fault)
  where
    go : (f : Option Fault) → with_more f d.stream [] ≡ d.stream
    go (Some f) = refl
    go None = ap (λ u. record d.stream { held = record { part = d.stream.held.part; unread = u } })
        (append-nil d.stream.held.unread)

fed_is : (d : EventReader) (ps : List Bytes) → fed_all d ps ≡ fed d (concat ps)
fed_is d [] = sym (fed_nothing d)
fed_is d (p ∷ ps) = fed_is (fed d p) ps ∙ fed_twice d p (concat ps)

pub fed_joined : (d : EventReader) (ps qs : List Bytes) → concat ps ≡ concat qs
    → fed_all d ps ≡ fed_all d qs
fed_joined d ps qs same = fed_is d ps ∙ ap (fed d) same ∙ sym (fed_is d qs)

-- By whether the direction is at fault.
pub events_at_fault : (d : EventReader) (f : Fault) (s : Bytes) → d.fault ≡ Some f
    → events (fed d s) ≡ Failed f ∷ []
events_at_fault d f s e =
    ap (λ (o : Option Fault). events (record { stream = with_more o d.stream s; fault = o })) e

pub events_before : (d : EventReader) (s : Bytes) → d.fault ≡ None
    → events (fed d s) ≡ stream.events (stream.fed d.stream s)
events_before d s e =
    ap (λ (o : Option Fault). events (record { stream = with_more o d.stream s; fault = o })) e

pub same_streams : (d : EventReader) (x y : Bytes)
    → joined_items (items_with d x) ≡ joined_items (items_with d y)
    → events (fed d x) ≡ events (fed d y)
same_streams d x y same = go d.fault refl
  where
    go : (o : Option Fault) → d.fault ≡ o → events (fed d x) ≡ events (fed d y)
    go (Some f) e = events_at_fault d f x e ∙ sym (events_at_fault d f y e)
    go None e =
        events_before d x e
        ∙ same_joined d.stream.limit d.stream.kind d.stream.held.part (items_with d x)
        (items_with d y) same
        ∙ sym (events_before d y e)

-- The next event is the first of all.
pub first_event : (d e : EventReader) (v : Event) (s : Bytes) → first d ≡ Some (v, e)
    → events (fed d s) ≡ v ∷ events (fed e s)
first_event d e v s is = go d.fault refl is
  where
    one : (a : Option (Event × Stream)) → stream.first d.stream ≡ a
        → none_behind None a ≡ Some (v, e)
        → stream.events (stream.fed d.stream s) ≡ v ∷ events (fed e s)
    one None f g = absurd cc
    one (Some x) f g =
        let same : ◌≡◌ {A = Event × EventReader}
        (x.0, record { stream = x.1; fault = None }) (v, e) =
        cc in
        streams.first_event d.stream x.1 x.0 s f
        ∙ ap (λ (p : Event × EventReader). p.0 ∷ events (fed p.1 s)) same

    go : (o : Option Fault) → d.fault ≡ o → none_behind o (stream.first d.stream) ≡ Some (v, e)
        → events (fed d s) ≡ v ∷ events (fed e s)
    go (Some f) h g = absurd cc
    go None h g = events_before d s h ∙ one (stream.first d.stream) refl g

abbrev event_in : Option (Event × EventReader) → Option Event
event_in a = option_map (λ (x : Event × EventReader). x.0) a

-- The next event, if the direction isn't at fault.
pub front_before : (d : EventReader) → d.fault ≡ None
    → option_map (λ (x : Event × Stream). x.0) (stream.first d.stream)
    ≡ option_map (λ (x : Event × EventReader). x.0) (first d)
front_before d e = go (stream.first d.stream)
    ∙ ap (λ o. event_in (none_behind o (stream.first d.stream))) (sym e)
  where
    go : (a : Option (Event × Stream))
        → option_map (λ (x : Event × Stream). x.0) a ≡ event_in (none_behind None a)
    go None = refl
    go (Some x) = refl
