-- The next event, and the bytes that it is taken from.
use Rattle.std.proofs.Common.{◌≡◌, ℕ, List, ◌≤◌, Option, Some, None, length, refl, sym, ◌∙◌, ap, subst, drop}
use Rattle.std.specs.Prelude.{option_map, true, false}
use Rattle.std.specs.Borrow.{Bor}
use Rattle.layouts.specs.Bytes.{Bytes}
use Rattle.tls_stream.specs.Frames.{frame_of, front}
use Rattle.tls_stream.specs.Item.{Event}
use Rattle.tls_stream.specs.Messages.{event_of, messages_of}
use Rattle.tls_stream.specs.Stream.{
  FirstTaken,
  Fits,
  OfMessage,
  OfRecord,
  Source,
  alone_record,
  behind,
  first,
  first_source,
  source_by,
  view_source,
}
use Rattle.tls_stream.specs.declared.stream.Stream.{Stream}
use Rattle.tls_stream.specs.declared.view.Source as rust
use Rattle.tls_stream.specs.declared.view.Source.TheVariants as source
use Rattle.tls_stream.proofs.StreamLemmas.{
  alone_first_is,
  message_front,
  message_taken,
  message_within,
  nothing_taken,
  record_of_alone,
  record_taken,
}

abbrev with_source : Event × Bytes → Event × Source
with_source x = (x.0, OfRecord x.1)

by_alone : (d : Stream) (e : Event) (s : Source) (a : Option (Event × Bytes)) → alone_record d ≡ a
    → None ≡ frame_of (front (messages_of d.limit d.kind) d.held.part)
    → option_map with_source a ≡ Some (e, s)
    → FirstTaken (first d) d true (behind d s) × Fits d s
by_alone d e s None is none g = absurd cc
by_alone d e s (Some x) is none g =
    let both : ◌≡◌ {A = Event × Source} (with_source x) (e, s) = cc in
    let same : OfRecord x.1 ≡ s = ap (λ (p : Event × Source). p.1) both in
    subst (λ s. FirstTaken (first d) d true (behind d s) × Fits d s) same
    (record_taken d x.0 x.1 none (sym is), record_of_alone d x.0 x.1 (sym is))

by_frame : (d : Stream) (e : Event) (s : Source) (a : Option Bytes)
    → frame_of (front (messages_of d.limit d.kind) d.held.part) ≡ a → source_by d a ≡ Some (e, s)
    → FirstTaken (first d) d true (behind d s) × Fits d s
by_frame d e s (Some y) is g =
    let both : ◌≡◌ {A = Event × Source} (event_of d.kind y, OfMessage y) (e, s) = cc in
    let same : OfMessage y ≡ s = ap (λ (p : Event × Source). p.1) both in
    subst (λ s. FirstTaken (first d) d true (behind d s) × Fits d s) same
    (message_taken d y (sym is), message_within d y (sym is))
by_frame d e s None is g = by_alone d e s (alone_record d) refl (sym is) g

-- The next event is taken from these bytes.
pub source_taken : (d : Stream) (e : Event) (s : Source) → Some (e, s) ≡ first_source d
    → FirstTaken (first d) d true (behind d s)
source_taken d e s is =
    (by_frame d e s (frame_of (front (messages_of d.limit d.kind) d.held.part)) refl (sym is)).0

pub source_fits : (d : Stream) (e : Event) (s : Source) → Some (e, s) ≡ first_source d → Fits d s
source_fits d e s is =
    (by_frame d e s (frame_of (front (messages_of d.limit d.kind) d.held.part)) refl (sym is)).1

no_frame : (d : Stream) (a : Option Bytes)
    → frame_of (front (messages_of d.limit d.kind) d.held.part) ≡ a
    → source_by d a ≡ None → FirstTaken (first d) d false d
no_frame d (Some y) is g = absurd cc
no_frame d None is g = nothing_taken d (sym is) (no_alone (alone_record d) g)
  where
    no_alone : (a : Option (Event × Bytes)) → option_map with_source a ≡ None → None ≡ a
    no_alone None g = refl
    no_alone (Some x) g = absurd cc

pub source_none : (d : Stream) → None ≡ first_source d → FirstTaken (first d) d false d
source_none d is =
    no_frame d (frame_of (front (messages_of d.limit d.kind) d.held.part)) refl (sym is)

-- It is the next event.
pub source_front : (d : Stream) → option_map (λ (x : Event × Source). x.0) (first_source d)
    ≡ option_map (λ (x : Event × Stream). x.0) (first d)
source_front d = go (frame_of (front (messages_of d.limit d.kind) d.held.part)) refl
  where
    same : (a : Option (Event × Bytes))
        → option_map (λ (x : Event × Source). x.0) (option_map with_source a)
        ≡ option_map (λ (x : Event × Bytes). x.0) a
    same None = refl
    same (Some x) = refl

    go : (a : Option Bytes) → frame_of (front (messages_of d.limit d.kind) d.held.part) ≡ a
        → option_map (λ (x : Event × Source). x.0) (source_by d a) ≡ option_map
        (λ (x : Event × Stream). x.0) (first d)
    go (Some y) is = message_front d y (sym is)
    go None is = same (alone_record d) ∙ sym (alone_first_is d (sym is))

-- The answer of a view, for the stream that it shows.
pub message_source : (d v : Stream) (e : Event) (s : rust.Source) (m : Bor (List ℕ))
    → s ≡ source.Message m
    → Some (e, view_source s) ≡ first_source v → v ≡ d → Some (e, OfMessage m.now) ≡ first_source d
message_source d v e s m is at same =
    ap (λ s. Some (e, view_source s)) (sym is) ∙ at ∙ ap first_source same

pub record_source : (d v : Stream) (e : Event) (s : rust.Source) (r : Bor (List ℕ))
    → s ≡ source.Record r
    → Some (e, view_source s) ≡ first_source v → v ≡ d → Some (e, OfRecord r.now) ≡ first_source d
record_source d v e s r is at same =
    ap (λ s. Some (e, view_source s)) (sym is) ∙ at ∙ ap first_source same

pub ruleset source_rules = (source_taken, source_fits, source_none, source_front)
