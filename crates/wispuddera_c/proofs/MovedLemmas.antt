-- The stream in a buffer, when bytes are moved in it.
use Rattle.std.proofs.Common.{◌≡◌, ℕ, ◌+◌, ◌-◌, ◌≤◌, ◌==◌, ◌||◌, length, drop, refl, sym, subst, ◌∙◌, ap, ap₂, arith}
use Rattle.std.specs.Prelude.{slice_index}
use Rattle.std.specs.Borrow.{Bor}
use Rattle.std.specs.List.{between}
use Rattle.std.proofs.Math.Seq.{paste}
use Rattle.wispuddera_c.proofs.BufferLemmas.{
  fed_part,
  fed_unread,
  front_off,
  joined_part,
  joined_unread,
  moved_part,
  moved_unread,
}
use Rattle.layouts.specs.Bytes.{Bytes}
use Rattle.tls_stream.specs.Held.{Held}
use Rattle.tls_stream.specs.Stream.{behind, fed, joined_to, view_source}
use Rattle.tls_stream.specs.declared.view.Source as rust
use Rattle.tls_stream.specs.declared.view.Source.TheVariants as source
use Rattle.wispuddera_c.specs.Side.{IsWithin, stream_of}
use Rattle.wispuddera_c.specs.declared.side.ReadingState.{ReadingState}
use Rattle.wispuddera_c.specs.declared.side.Side.{Side}

both : {a b c d : Bytes} → a ≡ b → c ≡ d
    → ◌≡◌ {A = Held} (record { part = a; unread = c }) (record { part = b; unread = d })
both e f = ap₂ (λ x y. record { part = x; unread = y }) e f

-- A fragment is joined to the part.
pub joined_stream : (k : ReadingState) (b b' : Bytes) (s : Side) (kind n : ℕ)
    → IsWithin (length b) s
    → s.unread + 5 + n ≤ s.end
    → b' ≡ paste b s.part_end (drop (s.unread + 5) b) (s.unread + 5 + n - (s.unread + 5))
    → stream_of k b'
    (record s { part_end = s.part_end + n; unread = s.unread + 5 + n; kind = kind })
    ≡ joined_to (stream_of k b s) kind n
joined_stream k b b' s kind n within whole is =
    let count : s.unread + 5 + n - (s.unread + 5) ≡ n = omega arith in
    let moved : b' ≡ paste b s.part_end (drop (s.unread + 5) b) n =
    is ∙ ap (paste b s.part_end (drop (s.unread + 5) b)) count in
    ap (λ h. record {
      limit = k.limit;
      is_tls13 = k.is_tls13;
      has_changed = s.has_changed;
      kind = kind;
      held = h;
    })
    (both
    (ap (between s.part (s.part_end + n)) moved
    ∙ joined_part b s.part s.part_end s.unread s.end n within.0 within.1 whole within.3)
    (ap (between (s.unread + 5 + n) s.end) moved
    ∙ joined_unread b s.part s.part_end s.unread s.end n within.0 within.1 whole within.3))

-- The bytes in use are moved to the beginning.
pub moved_stream : (k : ReadingState) (b c d : Bytes) (s : Side) → IsWithin (length b) s
    → c ≡ paste b 0 (drop s.part b) (s.part_end - s.part)
    → d ≡ paste c (s.part_end - s.part) (drop s.unread c) (s.end - s.unread)
    → stream_of k d
    (record s {
      part = 0;
      part_end = s.part_end - s.part;
      unread = s.part_end - s.part;
      end = s.part_end - s.part + (s.end - s.unread);
    })
    ≡ stream_of k b s
moved_stream k b c d s within first second =
    let n = s.part_end - s.part in
    let all : d ≡ paste (paste b 0 (drop s.part b) n) n
    (drop s.unread (paste b 0 (drop s.part b) n)) (s.end - s.unread) =
    second ∙ ap (λ x. paste x n (drop s.unread x) (s.end - s.unread)) first in
    ap (λ h. record {
      limit = k.limit;
      is_tls13 = k.is_tls13;
      has_changed = s.has_changed;
      kind = s.kind;
      held = h;
    })
    (both
    (ap (between 0 n) all ∙ moved_part b s.part s.part_end s.unread s.end within.0 within.1
    within.2 within.3)
    (ap (between n (n + (s.end - s.unread))) all
    ∙ moved_unread b s.part s.part_end s.unread s.end within.0 within.1 within.2 within.3))

-- A piece is appended.
pub fed_stream : (k : ReadingState) (b b' piece : Bytes) (s : Side) → IsWithin (length b) s
    → b' ≡ paste b s.end piece (length piece)
    → stream_of k b' (record s { end = s.end + length piece }) ≡ fed (stream_of k b s) piece
fed_stream k b b' piece s within is =
    let low : s.part_end ≤ s.end = omega (arith, within) in
    ap (λ h. record {
      limit = k.limit;
      is_tls13 = k.is_tls13;
      has_changed = s.has_changed;
      kind = s.kind;
      held = h;
    })
    (both
    (ap (between s.part s.part_end) is
    ∙ fed_part b piece s.end (length piece) refl within.3 s.part s.part_end low)
    (ap (between s.unread (s.end + length piece)) is
    ∙ fed_unread b piece s.end (length piece) refl within.3 s.unread within.2))

-- A returned event is removed.
pub message_off : (k : ReadingState) (b : Bytes) (s : Side) (from : rust.Source) (m : Bor Bytes)
    → from ≡ source.Message m
    → stream_of k b (record s { part = s.part + length m.now }) ≡ behind (stream_of k b s)
    (view_source from)
message_off k b s from m is =
    ap (λ x. record {
      limit = k.limit;
      is_tls13 = k.is_tls13;
      has_changed = s.has_changed;
      kind = s.kind;
      held = record { part = x; unread = between s.unread s.end b };
    })
    (front_off b s.part s.part_end (length m.now))
    ∙ ap (λ x. behind (stream_of k b s) (view_source x)) (sym is)

pub record_off : (k : ReadingState) (b : Bytes) (s : Side) (from : rust.Source) (r : Bor Bytes)
    → from ≡ source.Record r
    → stream_of k b
    (record s {
      unread = s.unread + length r.now;
      has_changed = s.has_changed || (slice_index r.now 0 == 20);
    })
    ≡ behind (stream_of k b s) (view_source from)
record_off k b s from r is =
    ap (λ x. record {
      limit = k.limit;
      is_tls13 = k.is_tls13;
      has_changed = s.has_changed || (slice_index r.now 0 == 20);
      kind = s.kind;
      held = record { part = between s.part s.part_end b; unread = x };
    })
    (front_off b s.unread s.end (length r.now))
    ∙ ap (λ x. behind (stream_of k b s) (view_source x)) (sym is)
