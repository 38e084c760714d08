-- Which bytes of a sender are in its stream.
use Rattle.std.proofs.Common.{◌≡◌, ◌↔◌, ℕ, ◌+◌, ◌≤◌, Bool, true, false, Option, Some, None, List, [], ◌∷◌, ◌++◌, length, take, drop, refl, sym, ap, ◌∙◌, subst, arith}
use Rattle.std.proofs.lemmas.List.{drop-drop, drop_at, length-append, length-take, length-take-le}
use Rattle.std.specs.Prelude.{if◌then◌else◌}
use Rattle.segments.proofs.LawLemmas.{fewer_among, front_among, made_among, same_front}
use Rattle.segments.specs.Cells.{Bytes, Held, run, without_front}
use Rattle.segments.specs.Law.{IsAmong, IsLongestFront, IsMadeOf}
use Rattle.connections.specs.Connection.{begun_for, start_of}
use Rattle.connections.specs.Segment.{breaks, first_of}
use Rattle.connections.specs.Stream.{HasPut, begun_at, empty_from, forgetting, forgotten, has_urgent_next, is_begun, next_bytes, noted, put, with_numbers, with_urgent}
use Rattle.connections.specs.Stream.HasPut.{left_out, taken}
use Rattle.connections.specs.declared.host.Host.{Host}
use Rattle.connections.specs.declared.segment.Segment.{Segment}
use Rattle.connections.specs.declared.stream.Reading.{Reading}
use Rattle.connections.specs.declared.stream.Reading.TheVariants.{Open, Over, Unbegun}
use Rattle.connections.specs.declared.stream.Stream.{Stream}
use Rattle.log_runs.specs.Streams.{Fits, Gets, adds, in_order, nothing, read_of, reads, skips}

-- A stream that is read stores the sender's bytes at these positions.
pub record IsOf (bytes : Bytes) (got : List (ℕ × Bytes)) (h : Held) : Type 0 where
  pub made : IsMadeOf bytes (IsAmong got) h
  pub within : h.taken ≤ length bytes

abbrev pub Stores : Bytes → List (ℕ × Bytes) → Reading → Type 0
Stores bytes got Unbegun = ⊥
Stores bytes got (Open h) = IsOf bytes got h
Stores bytes got Over = ⊥

-- What is dropped behind a front.
drop_front : (xs ys : Bytes) (m n : ℕ) → length xs ≡ m → drop (m + n) (xs ++ ys) ≡ drop n ys
drop_front xs ys m n is =
    sym (drop-drop n m (xs ++ ys)) ∙ ap (drop n) (drop_at xs ys m is)

module _ (bytes : Bytes) where
  stores_nothing : (limit first : ℕ) → Stores bytes [] (Open (empty_from limit first))
  stores_nothing limit first = record {
    made = record {
      stands = λ k y h. cc;
      held = λ k h. absurd h;
      given = λ i h. absurd (omega arith);
    };
    within = omega arith;
  }

  module _ (got : List (ℕ × Bytes)) where
    front : (h : Held) → IsOf bytes got h
        → IsLongestFront bytes (IsAmong got) (take h.taken bytes ++ run h.cells)
    front h is = front_among bytes got h is.made is.within

    -- All bytes in order are the sender's.
    within : (h : Held) → IsOf bytes got h → h.taken + length (run h.cells) ≤ length bytes
    within h is =
        omega (
          arith,
          ap length (front h is).is_front,
          length-append (take h.taken bytes ++ run h.cells) (front h is).rest,
          length-append (take h.taken bytes) (run h.cells),
          length-take-le h.taken bytes is.within,
        )

    stores_begun : (o : Option ℕ) (t : Stream) (r : Reading) → t.reading ≡ r → Stores bytes got r
        → Stores bytes got (begun_at o t).reading
    stores_begun None t r is h = subst (Stores bytes got) (sym is) h
    stores_begun (Some n) t Unbegun is h = absurd h
    stores_begun (Some n) t Over is h = absurd h
    stores_begun (Some n) t (Open k) is h = rw is h

    stores_behind : (n : ℕ) (h : Held) → IsOf bytes got h
        → IsOf bytes got (without_front (length (take n (run h.cells))) h)
    stores_behind n h is =
        let few : length (take n (run h.cells)) ≤ length (run h.cells) =
        omega (arith, length-take n (run h.cells)) in record {
          made = fewer_among bytes got h (length (take n (run h.cells))) is.made few;
          within = omega (arith, few, within h is);
        }

    stores_forgetting : (o : Option ℕ) (t : Stream) (r : Reading) → t.reading ≡ r
        → Stores bytes got r → Stores bytes got (forgetting o t).reading
    stores_forgetting o t Unbegun is h = absurd h
    stores_forgetting o t Over is h = absurd h
    stores_forgetting o t (Open k) is h = rw is (stores_behind (forgotten o t) k h)

    stores_begun_for : (y : Host) (s : Segment) (t : Stream) → Stores bytes got t.reading
        → Stores bytes got (begun_for y s t).reading
    stores_begun_for y s t h =
        stores_forgetting y.acknowledged (begun_at (start_of y s) t)
        (begun_at (start_of y s) t).reading refl
        (stores_begun (start_of y s) t t.reading refl h)

    noted_reading : (b : Bool) (s : Segment) (t : Stream)
        → (if b then with_urgent s (with_numbers s t) else t).reading ≡ t.reading
    noted_reading true s t = refl
    noted_reading false s t = refl

    put_stores : (s : Segment) (place : ℕ) (r : Reading) → Stores bytes got r
        → Fits bytes place s r
        → Stores bytes ((place, s.payload.now) ∷ got) (put (first_of s) s.payload.now r)
    put_stores s place Unbegun h fits = absurd h
    put_stores s place Over h fits = absurd h
    put_stores s place (Open k) h fits = record {
      made =
          made_among bytes got k place (first_of s) s.payload.now h.made fits.part fits.number
          fits.near.0 fits.near.1;
      within = h.within;
    }

    goes_on_in : (s : Segment) (place : ℕ) (r : Reading) → Fits bytes place s r
        → breaks s ≡ false
    goes_on_in s place Unbegun fits = absurd fits
    goes_on_in s place Over fits = absurd fits
    goes_on_in s place (Open k) fits = fits.goes_on

    put_in : (s : Segment) (place : ℕ) (t u : Stream) (r : Reading) → t.reading ≡ r
        → Stores bytes got r → Fits bytes place s r → HasPut s t u
        → Stores bytes ((place, s.payload.now) ∷ got) u.reading
    put_in s place t u Unbegun is h fits puts = absurd h
    put_in s place t u Over is h fits puts = absurd h
    put_in s place t u (Open k) is h fits (left_out too_much same) =
        absurd (fits.within (rw is at too_much))
    put_in s place t u (Open k) is h fits (taken not stands) =
        subst (Stores bytes ((place, s.payload.now) ∷ got))
        (sym (ap (λ x. x.reading) stands ∙ ap (put (first_of s) s.payload.now) is))
        (put_stores s place (Open k) h fits)

    skipped : (b : Bool) (t u : Stream) → u.reading ≡ t.reading → Stores bytes got t.reading
        → Stores bytes got (if b then u else t).reading
    skipped true t u is h = subst (Stores bytes got) (sym is) h
    skipped false t u is h = h

  stores_gets : {t : Stream} {got : List (ℕ × Bytes)} {u : Stream} → Gets bytes t got u
      → Stores bytes [] t.reading → Stores bytes got u.reading
  stores_gets nothing h = h
  stores_gets (adds got u v y s place before fits takes) h =
      let begun = begun_for y s u in
      put_in got s place (noted s begun) v begun.reading
      (noted_reading got (is_begun begun.reading) s begun)
      (stores_begun_for got y s u (stores_gets before h)) fits
      (takes.taken (goes_on_in got s place begun.reading fits))
  stores_gets (reads got u n before) h = stores_gets before h
  stores_gets (skips got u before) h =
      skipped got (has_urgent_next u) u _ refl (stores_gets before h)

  -- The same positions, the same bytes in order.
  same_order : (got other : List (ℕ × Bytes)) (r q : Reading) → Stores bytes got r
      → Stores bytes other q → ((i : ℕ) → IsAmong got i ↔ IsAmong other i)
      → in_order bytes r ≡ in_order bytes q
  same_order got other Unbegun q h k same = absurd h
  same_order got other Over q h k same = absurd h
  same_order got other (Open a) Unbegun h k same = absurd k
  same_order got other (Open a) Over h k same = absurd k
  same_order got other (Open a) (Open b) h k same =
      same_front bytes (IsAmong got) (IsAmong other) _ _ (λ i. (same i).0) (λ i. (same i).1)
      (front got a h) (front other b k)

  pub cut_otherwise : (limit first : ℕ) (t u v : Stream) (got other : List (ℕ × Bytes))
      → t.reading ≡ Open (empty_from limit first) → Gets bytes t got u → Gets bytes t other v
      → ((i : ℕ) → IsAmong got i ↔ IsAmong other i)
      → in_order bytes u.reading ≡ in_order bytes v.reading
  cut_otherwise limit first t u v got other is gets gets_other same =
      let at_first = subst (Stores bytes []) (sym is) (stores_nothing limit first) in
      same_order got other u.reading v.reading (stores_gets gets at_first)
      (stores_gets gets_other at_first) same

  longest_front : (got : List (ℕ × Bytes)) (r : Reading) → Stores bytes got r
      → IsLongestFront bytes (IsAmong got) (in_order bytes r)
  longest_front got Unbegun h = absurd h
  longest_front got Over h = absurd h
  longest_front got (Open k) h = front got k h

  pub in_order_front : (limit first : ℕ) (t u : Stream) (got : List (ℕ × Bytes))
      → t.reading ≡ Open (empty_from limit first) → Gets bytes t got u
      → IsLongestFront bytes (IsAmong got) (in_order bytes u.reading)
  in_order_front limit first t u got is gets =
      longest_front got u.reading
      (stores_gets gets (subst (Stores bytes []) (sym is) (stores_nothing limit first)))

  -- The next bytes are those of them that weren't read.
  next_at : (got : List (ℕ × Bytes)) (u : Stream) (r : Reading) → Stores bytes got r
      → u.urgent ≡ None → next_bytes u r ≡ drop (read_of u r) (in_order bytes r)
  next_at got u Unbegun h none = absurd h
  next_at got u Over h none = absurd h
  next_at got u (Open k) h none =
      rw none
      (sym (drop_front (take k.taken bytes) (run k.cells) k.taken u.received
      (length-take-le k.taken bytes h.within)))

  pub next_unread : (limit first : ℕ) (t u : Stream) (got : List (ℕ × Bytes))
      → t.reading ≡ Open (empty_from limit first) → Gets bytes t got u → u.urgent ≡ None
      → next_bytes u u.reading ≡ drop (read_of u u.reading) (in_order bytes u.reading)
  next_unread limit first t u got is gets none =
      next_at got u u.reading
      (stores_gets gets (subst (Stores bytes []) (sym is) (stores_nothing limit first))) none
