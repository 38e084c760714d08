-- What a visit keeps true from step to step.
use Rattle.std.proofs.Common.{◌≡◌, ℕ, ◌-◌, List, [], ◌∷◌, ◌++◌, length, drop, Option, Some, None, Result, Ok, Err, Bool}
use Rattle.std.proofs.Common.{true, false, refl, sym, ◌∙◌, ap, subst, append_assoc, arith}
use Rattle.std.specs.Prelude.{⊤, IfSome, IfErr, OnOk}
use Rattle.std.specs.Io.KnownBytes.{Consumes, IsAtEnd}
use Rattle.std.proofs.lemmas.List.{append-nil}
use Rattle.layouts.specs.Bytes.{Bytes}
use Rattle.packets.specs.Section.{Packet}
use Rattle.packets.specs.Front.{State, Unknown, Captured, Other, Wait, FrontResult, front}
use Rattle.packets.specs.Held.{Came}
use Rattle.packets.specs.Packets.{End, Packets, Whole, BrokenOff, Refused, end_of, followed, packets_from, packets_of}
use Rattle.packets.specs.Visit.{Adds, AddsAll, AddsFront, Failed, IsCause, IsEnd, Went}
use Rattle.packets.specs.declared.reader.CaptureError.{CaptureError}
use Rattle.packets.specs.declared.reader.CaptureError.TheVariants as error
use Rattle.packets.specs.declared.visit.VisitError.{VisitError}
use Rattle.packets.specs.declared.visit.VisitError.TheVariants as visit
use Rattle.packets.proofs.FrontLemmas.{RestIsAnEnd, Waits, front_ends, front_waits, last_bytes}
use Rattle.packets.proofs.PacketsLemmas.{Stands, stands, one_step}

pub adds_none : (old : Option (List Packet)) → Adds old old []
adds_none None = tt
adds_none (Some xs) = sym (append-nil xs)

pub adds_then : (a b c : Option (List Packet)) (ps qs : List Packet) → Adds a b ps → Adds b c qs
    → Adds a c (ps ++ qs)
adds_then None b c ps qs h k = tt
adds_then (Some xs) None c ps qs h k = absurd h
adds_then (Some xs) (Some ys) None ps qs h k = absurd k
adds_then (Some xs) (Some ys) (Some zs) ps qs h k = k ∙ ap (λ t. t ++ qs) h ∙ append_assoc xs ps qs

pub adds_same : (a b c : Option (List Packet)) (ps : List Packet) → Adds a b ps → Adds b c []
    → Adds a c ps
adds_same a b c ps h k = subst (Adds a c) (append-nil ps) (adds_then a b c ps [] h k)

-- The first packets, and then the remaining ones.
abbrev pub Splits : Packets → List Packet → Packets → Type 0
Splits all some left = (all.0 ≡ some ++ left.0) × (all.1 ≡ left.1)

-- The remaining bytes of those that are known.
abbrev pub IsLeft : Option Bytes → Option Bytes → (Bytes → Bytes → Type 0) → Type 0
IsLeft None left P = ⊤
IsLeft (Some xs) None P = ⊥
IsLeft (Some xs) (Some ys) P = P xs ys

-- Some packets of the source were visited. The others are those of the buffer and of the source's
-- remaining bytes.
pub record IsOn (old now : Option (List Packet)) (known left : Option Bytes) (s : State)
    (b : Bytes) : Type 0 where
  pub some : List Packet
  pub adds : Adds old now some
  pub rest : IsLeft known left (λ xs ys. Splits (packets_of xs) some (packets_from s (b ++ ys)))

pub on_start : (old : Option (List Packet)) (known : Option Bytes)
    → IsOn old old known known Unknown []
on_start old None = record { some = []; adds = adds_none old; rest = tt }
on_start old (Some xs) = record { some = []; adds = adds_none old; rest = (refl, refl) }

left_mapped : (known left : Option Bytes) (P Q : Bytes → Bytes → Type 0)
    → ((xs ys : Bytes) → P xs ys → Q xs ys)
    → IsLeft known left P → IsLeft known left Q
left_mapped None left P Q f h = tt
left_mapped (Some xs) None P Q f h = absurd h
left_mapped (Some xs) (Some ys) P Q f h = f xs ys h

split_packet : (all p q : Packets) (some : List Packet) (x : Packet) → Splits all some p
    → p ≡ (x ∷ q.0, q.1)
    → Splits all (some ++ x ∷ []) q
split_packet all p q some x (e, f) is = (
  e ∙ ap (λ t. some ++ t.0) is ∙ sym (append_assoc some (x ∷ []) q.0),
  f ∙ ap (λ t. t.1) is,
)

split_same : (all p q : Packets) (some : List Packet) → Splits all some p → p ≡ q
    → Splits all some q
split_same all p q some h e = subst (Splits all some) e h

-- a packet was visited, or another item was skipped
went_by : (a : FrontResult) (old mid new : Option (List Packet)) (known left : Option Bytes)
    (s s' : State) (b b' : Bytes) → ((ys : Bytes) → Stands ys (packets_from s (b ++ ys)) a)
    → IsOn old mid known left s b
    → Went a mid new s s' b b' true → IsOn old new known left s' b'
went_by (Ok (Captured p r, t)) old mid new known left s s' b b' by on (adds, is, holds) = record {
  some = on.some ++ p ∷ [];
  adds = adds_then old mid new on.some (p ∷ []) on.adds adds;
  rest = left_mapped known left (λ xs ys. Splits (packets_of xs) on.some (packets_from s (b ++ ys)))
      (λ xs ys. Splits (packets_of xs) (on.some ++ p ∷ []) (packets_from s' (b' ++ ys)))
      (λ xs ys h. subst
      (λ u. Splits (packets_of xs) (on.some ++ p ∷ []) (packets_from u (b' ++ ys))) (sym is)
      (subst (λ u. Splits (packets_of xs) (on.some ++ p ∷ []) (packets_from t (u ++ ys)))
      (sym holds)
      (split_packet (packets_of xs) (packets_from s (b ++ ys)) (packets_from t (r ++ ys)) on.some p
      h (by ys))))
      on.rest;
}
went_by (Ok (Other r, t)) old mid new known left s s' b b' by on (adds, is, holds) = record {
  some = on.some;
  adds = adds_same old mid new on.some on.adds adds;
  rest = left_mapped known left (λ xs ys. Splits (packets_of xs) on.some (packets_from s (b ++ ys)))
      (λ xs ys. Splits (packets_of xs) on.some (packets_from s' (b' ++ ys)))
      (λ xs ys h. subst (λ u. Splits (packets_of xs) on.some (packets_from u (b' ++ ys))) (sym is)
      (subst (λ u. Splits (packets_of xs) on.some (packets_from t (u ++ ys))) (sym holds)
      (split_same (packets_of xs) (packets_from s (b ++ ys)) (packets_from t (r ++ ys)) on.some
      h (by ys))))
      on.rest;
}
went_by (Ok (Wait, t)) old mid new known left s s' b b' by on h = absurd h
went_by (Err e) old mid new known left s s' b b' by on h = absurd h

pub on_went : (old mid new : Option (List Packet)) (known left : Option Bytes) (s s' : State)
    (b b' : Bytes)
    → IsOn old mid known left s b → Went (front s b) mid new s s' b b' true
    → IsOn old new known left s' b'
on_went old mid new known left s s' b b' on goes =
    went_by (front s b) old mid new known left s s' b b' (stands s b) on
    goes

-- More bytes are needed.
abbrev pub Wants : FrontResult → Type 0
Wants (Ok (Wait, t)) = ⊤
Wants a = ⊥

-- nothing changed, since more bytes are needed
pub record HasWaited (old new : Option (List Packet)) (s s' : State) (b b' : Bytes) : Type 0 where
  pub adds : Adds old new []
  pub known : s' ≡ s
  pub held : b' ≡ b
  pub wants : Wants (front s b)

waited_by : (a : FrontResult) (old new : Option (List Packet)) (s s' : State) (b b' : Bytes)
    → front s b ≡ a
    → Went a old new s s' b b' false → HasWaited old new s s' b b'
waited_by (Ok (Wait, t)) old new s s' b b' e (adds, is, holds) =
    record { adds = adds; known = is; held = holds; wants = subst Wants (sym e) tt }
waited_by (Ok (Captured p r, t)) old new s s' b b' e h = absurd h
waited_by (Ok (Other r, t)) old new s s' b b' e h = absurd h
waited_by (Err k) old new s s' b b' e h = absurd h

pub has_waited : (old new : Option (List Packet)) (s s' : State) (b b' : Bytes)
    → Went (front s b) old new s s' b b' false → HasWaited old new s s' b b'
has_waited old new s s' b b' goes = waited_by (front s b) old new s s' b b' refl goes

pub on_waited : (old mid new : Option (List Packet)) (known left : Option Bytes) (s s' : State)
    (b b' : Bytes)
    → IsOn old mid known left s b → HasWaited mid new s s' b b' → IsOn old new known left s' b'
on_waited old mid new known left s s' b b' on waited = record {
  some = on.some;
  adds = adds_same old mid new on.some on.adds waited.adds;
  rest = left_mapped known left (λ xs ys. Splits (packets_of xs) on.some (packets_from s (b ++ ys)))
      (λ xs ys. Splits (packets_of xs) on.some (packets_from s' (b' ++ ys)))
      (λ xs ys h. subst (λ u. Splits (packets_of xs) on.some (packets_from u (b' ++ ys)))
      (sym waited.known)
      (subst (λ u. Splits (packets_of xs) on.some (packets_from s (u ++ ys))) (sym waited.held) h))
      on.rest;
}

came_left : (known left left' : Option Bytes) (came : Bytes) (P : Bytes → Bytes → Type 0)
    → Consumes left left' came
    → IsLeft known left P → IsLeft known left' (λ xs ys. P xs (came ++ ys))
came_left None left left' came P e h = tt
came_left (Some xs) None left' came P e h = absurd h
came_left (Some xs) (Some ys) None came P e h = absurd e
came_left (Some xs) (Some ys) (Some zs) came P e h = subst (P xs) e h

-- the bytes of a read follow those in the buffer
pub on_came : (old now : Option (List Packet)) (known left left' : Option Bytes) (s : State)
    (b b' : Bytes) (n : ℕ)
    → IsOn old now known left s b → Came b b' left left' n → IsOn old now known left' s b'
on_came old now known left left' s b b' n on came = record {
  some = on.some;
  adds = on.adds;
  rest = left_mapped known left'
      (λ xs ys. Splits (packets_of xs) on.some (packets_from s (b ++ (came.bytes ++ ys))))
      (λ xs ys. Splits (packets_of xs) on.some (packets_from s (b' ++ ys)))
      (λ xs ys h. subst (λ u. Splits (packets_of xs) on.some (packets_from s u))
      (sym (append_assoc b came.bytes ys) ∙ ap (λ u. u ++ ys) (sym came.holds)) h)
      (came_left known left left' came.bytes
      (λ xs ys. Splits (packets_of xs) on.some (packets_from s (b ++ ys)))
      came.gave on.rest);
}

-- The visit ends early, and some packets were visited.
pub stopped : (old now : Option (List Packet)) (known left : Option Bytes) (s : State) (b : Bytes)
    → IsOn old now known left s b → IfSome known (λ x. AddsFront old now (packets_of x))
stopped old now None left s b on = tt
stopped old now (Some xs) None s b on = absurd on.rest
stopped old now (Some xs) (Some ys) s b on =
    (on.some, (packets_from s (b ++ ys)).0, on.rest.0, on.adds)

all_of : (old mid new : Option (List Packet)) (all left : Packets) (some : List Packet) (end : End)
    → Adds old mid some
    → Adds mid new [] → Splits all some left → left ≡ ([], end) → AddsAll old new all end
all_of old mid new all left some end adds none (e, f) is = (
  subst (Adds old new) (sym (e ∙ ap (λ t. some ++ t.0) is ∙ append-nil some))
      (adds_same old mid new some adds none),
  f ∙ ap (λ t. t.1) is,
)

-- the item at the front breaks a rule
refused : (old mid new : Option (List Packet)) (known left : Option Bytes) (s : State) (b : Bytes)
    (k : CaptureError)
    → IsOn old mid known left s b → Adds mid new [] → front s b ≡ Err k
    → IfSome known (λ x. AddsAll old new (packets_of x) (Refused k))
refused old mid new None left s b k on adds e = tt
refused old mid new (Some xs) None s b k on adds e = absurd on.rest
refused old mid new (Some xs) (Some ys) s b k on adds e =
    all_of old mid new (packets_of xs) (packets_from s (b ++ ys)) on.some (Refused k) on.adds
    adds on.rest
    (subst (Stands ys (packets_from s (b ++ ys))) e (stands s b ys))

-- some packets were visited, and no other
pub stopped_then : (old mid new : Option (List Packet)) (known left : Option Bytes) (s : State)
    (b : Bytes)
    → IsOn old mid known left s b → Adds mid new []
    → IfSome known (λ x. AddsFront old new (packets_of x))
stopped_then old mid new None left s b on adds = tt
stopped_then old mid new (Some xs) None s b on adds = absurd on.rest
stopped_then old mid new (Some xs) (Some ys) s b on adds =
    (on.some, (packets_from s (b ++ ys)).0, on.rest.0, adds_same old mid new on.some on.adds adds)

pub failed : (E : Type 0) (old mid new : Option (List Packet)) (known left : Option Bytes)
    (s : State) (b : Bytes)
    (e : VisitError E) → IsOn old mid known left s b → Failed (front s b) mid new e
    → IfSome known (λ x. IsCause (packets_of x) old new left e)
failed E old mid new known left s b (visit.Capture error.OutOfMemory) on adds =
    stopped_then old mid new known left s b on adds
failed E old mid new known left s b (visit.Capture error.NoCapture) on (adds, e) =
    refused old mid new known left s b error.NoCapture on adds e
failed E old mid new known left s b (visit.Capture error.Broken) on (adds, e) =
    refused old mid new known left s b error.Broken on adds e
failed E old mid new known left s b (visit.Visitor k) on adds =
    stopped_then old mid new known left s b on adds
failed E old mid new known left s b visit.BrokenOff on h = absurd h
failed E old mid new known left s b (visit.Reading k) on h = absurd h
failed E old mid new known left s b visit.Endless on h = absurd h

by_wait : (s : State) (b : Bytes) (a : FrontResult) → Wants a → Waits s a
    → followed a b packets_from ≡ ([], end_of s b)
by_wait s b (Ok (Wait, t)) wants e = ap (λ u. ([], end_of u b)) e
by_wait s b (Ok (Captured p r, t)) wants e = absurd wants
by_wait s b (Ok (Other r, t)) wants e = absurd wants
by_wait s b (Err k) wants e = absurd wants

wait_end : (s : State) (b : Bytes) → Wants (front s b) → packets_from s b ≡ ([], end_of s b)
wait_end s b wants = one_step s b ∙ by_wait s b (front s b) wants (front_waits s b)

none_came : (came : Bytes) → length came ≡ 0 → came ≡ []
none_came [] e = refl
none_came (x ∷ xs) e = absurd (omega (arith, e))

-- All bytes were read, and no more are needed: this is the end.
pub record IsOver (old now : Option (List Packet)) (known left : Option Bytes)
    (end : End) : Type 0 where
  pub all : IfSome known (λ x. AddsAll old now (packets_of x) end × IsAtEnd left)

over_at : (old mid new : Option (List Packet)) (known left left' : Option Bytes) (s s' : State)
    (b b' b'' : Bytes)
    → IsOn old mid known left s b → HasWaited mid new s s' b b' → Came b' b'' left left' 0
    → IfSome known (λ x. AddsAll old new (packets_of x) (end_of s' b'') × IsAtEnd left')
over_at old mid new None left left' s s' b b' b'' on waited came = tt
over_at old mid new (Some xs) None left' s s' b b' b'' on waited came = absurd on.rest
over_at old mid new (Some xs) (Some ys) None s s' b b' b'' on waited came = absurd came.gave
over_at old mid new (Some xs) (Some ys) (Some zs) s s' b b' b'' on waited came =
    let none : came.bytes ≡ [] = none_came came.bytes came.count in
    let over : zs ≡ [] = came.ended refl in
    let nothing : ys ≡ [] = came.gave ∙ ap (λ t. t ++ zs) none ∙ over in
    let same : b'' ≡ b = came.holds ∙ ap (λ t. b' ++ t) none ∙ append-nil b' ∙ waited.held in
    let end : packets_from s (b ++ ys) ≡ ([], end_of s' b'') =
    ap (packets_from s) (ap (λ t. b ++ t) nothing ∙ append-nil b) ∙ wait_end s b waited.wants
    ∙ ap (λ u. ([], end_of u b)) (sym waited.known) ∙ ap (λ u. ([], end_of s' u)) (sym same) in (
      all_of old mid new (packets_of xs) (packets_from s (b ++ ys)) on.some (end_of s' b'') on.adds
          waited.adds on.rest
          end,
      over,
    )

pub over : (old mid new : Option (List Packet)) (known left left' : Option Bytes) (s s' : State)
    (b b' b'' : Bytes)
    → IsOn old mid known left s b → Went (front s b) mid new s s' b b' false
    → Came b' b'' left left' 0
    → IsOver old new known left' (end_of s' b'')
over old mid new known left left' s s' b b' b'' on goes came =
    record {
      all = over_at old mid new known left left' s s' b b' b'' on
          (has_waited mid new s s' b b' goes) came;
    }

if_some_mapped : (known : Option Bytes) (P Q : Bytes → Type 0) → ((x : Bytes) → P x → Q x)
    → IfSome known P
    → IfSome known Q
if_some_mapped None P Q f h = tt
if_some_mapped (Some x) P Q f h = f x h

pub read_all : (E : Type 0) (old now : Option (List Packet)) (known left : Option Bytes) (end : End)
    (result : Result Unit (VisitError E)) → IsOver old now known left end → IsEnd end result
    → OnOk result (IfSome known (λ x. AddsAll old now (packets_of x) Whole × IsAtEnd left))
read_all E old now known left Whole (Ok u) over is = over.all
read_all E old now known left BrokenOff (Ok u) over is = absurd is
read_all E old now known left (Refused k) (Ok u) over is = absurd is
read_all E old now known left end (Err e) over is = tt

whole_front : (old now : Option (List Packet)) (all : Packets) (end : End) → AddsAll old now all end
    → AddsFront old now all
whole_front old now all end h = (all.0, [], sym (append-nil all.0), h.0)

pub read_cause : (E : Type 0) (old now : Option (List Packet)) (known left : Option Bytes)
    (end : End)
    (result : Result Unit (VisitError E)) → IsOver old now known left end → IsEnd end result
    → IfErr result (λ e. IfSome known (λ x. IsCause (packets_of x) old now left e))
read_cause E old now known left end (Ok u) over is = tt
read_cause E old now known left BrokenOff (Err visit.BrokenOff) over is = over.all
read_cause E old now known left (Refused k) (Err (visit.Capture error.OutOfMemory)) over is =
    if_some_mapped known _ _ (λ x h. whole_front old now (packets_of x) (Refused k) h.0) over.all
read_cause E old now known left (Refused k) (Err (visit.Capture error.NoCapture)) over is =
    if_some_mapped known _ _ (λ x h. (h.0.0, h.0.1 ∙ ap Refused (sym is))) over.all
read_cause E old now known left (Refused k) (Err (visit.Capture error.Broken)) over is =
    if_some_mapped known _ _ (λ x h. (h.0.0, h.0.1 ∙ ap Refused (sym is))) over.all
read_cause E old now known left Whole (Err e) over is = absurd is
read_cause E old now known left BrokenOff (Err (visit.Capture e)) over is = absurd is
read_cause E old now known left BrokenOff (Err (visit.Reading e)) over is = absurd is
read_cause E old now known left BrokenOff (Err visit.Endless) over is = absurd is
read_cause E old now known left BrokenOff (Err (visit.Visitor e)) over is = absurd is
read_cause E old now known left (Refused k) (Err visit.BrokenOff) over is = absurd is
read_cause E old now known left (Refused k) (Err (visit.Reading e)) over is = absurd is
read_cause E old now known left (Refused k) (Err visit.Endless) over is = absurd is
read_cause E old now known left (Refused k) (Err (visit.Visitor e)) over is = absurd is

-- The item at the front is taken off, and the bytes behind it are left.
taken_by : (a : FrontResult) (old new : Option (List Packet)) (s : State) (b : Bytes) (p : Packet)
    (r : Bytes) (t : State)
    (b' : Bytes) → RestIsAnEnd b a → a ≡ Ok (Captured p r, t) → Adds old new (p ∷ [])
    → b' ≡ drop (length b - length r) b
    → Went a old new s t b b' true
taken_by a old new s b p r t b' ends e adds is =
    subst (λ z. Went z old new s t b b' true) (sym e)
    (adds, refl, is ∙ last_bytes b r (subst (RestIsAnEnd b) e ends))

pub packet_taken : (old new : Option (List Packet)) (s : State) (b : Bytes) (p : Packet) (r : Bytes)
    (t : State)
    (b' : Bytes) → front s b ≡ Ok (Captured p r, t) → Adds old new (p ∷ [])
    → b' ≡ drop (length b - length r) b
    → Went (front s b) old new s t b b' true
packet_taken old new s b p r t b' e adds is =
    taken_by (front s b) old new s b p r t b' (front_ends s b) e adds is

pub other_taken : (old : Option (List Packet)) (s : State) (b r : Bytes) (t : State) (b' : Bytes)
    → front s b ≡ Ok (Other r, t) → b' ≡ drop (length b - length r) b
    → Went (front s b) old old s t b b' true
other_taken old s b r t b' e is =
    subst (λ z. Went z old old s t b b' true) (sym e)
    (adds_none old, refl, is ∙ last_bytes b r (subst (RestIsAnEnd b) e (front_ends s b)))

-- a step of the visit that took an item
pub on_if_went : (old mid new : Option (List Packet)) (known left : Option Bytes) (s s' : State)
    (b b' : Bytes)
    (went : Bool) → IsOn old mid known left s b → Went (front s b) mid new s s' b b' went
    → went ≡ true
    → IsOn old new known left s' b'
on_if_went old mid new known left s s' b b' went on goes e =
    on_went old mid new known left s s' b b' on (subst (Went (front s b) mid new s s' b b') e goes)

pub on_if_came : (old mid new : Option (List Packet)) (known left left' : Option Bytes)
    (s s' : State)
    (b b' b'' : Bytes)
    (went : Bool) (n : ℕ) → IsOn old mid known left s b → Went (front s b) mid new s s' b b' went
    → went ≡ false
    → Came b' b'' left left' n → IsOn old new known left' s' b''
on_if_came old mid new known left left' s s' b b' b'' went n on goes e came =
    on_came old new known left left' s' b' b'' n
    (on_waited old mid new known left s s' b b' on
    (has_waited mid new s s' b b' (subst (Went (front s b) mid new s s' b b') e goes))) came

pub over_if : (old mid new : Option (List Packet)) (known left left' : Option Bytes) (s s' : State)
    (b b' b'' held : Bytes) (went : Bool) (n : ℕ) → IsOn old mid known left s b
    → Went (front s b) mid new s s' b b' went → went ≡ false → Came b' b'' left left' n → n ≡ 0
    → held ≡ b''
    → IsOver old new known left' (end_of s' held)
over_if old mid new known left left' s s' b b' b'' held went n on goes e came none is =
    subst (λ h. IsOver old new known left' (end_of s' h)) (sym is)
    (over old mid new known left left' s s' b b' b'' on
    (subst (Went (front s b) mid new s s' b b') e goes)
    (subst (Came b' b'' left left') none came))
