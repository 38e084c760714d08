-- A dialogue that keeps to the grammar is read whole.
use Rattle.std.proofs.Common.{◌≡◌, ◌<◌, ◌≤◌, ◌-◌, ◌+◌, ℕ, Bool, true, false, cond, not, ◌||◌, ◌==◌, List, [], ◌∷◌, ◌++◌, length, map, take, Some, refl, sym, ◌∙◌, ap, arith, nat_lt, append_assoc}
use Rattle.std.proofs.lemmas.Bool.{eq-eqb, eqb-true, le-leb, lt-leb, ltb-true, ltb-false}
use Rattle.std.proofs.lemmas.List.{append-nil, take-append-le, length-append, take_all}
use Rattle.preambles.proofs.PieceLemmas.{stuck}
use Rattle.preambles.proofs.WalkLemmas.{one_more}
use Rattle.preambles.specs.Dialogues.{Keeps, IsUnit, has_byte, line, packet, text, byte, over, client_reads, server_reads, ended}
use Rattle.preambles.specs.Fronts.{pushed}
use Rattle.preambles.specs.Rows.{frame_of, is_text, next, reads}
use Rattle.preambles.specs.Walk.{Place, begun, cased, enter, is_due, is_empty, is_end, is_side, keeps, kept_with, left_in, read, step, upper, walk_behind}
use Rattle.preambles.specs.declared.phase.Frame.{Frame}
use Rattle.preambles.specs.declared.phase.Frame.TheVariants.{Opening, Until, Count}
use Rattle.preambles.specs.declared.phase.Phase.{Phase}
use Rattle.preambles.specs.declared.phase.Outcome.{Outcome}
use Rattle.preambles.specs.declared.phase.Phase.TheVariants.{Over}
use Rattle.preambles.specs.declared.phase.Phase.TheVariants.{Opening as Begin}
use Rattle.preambles.specs.declared.phase.Side.{Side}
use Rattle.preambles.specs.declared.phase.Side.TheVariants.{Client, Server}

at : Phase → List ℕ → ℕ → Place
at p front n = record { phase = p; front = front; left = n }

due : (d : Side) (p : Phase) (front : List ℕ) (n : ℕ) → reads p ≡ Some d
    → is_due d (at p front n) ≡ true
unfolding is_due at
due Client p front n r = ap (is_side Client) r
due Server p front n r = ap (is_side Server) r

-- the step of a phase with this frame
step_at : Frame → Phase → List ℕ → ℕ → ℕ → Place
step_at f p front n b =
    cond (is_end f (is_empty front) n b) (enter (next p (kept_with f front b)))
    (at p (kept_with f front b) (n - 1))

step_is : (f : Frame) (p : Phase) (front : List ℕ) (n b : ℕ) → frame_of p ≡ f
    → step (at p front n) b ≡ step_at f p front n b
unfolding step step_at at
step_is f p front n b e = ap (λ g. step_at g p front n b) e

-- the first bytes, with more
pushes : List ℕ → List ℕ → List ℕ
pushes front [] = front
pushes front (b ∷ more) = pushes (pushed front b) more

line_goes_on : (e : ℕ) (p : Phase) (front : List ℕ) (n b : ℕ) → (b == e) ≡ false
    → step_at (Until e) p front n b ≡ at p (pushed front (upper b)) (n - 1)
unfolding step_at is_end keeps cased
line_goes_on e p front n b h =
    ap (λ t. cond t (enter (next p (cond (not t) (pushed front (upper b)) front)))
    (at p (cond (not t) (pushed front (upper b)) front) (n - 1))) h

line_ends : (e : ℕ) (p : Phase) (front : List ℕ) (n : ℕ)
    → step_at (Until e) p front n e ≡ enter (next p front)
unfolding step_at is_end keeps cased
line_ends e p front n =
    ap (λ t. cond t (enter (next p (cond (not t) (pushed front (upper e)) front)))
    (at p (cond (not t) (pushed front (upper e)) front) (n - 1))) (eq-eqb e e refl)

or_first : (a b : Bool) → (a || b) ≡ false → a ≡ false
or_first true b e = e
or_first false b e = refl

or_second : (a b : Bool) → (a || b) ≡ false → b ≡ false
or_second true b e = cc
or_second false b e = e

line_is_read : (d : Side) (p : Phase) (e : ℕ) (body front : List ℕ) (n : ℕ) (c s : List ℕ)
    → reads p ≡ Some d → frame_of p ≡ Until e → has_byte e body ≡ false
    → walk_behind d (body ++ e ∷ []) c s (at p front n)
    ≡ walk_behind d [] c s (enter (next p (pushes front (map upper body))))
unfolding pushes
line_is_read d p e [] front n c s r f h =
    one_more d e [] c s (at p front n) (due d p front n r)
    ∙ ap (walk_behind d [] c s) (step_is (Until e) p front n e f ∙ line_ends e p front n)
line_is_read d p e (b ∷ body) front n c s r f h =
    one_more d b (body ++ e ∷ []) c s (at p front n) (due d p front n r)
    ∙ ap (walk_behind d (body ++ e ∷ []) c s)
    (step_is (Until e) p front n b f
    ∙ line_goes_on e p front n b (or_first (b == e) (has_byte e body) h))
    ∙ line_is_read d p e body (pushed front (upper b)) (n - 1) c s r f
    (or_second (b == e) (has_byte e body) h)

count_goes_on : (k : ℕ) (p : Phase) (front : List ℕ) (n b : ℕ) → 1 < n
    → step_at (Count k) p front n b ≡ at p (pushed front b) (n - 1)
unfolding step_at is_end keeps cased
count_goes_on k p front n b h =
    ap (λ t. cond t (enter (next p (pushed front b))) (at p (pushed front b) (n - 1)))
    (lt-leb n 1 h)

count_ends : (k : ℕ) (p : Phase) (front : List ℕ) (n b : ℕ) → n ≤ 1
    → step_at (Count k) p front n b ≡ enter (next p (pushed front b))
unfolding step_at is_end keeps cased
count_ends k p front n b h =
    ap (λ t. cond t (enter (next p (pushed front b))) (at p (pushed front b) (n - 1)))
    (le-leb n 1 h)

packet_is_read : (d : Side) (p : Phase) (k b : ℕ) (bytes front : List ℕ) (n : ℕ) (c s : List ℕ)
    → reads p ≡ Some d → frame_of p ≡ Count k → n ≡ length bytes + 1
    → walk_behind d (b ∷ bytes) c s (at p front n)
    ≡ walk_behind d [] c s (enter (next p (pushes front (b ∷ bytes))))
unfolding pushes
packet_is_read d p k b [] front n c s r f e =
    one_more d b [] c s (at p front n) (due d p front n r)
    ∙ ap (walk_behind d [] c s)
    (step_is (Count k) p front n b f ∙ count_ends k p front n b (omega (arith, e)))
packet_is_read d p k b (x ∷ bytes) front n c s r f e =
    one_more d b (x ∷ bytes) c s (at p front n) (due d p front n r)
    ∙ ap (walk_behind d (x ∷ bytes) c s)
    (step_is (Count k) p front n b f ∙ count_goes_on k p front n b (omega (arith, e)))
    ∙ packet_is_read d p k x bytes (pushed front b) (n - 1) c s r f (omega (arith, e))

-- the first 64 bytes
pushes_is : (front more : List ℕ) → length front ≤ 64
    → pushes front more ≡ take 64 (front ++ more)
unfolding pushes
pushes_is front [] h = sym (ap (take 64) (append-nil front) ∙ take_all 64 front h)
pushes_is front (b ∷ more) h =
    elim (nat_lt (length front) 64) as (λ t. nat_lt (length front) 64 ≡ t
    → pushes (pushed front b) more ≡ take 64 (front ++ b ∷ more)) [
      | true ↦ λ e. ap (λ t. pushes (cond t (front ++ b ∷ []) front) more) e
          ∙ pushes_is (front ++ b ∷ []) more
          (omega (arith, ltb-true (length front) 64 e, length-append front (b ∷ [])))
          ∙ ap (take 64) (append_assoc front (b ∷ []) more)
      | false ↦ λ e. ap (λ t. pushes (cond t (front ++ b ∷ []) front) more) e
          ∙ pushes_is front more h
          ∙ take-append-le 64 front more (ltb-false (length front) 64 e)
          ∙ sym (take-append-le 64 front (b ∷ more) (ltb-false (length front) 64 e))
    ] refl

not_equal : (a b : ℕ) → (a ≡ b → ⊥) → (a == b) ≡ false
not_equal a b h =
    elim (a == b) as (λ t. (a == b) ≡ t → (a == b) ≡ false)
    [ true ↦ λ e. absurd (h (eqb-true a b e)) | false ↦ λ e. e ] refl

not_empty : (front : List ℕ) → 0 < length front → is_empty front ≡ false
not_empty front h = not_equal (length front) 0 (λ e. absurd (omega (arith, h, e)))

pushed_more : (front : List ℕ) (b : ℕ) → 0 < length front → 0 < length (pushed front b)
pushed_more front b h =
    elim (nat_lt (length front) 64) as (λ t. 0 < length (cond t (front ++ b ∷ []) front))
    [ true ↦ omega (arith, h, length-append front (b ∷ [])) | false ↦ h ]

text_begins : (p : Phase) (n b : ℕ) → is_text b ≡ true → (b == 10) ≡ false
    → step_at Opening p [] n b ≡ at p (upper b ∷ []) (n - 1)
unfolding step_at is_end keeps cased
text_begins p n b t h =
    let k : Bool → List ℕ = λ t. cond (not t) (upper b ∷ []) [] in
    ap (λ t. cond (not t) (enter (next p (k (b == 10)))) (at p (k (b == 10)) (n - 1))) t
    ∙ ap (λ t. at p (k t) (n - 1)) h

byte_ends : (p : Phase) (n b : ℕ) → is_text b ≡ false → (b == 10) ≡ false
    → step_at Opening p [] n b ≡ enter (next p (upper b ∷ []))
unfolding step_at is_end keeps cased
byte_ends p n b t h =
    let k : Bool → List ℕ = λ t. cond (not t) (upper b ∷ []) [] in
    ap (λ t. cond (not t) (enter (next p (k (b == 10)))) (at p (k (b == 10)) (n - 1))) t
    ∙ ap (λ t. enter (next p (k t))) h

text_goes_on : (p : Phase) (front : List ℕ) (n b : ℕ) → 0 < length front → (b == 10) ≡ false
    → step_at Opening p front n b ≡ at p (pushed front (upper b)) (n - 1)
unfolding step_at is_end keeps cased
text_goes_on p front n b l h =
    let k : Bool → List ℕ = λ t. cond (not t) (pushed front (upper b)) front in
    ap (λ t. cond (cond t (not (is_text b)) (b == 10)) (enter (next p (k (b == 10))))
    (at p (k (b == 10)) (n - 1))) (not_empty front l)
    ∙ ap (λ t. cond t (enter (next p (k t))) (at p (k t) (n - 1))) h

text_ends : (p : Phase) (front : List ℕ) (n : ℕ) → 0 < length front
    → step_at Opening p front n 10 ≡ enter (next p front)
unfolding step_at is_end keeps cased
text_ends p front n l =
    let k : Bool → List ℕ = λ t. cond (not t) (pushed front (upper 10)) front in
    ap (λ t. cond (cond t (not (is_text 10)) true) (enter (next p front)) (at p front (n - 1)))
    (not_empty front l)

text_is_read : (d : Side) (p : Phase) (body front : List ℕ) (n : ℕ) (c s : List ℕ)
    → reads p ≡ Some d → frame_of p ≡ Opening → 0 < length front → has_byte 10 body ≡ false
    → walk_behind d (body ++ 10 ∷ []) c s (at p front n)
    ≡ walk_behind d [] c s (enter (next p (pushes front (map upper body))))
unfolding pushes
text_is_read d p [] front n c s r f l h =
    one_more d 10 [] c s (at p front n) (due d p front n r)
    ∙ ap (walk_behind d [] c s) (step_is Opening p front n 10 f ∙ text_ends p front n l)
text_is_read d p (b ∷ body) front n c s r f l h =
    one_more d b (body ++ 10 ∷ []) c s (at p front n) (due d p front n r)
    ∙ ap (walk_behind d (body ++ 10 ∷ []) c s)
    (step_is Opening p front n b f
    ∙ text_goes_on p front n b l (or_first (b == 10) (has_byte 10 body) h))
    ∙ text_is_read d p body (pushed front (upper b)) (n - 1) c s r f (pushed_more front (upper b) l)
    (or_second (b == 10) (has_byte 10 body) h)

ends_with : (d : Side) (p : Phase) (c s : List ℕ) (j k : List ℕ) → j ≡ k
    → walk_behind d [] c s (enter (next p j)) ≡ walk_behind d [] c s (enter (next p k))
ends_with d p c s j k e = ap (λ k. walk_behind d [] c s (enter (next p k))) e

none_yet : length {A = ℕ} [] ≤ 64
none_yet = omega arith

left_is : (p : Phase) (n : ℕ) → frame_of p ≡ Count n → left_in (frame_of p) ≡ n
unfolding left_in
left_is p n f = ap left_in f

packet_is_whole : (d : Side) (p : Phase) (n : ℕ) (b c s : List ℕ) → reads p ≡ Some d
    → frame_of p ≡ Count n → 0 < n → length b ≡ n
    → walk_behind d b c s (enter p) ≡ walk_behind d [] c s (enter (next p (take 64 b)))
unfolding at
packet_is_whole d p n [] c s r f h l = absurd (omega (arith, h, l))
packet_is_whole d p n (x ∷ b) c s r f h l =
    packet_is_read d p n x b [] (left_in (frame_of p)) c s r f (left_is p n f ∙ omega (arith, l))
    ∙ ends_with d p c s (pushes [] (x ∷ b)) (take 64 (x ∷ b)) (pushes_is [] (x ∷ b) none_yet)

units_are_read : (d : Side) (p : Phase) {f : Frame} {unit kept : List ℕ} (c s : List ℕ)
    → reads p ≡ Some d → frame_of p ≡ f → IsUnit f unit kept
    → walk_behind d unit c s (enter p) ≡ walk_behind d [] c s (enter (next p kept))
unfolding at
units_are_read d p c s r f (line e body h) =
    line_is_read d p e body [] (left_in (frame_of p)) c s r f h
    ∙ ends_with d p c s (pushes [] (map upper body)) (take 64 (map upper body))
    (pushes_is [] (map upper body) none_yet)
units_are_read d p c s r f (packet n b h l) = packet_is_whole d p n b c s r f h l
units_are_read d p c s r f (text first body t h) =
    one_more d first (body ++ 10 ∷ []) c s (enter p) (due d p [] (left_in (frame_of p)) r)
    ∙ ap (walk_behind d (body ++ 10 ∷ []) c s)
    (step_is Opening p [] (left_in (frame_of p)) first f
    ∙ text_begins p (left_in (frame_of p)) first t
    (or_first (first == 10) (has_byte 10 body) h))
    ∙ text_is_read d p body (upper first ∷ []) (left_in (frame_of p) - 1) c s r f (omega arith)
    (or_second (first == 10) (has_byte 10 body) h)
    ∙ ends_with d p c s (pushes (upper first ∷ []) (map upper body))
    (take 64 (map upper (first ∷ body)))
    (pushes_is (upper first ∷ []) (map upper body) (omega arith))
units_are_read d p c s r f (byte first t h) =
    one_more d first [] c s (enter p) (due d p [] (left_in (frame_of p)) r)
    ∙ ap (walk_behind d [] c s)
    (step_is Opening p [] (left_in (frame_of p)) first f
    ∙ byte_ends p (left_in (frame_of p)) first t (or_first (first == 10) false h))

-- a dialogue that keeps to the grammar is read whole, and nothing behind it
pub dialogue_is_read : {p q : Phase} {c s : List ℕ} (c2 s2 : List ℕ) → Keeps p c s q
    → read (c ++ c2) (s ++ s2) (enter p) ≡ read c2 s2 (enter q)
unfolding walk_behind
dialogue_is_read c2 s2 (over p) = refl
dialogue_is_read c2 s2 (client_reads p q unit kept c s r u k) =
    ap (λ d. read d (s ++ s2) (enter p)) (append_assoc unit c c2)
    ∙ units_are_read Client p (c ++ c2) (s ++ s2) r refl u
    ∙ dialogue_is_read c2 s2 k
dialogue_is_read c2 s2 (server_reads p q unit kept c s r u k) =
    ap (λ d. read (c ++ c2) d (enter p)) (append_assoc unit s s2)
    ∙ units_are_read Server p (c ++ c2) (s ++ s2) r refl u
    ∙ dialogue_is_read c2 s2 k

at_end : (d : Side) (o : Outcome) → is_due d (enter (Over o)) ≡ false
unfolding is_due reads
at_end Client o = refl
at_end Server o = refl

begun_is : begun ≡ enter Begin
unfolding frame_of left_in
begun_is = refl

-- TLS begins exactly behind a dialogue
pub begins_behind_dialogue : {c s : List ℕ} (o : Outcome) (c2 s2 : List ℕ)
    → Keeps Begin c s (Over o)
    → read (c ++ c2) (s ++ s2) begun
    ≡ ended o c2 s2
begins_behind_dialogue {c} {s} o c2 s2 k =
    ap (read (c ++ c2) (s ++ s2)) begun_is
    ∙ dialogue_is_read c2 s2 k
    ∙ stuck c2 s2 (enter (Over o)) (at_end Server o) (at_end Client o)
