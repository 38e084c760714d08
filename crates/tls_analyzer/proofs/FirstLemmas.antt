-- The first bytes of a side, which decide whether it is TLS, in any number of pieces.
use Rattle.std.proofs.Common.{
  ◌≡◌,
  ℕ,
  ◌+◌,
  ◌-◌,
  ◌<◌,
  ◌≤◌,
  [],
  ◌++◌,
  length,
  take,
  drop,
  Bool,
  true,
  false,
  Result,
  Ok,
  Err,
  refl,
  sym,
  ◌∙◌,
  ap,
  subst,
  arith,
  append_assoc,
  length-append,
}
use Rattle.std.specs.Prelude.{OnOk, if◌then◌else◌, is_ok, nat_lt}
use Rattle.std.specs.Global.{Vec}
use Rattle.std.proofs.Math.Seq.{take-append-add}
use Rattle.std.proofs.lemmas.Bool.{le-ltb, lt-ltb, ltb-false, ltb-true}
use Rattle.std.proofs.lemmas.List.{nil_from_length, take-append-drop, take-append-le}
use Rattle.layouts.specs.Bytes.{Bytes}
use Rattle.tls_flow.specs.declared.symbol.Direction.{Direction as Side}
use Rattle.tls_flow.specs.declared.symbol.Direction.TheVariants.{ToServer, FromServer}
use Rattle.tls_detection.specs.Front.{begins_tls}
use Rattle.tls_analyzer.specs.Following.{known_of}
use Rattle.tls_analyzer.specs.Analyzers.{
  IsFirstBy,
  IsFirstRead,
  IsReadBy,
  IsReadOn,
  IsNext,
  IsNextBy,
  Waits,
  front,
  side_state,
  is_over,
  over_by,
  is_unknown,
  is_unknown_by,
  known_as_tls,
  waiting,
  with_side_state,
  with_waiting,
}
use Rattle.tls_analyzer.specs.declared.analyzer.SideState.{SideState}
use Rattle.tls_analyzer.specs.declared.analyzer.SideState.TheVariants.{Unknown, Clear, Encrypted, Other}
use Rattle.tls_analyzer.specs.declared.analyzer.Analyzer.{Analyzer}
use Rattle.tls_analyzer.proofs.AnalyzerLemmas.{IsKnown, both_known, received_next, side_state_with, known_next, next_on}

-- The stored first bytes of a side, in a new vector.
pub client_waits : (t : Analyzer) (s : Side) (v : Vec ℕ) (w : Bytes) → s ≡ ToServer → v.items ≡ w
    → Waits t s w (record t { client_first = v })
client_waits t s v w at items = (v, items, ap (λ r. with_waiting t r v) (sym at))

pub server_waits : (t : Analyzer) (s : Side) (v : Vec ℕ) (w : Bytes) → s ≡ FromServer → v.items ≡ w
    → Waits t s w (record t { server_first = v })
server_waits t s v w at items = (v, items, ap (λ r. with_waiting t r v) (sym at))

pub client_waits_on : {E : Type 0} (t : Analyzer) (s : Side) (v : Vec ℕ) (b : Bytes)
    (r : Result Unit E) → s ≡ ToServer
    → v.items ≡ (if is_ok r then t.client_first.items ++ b else t.client_first.items)
    → OnOk r (Waits t s ((waiting t s).items ++ b) (record t { client_first = v }))
client_waits_on t s v b (Ok x) at items =
    client_waits t s v ((waiting t s).items ++ b) at
    (items ∙ ap (λ r. (waiting t r).items ++ b) (sym at))
client_waits_on t s v b (Err e) at items = tt

pub server_waits_on : {E : Type 0} (t : Analyzer) (s : Side) (v : Vec ℕ) (b : Bytes)
    (r : Result Unit E) → s ≡ FromServer
    → v.items ≡ (if is_ok r then t.server_first.items ++ b else t.server_first.items)
    → OnOk r (Waits t s ((waiting t s).items ++ b) (record t { server_first = v }))
server_waits_on t s v b (Ok x) at items =
    server_waits t s v ((waiting t s).items ++ b) at
    (items ∙ ap (λ r. (waiting t r).items ++ b) (sym at))
server_waits_on t s v b (Err e) at items = tt

-- The first bytes, from those stored and those that come.
pub front_is : (w f g b x : Bytes) (n : ℕ) → x ≡ f ++ g → f ≡ w → g ≡ take n b → n ≡ 5 - length w
    → x ≡ front w b
front_is w f g b x n whole waits comes count =
    whole ∙ ap (λ y. y ++ g) waits ∙ ap (λ y. w ++ y) comes ∙ ap (λ k. w ++ take k b) count

pub first_tls : {E : Type 0} (r : Result Unit E) (t m o u : Analyzer) (s : Side) (b : Bytes)
    → nat_lt (length b) (5 - length (waiting t s).items) ≡ false
    → begins_tls (front (waiting t s).items b) ≡ true → Waits t s [] m
    → IsNext (known_as_tls m s) s (front (waiting t s).items b) o
    → OnOk r (IsNext o s (drop (5 - length (waiting t s).items) b) u)
    → OnOk r (IsFirstRead t s (waiting t s).items b u)
first_tls (Ok x) t m o u s b long tls waits first last =
    let w : Bytes = (waiting t s).items in
    let n : ℕ = 5 - length w in
    subst (λ c. IsFirstBy c (begins_tls (front w b)) t s w b u) (sym long)
    (subst (λ c. IsFirstBy false c t s w b u)
    (sym tls) (
      m,
      waits,
      subst (λ y. IsNext (known_as_tls m s) s y u) (append_assoc w (take n b) (drop n b)
          ∙ ap (λ y. w ++ y) (take-append-drop n b))
          (next_on (known_as_tls m s) o u s (front w b) (drop n b) first last),
    ))
first_tls (Err e) t m o u s b long tls waits first last = tt

pub first_other : (t m n : Analyzer) (s : Side) (b : Bytes)
    → nat_lt (length b) (5 - length (waiting t s).items) ≡ false
    → begins_tls (front (waiting t s).items b) ≡ false → Waits t s [] m
    → IsNext m s (front (waiting t s).items b) n
    → IsFirstRead t s (waiting t s).items b (with_side_state n s Other)
first_other t m n s b long other waits first =
    let w : Bytes = (waiting t s).items in
    subst (λ c. IsFirstBy c (begins_tls (front w b)) t s w b (with_side_state n s Other)) (sym long)
    (subst (λ c. IsFirstBy false c t s w b (with_side_state n s Other)) (sym other)
    (m, n, waits, first, refl))

-- None is stored, and enough come at once.
with_own : (t : Analyzer) (s : Side) → t ≡ with_waiting t s (waiting t s)
with_own t ToServer = refl
with_own t FromServer = refl

waits_for_none : (t : Analyzer) (s : Side) → (waiting t s).items ≡ [] → Waits t s [] t
waits_for_none t s none = (waiting t s, none, with_own t s)

at_once : (tls : Bool) (t u : Analyzer) (s : Side) (b x : Bytes)
    → length (waiting t s).items ≡ 0 → 5 ≤ length b → x ≡ take 5 b → begins_tls x ≡ tls
    → IsFirstBy false tls t s [] b u
    → IsFirstRead t s (waiting t s).items b u
at_once tls t u s b x none enough is begins received =
    subst (λ w. IsFirstRead t s w b u) (sym (nil_from_length (waiting t s).items none))
    (subst (λ c. IsFirstBy c (begins_tls (take 5 b)) t s [] b u) (sym (le-ltb (length b) 5 enough))
    (subst (λ c. IsFirstBy false c t s [] b u)
    (sym (subst (λ y. begins_tls y ≡ tls) is begins)) received))

pub tls_at_once : {E : Type 0} (r : Result Unit E) (t u : Analyzer) (s : Side) (b x : Bytes)
    → length (waiting t s).items ≡ 0 → 5 ≤ length b → x ≡ take 5 b → begins_tls x ≡ true
    → OnOk r (IsNext (known_as_tls t s) s b u)
    → OnOk r (IsFirstRead t s (waiting t s).items b u)
tls_at_once (Ok o) t u s b x none enough is tls next =
    at_once true t u s b x none enough is tls
    (t, waits_for_none t s (nil_from_length (waiting t s).items none), next)
tls_at_once (Err e) t u s b x none enough is tls next = tt

pub other_at_once : (t n : Analyzer) (s : Side) (b x : Bytes)
    → length (waiting t s).items ≡ 0 → 5 ≤ length b → x ≡ take 5 b → begins_tls x ≡ false
    → IsNext t s x n
    → IsFirstRead t s (waiting t s).items b (with_side_state n s Other)
other_at_once t n s b x none enough is other next =
    at_once false t (with_side_state n s Other) s b x none enough is other (
      t,
      n,
      waits_for_none t s (nil_from_length (waiting t s).items none),
      subst (λ y. IsNext t s y n) is next,
      refl,
    )

-- A side that is known as TLS is read like one whose first bytes are looked at.
unknown_state : (h : SideState) → is_unknown_by h ≡ true → h ≡ Unknown
unknown_state Unknown e = refl
unknown_state Clear e = cc
unknown_state Encrypted e = cc
unknown_state Other e = cc

pub found_alike : (t u : Analyzer) (s : Side) (b : Bytes) → is_unknown t s ≡ true
    → (waiting t s).items ≡ [] → 5 ≤ length b → begins_tls (take 5 b) ≡ true
    → IsReadOn (known_as_tls t s) s b u → IsReadOn t s b u
found_alike t u s b unknown none enough tls received =
    let known : IsKnown (side_state (known_as_tls t s) s) =
    subst IsKnown (sym (side_state_with (record t { is_tls = true }) s Clear)) (λ e. absurd cc) in
    subst (λ h. IsReadBy h t s b u) (sym (unknown_state (side_state t s) unknown))
    (at_once true t u s b (take 5 b) (ap length none) enough refl tls (
      t,
      waits_for_none t s none,
      received_next (known_as_tls t s) u s b (side_state (known_as_tls t s) s) known received,
    ))

-- If a piece is too short, the first bytes are the same whether they are stored or new.
front_moves : (w p q : Bytes) → length p < 5 - length w → front (w ++ p) q ≡ front w (p ++ q)
front_moves w p q short =
    let more : 5 - length (w ++ p) ≡ 5 - length w - length p =
    let e : length (w ++ p) ≡ length w + length p =
    length-append w p in
    omega (arith, e) in
    let whole : length p + (5 - length w - length p) ≡ 5 - length w = omega (arith, short) in
    append_assoc w p (take (5 - length (w ++ p)) q) ∙ ap (λ n. w ++ (p ++ take n q)) more
    ∙ ap (λ b. w ++ b) (sym (take-append-add p q (5 - length w - length p)))
    ∙ ap (λ n. w ++ take n (p ++ q)) whole

short_moves : (w p q : Bytes) → length p < 5 - length w
    → nat_lt (length q) (5 - length (w ++ p)) ≡ nat_lt (length (p ++ q)) (5 - length w)
short_moves w p q short = go (nat_lt (length q) (5 - length (w ++ p))) refl
  where
    both : length (w ++ p) ≡ length w + length p
    both = length-append w p

    more : length (p ++ q) ≡ length p + length q
    more = length-append p q

    go : (b : Bool) → nat_lt (length q) (5 - length (w ++ p)) ≡ b
        → b ≡ nat_lt (length (p ++ q)) (5 - length w)
    go true is = let few : length q < 5 - length (w ++ p) =
        ltb-true (length q) (5 - length (w ++ p)) is in
        sym (lt-ltb (length (p ++ q)) (5 - length w) (omega (arith, few, both, more, short)))
    go false is = let many : 5 - length (w ++ p) ≤ length q =
        ltb-false (length q) (5 - length (w ++ p)) is in
        sym (le-ltb (length (p ++ q)) (5 - length w) (omega (arith, many, both, more, short)))

-- If it is long enough, it completes them.
front_stays : (w p q : Bytes) → 5 - length w ≤ length p → front w (p ++ q) ≡ front w p
front_stays w p q long = ap (λ b. w ++ b) (take-append-le (5 - length w) p q long)

long_stays : (w p q : Bytes) → 5 - length w ≤ length p
    → nat_lt (length (p ++ q)) (5 - length w) ≡ false
long_stays w p q long = let more : length (p ++ q) ≡ length p + length q = length-append p q in
    le-ltb (length (p ++ q)) (5 - length w) (omega (arith, long, more))

side_state_waits : (t m : Analyzer) (s : Side) (w : Bytes) → Waits t s w m → side_state m s ≡ side_state t s
side_state_waits t m ToServer w waits = ap (λ x. side_state x ToServer) waits.2
side_state_waits t m FromServer w waits = ap (λ x. side_state x FromServer) waits.2

waiting_with : (t : Analyzer) (s : Side) (v : Vec ℕ) → waiting (with_waiting t s v) s ≡ v
waiting_with t ToServer v = refl
waiting_with t FromServer v = refl

waiting_is : (t m : Analyzer) (s : Side) (w : Bytes) → Waits t s w m → (waiting m s).items ≡ w
waiting_is t m s w waits =
    ap (λ x. (waiting x s).items) waits.2
    ∙ ap (λ (v : Vec ℕ). v.items) (waiting_with t s waits.0) ∙ waits.1

with_twice : (t : Analyzer) (s : Side) (v w : Vec ℕ)
    → with_waiting (with_waiting t s v) s w ≡ with_waiting t s w
with_twice t ToServer v w = refl
with_twice t FromServer v w = refl

waits_again : (t m u : Analyzer) (s : Side) (v w : Bytes) → Waits t s v m → Waits m s w u
    → Waits t s w u
waits_again t m u s v w first last = (
  last.0,
  last.1,
  last.2 ∙ ap (λ x. with_waiting x s last.0) first.2
      ∙ with_twice t s first.0 last.0,
)

first_again : (short tls : Bool) (t m u : Analyzer) (s : Side) (w p q : Bytes)
    → Waits t s (w ++ p) m
    → front (w ++ p) q ≡ front w (p ++ q)
    → IsFirstBy short tls m s (w ++ p) q u → IsFirstBy short tls t s w (p ++ q) u
first_again true tls t m u s w p q waits same received =
    subst (λ b. Waits t s b u) (append_assoc w p q)
    (waits_again t m u s (w ++ p) ((w ++ p) ++ q) waits received)
first_again false true t m u s w p q waits same received = (
  received.0,
  waits_again t m received.0 s (w ++ p) [] waits received.1,
  subst (λ b. IsNext (known_as_tls received.0 s) s b u) (append_assoc w p q) received.2,
)
first_again false false t m u s w p q waits same received = (
  received.0,
  received.1,
  waits_again t m received.0 s (w ++ p) [] waits received.2,
  subst (λ b. IsNext received.0 s b received.1) same received.3,
  received.4,
)

over_other : (t : Analyzer) (s : Side) → side_state t s ≡ Other → is_over t s ≡ true
over_other t s other = ap (λ h. over_by h s (known_of t.conversation_state)) other

-- A side of which nothing is known gets a piece, and then another.
both_short : (t m u : Analyzer) (s : Side) (p q : Bytes) → side_state t s ≡ Unknown
    → length p < 5 - length (waiting t s).items
    → Waits t s ((waiting t s).items ++ p) m → IsReadOn m s q u
    → IsFirstRead t s (waiting t s).items (p ++ q) u
both_short t m u s p q unknown short waits last =
    let w : Bytes = (waiting t s).items in
    let received : IsFirstRead m s (waiting m s).items q u =
    subst (λ h. IsReadBy h m s q u) (side_state_waits t m s (w ++ p) waits ∙ unknown) last in
    let here : IsFirstRead m s (w ++ p) q u =
    subst (λ b. IsFirstRead m s b q u) (waiting_is t m s (w ++ p) waits)
    received in
    first_again (nat_lt (length (p ++ q)) (5 - length w)) (begins_tls (front w (p ++ q))) t m u s
    w p q waits
    (front_moves w p q short)
    (subst (λ b. IsFirstBy b (begins_tls (front w (p ++ q))) m s (w ++ p) q u)
    (short_moves w p q short)
    (subst (λ b. IsFirstBy (nat_lt (length q) (5 - length (w ++ p))) (begins_tls b) m s (w ++ p) q
    u) (front_moves w p q
    short) here))

both_long : (tls : Bool) (t m u : Analyzer) (s : Side) (w p q : Bytes) → 5 - length w ≤ length p
    → IsFirstBy false tls t s w p m → IsReadOn m s q u
    → IsFirstBy false tls t s w (p ++ q) u
both_long true t m u s w p q long first last =
    let known : IsKnown (side_state (known_as_tls first.0 s) s) =
    subst IsKnown (sym (side_state_with (record first.0 {
      is_tls =
          true;
    }) s Clear))
    (λ e. absurd cc) in (
      first.0,
      first.1,
      subst (λ b. IsNext (known_as_tls first.0 s) s b u) (append_assoc w p q)
          (next_on (known_as_tls first.0 s) m u s (w ++ p) q
          first.2
          (received_next m u s q (side_state m s)
          (known_next (known_as_tls first.0 s) m s (w ++ p) known first.2) last)),
    )
both_long false t m u s w p q long first last =
    let other : side_state m s ≡ Other = ap (λ x. side_state x s) first.4
    ∙ side_state_with first.1 s Other in
    let next : IsNext m s q u =
    received_next m u s q (side_state m s) (subst IsKnown (sym other) (λ e. absurd cc)) last in
    let same : u ≡ m = subst (λ b. IsNextBy b m s q u) (over_other m s other) next in (
      first.0,
      first.1,
      first.2,
      subst (λ b. IsNext first.0 s b first.1) (sym (front_stays w p q long)) first.3,
      same ∙ first.4,
    )

both_first : (t m u : Analyzer) (s : Side) (p q : Bytes) → side_state t s ≡ Unknown
    → IsFirstRead t s (waiting t s).items p m → IsReadOn m s q u
    → IsFirstRead t s (waiting t s).items (p ++ q) u
both_first t m u s p q unknown first last = go (nat_lt (length p) (5 - length w)) refl first
  where
    w : Bytes
    w = (waiting t s).items

    go : (b : Bool) → nat_lt (length p) (5 - length w) ≡ b
        → IsFirstBy b (begins_tls (front w p)) t s w p m
        → IsFirstRead t s w (p ++ q) u
    go true is by = both_short t m u s p q unknown (ltb-true (length p) (5 - length w) is) by last
    go false is by = let long : 5 - length w ≤ length p = ltb-false (length p) (5 - length w) is in
        subst (λ b. IsFirstBy b (begins_tls (front w (p ++ q))) t s w (p ++ q) u)
        (sym (long_stays w p q long))
        (subst (λ b. IsFirstBy false (begins_tls b) t s w (p ++ q) u) (sym (front_stays w p q long))
        (both_long (begins_tls (front w p)) t m u s w p q long by last))

-- Two pieces of a side are read like one.
pub both_received : (t m u : Analyzer) (s : Side) (p q : Bytes) → IsReadOn t s p m → IsReadOn m s q u
    → IsReadOn t s (p ++ q) u
both_received t m u s p q first last = go (side_state t s) refl
  where
    go : (h : SideState) → side_state t s ≡ h → IsReadOn t s (p ++ q) u
    go Unknown is = subst (λ h. IsReadBy h t s (p ++ q) u) (sym is)
        (both_first t m u s p q is (subst (λ h. IsReadBy h t s p m) is first) last)
    go Clear is = both_known t m u s p q (subst IsKnown (sym is) (λ e. absurd cc)) first last
    go Encrypted is = both_known t m u s p q (subst IsKnown (sym is) (λ e. absurd cc)) first last
    go Other is = both_known t m u s p q (subst IsKnown (sym is) (λ e. absurd cc)) first last
