-- What comes out of a run under one five-tuple.
use Rattle.std.proofs.Common.{◌≡◌, ℕ, ◌-◌, ◌≤◌, ◌<◌, Bool, true, false, cond, Option, Some, None, List, [], ◌∷◌, ◌++◌, length, map, refl, sym, ap, ◌∙◌, subst, arith}
use Rattle.std.proofs.lemmas.Bool.{lt-ltb, ltb-true}
use Rattle.std.proofs.lemmas.List.{append-nil, length-append}
use Rattle.std.specs.Prelude.{⊤, if◌then◌else◌, filter, is_some}
use Rattle.std.specs.Map.{set_value}
use Rattle.std.specs.Option.{option_map}
use Rattle.connections.proofs.TableLemmas.{is_five_tuple-refl, the_same}
use Rattle.connections.specs.FiveTuple.{is_five_tuple}
use Rattle.connections.specs.Table.{at, others}
use Rattle.connections.specs.declared.connection.Connection.{Connection}
use Rattle.connections.specs.declared.five_tuple.FiveTuple.{FiveTuple}
use Rattle.connections.specs.declared.table.TheConstants.{IDLE_LIMIT}
use Rattle.log_connections.specs.Sink.{EndInTurn, as_list}
use Rattle.log_connections.specs.Sink.EndInTurn.{none, one}
use Rattle.log_connections.specs.declared.analysis.TlsAnalysis.{TlsAnalysis}
use Rattle.log_runs.proofs.OrderLemmas.{at_front, at_last, distinct_front}
use Rattle.log_runs.proofs.PlaceLemmas.{Placed}
use Rattle.log_runs.proofs.PlaceLemmas.Placed.{first, in_place, left, unchanged}
use Rattle.log_runs.specs.Runs.{ended_in}
use Rattle.log_runs.specs.Sharing.{Behavior, Distinct, EndAs, is_idle, recent, views}

-- It was idle for longer than the limit.
abbrev pub Idle : {T : Type 0} → ℕ → Connection T → Type 0
Idle time c = IDLE_LIMIT < time - c.last_time

-- What became of a five-tuple so far: its open connection, since when it counts as closed, and what
-- came out.
pub record State (V : Type 0) : Type 0 where
  pub live : Option V
  pub closed : Option ℕ
  pub outs : List V

recent_recent : (s t : ℕ) → s ≤ t → (o : Option ℕ) → recent t (recent s o) ≡ recent t o
recent_recent s t le None = refl
recent_recent s t le (Some n) = (elim (is_idle s n) as
    (λ q. is_idle s n ≡ q → recent t (if q then None else Some n) ≡ recent t (Some n)) [
      | true ↦ λ u.
          let idle : IDLE_LIMIT < s - n = ltb-true IDLE_LIMIT (s - n) u in
          let still : is_idle t n ≡ true = lt-ltb IDLE_LIMIT (t - n) (omega (arith, idle, le)) in
          sym (ap {B = Option ℕ} (λ q. if q then None else Some n) still)
      | false ↦ λ u. refl
    ]) refl

pub recent_by : (s t : ℕ) → s ≤ t → (o p : Option ℕ) → recent s o ≡ recent s p
    → recent t o ≡ recent t p
recent_by s t le o p alike =
    sym (recent_recent s t le o) ∙ ap (recent t) alike ∙ recent_recent s t le p

module _ {K V A : Type 0} (b : Behavior K V A) where
  pub views_append : (e : FiveTuple) (xs ys : List (FiveTuple × Connection (TlsAnalysis K)))
      → views b e (xs ++ ys) ≡ views b e xs ++ views b e ys
  views_append e [] ys = refl
  views_append e (x ∷ xs) ys = elim (is_five_tuple e x.0) as
      (λ q. map (λ y. b.view y.1)
      (cond q (x ∷ filter (λ y. is_five_tuple e y.0) (xs ++ ys))
      (filter (λ y. is_five_tuple e y.0) (xs ++ ys)))
      ≡ map (λ y. b.view y.1)
      (cond q (x ∷ filter (λ y. is_five_tuple e y.0) xs)
      (filter (λ y. is_five_tuple e y.0) xs))
      ++ views b e ys) [
        | true ↦ ap (λ l. b.view x.1 ∷ l) (views_append e xs ys)
        | false ↦ views_append e xs ys
      ]

  pub views_other : (e f : FiveTuple) (c : Connection (TlsAnalysis K))
      → is_five_tuple e f ≡ false → views b e ((f, c) ∷ []) ≡ []
  views_other e f c apart = rw apart refl

  views_own : (e f : FiveTuple) (c : Connection (TlsAnalysis K))
      → is_five_tuple e f ≡ true → views b e ((f, c) ∷ []) ≡ b.view c ∷ []
  views_own e f c is = rw is refl

  -- Connections ended: that of the five-tuple stayed, or came out for this reason.
  pub data Ends (P : Connection (TlsAnalysis K) → Type 0)
      (o p : Option (Connection (TlsAnalysis K))) (vs : List V) : Type 0 where
    stays : p ≡ o → vs ≡ [] → Ends P o p vs
    leaves :
        (c : Connection (TlsAnalysis K)) → o ≡ Some c → P c → p ≡ None
        → vs ≡ b.ended (b.view c) ∷ [] → Ends P o p vs

  last_own : (e f : FiveTuple) (P : Connection (TlsAnalysis K) → Type 0)
      (c c' : Connection (TlsAnalysis K)) (o : Option (Connection (TlsAnalysis K)))
      (ys zs : List (FiveTuple × Connection (TlsAnalysis K))) (vs : List V)
      → ys ≡ zs ++ (f, c) ∷ [] → at f zs ≡ None → P c → b.view c' ≡ b.ended (b.view c)
      → Ends P o (at e ys) vs → (q : Bool) → is_five_tuple e f ≡ q
      → Ends P o (at e zs) (vs ++ views b e ((f, c') ∷ []))
  last_own e f P c c' o ys zs vs stood lost why ended (stays still nothing) false apart =
      stays (sym (at_front e zs (f, c) apart) ∙ ap (at e) (sym stood) ∙ still)
      (ap (λ l. l ++ views b e ((f, c') ∷ [])) nothing ∙ views_other e f c' apart)
  last_own e f P c c' o ys zs vs stood lost why ended (leaves d found idle missed out) false apart =
      leaves d found idle
      (sym (at_front e zs (f, c) apart) ∙ ap (at e) (sym stood) ∙ missed)
      (ap (λ l. vs ++ l) (views_other e f c' apart) ∙ append-nil vs ∙ out)
  last_own e f P c c' o ys zs vs stood lost why ended (stays still nothing) true is =
      let gone_now : at e zs ≡ None =
      subst (λ g. at g zs ≡ None) (sym (the_same e f is)) lost in
      leaves c (sym still ∙ ap (at e) stood ∙ at_last e zs (f, c) gone_now is) why gone_now
      (ap (λ l. l ++ views b e ((f, c') ∷ [])) nothing ∙ views_own e f c' is
      ∙ ap (λ v. v ∷ []) ended)
  last_own e f P c c' o ys zs vs stood lost why ended (leaves d found idle missed out) true is =
      let gone_now : at e zs ≡ None =
      subst (λ g. at g zs ≡ None) (sym (the_same e f is)) lost in
      let both : ◌≡◌ {A = Option (Connection (TlsAnalysis K))} None (Some c) =
      sym missed ∙ ap (at e) stood ∙ at_last e zs (f, c) gone_now is in
      cc

  pub ended_own : (e : FiveTuple) (n : ℕ) (P : Connection (TlsAnalysis K) → Type 0)
      {early : Bool}
      {Is : List (FiveTuple × Connection (TlsAnalysis K)) → Connection (TlsAnalysis K) → Type 0}
      {xs ys : List (FiveTuple × Connection (TlsAnalysis K))}
      {outs : List (Connection (TlsAnalysis K))}
      → ((zs : List (FiveTuple × Connection (TlsAnalysis K))) (c : Connection (TlsAnalysis K))
      → length zs ≤ n → Is zs c → P c)
      → (h : EndInTurn early Is xs ys outs) → EndAs b h → Distinct xs → length xs ≤ n
      → Ends P (at e xs) (at e ys) (views b e (ended_in h)) × (Distinct ys × (length ys ≤ n))
  ended_own e n P imply none behaves d few = (stays refl refl, (d, few))
  ended_own e n P {xs = xs} imply (one ys zs outs c c' before is last) behaves d few =
      let on = ended_own e n P imply before behaves.0 d few in
      let fewer =
      distinct_front zs (last.five_tuple, c) (subst (λ l. Distinct l) last.stood on.1.0) in (
        subst (λ vs. Ends P (at e xs) (at e zs) vs)
            (sym (views_append e (ended_in before) ((last.five_tuple, c') ∷ [])))
            (last_own e last.five_tuple P c c' (at e xs) ys zs (views b e (ended_in before))
            last.stood fewer.1 (imply ys c on.1.1 is) behaves.1 on.0
            (is_five_tuple e last.five_tuple) refl),
        (
          fewer.0,
          omega (
            arith,
            on.1.1,
            ap length last.stood,
            length-append zs ((last.five_tuple, c) ∷ []),
          ),
        ),
      )

  -- The connection that is still open at this time, and what timed out.
  abbrev pub awake : ℕ → Option V → Option V
  awake t None = None
  awake t (Some v) = if is_idle t (b.last v) then None else Some v

  abbrev pub timed_out : ℕ → Option V → List V
  timed_out t None = []
  timed_out t (Some v) = if is_idle t (b.last v) then b.ended v ∷ [] else []

  -- A run has this connection of the five-tuple, and this came out; or it came out already, since
  -- it is idle.
  pub data Agrees (k : State V) (t : ℕ) (o : Option (Connection (TlsAnalysis K))) (vs : List V)
      : Type 0 where
    standing : option_map b.view o ≡ k.live → vs ≡ k.outs → Agrees k t o vs
    gone :
        (v : V) → o ≡ None → k.live ≡ Some v → IDLE_LIMIT < t - b.last v
        → vs ≡ k.outs ++ b.ended v ∷ [] → Agrees k t o vs

  pub idle_agrees : (k : State V) (s t : ℕ) (o p : Option (Connection (TlsAnalysis K)))
      (vs ws : List V) → s ≤ t → Ends (Idle t) o p ws → Agrees k s o vs
      → Agrees k t p (vs ++ ws)
  idle_agrees k s t o p vs ws le (stays still nothing) (standing is outs) =
      standing (ap (option_map b.view) still ∙ is)
      (ap (λ l. vs ++ l) nothing ∙ append-nil vs ∙ outs)
  idle_agrees k s t o p vs ws le (stays still nothing) (gone v missed live idle outs) =
      gone v (still ∙ missed) live (omega (arith, idle, le))
      (ap (λ l. vs ++ l) nothing ∙ append-nil vs ∙ outs)
  idle_agrees k s t o p vs ws le (leaves c found idle missed out) (standing is outs) =
      gone (b.view c) missed (sym is ∙ ap (option_map b.view) found)
      (omega (arith, idle, b.is_last c))
      (ap (λ l. l ++ ws) outs ∙ ap (λ l. k.outs ++ l) out)
  idle_agrees k s t o p vs ws le (leaves c found idle missed out) (gone v lost live late outs) =
      let both : ◌≡◌ {A = Option (Connection (TlsAnalysis K))} None (Some c) =
      sym lost ∙ found in
      cc

  awake_standing : (t : ℕ) (p : Option (Connection (TlsAnalysis K))) (l : Option V)
      → option_map b.view p ≡ l
      → ((c : Connection (TlsAnalysis K)) → p ≡ Some c → Idle t c → ⊥)
      → (option_map b.view p ≡ awake t l) × (timed_out t l ≡ [])
  awake_standing t None l is fresh =
      subst (λ x. (◌≡◌ {A = Option V} None (awake t x)) × (timed_out t x ≡ [])) is (refl, refl)
  awake_standing t (Some c) l is fresh =
      let lively : is_idle t (b.last (b.view c)) ≡ false =
      (elim (is_idle t (b.last (b.view c))) as
      (λ q. is_idle t (b.last (b.view c)) ≡ q → q ≡ false) [
        | true ↦ λ u.
            let late : IDLE_LIMIT < t - b.last (b.view c) =
            ltb-true IDLE_LIMIT (t - b.last (b.view c)) u in
            absurd (fresh c refl (omega (arith, late, b.is_last c)))
        | false ↦ λ u. refl
      ]) refl in
      subst (λ x. (◌≡◌ {A = Option V} (Some (b.view c)) (awake t x)) × (timed_out t x ≡ [])) is (
        sym (ap {B = Option V} (λ q. if q then None else Some (b.view c)) lively),
        ap {B = List V} (λ q. if q then b.ended (b.view c) ∷ [] else []) lively,
      )

  pub awake_own : (k : State V) (t : ℕ) (p : Option (Connection (TlsAnalysis K))) (vs : List V)
      → ((c : Connection (TlsAnalysis K)) → p ≡ Some c → Idle t c → ⊥) → Agrees k t p vs
      → (option_map b.view p ≡ awake t k.live) × (vs ≡ k.outs ++ timed_out t k.live)
  awake_own k t p vs fresh (standing is outs) =
      let r = awake_standing t p k.live is fresh in
      (r.0, outs ∙ sym (append-nil k.outs) ∙ ap (λ l. k.outs ++ l) (sym r.1))
  awake_own k t p vs fresh (gone v missed live idle outs) =
      let late : is_idle t (b.last v) ≡ true = lt-ltb IDLE_LIMIT (t - b.last v) idle in (
        ap (option_map b.view) missed
            ∙ sym (ap (awake t) live
            ∙ ap {B = Option V} (λ q. if q then None else Some v) late),
        outs
            ∙ ap (λ l. k.outs ++ l)
            (sym (ap (timed_out t) live
            ∙ ap {B = List V} (λ q. if q then b.ended v ∷ [] else []) late)),
      )

  -- At the end what is still open comes out.
  abbrev pub all_of : State V → List V
  all_of k = k.outs ++ as_list (option_map b.ended k.live)

  pub finish : (k : State V) (t : ℕ) (o p : Option (Connection (TlsAnalysis K)))
      (vs ws : List V) → p ≡ None → Ends (λ c. ⊤) o p ws → Agrees k t o vs
      → vs ++ ws ≡ all_of k
  finish k t o p vs ws over (stays still nothing) (standing is outs) =
      ap (λ l. vs ++ l) nothing ∙ append-nil vs ∙ outs
      ∙ sym (ap (λ l. k.outs ++ as_list (option_map b.ended l))
      (sym is ∙ ap (option_map b.view) (sym still ∙ over))
      ∙ append-nil k.outs)
  finish k t o p vs ws over (stays still nothing) (gone v missed live idle outs) =
      ap (λ l. vs ++ l) nothing ∙ append-nil vs ∙ outs
      ∙ sym (ap (λ l. k.outs ++ as_list (option_map b.ended l)) live)
  finish k t o p vs ws over (leaves c found why missed out) (standing is outs) =
      ap (λ l. l ++ ws) outs ∙ ap (λ l. k.outs ++ l) out
      ∙ sym (ap (λ l. k.outs ++ as_list (option_map b.ended l))
      (sym is ∙ ap (option_map b.view) found))
  finish k t o p vs ws over (leaves c found why missed out) (gone v lost live idle outs) =
      let both : ◌≡◌ {A = Option (Connection (TlsAnalysis K))} None (Some c) =
      sym lost ∙ found in
      cc

  -- What an arrival of the five-tuple does.
  abbrev pub step_at : ℕ → A → State V → State V
  step_at t a k = record {
    live = b.becomes a (awake t k.live) (recent t k.closed);
    closed = b.closed a (is_some (awake t k.live))
        (is_some (b.becomes a (awake t k.live) (recent t k.closed))) (recent t k.closed);
    outs =
        (k.outs ++ timed_out t k.live)
        ++ as_list (b.over a (awake t k.live) (recent t k.closed));
  }

  abbrev pub after_all : List A → State V → State V
  after_all [] k = k
  after_all (a ∷ rest) k = after_all rest (step_at (b.time a) a k)

  pub after_append : (xs ys : List A) (k : State V)
      → after_all (xs ++ ys) k ≡ after_all ys (after_all xs k)
  after_append [] ys k = refl
  after_append (x ∷ xs) ys k = after_append xs ys (step_at (b.time x) x k)

module _ (f e : FiveTuple) (apart : is_five_tuple f e ≡ false) where
  other_key : (g : FiveTuple) → is_five_tuple f g ≡ true → is_five_tuple e g ≡ false
  other_key g is = (elim (is_five_tuple e g) as
      (λ q. is_five_tuple e g ≡ q → q ≡ false) [
        | true ↦ λ t. let one_key : f ≡ e = the_same f g is ∙ sym (the_same e g t) in
            sym (subst (λ h. is_five_tuple f h ≡ true) one_key (is_five_tuple-refl f)) ∙ apart
        | false ↦ λ t. refl
      ]) refl

  module _ {T : Type 0} where
    others_apart : (xs : List (FiveTuple × Connection T)) → at e (others f xs) ≡ at e xs
    others_apart [] = refl
    others_apart (x ∷ xs) = (elim (is_five_tuple f x.0) as
        (λ q. is_five_tuple f x.0 ≡ q → at e (cond q xs (x ∷ others f xs)) ≡ at e (x ∷ xs)) [
          | true ↦ λ t. rw (other_key x.0 t) refl
          | false ↦ λ t. ap (cond (is_five_tuple e x.0) (Some x.1)) (others_apart xs)
        ]) refl

    written_apart : (xs : List (FiveTuple × Connection T)) (w : Connection T)
        → at e (set_value (is_five_tuple f) xs w) ≡ at e xs
    written_apart [] w = refl
    written_apart (x ∷ xs) w = (elim (is_five_tuple f x.0) as
        (λ q. is_five_tuple f x.0 ≡ q
        → at e (cond q ((x.0, w) ∷ xs) (x ∷ set_value (is_five_tuple f) xs w)) ≡ at e (x ∷ xs)) [
          | true ↦ λ t. rw (other_key x.0 t) refl
          | false ↦ λ t. ap (cond (is_five_tuple e x.0) (Some x.1)) (written_apart xs w)
        ]) refl

    pub placed_apart : {time : ℕ} {xs ys : List (FiveTuple × Connection T)}
        → Placed f time xs ys → at e ys ≡ at e xs
    placed_apart {time} {xs} (left h) = ap (at e) h ∙ others_apart xs
    placed_apart {time} {xs} (first c noted h) =
        ap (at e) h ∙ rw (other_key f (is_five_tuple-refl f)) (others_apart xs)
    placed_apart {time} {xs} (in_place a c was noted h) = ap (at e) h ∙ written_apart xs c
    placed_apart {time} {xs} (unchanged h) = ap (at e) h
