-- What a packet does to a log.
use Rattle.std.proofs.Common.{◌≡◌, ◌⊎◌, inl, inr, refl, sym, ap, subst, Option, Some, None, List, [], ◌∷◌, ◌++◌, Bool, true, false, ℕ}
use Rattle.std.specs.Prelude.{◌+◌, Result, Ok, Err, IfErr, IsErrAnd, OnErr, OnOk, is_some, not, ◌&&◌, ◌||◌}
use Rattle.packets.specs.Section.{Packet}
use Rattle.tunnels.specs.Walk.{unwrapped}
use Rattle.tunnels.specs.declared.tunnel.TheConstants.{MAX_TUNNELS}
use Rattle.arrivals.specs.Counts.{with_packet_counted}
use Rattle.arrivals.specs.Fragments.{Joins, LeavesOutFound, fragment_in}
use Rattle.arrivals.specs.Reader.{Reads, ReadsInside}
use Rattle.arrivals.specs.declared.arrival.Arrival.{Arrival}
use Rattle.arrivals.specs.declared.fragments.CompletedDatagram.{CompletedDatagram}
use Rattle.arrivals.specs.declared.counts.Counts.{Counts}
use Rattle.arrivals.specs.declared.reader.ArrivalReader.{ArrivalReader}
use Rattle.std.specs.Option.{option_map}
use Rattle.connections.specs.Table.{Table, at, others, with_other}
use Rattle.connections.specs.declared.connection.Connection.{Connection}
use Rattle.connections.specs.declared.five_tuple.FiveTuple.{FiveTuple}
use Rattle.log_connections.proofs.FoundLemmas.{counted_both}
use Rattle.log_connections.proofs.LogLemmas.{lent_unchanged}
use Rattle.log_connections.proofs.SinkLemmas.{adds_none, adds_still, adds_then}
use Rattle.log_connections.specs.Found.{AreCounted}
use Rattle.log_connections.specs.Packet.{HandlesBy, IsLent, Lending, StopsBy, at_content, at_reader, lent_before, lent_by, lent_if, passes_on}
use Rattle.log_connections.specs.Reading as reading
use Rattle.log_connections.specs.Reading.{Content, Holds, NeedsMemory, Nothing, joined, one}
use Rattle.log_connections.specs.Sink.{Adds, EndsAs, EndsLast, EndsRefused, IsOfSink, Receives, StaysSound, StopsRefused, TakesPieces, as_list, at_oldest, at_own}
use Rattle.log_connections.specs.declared.analysis.PieceKind.{PieceKind}
use Rattle.log_connections.specs.declared.analysis.TlsAnalysis.{TlsAnalysis}
use Rattle.log_connections.specs.declared.sink.LogError.{LogError}
use Rattle.log_connections.specs.declared.sink.LogError.TheVariants.{OutOfMemory, Sink}

module _ {K : Type 0} (e : FiveTuple) where
  -- A sink changes at most the connection that it is lent.
  pub lent_same : (o : Option (Connection (TlsAnalysis K))) (old : Table (TlsAnalysis K))
      → at e old.live ≡ o → IsLent e o old old
  lent_same None old found = refl
  lent_same (Some c) old found = (c, refl, sym (lent_unchanged e old c c (sym found) refl))

  pub lent_to : (old : Table (TlsAnalysis K)) (c w : Connection (TlsAnalysis K))
      → Some c ≡ at e old.live → TakesPieces c w
      → IsLent e (at e old.live) old (with_other e w old)
  lent_to old c w found takes =
      subst (λ o. IsLent e o old (with_other e w old)) found (w, takes, refl)

  pub lent_none : (old new : Table (TlsAnalysis K)) → None ≡ at e old.live → new ≡ old
      → IsLent e (at e old.live) old new
  lent_none old new found same = subst (λ o. IsLent e o old new) found same

-- What a sink is lent.
module _ {X : Type 0} where
  pub lends_none : (b : Bool) (o : Option X) (r : Option (List X)) → b ≡ false
      → Adds r r (lent_if b o)
  lends_none b o r is = subst (λ c. Adds r r (lent_if c o)) (sym is) (adds_none r)

  pub lends_missing : (b : Bool) (o : Option X) (r : Option (List X)) → None ≡ o
      → Adds r r (lent_if b o)
  lends_missing true o r missed = subst (λ p. Adds r r (as_list p)) missed (adds_none r)
  lends_missing false o r missed = adds_none r

  pub lends_one : (b : Bool) (o : Option X) (x : X) (r s : Option (List X)) → b ≡ true
      → Some x ≡ o → Adds r s (x ∷ []) → Adds r s (lent_if b o)
  lends_one b o x r s is found adds =
      subst (λ c. Adds r s (lent_if c o)) (sym is) (subst (λ p. Adds r s (as_list p)) found adds)

module _ {K B : Type 0} (value : B → Connection (TlsAnalysis K)) where
  some_ended : (own oldest : Option B) (a b : Bool) → a ≡ is_some own → b ≡ is_some oldest
      → (not a && not b) ≡ false
      → (is_some (option_map value own) || is_some (option_map value oldest)) ≡ true
  some_ended (Some x) oldest a b p q h = refl
  some_ended None (Some y) a b p q h = refl
  some_ended None None a b p q h = let h' = rw (p, q) at h in cc

  pub refused_ends : (e : FiveTuple) (t u w : Table (TlsAnalysis K)) (own oldest : Option B)
      (has_own has_oldest : Bool) (r s q : Option (List (Connection (TlsAnalysis K))))
      (k l m : Counts)
      → EndsAs true (at e t.live) (option_map value own) → u.live ≡ others e t.live
      → EndsLast true u.live w.live (option_map value oldest)
      → has_own ≡ is_some own → has_oldest ≡ is_some oldest
      → (not has_own && not has_oldest) ≡ false
      → Adds r s (as_list (option_map value own)) → Adds s q (as_list (option_map value oldest))
      → AreCounted (as_list (option_map value own)) k l
      → AreCounted (as_list (option_map value oldest)) l m
      → (ended : EndsRefused e t.live w.live r q)
      × AreCounted (as_list ended.own ++ as_list ended.oldest) k m
  refused_ends e t u w own oldest has_own has_oldest r s q k l m ends same last p o h
      received received_too counted counted_too = (
        record {
          own = option_map value own;
          oldest = option_map value oldest;
          own_ends = ends;
          oldest_ends = subst (λ l. EndsLast true l w.live (option_map value oldest)) same last;
          are_some = some_ended own oldest has_own has_oldest p o h;
          received =
              adds_then r s q (as_list (option_map value own)) (as_list (option_map value oldest))
              received received_too;
        },
        counted_both (as_list (option_map value own)) (as_list (option_map value oldest)) k l m
            counted counted_too,
      )

-- A sink refused one of those that end without memory.
module _ {K B E : Type 0} (value : B → Connection (TlsAnalysis K)) (e : FiveTuple)
    (error : LogError E) where
  pub stops_own : (t u : Table (TlsAnalysis K)) (own : Option B)
      (r q : Option (List (Connection (TlsAnalysis K))))
      → EndsAs true (at e t.live) (option_map value own) → u.live ≡ others e t.live
      → is_some own ≡ true → Adds r q [] → IsOfSink error
      → StopsRefused e t.live u.live r q error
  stops_own t u None r q ends same is received of_sink = cc
  stops_own t u (Some b) r q ends same is received of_sink =
      at_own (value b) of_sink ends same received

  pub stops_oldest : (t u w : Table (TlsAnalysis K)) (own oldest : Option B)
      (r s q : Option (List (Connection (TlsAnalysis K))))
      → EndsAs true (at e t.live) (option_map value own) → u.live ≡ others e t.live
      → EndsLast true u.live w.live (option_map value oldest) → is_some oldest ≡ true
      → Adds r s (as_list (option_map value own)) → Adds s q [] → IsOfSink error
      → StopsRefused e t.live w.live r q error
  stops_oldest t u w own None r s q ends same last is received none of_sink = cc
  stops_oldest t u w own (Some b) r s q ends same last is received none of_sink =
      at_oldest (option_map value own) (value b) of_sink ends
      (subst (λ l. EndsLast true l w.live (Some (value b))) same last)
      (adds_still r s q (as_list (option_map value own)) received none)

-- What holds whether a call fails or not.
pub on_any : {A E P : Type 0} (r : Result A E) → P → OnOk r P
on_any (Ok x) p = p
on_any (Err e) p = tt

-- One of two.
pub not_neither : (a b : Bool) → ((a ≡ false) × (b ≡ true)) ⊎ (a ≡ true)
    → (not a && not b) ≡ false
not_neither true b h = refl
not_neither false true h = refl
not_neither false false (inl h) = sym h.1
not_neither false false (inr h) = sym h

-- What follows where a call failed.
pub err_weaker : {A E : Type 0} (r : Result A E) (P Q : Type 0) → (P → Q) → OnErr r P → OnErr r Q
err_weaker (Ok x) P Q f p = tt
err_weaker (Err e) P Q f p = f p

pub both_err : {A E : Type 0} (r : Result A E) (P Q R : Type 0) → (P → Q → R) → OnErr r P
    → OnErr r Q → OnErr r R
both_err (Ok x) P Q R f p q = tt
both_err (Err e) P Q R f p q = f p q

pub any_err : {A E : Type 0} (r : Result A E) (Q R : E → Type 0) (P : Type 0)
    → ((e : E) → P → Q e → R e) → P → IfErr r Q → IfErr r R
any_err (Ok x) Q R P f p q = tt
any_err (Err e) Q R P f p q = f e p q

pub with_err : {A E : Type 0} (r : Result A E) (P : Type 0) (Q R : E → Type 0)
    → ((e : E) → P → Q e → R e) → OnErr r P → IfErr r Q → IfErr r R
with_err (Ok x) P Q R f p q = tt
with_err (Err e) P Q R f p q = f e p q

-- What holds of the error that `?` returns.
pub given : {A F : Type 0} (r : Result A F) (f : F) (R : F → Type 0) → IsErrAnd r (λ x. x ≡ f) → R f
    → IfErr r R
given (Ok x) f R is p = tt
given (Err e) f R is p = subst R (sym is) p

-- A sink that was sound before the call that failed.
pub sound_before : {A E : Type 0} (B : Type 0) (r : Result A (LogError E)) (a b c : Bool)
    (e : LogError E) → (a ≡ true → b ≡ true) → StaysSound {A = B} b c (Err e)
    → IsErrAnd r (λ x. x ≡ e) → StaysSound a c r
sound_before B (Ok x) a b c e f h is = absurd is
sound_before B (Err OutOfMemory) a b c e f h is =
    λ k. subst (λ y. StaysSound {A = B} b c (Err y)) (sym is) h (f k)
sound_before B (Err (Sink x)) a b c e f h is = tt

-- What a sink failed to receive.
pub refused_then : {X E : Type 0} (r : Result Unit E) (a b : Option (List X)) (x : X)
    → Receives a b r x → OnErr r (Adds a b [])
refused_then (Ok u) a b x h = tt
refused_then (Err e) a b x h = h

-- A fragment that completed a datagram was found.
pub joins_found : (cut : Bool) (time : ℕ) (found : _) (old new : ArrivalReader)
    (whole : Option CompletedDatagram) → Joins cut time found old new whole → is_some whole ≡ true
    → is_some found ≡ true
joins_found false time found old new whole joins is = let none = rw joins.0 at is in cc
joins_found true time None old new whole joins is = let none = rw joins.0 at is in cc
joins_found true time (Some f) old new whole joins is = refl

pub leaves_found : (time : ℕ) (found : _) (old new : ArrivalReader)
    → LeavesOutFound time found old new → is_some found ≡ true
leaves_found time None old new leaves = absurd leaves
leaves_found time (Some f) old new leaves = refl

module _ {K : Type 0} (M : K → ℕ) (limit : ℕ) (passes : Bool) where
  -- What is found in a step is found in all.
  pub handled_by : (P Q : ArrivalReader → Content → Type 0) (reader : ArrivalReader)
      (old new : Table (TlsAnalysis K)) (r s l m : Option (List (Connection (TlsAnalysis K))))
      → ((read : ArrivalReader) (c : Content) → P read c → Q read c)
      → Lending (HandlesBy M P limit reader old new r s) (lent_by passes) l m
      → Lending (HandlesBy M Q limit reader old new r s) (lent_by passes) l m
  handled_by P Q reader old new r s l m f h = (
    record {
      content = h.0.content;
      read = h.0.read;
      finds = f h.0.read h.0.content h.0.finds;
      handles = h.0.handles;
      is_read = h.0.is_read;
    },
    h.1,
  )

  pub handled_none : (Q : ArrivalReader → Content → Type 0) (reader : ArrivalReader)
      (old new : Table (TlsAnalysis K)) (r s l m : Option (List (Connection (TlsAnalysis K))))
      → Q reader Nothing → new ≡ old → s ≡ r → m ≡ l
      → Lending (HandlesBy M Q limit reader old new r s) (lent_by passes) l m
  handled_none Q reader old new r s l m finds same received lent = (
    record {
      content = Nothing;
      read = reader;
      finds = finds;
      handles = (same, subst (λ x. Adds r x []) (sym received) (adds_none r));
      is_read = refl;
    },
    subst (λ x. Adds l x []) (sym lent) (adds_none l),
  )

  module _ {E : Type 0} (P Q : ArrivalReader → Content → Type 0) (N O : Type 0)
      (error : LogError E) (old new : Table (TlsAnalysis K))
      (r s l m : Option (List (Connection (TlsAnalysis K))))
      (f : (read : ArrivalReader) (c : Content) → P read c → Q read c) (n : N → O) where
    stopped_as : (h : StopsBy M P N limit error old new r s) → Adds l m (lent_before passes h)
        → Lending (StopsBy M Q O limit error old new r s) (lent_before passes) l m
    stopped_as (at_reader memory needs same received) lent =
        (at_reader memory (n needs) same received, lent)
    stopped_as (at_content c read finds stops) lent =
        (at_content c read (f read c finds) stops, lent)

    pub stopped_by : Lending (StopsBy M P N limit error old new r s) (lent_before passes) l m
        → Lending (StopsBy M Q O limit error old new r s) (lent_before passes) l m
    stopped_by h = stopped_as h.0 h.1

-- Nothing changed before.
module _ {K : Type 0} (M : K → ℕ) (Q : ArrivalReader → Content → Type 0) where
  pub handled_in : (n m : ℕ) (o p : Option PieceKind) (reader : ArrivalReader)
      (old mid new : Table (TlsAnalysis K))
      (r s q a b d : Option (List (Connection (TlsAnalysis K)))) → m ≡ n → p ≡ o → mid ≡ old
      → s ≡ r → b ≡ a
      → Lending (HandlesBy M Q m reader mid new s q) (lent_by (passes_on p)) b d
      → Lending (HandlesBy M Q n reader old new r q) (lent_by (passes_on o)) a d
  handled_in n m o p reader old mid new r s q a b d memory kept connections received lent handles =
      subst (λ x. Lending (HandlesBy M Q n reader old new r q) (lent_by (passes_on o)) x d) lent
      (subst (λ x. Lending (HandlesBy M Q n reader old new r q) (lent_by (passes_on x)) b d) kept
      (subst (λ l. Lending (HandlesBy M Q l reader old new r q) (lent_by (passes_on p)) b d) memory
      (subst (λ t. Lending (HandlesBy M Q m reader t new r q) (lent_by (passes_on p)) b d)
      connections
      (subst (λ x. Lending (HandlesBy M Q m reader mid new x q) (lent_by (passes_on p)) b d)
      received handles))))

  pub stopped_in : {E : Type 0} (N : Type 0) (error : LogError E) (n m : ℕ)
      (o p : Option PieceKind) (old mid new : Table (TlsAnalysis K))
      (r s q a b d : Option (List (Connection (TlsAnalysis K))))
      → m ≡ n → p ≡ o → mid ≡ old → s ≡ r → b ≡ a
      → Lending (StopsBy M Q N m error mid new s q) (lent_before (passes_on p)) b d
      → Lending (StopsBy M Q N n error old new r q) (lent_before (passes_on o)) a d
  stopped_in N error n m o p old mid new r s q a b d memory kept connections received lent stops =
      subst (λ x. Lending (StopsBy M Q N n error old new r q) (lent_before (passes_on o)) x d) lent
      (subst (λ x. Lending (StopsBy M Q N n error old new r q) (lent_before (passes_on x)) b d) kept
      (subst (λ l. Lending (StopsBy M Q N l error old new r q) (lent_before (passes_on p)) b d)
      memory
      (subst (λ t. Lending (StopsBy M Q N m error t new r q) (lent_before (passes_on p)) b d)
      connections
      (subst (λ x. Lending (StopsBy M Q N m error mid new x q) (lent_before (passes_on p)) b d)
      received stops))))

-- The tunnels of an earlier packet make no difference.
reads_behind : (p : Packet) (old mid new : ArrivalReader) (a : Option Arrival)
    → mid ≡ record old { tunnels = mid.tunnels } → Reads p mid new a → Reads p old new a
reads_behind p old mid new a is reads = record {
  tunnels = reads.tunnels;
  reads = subst (λ r. ReadsInside p (unwrapped p.link_type p.bytes).inside r new a)
      (ap {A = ArrivalReader}
      (λ r. record r { counts = with_packet_counted r.counts; tunnels = new.tunnels }) is)
      reads.reads;
}

pub holds_behind : (p : Packet) (old mid new : ArrivalReader) (c : Content)
    → mid ≡ record old { tunnels = mid.tunnels } → Holds p mid new c → Holds p old new c
holds_behind p old mid new c is (one a reads whole) =
    one a (reads_behind p old mid new (Some a) is reads) whole
holds_behind p old mid new c is (joined m reads finds) =
    joined m (reads_behind p old mid m None is reads) finds

pub needs_behind : (p : Packet) (old mid : ArrivalReader)
    → mid ≡ record old { tunnels = mid.tunnels } → NeedsMemory p mid → NeedsMemory p old
needs_behind p old mid is (inl h) = inl (subst (λ r. is_some r.networks ≡ true) is h)
needs_behind p old mid is (inr h) = inr h

-- No arrival was read, and no fragment.
pub none_held : (p : Packet) (old read : ArrivalReader) → Reads p old read None
    → read.is_cut ≡ false → Holds p old read Nothing
none_held p old read reads whole = joined read reads (
  read,
  None,
  subst (λ b. Joins b p.time (fragment_in p) read read None) (sym whole)
      (refl, ap (λ b. record read { is_cut = b }) whole),
  reading.none (MAX_TUNNELS + 1) read,
)
