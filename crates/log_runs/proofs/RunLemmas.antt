-- How many connections come out of a run, and what a sink receives.
use Rattle.std.proofs.Common.{◌≡◌, ℕ, ◌+◌, Bool, true, false, Option, Some, None, List, [], ◌∷◌, ◌++◌, map, take, drop, refl, sym, ap, ◌∙◌, subst, append_assoc, arith}
use Rattle.std.proofs.lemmas.List.{append-nil, map-append, take-append-drop}
use Rattle.std.specs.Map.{values_of}
use Rattle.std.specs.Prelude.{IfErr, IsErrAnd, OnErr, OnOk, Result, Ok, Err, is_some}
use Rattle.arrivals.specs.Arrival.{five_tuple_in}
use Rattle.arrivals.specs.declared.arrival.Arrival.{Arrival}
use Rattle.arrivals.specs.declared.reader.ArrivalReader.{ArrivalReader}
use Rattle.connections.specs.Table.{Table, at}
use Rattle.connections.specs.declared.connection.Connection.{Connection}
use Rattle.connections.specs.declared.five_tuple.FiveTuple.{FiveTuple}
use Rattle.packets.specs.Section.{Packet, view_packet}
use Rattle.packets.specs.declared.reader.Packet as lent
use Rattle.log_connections.specs.declared.analysis.TlsAnalysis.{TlsAnalysis}
use Rattle.log_connections.specs.declared.sink.LogError.{LogError}
use Rattle.log_connections.specs.declared.sink.LogError.TheVariants.{OutOfMemory, Sink as Failed}
use Rattle.log_runs.proofs.AcceptLemmas.{changed_at, settles_count, takes_count}
use Rattle.log_runs.proofs.CountLemmas.{count-append, count-written, times-append}
use Rattle.log_runs.specs.Counting.{count_of, entry_of, times}
use Rattle.log_connections.specs.Log.{disagreeing_of}
use Rattle.log_connections.specs.Packet.{Arrives, Handles, HandlesContent, IsLent, Processes, StopsHandling, ends, goes_on, noted_if}
use Rattle.log_connections.specs.Packet.Arrives.{is_refused}
use Rattle.log_connections.specs.Reading.{Content, InFragments, Nothing, Whole}
use Rattle.log_connections.specs.Sink.{Adds, EndInTurn, EndsLast, IsOfSink, IsOpen, PassesAllButLast, PassesEnded, StaysSound, as_list}
use Rattle.log_connections.specs.Sink.EndInTurn.{none, one}
use Rattle.log_runs.specs.Runs.{HandlesEach, IsRun, StopsRun, at_end, at_packet, begun_in, begun_of, begun_over, ended_in, last_ended, log_of, none_yet, one_more, outs_by, outs_in, outs_of, outs_over, refused_in, refused_of, refused_over}

none_left : {X : Type 0} (xs ys : List X) → xs ++ ys ≡ [] → (xs ≡ []) × (ys ≡ [])
none_left [] ys h = (refl, h)
none_left (x ∷ xs) ys h = cc

module _ {K : Type 0} (e : FiveTuple) where
  -- Those that ended are those that were open and aren't any more.
  pub ended_count :
      {early : Bool}
      {Is : List (FiveTuple × Connection (TlsAnalysis K)) → Connection (TlsAnalysis K) → Type 0}
      {xs ys : List (FiveTuple × Connection (TlsAnalysis K))}
      {outs : List (Connection (TlsAnalysis K))} (h : EndInTurn early Is xs ys outs)
      → count_of e (ended_in h) + count_of e ys ≡ count_of e xs
  ended_count none = omega arith
  ended_count (one ys zs outs c c' before is last) =
      omega (
        arith,
        count-append e (ended_in before) ((last.five_tuple, c') ∷ []),
        ended_count before,
        ap (count_of e) last.stood,
        count-append e zs ((last.five_tuple, c) ∷ []),
      )

  lent_count : (f : FiveTuple) (o : Option (Connection (TlsAnalysis K)))
      (old new : Table (TlsAnalysis K)) → IsLent f o old new
      → count_of e new.live ≡ count_of e old.live
  lent_count f None old new same = ap (λ t. count_of e t.live) same
  lent_count f (Some c) old new lent =
      ap (λ t. count_of e t.live) lent.2 ∙ count-written e f old.live lent.0

  noted_count : (b : Bool) (a : Arrival) (n : ℕ) (t : Table (TlsAnalysis K))
      → count_of e (noted_if b a n t).live ≡ count_of e t.live
  noted_count true a n t = refl
  noted_count false a n t = changed_at e (five_tuple_in a) (disagreeing_of a n) (at (five_tuple_in a) t.live) t

module _ {K : Type 0} (M : K → ℕ) (e : FiveTuple) where
  module _ {a : Arrival} {old new : Table (TlsAnalysis K)}
      {before after : Option (List (Connection (TlsAnalysis K)))} where
    arrives_count : (h : Arrives M a old new before after) → refused_in h ≡ []
        → count_of e (outs_in h) + count_of e new.live
        ≡ count_of e old.live + times e (begun_in h)
    arrives_count (ends over accepts received) held =
        omega (
          arith,
          takes_count e a old accepts.mid (Some over) accepts.takes,
          settles_count e M accepts.is_due (five_tuple_in a) accepts.mid new accepts.settles,
        )
    arrives_count (goes_on mid accepts lent received) held =
        omega (
          arith,
          takes_count e a old accepts.mid None accepts.takes,
          settles_count e M accepts.is_due (five_tuple_in a) accepts.mid mid accepts.settles,
          lent_count e (five_tuple_in a) (at (five_tuple_in a) mid.live) mid new lent,
        )
    arrives_count (is_refused mid over refuses keeps ended) held = cc

  module _ {a : Arrival} {limit : ℕ} {old new : Table (TlsAnalysis K)}
      {before after : Option (List (Connection (TlsAnalysis K)))} where
    processes_count : (p : Processes M a limit old new before after)
        → refused_in p.arrives ≡ []
        → count_of e (outs_by p) + count_of e new.live
        ≡ count_of e old.live + times e (begun_in p.arrives)
    processes_count p held =
        omega (
          arith,
          count-append e (ended_in p.idle.ended) (outs_in p.arrives ++ ended_in p.evicted.ended),
          count-append e (outs_in p.arrives) (ended_in p.evicted.ended),
          ended_count e p.idle.ended,
          arrives_count p.arrives held,
          ended_count e p.evicted.ended,
        )

  module _ (limit : ℕ) (old new : Table (TlsAnalysis K))
      (before after : Option (List (Connection (TlsAnalysis K)))) where
    handles_count : (c : Content) (h : HandlesContent M c limit old new before after)
        → refused_of M limit old new before after c h ≡ []
        → count_of e (outs_of M limit old new before after c h) + count_of e new.live
        ≡ count_of e old.live + times e (begun_of M limit old new before after c h)
    handles_count Nothing h held = omega (arith, ap (λ t. count_of e t.live) h.0)
    handles_count (Whole a) h held = processes_count h held
    handles_count (InFragments a n) h held =
        omega (
          arith,
          processes_count h.processes held,
          changed_at e (five_tuple_in a) (disagreeing_of a n) (at (five_tuple_in a) old.live) old,
          ap (λ t. count_of e t.live) h.noted,
          noted_count e (is_some (at (five_tuple_in a) old.live)) a n h.processed,
        )

  module _ {limit : ℕ} {reader : ArrivalReader} {old : Table (TlsAnalysis K)}
      {before : Option (List (Connection (TlsAnalysis K)))} where
    each_count : {packets : List Packet} {read : ArrivalReader} {new : Table (TlsAnalysis K)}
        {after : Option (List (Connection (TlsAnalysis K)))}
        (h : HandlesEach M limit reader old before packets read new after)
        → refused_over h ≡ []
        → count_of e (outs_over h) + count_of e new.live
        ≡ count_of e old.live + times e (begun_over h)
    each_count none_yet held = omega arith
    each_count (one_more packets p read reads mid new between after h handles) held =
        let both = none_left (refused_over h)
        (refused_of M limit mid new between after handles.content handles.handles) held in
        omega (
          arith,
          count-append e (outs_over h) (outs_of M limit mid new between after handles.content handles.handles),
          times-append e (begun_over h) (begun_of M limit mid new between after handles.content handles.handles),
          each_count h both.0,
          handles_count limit mid new between after handles.content handles.handles both.1,
        )

  pub run_count : (limit : ℕ) (packets : List Packet) (reader : ArrivalReader)
      (old new : Table (TlsAnalysis K))
      (before after : Option (List (Connection (TlsAnalysis K))))
      (run : IsRun M limit packets reader old new before after)
      → refused_over run.handles ≡ []
      → count_of e (log_of run) ≡ count_of e old.live + times e (begun_over run.handles)
  run_count limit packets reader old new before after run held =
      omega (
        arith,
        count-append e (outs_over run.handles) (ended_in run.ends.ended),
        each_count run.handles held,
        ended_count e run.ends.ended,
        ap (count_of e) run.none_open,
      )

-- What a sink receives.
module _ {X : Type 0} where
  adds_then : (a b c : Option (List X)) (xs ys : List X) → Adds a b xs → Adds b c ys
      → Adds a c (xs ++ ys)
  adds_then None b c xs ys h k = tt
  adds_then (Some before) None c xs ys h k = absurd h
  adds_then (Some before) (Some mid) None xs ys h k = absurd k
  adds_then (Some before) (Some mid) (Some after) xs ys h k =
      k ∙ ap (λ t. t ++ ys) h ∙ append_assoc before xs ys

  pub adds_none : (r : Option (List X)) → Adds r r []
  adds_none None = tt
  adds_none (Some xs) = sym (append-nil xs)

module _ {K : Type 0} where
  values-append : (xs ys : List (FiveTuple × Connection (TlsAnalysis K)))
      → values_of (xs ++ ys) ≡ values_of xs ++ values_of ys
  values-append xs ys = map-append (λ x. x.1) xs ys

  both_received : (a b c : Option (List (Connection (TlsAnalysis K))))
      (xs ys : List (FiveTuple × Connection (TlsAnalysis K))) → Adds a b (values_of xs)
      → Adds b c (values_of ys) → Adds a c (values_of (xs ++ ys))
  both_received a b c xs ys h k =
      subst (Adds a c) (sym (values-append xs ys))
      (adds_then a b c (values_of xs) (values_of ys) h k)

  ended_values :
      {early : Bool}
      {Is : List (FiveTuple × Connection (TlsAnalysis K)) → Connection (TlsAnalysis K) → Type 0}
      {xs ys : List (FiveTuple × Connection (TlsAnalysis K))}
      {outs : List (Connection (TlsAnalysis K))} (h : EndInTurn early Is xs ys outs)
      → values_of (ended_in h) ≡ outs
  ended_values none = refl
  ended_values (one ys zs outs c c' before is last) =
      values-append (ended_in before) ((last.five_tuple, c') ∷ [])
      ∙ ap (λ l. l ++ c' ∷ []) (ended_values before)

  passes_received :
      {early : Bool}
      {Is : List (FiveTuple × Connection (TlsAnalysis K)) → Connection (TlsAnalysis K) → Type 0}
      {xs ys : List (FiveTuple × Connection (TlsAnalysis K))}
      {a b : Option (List (Connection (TlsAnalysis K)))} (p : PassesEnded early Is xs ys a b)
      → Adds a b (values_of (ended_in p.ended))
  passes_received {a} {b} p = subst (Adds a b) (sym (ended_values p.ended)) p.received

  own_values : (f : FiveTuple) (o : Option (Connection (TlsAnalysis K)))
      → values_of (entry_of f o) ≡ as_list o
  own_values f None = refl
  own_values f (Some c) = refl

  oldest_values : (xs ys : List (FiveTuple × Connection (TlsAnalysis K)))
      (o : Option (Connection (TlsAnalysis K))) (h : EndsLast true xs ys o)
      → values_of (last_ended xs ys o h) ≡ as_list o
  oldest_values xs ys None h = refl
  oldest_values xs ys (Some c) h = refl

module _ {K : Type 0} (M : K → ℕ) where
  module _ {a : Arrival} {old new : Table (TlsAnalysis K)}
      {before after : Option (List (Connection (TlsAnalysis K)))} where
    arrives_received : (h : Arrives M a old new before after)
        → Adds before after (values_of (outs_in h))
    arrives_received (ends over accepts received) = received
    arrives_received (goes_on mid accepts lent received) = received
    arrives_received (is_refused mid over refuses keeps ended) =
        both_received before ended.0 after (entry_of (five_tuple_in a) over)
        (entry_of (five_tuple_in a) ended.2.own
        ++ last_ended _ new.live ended.2.oldest ended.2.oldest_ends)
        (subst (Adds before ended.0) (sym (own_values (five_tuple_in a) over)) ended.1)
        (subst (Adds ended.0 after)
        (sym (values-append (entry_of (five_tuple_in a) ended.2.own)
        (last_ended _ new.live ended.2.oldest ended.2.oldest_ends)
        ∙ ap (λ l. l ++ values_of (last_ended _ new.live ended.2.oldest ended.2.oldest_ends))
        (own_values (five_tuple_in a) ended.2.own)
        ∙ ap (λ l. as_list ended.2.own ++ l)
        (oldest_values _ new.live ended.2.oldest ended.2.oldest_ends)))
        ended.2.received)

  module _ {a : Arrival} {limit : ℕ} {old new : Table (TlsAnalysis K)}
      {before after : Option (List (Connection (TlsAnalysis K)))} where
    processes_received : (p : Processes M a limit old new before after)
        → Adds before after (values_of (outs_by p))
    processes_received p =
        both_received before p.first after (ended_in p.idle.ended)
        (outs_in p.arrives ++ ended_in p.evicted.ended) (passes_received p.idle)
        (both_received p.first p.second after (outs_in p.arrives) (ended_in p.evicted.ended)
        (arrives_received p.arrives) (passes_received p.evicted))

  module _ (limit : ℕ) (old new : Table (TlsAnalysis K))
      (before after : Option (List (Connection (TlsAnalysis K)))) where
    handles_received : (c : Content) (h : HandlesContent M c limit old new before after)
        → Adds before after (values_of (outs_of M limit old new before after c h))
    handles_received Nothing h = h.1
    handles_received (Whole a) h = processes_received h
    handles_received (InFragments a n) h = processes_received h.processes

  module _ {limit : ℕ} {reader : ArrivalReader} {old : Table (TlsAnalysis K)}
      {before : Option (List (Connection (TlsAnalysis K)))} where
    each_received : {packets : List Packet} {read : ArrivalReader} {new : Table (TlsAnalysis K)}
        {after : Option (List (Connection (TlsAnalysis K)))}
        (h : HandlesEach M limit reader old before packets read new after)
        → Adds before after (values_of (outs_over h))
    each_received none_yet = adds_none before
    each_received (one_more packets p read reads mid new between after h handles) =
        both_received before between after (outs_over h)
        (outs_of M limit mid new between after handles.content handles.handles) (each_received h)
        (handles_received limit mid new between after handles.content handles.handles)

  pub run_received : (limit : ℕ) (packets : List Packet) (reader : ArrivalReader)
      (old new : Table (TlsAnalysis K))
      (before after : Option (List (Connection (TlsAnalysis K))))
      (run : IsRun M limit packets reader old new before after)
      → Adds before after (values_of (log_of run))
  run_received limit packets reader old new before after run =
      both_received before run.between after (outs_over run.handles) (ended_in run.ends.ended)
      (each_received run.handles) (passes_received run.ends)

-- One more packet is handled.
module _ {K : Type 0} (M : K → ℕ) where
  pub each_next : (limit m : ℕ) (reader read reads : ArrivalReader)
      (old mid new : Table (TlsAnalysis K))
      (before between after : Option (List (Connection (TlsAnalysis K))))
      (packets all : List lent.Packet) (p : lent.Packet)
      → HandlesEach M limit reader old before (map view_packet packets) read mid between
      → Handles M (view_packet p) m read reads mid new between after → m ≡ limit
      → all ≡ packets ++ p ∷ []
      → HandlesEach M limit reader old before (map view_packet all) reads new after
  each_next limit m reader read reads old mid new before between after packets all p h handles
      same is =
      subst (λ l. HandlesEach M limit reader old before l reads new after)
      (sym (ap (map view_packet) is ∙ map-append view_packet packets (p ∷ [])))
      (one_more (map view_packet packets) (view_packet p) read reads mid new between after h
      (subst (λ n. Handles M (view_packet p) n read reads mid new between after) same handles))

  -- The log stops at a packet, or at the end.
  pub stops_at : {E : Type 0} (limit m : ℕ) (reader read : ArrivalReader) (error : LogError E)
      (old mid new : Table (TlsAnalysis K))
      (before between after : Option (List (Connection (TlsAnalysis K))))
      (packets front rest : List lent.Packet) (p : lent.Packet)
      → HandlesEach M limit reader old before (map view_packet front) read mid between
      → packets ≡ front ++ p ∷ rest → m ≡ limit
      → StopsHandling M (view_packet p) m read error mid new between after
      → StopsRun M limit (map view_packet packets) reader error old new before after
  stops_at limit m reader read error old mid new before between after packets front rest p h is same
      stops =
      at_packet (map view_packet front) (map view_packet rest) (view_packet p) read mid between
      (ap (map view_packet) is ∙ map-append view_packet front (p ∷ rest)) h
      (subst (λ n. StopsHandling M (view_packet p) n read error mid new between after) same stops)

  -- All packets were handled, and then the capture ended.
  pub runs_to : {A E : Type 0} (limit : ℕ) (reader read : ArrivalReader)
      (old last new : Table (TlsAnalysis K))
      (before between after : Option (List (Connection (TlsAnalysis K))))
      (packets : List Packet) (r : Result A (LogError E))
      (P : PassesEnded false IsOpen last.live new.live between after → Type 0)
      → HandlesEach M limit reader old before packets read last between
      → OnOk r ((ended : PassesEnded false IsOpen last.live new.live between after) × P ended)
      → OnOk r (new.live ≡ []) → OnOk r (IsRun M limit packets reader old new before after)
  runs_to limit reader read old last new before between after packets (Ok x) P h ended none_left =
      record {
        read = read;
        last = last;
        between = between;
        handles = h;
        ends = ended.0;
        none_open = none_left;
      }
  runs_to limit reader read old last new before between after packets (Err e) P h ended none_left = tt

  pub stops_last : {A E : Type 0} (limit : ℕ) (reader read : ArrivalReader)
      (old last new : Table (TlsAnalysis K))
      (before between after : Option (List (Connection (TlsAnalysis K))))
      (packets : List Packet) (r : Result A (LogError E))
      → HandlesEach M limit reader old before packets read last between
      → OnErr r (PassesAllButLast false IsOpen last.live new.live between after)
      → IfErr r (λ error. IsOfSink error)
      → IfErr r (λ error. StopsRun M limit packets reader error old new before after)
  stops_last limit reader read old last new before between after packets (Ok x) h stops sinks = tt
  stops_last limit reader read old last new before between after packets (Err e) h stops sinks =
      at_end read last between h sinks stops

-- The error of a call is returned as it is.
pub error_kept : {A E : Type 0} (r : Result A E) (e : E) → IsErrAnd r (λ x. x ≡ e)
    → (P : Result A E → Type 0) → P (Err e) → P r
error_kept (Ok x) e is P p = absurd is
error_kept (Err x) e is P p = subst (λ y. P (Err y)) (sym is) p

-- The packets up to one, that one, and those behind it.
pub around : (packets : List lent.Packet) (i : ℕ) (p : lent.Packet)
    → take (i + 1) packets ≡ take i packets ++ p ∷ []
    → packets ≡ take i packets ++ p ∷ drop (i + 1) packets
around packets i p h =
    sym (take-append-drop (i + 1) packets) ∙ ap (λ l. l ++ drop (i + 1) packets) h
    ∙ append_assoc (take i packets) (p ∷ []) (drop (i + 1) packets)

-- A sink that was sound before all packets was so before the last one.
sound_then : {E : Type 0} (A : Type 0) (e : LogError E) (first before after : Bool)
    → (first ≡ true → before ≡ true) → StaysSound {A = A} before after (Err e)
    → StaysSound {A = A} first after (Err e)
sound_then A OutOfMemory first before after h k = λ is. k (h is)
sound_then A (Failed x) first before after h k = tt

pub sound_kept : {A E : Type 0} (r : Result A (LogError E)) (e : LogError E)
    (first before after : Bool) → IsErrAnd r (λ x. x ≡ e) → (first ≡ true → before ≡ true)
    → StaysSound {A = A} before after (Err e) → StaysSound first after r
sound_kept (Ok x) e first before after is h k = absurd is
sound_kept {A} (Err x) e first before after is h k =
    sound_then A x first before after h
    (subst (λ y. StaysSound {A = A} before after (Err y)) (sym is) k)
