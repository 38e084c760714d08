-- The connections that a log passes to its sink.
use Rattle.std.specs.Prelude.{◌≡◌, ⊤, ℕ, ◌<◌, ◌≤◌, Bool, true, false, ◌||◌, is_some, Result, Ok, Err, List, [], ◌∷◌, ◌++◌, Option, Some, None}
use Rattle.connections.specs.Connection.{has_opening}
use Rattle.connections.specs.Memory.{IsAccounted, open_part, total}
use Rattle.connections.specs.Table.{IsOver, NoneIsOver, Table, at, others}
use Rattle.connections.specs.declared.five_tuple.FiveTuple.{FiveTuple}
use Rattle.connections.specs.declared.connection.Connection.{Connection}
use Rattle.connections.specs.declared.connection.Side.TheVariants.{Originator, Responder}
use Rattle.log_connections.specs.Analysis.{AnalyzesStream, IsCutIn, is_done, undialogued}
use Rattle.log_connections.specs.AtEnd.{AnalyzesAllAtEnd, RefusesSomeAtEnd}
use Rattle.log_connections.specs.declared.analysis.TlsAnalysis.{TlsAnalysis}
use Rattle.log_connections.specs.declared.sink.LogError.{LogError}
use Rattle.log_connections.specs.declared.sink.LogError.TheVariants.{OutOfMemory, Sink}

-- A sink stays sound unless it fails.
abbrev pub StaysSound : {A E : Type 0} → Bool → Bool → Result A (LogError E) → Type 0
StaysSound old new (Ok a) = old ≡ true → new ≡ true
StaysSound old new (Err OutOfMemory) = old ≡ true → new ≡ true
StaysSound old new (Err (Sink e)) = ⊤

-- The sink failed, or memory ran out.
abbrev pub IsOfSink : {E : Type 0} → LogError E → Type 0
IsOfSink OutOfMemory = ⊥
IsOfSink (Sink e) = ⊤

abbrev pub IsOfMemory : {E : Type 0} → LogError E → Type 0
IsOfMemory OutOfMemory = ⊤
IsOfMemory (Sink e) = ⊥

module _ {X : Type 0} where
  -- The values known to have reached the sink grow by these.
  abbrev pub Adds : Option (List X) → Option (List X) → List X → Type 0
  Adds None new xs = ⊤
  Adds (Some before) None xs = ⊥
  Adds (Some before) (Some after) xs = after ≡ before ++ xs

  -- The list of the value, or the empty list.
  abbrev pub as_list : Option X → List X
  as_list None = []
  as_list (Some x) = x ∷ []

  -- A sink received it, or failed and has what it had.
  abbrev pub Receives : {E : Type 0} → Option (List X) → Option (List X) → Result Unit E → X
      → Type 0
  Receives old new (Ok u) x = Adds old new (x ∷ [])
  Receives old new (Err e) x = Adds old new []

module _ {K : Type 0} where
  -- The dialogue in front of TLS is over. The last bytes of both streams, held back before, were
  -- analyzed. All else stays.
  pub record AnalyzesLast (c c' : Connection (TlsAnalysis K)) : Type 0 where
    pub between : TlsAnalysis K
    pub originator :
        AnalyzesStream Originator (has_opening c) true c.from_originator c'.from_originator
        (undialogued c.attachment) between
    pub responder :
        AnalyzesStream Responder
        (has_opening c) true c.from_responder c'.from_responder between c'.attachment
    pub same :
        c' ≡ record c {
          from_originator = c'.from_originator;
          from_responder = c'.from_responder;
          attachment = c'.attachment;
        }

  -- Memory was refused for the last bytes of one of its streams, which weren't all analyzed before.
  -- All else stays.
  pub data IsCutOff (c c' : Connection (TlsAnalysis K)) : Type 0 where
    at_originator :
        (last : TlsAnalysis K)
        → is_done Originator c.from_originator (undialogued c.attachment) ≡ false
        → IsCutIn (undialogued c.attachment) last → c' ≡ record c { attachment = last }
        → IsCutOff c c'
    at_responder :
        (between last : TlsAnalysis K)
        → AnalyzesStream Originator (has_opening c) true c.from_originator c'.from_originator
        (undialogued c.attachment) between
        → is_done Responder c.from_responder between ≡ false → IsCutIn between last
        → c' ≡ record c { from_originator = c'.from_originator; attachment = last }
        → IsCutOff c c'

  -- It is marked as ended early, or not.
  abbrev pub marked : Bool → Connection (TlsAnalysis K) → Connection (TlsAnalysis K)
  marked early c = record c { attachment = record c.attachment { is_ended_early = early } }

  -- The pending segments that count as taken at the end were analyzed, and then the last bytes.
  abbrev pub AnalyzesRest : Connection (TlsAnalysis K) → Connection (TlsAnalysis K) → Type 0
  AnalyzesRest c c' = (d : Connection (TlsAnalysis K)) × AnalyzesAllAtEnd c d × AnalyzesLast d c'

  -- Memory was refused for one of the former, or for the latter.
  pub data IsCutShort (c c' : Connection (TlsAnalysis K)) : Type 0 where
    at_pending : RefusesSomeAtEnd c c' → IsCutShort c c'
    at_last :
        (d : Connection (TlsAnalysis K)) → AnalyzesAllAtEnd c d → IsCutOff d c' → IsCutShort c c'

  -- A connection ended, and its rest was analyzed. It is marked if it ended early, for lack of
  -- memory. It did too if memory was refused for its rest.
  pub data IsEnded (early : Bool) (c c' : Connection (TlsAnalysis K)) : Type 0 where
    wholly :
        (d : Connection (TlsAnalysis K)) → AnalyzesRest c d → c' ≡ marked early d
        → IsEnded early c c'
    cut_off :
        (d : Connection (TlsAnalysis K)) → IsCutShort c d → c' ≡ marked true d
        → IsEnded early c c'

  abbrev pub EndsAs : Bool → Option (Connection (TlsAnalysis K))
      → Option (Connection (TlsAnalysis K)) → Type 0
  EndsAs early None None = ⊤
  EndsAs early (Some c) (Some c') = IsEnded early c c'
  EndsAs early c c' = ⊥

  -- The longest-idle of these connections ended.
  pub record IsLastEnded (early : Bool) (xs ys : List (FiveTuple × Connection (TlsAnalysis K)))
      (c c' : Connection (TlsAnalysis K)) : Type 0 where
    pub five_tuple : FiveTuple
    pub stood : xs ≡ ys ++ (five_tuple, c) ∷ []
    pub ended : IsEnded early c c'

  -- The longest-idle one ended, or there is none.
  abbrev pub EndsLast : Bool → List (FiveTuple × Connection (TlsAnalysis K))
      → List (FiveTuple × Connection (TlsAnalysis K)) → Option (Connection (TlsAnalysis K)) → Type 0
  EndsLast early xs ys None = (xs ≡ []) × (ys ≡ [])
  EndsLast early xs ys (Some c') =
      (c : Connection (TlsAnalysis K)) × IsLastEnded early xs ys c c'

  -- The longest-idle connection ended if it was idle for longer than the limit, or there are too
  -- many; else none ended.
  abbrev pub EndsIdle : ℕ → List (FiveTuple × Connection (TlsAnalysis K))
      → List (FiveTuple × Connection (TlsAnalysis K)) → Option (Connection (TlsAnalysis K)) → Type 0
  EndsIdle time xs ys None = (ys ≡ xs) × NoneIsOver time xs
  EndsIdle time xs ys (Some c') = (c : Connection (TlsAnalysis K)) × IsLastEnded false xs ys c c'
      × IsOver time xs c.last_time

  -- The longest-idle connection ended early if the open ones exceed their part of the limit; else
  -- none ended, and they are within it.
  abbrev pub Evicts : ℕ → Table (TlsAnalysis K) → Table (TlsAnalysis K)
      → Option (Connection (TlsAnalysis K)) → Type 0
  Evicts limit t u None = (u.live ≡ t.live)
      × (IsAccounted t → total u.live ≤ open_part limit)
  Evicts limit t u (Some c') =
      (c : Connection (TlsAnalysis K)) × IsLastEnded true t.live u.live c c'
      × (open_part limit < t.held)

  -- A sink that is lent a connection changes nothing but its collector.
  abbrev pub TakesPieces : Connection (TlsAnalysis K) → Connection (TlsAnalysis K) → Type 0
  TakesPieces c c' = c' ≡ record c {
    attachment = record c.attachment { collector = c'.attachment.collector };
  }

  -- Connections ended one after the other, each the longest-idle one and for this reason, early or
  -- not.
  pub data EndInTurn (early : Bool)
      (Is : List (FiveTuple × Connection (TlsAnalysis K)) → Connection (TlsAnalysis K) → Type 0)
      (xs : List (FiveTuple × Connection (TlsAnalysis K)))
      : List (FiveTuple × Connection (TlsAnalysis K)) → List (Connection (TlsAnalysis K))
      → Type 0 where
    none : EndInTurn early Is xs xs []
    one :
        (ys zs : List (FiveTuple × Connection (TlsAnalysis K)))
        (outs : List (Connection (TlsAnalysis K))) (c c' : Connection (TlsAnalysis K))
        → EndInTurn early Is xs ys outs → Is ys c → IsLastEnded early ys zs c c'
        → EndInTurn early Is xs zs (outs ++ c' ∷ [])

  -- The sink received those that ended.
  pub record PassesEnded (early : Bool)
      (Is : List (FiveTuple × Connection (TlsAnalysis K)) → Connection (TlsAnalysis K) → Type 0)
      (xs ys : List (FiveTuple × Connection (TlsAnalysis K)))
      (old new : Option (List (Connection (TlsAnalysis K)))) : Type 0 where
    pub outs : List (Connection (TlsAnalysis K))
    pub ended : EndInTurn early Is xs ys outs
    pub received : Adds old new outs

  -- The sink received those that ended, but for the last one, which it refused. All others stay.
  pub record PassesAllButLast (early : Bool)
      (Is : List (FiveTuple × Connection (TlsAnalysis K)) → Connection (TlsAnalysis K) → Type 0)
      (xs ys : List (FiveTuple × Connection (TlsAnalysis K)))
      (old new : Option (List (Connection (TlsAnalysis K)))) : Type 0 where
    pub outs : List (Connection (TlsAnalysis K))
    pub refused : Connection (TlsAnalysis K)
    pub ended : EndInTurn early Is xs ys (outs ++ refused ∷ [])
    pub received : Adds old new outs

  -- All connections end with the capture.
  abbrev pub IsOpen : List (FiveTuple × Connection (TlsAnalysis K)) → Connection (TlsAnalysis K)
      → Type 0
  IsOpen xs c = ⊤

  -- A connection was idle for longer than the limit, or there were too many.
  abbrev pub IsIdle : ℕ → List (FiveTuple × Connection (TlsAnalysis K))
      → Connection (TlsAnalysis K) → Type 0
  IsIdle time xs c = IsOver time xs c.last_time

  -- The open connections exceeded their part of the memory limit, if the memory was accounted at
  -- first.
  abbrev pub IsOverLimit : Table (TlsAnalysis K) → ℕ → List (FiveTuple × Connection (TlsAnalysis K))
      → Connection (TlsAnalysis K) → Type 0
  IsOverLimit t limit xs c = IsAccounted t → open_part limit < total xs

  -- Memory was refused for the connection of a five-tuple. It ended early, and the longest-idle one
  -- of the others. There was at least one.
  pub record EndsRefused (e : FiveTuple) (xs ys : List (FiveTuple × Connection (TlsAnalysis K)))
      (old new : Option (List (Connection (TlsAnalysis K)))) : Type 0 where
    pub own : Option (Connection (TlsAnalysis K))
    pub oldest : Option (Connection (TlsAnalysis K))
    pub own_ends : EndsAs true (at e xs) own
    pub oldest_ends : EndsLast true (others e xs) ys oldest
    pub are_some : (is_some own || is_some oldest) ≡ true
    pub received : Adds old new (as_list own ++ as_list oldest)

  -- Of these two, the sink refused one, and received the one before. Without either, memory ran
  -- out.
  pub data StopsRefused {E : Type 0} (e : FiveTuple)
      (xs ys : List (FiveTuple × Connection (TlsAnalysis K)))
      (old new : Option (List (Connection (TlsAnalysis K)))) (error : LogError E) : Type 0 where
    at_own :
        (own : Connection (TlsAnalysis K)) → IsOfSink error → EndsAs true (at e xs) (Some own)
        → ys ≡ others e xs → Adds old new [] → StopsRefused e xs ys old new error
    at_oldest :
        (own : Option (Connection (TlsAnalysis K))) (oldest : Connection (TlsAnalysis K))
        → IsOfSink error → EndsAs true (at e xs) own
        → EndsLast true (others e xs) ys (Some oldest) → Adds old new (as_list own)
        → StopsRefused e xs ys old new error
    without_any :
        IsOfMemory error → at e xs ≡ None → others e xs ≡ [] → ys ≡ [] → Adds old new []
        → StopsRefused e xs ys old new error

  -- The sink receives the connection that another one replaced before, if there is one, and then
  -- these two.
  abbrev pub EndsAfterRefusal : FiveTuple → Option (Connection (TlsAnalysis K))
      → List (FiveTuple × Connection (TlsAnalysis K))
      → List (FiveTuple × Connection (TlsAnalysis K)) → Option (List (Connection (TlsAnalysis K)))
      → Option (List (Connection (TlsAnalysis K))) → Type 0
  EndsAfterRefusal e over xs ys old new = (between : Option (List (Connection (TlsAnalysis K))))
      × Adds old between (as_list over) × EndsRefused e xs ys between new

  -- Or it refused that one, and no other ended; or one of the two.
  pub data StopsAfterRefusal {E : Type 0} (e : FiveTuple)
      (over : Option (Connection (TlsAnalysis K)))
      (t u : Table (TlsAnalysis K)) (old new : Option (List (Connection (TlsAnalysis K))))
      (error : LogError E) : Type 0 where
    at_replaced : IsOfSink error → is_some over ≡ true → u ≡ t → Adds old new []
        → StopsAfterRefusal e over t u old new error
    behind_replaced :
        (between : Option (List (Connection (TlsAnalysis K)))) → Adds old between (as_list over)
        → StopsRefused e t.live u.live between new error
        → StopsAfterRefusal e over t u old new error
