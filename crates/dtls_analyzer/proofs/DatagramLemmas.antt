-- The state of a datagram analyzer after a record.
use Rattle.std.proofs.Common.{◌≡◌, ℕ, List, Bool, Result, Ok, Err, sym, ◌∙◌, ap, subst}
use Rattle.std.specs.Prelude.{OnOk}
use Rattle.raw_records.specs.RawDtlsRecord.{RawRecord}
use Rattle.dtls_stream.specs.Fragments.{Fragment}
use Rattle.dtls_stream.specs.Messages.{Received, Stands}
use Rattle.dtls_stream.specs.Datagrams.{record_step}
use Rattle.tls_flow.specs.declared.flow.Flow.{Flow}
use Rattle.tls_flow.specs.declared.symbol.Direction.{Direction as Side}
use Rattle.tls_flow.specs.declared.symbol.Direction.TheVariants.{ToServer, FromServer}
use Rattle.tls_summary.specs.HandshakeSummary.{HandshakeSummary, view_summary}
use Rattle.replay_window.specs.Replay.{RecordNumber, Remembers}
use Rattle.replay_window.specs.declared.window.ReplayWindow.{ReplayWindow}
use Rattle.dtls_analyzer.specs.Datagrams.{
  IsKnown,
  IsSameSide,
  IsSideProgress,
  IsStepped,
  SideProgress,
  Analyzer,
  Observed,
  allowed,
  begun,
  observed_all,
  datagram_side_of,
  side_progress,
  taken,
  observed_of,
  observed_by,
  with_side_progress,
  with_numbers,
}
use Rattle.dtls_analyzer.specs.declared.account.Account.{Account}
use Rattle.dtls_analyzer.specs.declared.datagram_side.DatagramSide.{DatagramSide}
use Rattle.dtls_analyzer.specs.declared.datagram_analyzer.DatagramAnalyzer.{DatagramAnalyzer}

abbrev emitted_by : Flow → HandshakeSummary → List ℕ → Bool → Bool → Observed
emitted_by f a l h e =
    record { flow = f; handshake = a; history = l; has_changed = h; is_encrypted = e }

same_switched : (f g : Flow) (a b : HandshakeSummary) (l m : List ℕ) (h i e d : Bool) → f ≡ g → a ≡ b
    → l ≡ m → h ≡ i → e ≡ d
    → emitted_by f a l h e ≡ emitted_by g b m i d
same_switched f g a b l m h i e d flow handshake letters changed sealed =
    ap (λ x. emitted_by x a l h e) flow ∙ ap (λ x. emitted_by g x l h e) handshake
    ∙ ap (λ x. emitted_by g b x h e) letters
    ∙ ap (λ x. emitted_by g b m x e) changed ∙ ap (λ x. emitted_by g b m i x) sealed

-- The program's data agree with the state.
observed_is : (k : Analyzer) (p : SideProgress) (t : DatagramAnalyzer) (q : DatagramSide) → IsKnown k t
    → IsSideProgress p q
    → observed_of t.account q.progress ≡ observed_by k p
observed_is k p t q is side =
    same_switched t.account.flow k.flow (view_summary t.account.handshake) k.handshake
    t.account.history.items k.history
    q.progress.has_changed p.has_changed
    q.progress.is_encrypted p.is_encrypted is.flow is.handshake is.history side.has_changed
    side.is_encrypted

-- What a side has sent after a record.
abbrev pub ReadsRecord : Side → RawRecord → Account → DatagramSide → Account → DatagramSide → Type 0
ReadsRecord s r a p b q =
    (h : Received) → Stands allowed h p.messages
    → IsStepped s (record_step allowed h r) (observed_of a p.progress) (observed_of b
    q.progress) q.messages

observed_step : (k : Analyzer) (s : Side) (t : DatagramAnalyzer) (p q : DatagramSide) (b : Account)
    (r : RawRecord)
    → IsKnown k t → IsSideProgress (side_progress k s) p → ReadsRecord s r t.account p b q
    → observed_of b q.progress ≡ observed_all s (observed_by k (side_progress k s))
    (record_step allowed (side_progress k s).received r).1
observed_step k s t p q b r is side receives =
    (receives (side_progress k s).received side.stands).emitted
    ∙ ap (λ x. observed_all s x (record_step allowed (side_progress k s).received r).1)
    (observed_is k (side_progress k s) t p is side)

pub client_reads : (k : Analyzer) (t : DatagramAnalyzer) (b : Account) (q : DatagramSide)
    (r : RawRecord)
    → ReadsRecord ToServer r t.account t.client b q → IsSameSide t.client q → IsKnown k t
    → IsKnown (taken k ToServer r) (record t { client = q; account = b })
client_reads k t b q r receives same is =
    let emitted = observed_step k ToServer t t.client q b r is is.client receives in
    record {
      client = record {
        stands = (receives k.client.received is.client.stands).stands;
        window = subst (Remembers k.client.came) (sym same.2) is.client.window;
        is_begun = same.0 ∙ is.client.is_begun;
        lacks_front = same.1 ∙ is.client.lacks_front;
        has_changed = ap (λ (x : Observed). x.has_changed) emitted;
        is_encrypted = ap (λ (x : Observed). x.is_encrypted) emitted;
      };
      server = is.server;
      flow = ap (λ (x : Observed). x.flow) emitted;
      handshake = ap (λ (x : Observed). x.handshake) emitted;
      history = ap (λ (x : Observed). x.history) emitted;
      is_dtls = is.is_dtls;
      longest = is.longest;
    }

pub server_reads : (k : Analyzer) (t : DatagramAnalyzer) (b : Account) (q : DatagramSide)
    (r : RawRecord)
    → ReadsRecord FromServer r t.account t.server b q → IsSameSide t.server q → IsKnown k t
    → IsKnown (taken k FromServer r) (record t { server = q; account = b })
server_reads k t b q r receives same is =
    let emitted = observed_step k FromServer t t.server q b r is is.server receives in
    record {
      client = is.client;
      server = record {
        stands = (receives k.server.received is.server.stands).stands;
        window = subst (Remembers k.server.came) (sym same.2) is.server.window;
        is_begun = same.0 ∙ is.server.is_begun;
        lacks_front = same.1 ∙ is.server.lacks_front;
        has_changed = ap (λ (x : Observed). x.has_changed) emitted;
        is_encrypted = ap (λ (x : Observed). x.is_encrypted) emitted;
      };
      flow = ap (λ (x : Observed). x.flow) emitted;
      handshake = ap (λ (x : Observed). x.handshake) emitted;
      history = ap (λ (x : Observed). x.history) emitted;
      is_dtls = is.is_dtls;
      longest = is.longest;
    }

-- The answer of a call, for either side.
pub client_answers : {E : Type 0} (k : Analyzer) (t : DatagramAnalyzer) (s : Side) (b : Account)
    (q : DatagramSide) (r : RawRecord)
    (x : Result Unit E)
    → s ≡ ToServer
    → ((h : Received) → Stands allowed h t.client.messages
    → OnOk x (IsStepped s (record_step allowed h r) (observed_of t.account t.client.progress)
    (observed_of b q.progress)
    q.messages))
    → IsSameSide t.client q
    → IsKnown k t → OnOk x (IsKnown (taken k s r) (record t { client = q; account = b }))
client_answers k t s b q r (Ok x) at receives same is =
    subst (λ s. IsKnown (taken k s r) (record t { client = q; account = b }))
    (sym at)
    (client_reads k t b q r
    (λ h stands. subst (λ s. IsStepped s (record_step allowed h r) (observed_of t.account
    t.client.progress)
    (observed_of b q.progress) q.messages) at (receives h stands)) same is)
client_answers k t s b q r (Err e) at receives same is = tt

pub server_answers : {E : Type 0} (k : Analyzer) (t : DatagramAnalyzer) (s : Side) (b : Account)
    (q : DatagramSide) (r : RawRecord)
    (x : Result Unit E)
    → s ≡ FromServer
    → ((h : Received) → Stands allowed h t.server.messages
    → OnOk x (IsStepped s (record_step allowed h r) (observed_of t.account t.server.progress)
    (observed_of b q.progress)
    q.messages))
    → IsSameSide t.server q
    → IsKnown k t → OnOk x (IsKnown (taken k s r) (record t { server = q; account = b }))
server_answers k t s b q r (Ok x) at receives same is =
    subst (λ s. IsKnown (taken k s r) (record t { server = q; account = b }))
    (sym at)
    (server_reads k t b q r
    (λ h stands. subst (λ s. IsStepped s (record_step allowed h r) (observed_of t.account
    t.server.progress)
    (observed_of b q.progress) q.messages) at (receives h stands)) same is)
server_answers k t s b q r (Err e) at receives same is = tt

-- The data of a side agree with its state.
pub datagram_side_known : (k : Analyzer) (t : DatagramAnalyzer) (s : Side) → IsKnown k t
    → IsSideProgress (side_progress k s) (datagram_side_of t s)
datagram_side_known k t ToServer is = is.client
datagram_side_known k t FromServer is = is.server

-- A side begins.
abbrev pub Begins : Side → Fragment → DatagramSide → DatagramSide → Type 0
Begins s f p q = (x : SideProgress) → IsSideProgress x p → IsSideProgress (begun s f x) q

pub client_begins : (k : Analyzer) (t : DatagramAnalyzer) (s : Side) (f : Fragment)
    (q : DatagramSide)
    → s ≡ ToServer
    → Begins s f t.client q → IsKnown k t
    → IsKnown (with_side_progress k s (begun s f (side_progress k s))) (record t { client = q })
client_begins k t s f q at begins is =
    subst (λ s. IsKnown (with_side_progress k s (begun s f (side_progress k s))) (record t { client = q }))
    (sym at)
    (record {
      client = subst (λ s. IsSideProgress (begun s f k.client) q) at (begins k.client is.client);
      server = is.server;
      flow = is.flow;
      handshake = is.handshake;
      history = is.history;
      is_dtls = is.is_dtls;
      longest = is.longest;
    })

pub server_begins : (k : Analyzer) (t : DatagramAnalyzer) (s : Side) (f : Fragment)
    (q : DatagramSide)
    → s ≡ FromServer
    → Begins s f t.server q → IsKnown k t
    → IsKnown (with_side_progress k s (begun s f (side_progress k s))) (record t { server = q })
server_begins k t s f q at begins is =
    subst (λ s. IsKnown (with_side_progress k s (begun s f (side_progress k s))) (record t { server = q }))
    (sym at)
    (record {
      client = is.client;
      server = subst (λ s. IsSideProgress (begun s f k.server) q) at (begins k.server is.server);
      flow = is.flow;
      handshake = is.handshake;
      history = is.history;
      is_dtls = is.is_dtls;
      longest = is.longest;
    })

pub client_numbers : (k : Analyzer) (t : DatagramAnalyzer) (s : Side) (came : List RecordNumber)
    (w : ReplayWindow)
    → s ≡ ToServer
    → Remembers came w → IsKnown k t
    → IsKnown (with_numbers k s came) (record t { client = record t.client { window = w } })
client_numbers k t s came w at remembers is =
    subst (λ s. IsKnown (with_numbers k s came) (record t { client = record t.client { window = w } }))
    (sym at)
    (record {
      client = record {
        stands = is.client.stands;
        window = remembers;
        is_begun = is.client.is_begun;
        lacks_front = is.client.lacks_front;
        has_changed = is.client.has_changed;
        is_encrypted = is.client.is_encrypted;
      };
      server = is.server;
      flow = is.flow;
      handshake = is.handshake;
      history = is.history;
      is_dtls = is.is_dtls;
      longest = is.longest;
    })

pub server_numbers : (k : Analyzer) (t : DatagramAnalyzer) (s : Side) (came : List RecordNumber)
    (w : ReplayWindow)
    → s ≡ FromServer
    → Remembers came w → IsKnown k t
    → IsKnown (with_numbers k s came) (record t { server = record t.server { window = w } })
server_numbers k t s came w at remembers is =
    subst (λ s. IsKnown (with_numbers k s came) (record t { server = record t.server { window = w } }))
    (sym at)
    (record {
      client = is.client;
      server = record {
        stands = is.server.stands;
        window = remembers;
        is_begun = is.server.is_begun;
        lacks_front = is.server.lacks_front;
        has_changed = is.server.has_changed;
        is_encrypted = is.server.is_encrypted;
      };
      flow = is.flow;
      handshake = is.handshake;
      history = is.history;
      is_dtls = is.is_dtls;
      longest = is.longest;
    })
