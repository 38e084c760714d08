-- Both sides of a conversation, event by event.
use Rattle.std.proofs.Common.{
  ◌≡◌,
  Bool,
  true,
  false,
  not,
  ◌&&◌,
  ◌||◌,
  Option,
  Some,
  None,
  refl,
  sym,
  ◌∙◌,
  ap,
  subst,
}
use Rattle.tls_stream.specs.Item.{Event as StreamEvent}
use Rattle.tls_flow.specs.declared.event.FlowEvent.{FlowEvent}
use Rattle.tls_flow.specs.declared.symbol.Direction.{Direction as Side}
use Rattle.tls_flow.specs.declared.symbol.Direction.TheVariants.{ToServer, FromServer}
use Rattle.tls_stream.specs.Readers.{IsEventOf, IsSwitched, IsTakenBy, IsSwitchedIf, reader_of, other, switches}
use Rattle.tls_stream.specs.SideReaders.{IsTaken, front_of}
use Rattle.tls_stream.specs.FlowEvents.{chooses_tls13, event_of}
use Rattle.tls_stream.specs.declared.conversation_reader.ConversationReader.{ConversationReader}
use Rattle.tls_stream.specs.declared.side_reader.SideReader.{SideReader}

-- An event is taken from a side, and both are switched if it chooses TLS 1.3.
each_switched : (c d : ConversationReader) (e : FlowEvent) → IsSwitched c e d → (s : Side)
    → IsSwitchedIf (switches c e) (reader_of c s) (reader_of d s)
each_switched c d e f ToServer = f.client
each_switched c d e f FromServer = f.server

pub behind_is : (c m d : ConversationReader) (s : Side) (v : StreamEvent) (e : FlowEvent) (t : Bool)
    → Some v ≡ front_of (reader_of c s) → e ≡ event_of s v
    → IsTaken (front_of (reader_of c s)) (reader_of c s) t (reader_of m s)
    → reader_of m (other s) ≡ reader_of c (other s) → m.is_tls13 ≡ c.is_tls13
    → IsSwitched m e d
    → IsTakenBy (front_of (reader_of c s)) c s true d
behind_is c m d s v e t front is off same tls f =
    let switches_same : switches m e ≡ switches c (event_of s v)
    = ap (λ b. not b && chooses_tls13 e.symbol.kind e.symbol.direction) tls
    ∙ ap (λ (x : FlowEvent). not c.is_tls13 && chooses_tls13 x.symbol.kind x.symbol.direction) is in
    let switched : (r : Side) → IsSwitchedIf (switches c (event_of s v)) (reader_of m r) (reader_of d r)
    = λ r. subst (λ t. IsSwitchedIf t (reader_of m r) (reader_of d r)) switches_same (each_switched m d e f r) in
    let first : IsTaken (Some v) (reader_of c s) t (reader_of m s) =
    subst (λ o. IsTaken o (reader_of c s) t (reader_of m s)) (sym front) off in
    subst (λ o. IsTakenBy o c s true d) front (
      refl,
      record {
        side = (reader_of m s, first.1, switched s);
        other = subst (λ x. IsSwitchedIf (switches c (event_of s v)) x (reader_of d (other s))) same
            (switched (other s));
        is_tls13 = f.is_tls13 ∙ ap (λ b. b || switches m e) tls ∙ ap (λ b. c.is_tls13 || b) switches_same;
      },
    )

pub at_client : (c m d : ConversationReader) (s : Side) (v : StreamEvent) (e : FlowEvent) (t : Bool)
    (n : SideReader)
    → s ≡ ToServer
    → m ≡ record c { client = n }
    → Some v ≡ front_of (reader_of c s) → e ≡ event_of s v → IsTaken (front_of c.client) c.client t n
    → IsSwitched m e d
    → IsTakenBy (front_of (reader_of c s)) c s true d
at_client c m d s v e t n at is front e_is off f =
    subst (λ s. Some v ≡ front_of (reader_of c s) → e ≡ event_of s v
    → IsTakenBy (front_of (reader_of c s)) c s true d) (sym at)
    (λ front e_is. behind_is c m d ToServer v e t front e_is
    (subst (λ x. IsTaken (front_of c.client) c.client t x)
    (sym (ap (λ (x : ConversationReader). x.client) is)) off)
    (ap (λ (x : ConversationReader). x.server) is) (ap (λ (x : ConversationReader). x.is_tls13) is)
    f)
    front e_is

pub at_server : (c m d : ConversationReader) (s : Side) (v : StreamEvent) (e : FlowEvent) (t : Bool)
    (n : SideReader)
    → s ≡ FromServer
    → m ≡ record c { server = n }
    → Some v ≡ front_of (reader_of c s) → e ≡ event_of s v → IsTaken (front_of c.server) c.server t n
    → IsSwitched m e d
    → IsTakenBy (front_of (reader_of c s)) c s true d
at_server c m d s v e t n at is front e_is off f =
    subst (λ s. Some v ≡ front_of (reader_of c s) → e ≡ event_of s v
    → IsTakenBy (front_of (reader_of c s)) c s true d) (sym at)
    (λ front e_is. behind_is c m d FromServer v e t front e_is
    (subst (λ x. IsTaken (front_of c.server) c.server t x)
    (sym (ap (λ (x : ConversationReader). x.server) is)) off)
    (ap (λ (x : ConversationReader). x.client) is) (ap (λ (x : ConversationReader). x.is_tls13) is)
    f)
    front e_is

-- A side's next event was taken.
pub client_taken : (c m d : ConversationReader) (s : Side) (e : FlowEvent) (t : Bool)
    (n : SideReader)
    → s ≡ ToServer
    → m ≡ record c { client = n } → IsTaken (front_of c.client) c.client t n → t ≡ true
    → IsSwitched m e d
    → IsEventOf e s (front_of (reader_of c s)) → IsTakenBy (front_of (reader_of c s)) c s true d
client_taken c m d s e t n at is off took f same =
    subst (λ s. IsEventOf e s (front_of (reader_of c s)) → IsTakenBy (front_of (reader_of c s)) c s true d)
    (sym at)
    (by (front_of c.client) refl off) same
  where
    by : (o : Option StreamEvent) → front_of c.client ≡ o → IsTaken o c.client t n
        → IsEventOf e ToServer (front_of c.client) → IsTakenBy (front_of c.client) c ToServer true d
    by None front none same = let bad : true ≡ false = sym took ∙ none.0 in absurd cc
    by (Some v) front some same =
        at_client c m d ToServer v e t n refl is (sym front)
        (subst (IsEventOf e ToServer) front same) off f

pub server_taken : (c m d : ConversationReader) (s : Side) (e : FlowEvent) (t : Bool)
    (n : SideReader)
    → s ≡ FromServer
    → m ≡ record c { server = n } → IsTaken (front_of c.server) c.server t n → t ≡ true
    → IsSwitched m e d
    → IsEventOf e s (front_of (reader_of c s)) → IsTakenBy (front_of (reader_of c s)) c s true d
server_taken c m d s e t n at is off took f same =
    subst (λ s. IsEventOf e s (front_of (reader_of c s)) → IsTakenBy (front_of (reader_of c s)) c s true d)
    (sym at)
    (by (front_of c.server) refl off) same
  where
    by : (o : Option StreamEvent) → front_of c.server ≡ o → IsTaken o c.server t n
        → IsEventOf e FromServer (front_of c.server)
        → IsTakenBy (front_of c.server) c FromServer true d
    by None front none same = let bad : true ≡ false = sym took ∙ none.0 in absurd cc
    by (Some v) front some same =
        at_server c m d FromServer v e t n refl is (sym front)
        (subst (IsEventOf e FromServer) front same) off f

-- The side has no next event.
pub client_silent : (c m : ConversationReader) (s : Side) (t : Bool) (n : SideReader)
    → s ≡ ToServer
    → m ≡ record c { client = n } → IsTaken (front_of c.client) c.client t n → t ≡ false
    → IsTakenBy (front_of (reader_of c s)) c s false m
client_silent c m s t n at is off none =
    subst (λ s. IsTakenBy (front_of (reader_of c s)) c s false m) (sym at) (by (front_of c.client) off)
  where
    by : (o : Option StreamEvent) → IsTaken o c.client t n → IsTakenBy o c ToServer false m
    by None off = (refl, is ∙ ap (λ x. record c { client = x }) off.1)
    by (Some v) off = let bad : true ≡ false = sym off.0 ∙ none in absurd cc

pub server_silent : (c m : ConversationReader) (s : Side) (t : Bool) (n : SideReader)
    → s ≡ FromServer
    → m ≡ record c { server = n } → IsTaken (front_of c.server) c.server t n → t ≡ false
    → IsTakenBy (front_of (reader_of c s)) c s false m
server_silent c m s t n at is off none =
    subst (λ s. IsTakenBy (front_of (reader_of c s)) c s false m) (sym at) (by (front_of c.server) off)
  where
    by : (o : Option StreamEvent) → IsTaken o c.server t n → IsTakenBy o c FromServer false m
    by None off = (refl, is ∙ ap (λ x. record c { server = x }) off.1)
    by (Some v) off = let bad : true ≡ false = sym off.0 ∙ none in absurd cc
