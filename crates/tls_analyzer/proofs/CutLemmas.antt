-- A piece in two parts has the same events as whole.
use Rattle.std.proofs.Common.{
  ◌≡◌,
  ℕ,
  ◌+◌,
  ◌-◌,
  ◌≤◌,
  List,
  [],
  ◌∷◌,
  ◌++◌,
  length,
  Bool,
  true,
  false,
  not,
  ◌||◌,
  ◌&&◌,
  Option,
  Some,
  None,
  refl,
  sym,
  ◌∙◌,
  ap,
  subst,
  arith,
  append_assoc,
  length-append,
}
use Rattle.layouts.specs.Bytes.{Bytes}
use Rattle.tls_stream.specs.Item.{Event as StreamEvent}
use Rattle.tls_stream.specs.Events.{events, fed, with_more}
use Rattle.tls_stream.specs.Stream as stream
use Rattle.tls_stream.specs.declared.fault.Fault.{Fault}
use Rattle.tls_stream.proofs.DirectionLemmas.{fed_twice}
use Rattle.tls_flow.specs.declared.event.FlowEvent.{FlowEvent}
use Rattle.tls_flow.specs.declared.symbol.Direction.{Direction as Side}
use Rattle.tls_flow.specs.declared.symbol.Direction.TheVariants.{ToServer, FromServer}
use Rattle.tls_stream.specs.Readers.{IsBehind, IsPast, IsFedBy, IsSwitchedIf, reader_of, other, switches}
use Rattle.tls_stream.specs.SideReaders.{IsFirst, ReadsAs, further_events, further_events_by, switched}
use Rattle.tls_stream.specs.FlowEvents.{chooses_tls13, event_of}
use Rattle.tls_stream.specs.declared.conversation_reader.ConversationReader.{ConversationReader}
use Rattle.tls_stream.specs.declared.side_reader.SideReader.{SideReader}
use Rattle.tls_stream.specs.declared.side_reader.Standing.{Standing}
use Rattle.tls_stream.specs.declared.side_reader.Standing.TheVariants.{Active, AtFault, Over}
use Rattle.tls_observer.specs.History.{history, letter_of, with_letter}
use Rattle.tls_observer.specs.Noting.{has_sealed, is_sealed}

-- The side with another piece.
abbrev pub with_piece : SideReader → Bytes → SideReader
with_piece e q = record e { direction = fed e.direction q }

further_events_of_more : (e : SideReader) (q t : Bytes) → further_events (with_piece e q) t ≡ further_events e (q ++ t)
further_events_of_more e q t = go e.standing
  where
    go : (s : Standing) → further_events_by s (fed e.direction q) t ≡ further_events_by s e.direction (q ++ t)
    go Active = ap events (fed_twice e.direction q t)
    go (AtFault f) = refl
    go Over = refl

switched_further : (e : SideReader) (q : Bytes) → switched (with_piece e q) ≡ with_piece (switched e) q
switched_further e q =
    ap (λ x. record e { direction = record e.direction { stream = x } }) (go e.direction.fault)
  where
    go : (f : Option Fault)
        → stream.switched_to_tls13 (with_more f e.direction.stream q) ≡ with_more f
        (stream.switched_to_tls13
        e.direction.stream) q
    go (Some f) = refl
    go None = refl

switched_if_further : (b : Bool) (e f : SideReader) (q : Bytes) → IsSwitchedIf b e f
    → IsSwitchedIf b (with_piece e q) (with_piece f q)
switched_if_further true e f q same = λ t.
    ap (λ x. further_events x t) (switched_further e q) ∙ further_events_of_more (switched e) q t ∙ same (q ++ t)
    ∙ sym (further_events_of_more f q t)
switched_if_further false e f q same = λ t. further_events_of_more e q t ∙ same (q ++ t)
    ∙ sym (further_events_of_more f q t)

first_further : (e f : SideReader) (v : StreamEvent) (q : Bytes) → IsFirst e v f
    → IsFirst (with_piece e q) v (with_piece f q)
first_further e f v q first t = further_events_of_more e q t ∙ first (q ++ t)
    ∙ ap (λ vs. v ∷ vs) (sym (further_events_of_more f q t))

-- The reader with another piece of this side.
abbrev pub further : ConversationReader → Side → Bytes → ConversationReader
further c ToServer q = record c { client = with_piece c.client q }
further c FromServer q = record c { server = with_piece c.server q }

behind_further : (c d : ConversationReader) (s : Side) (v : StreamEvent) (q : Bytes) → IsBehind c s v d
    → IsBehind (further c s q) s v (further d s q)
behind_further c d ToServer v q behind = record {
  side = (
    with_piece behind.side.0 q,
    first_further c.client behind.side.0 v q behind.side.1,
    switched_if_further (switches c (event_of ToServer v)) behind.side.0 d.client q behind.side.2,
  );
  other = behind.other;
  is_tls13 = behind.is_tls13;
}
behind_further c d FromServer v q behind = record {
  side = (
    with_piece behind.side.0 q,
    first_further c.server behind.side.0 v q behind.side.1,
    switched_if_further (switches c (event_of FromServer v)) behind.side.0 d.server q behind.side.2,
  );
  other = behind.other;
  is_tls13 = behind.is_tls13;
}

pub past_further : (c d : ConversationReader) (s : Side) (vs : List StreamEvent) (q : Bytes) → IsPast c s vs d
    → IsPast (further c s q) s vs (further d s q)
past_further c d s [] q past = ap (λ x. further x s q) past
past_further c d s (v ∷ vs) q past =
    (further past.0 s q, past_further c past.0 s vs q past.1, behind_further past.0 d s v q past.2)

past_on : (c m d : ConversationReader) (s : Side) (vs ws : List StreamEvent) → IsPast c s vs m → IsPast m s ws d
    → IsPast c s (ws ++ vs) d
past_on c m d s vs [] first last = subst (λ x. IsPast c s vs x) (sym last) first
past_on c m d s vs (w ∷ ws) first last = (last.0, past_on c m last.0 s vs ws first last.1, last.2)

-- Both say the same whatever follows of this side, and are equal otherwise.
record IsAlike (s : Side) (c d : ConversationReader) : Type 0 where
  side : ReadsAs (reader_of c s) (reader_of d s)
  other : reader_of c (other s) ≡ reader_of d (other s)
  is_tls13 : c.is_tls13 ≡ d.is_tls13

switched_alike : (b : Bool) (e f g : SideReader) → IsSwitchedIf b e f → ReadsAs f g → IsSwitchedIf b e g
switched_alike true e f g same alike = λ t. same t ∙ alike t
switched_alike false e f g same alike = λ t. same t ∙ alike t

switches_alike : (c d : ConversationReader) (e : FlowEvent) → c.is_tls13 ≡ d.is_tls13 → switches d e ≡ switches c e
switches_alike c d e same =
    ap (λ b. not b && chooses_tls13 e.symbol.kind e.symbol.direction) (sym same)

behind_last : (c m d : ConversationReader) (s : Side) (v : StreamEvent) → IsBehind c s v m → IsAlike s m d
    → IsBehind c s v d
behind_last c m d s v behind alike = record {
  side = (
    behind.side.0,
    behind.side.1,
    switched_alike (switches c (event_of s v)) behind.side.0 (reader_of m s) (reader_of d s) behind.side.2 alike.side,
  );
  other = subst (λ x. IsSwitchedIf (switches c (event_of s v)) (reader_of c (other s)) x) alike.other
      behind.other;
  is_tls13 = sym alike.is_tls13 ∙ behind.is_tls13;
}

behind_first : (c m d : ConversationReader) (s : Side) (v : StreamEvent) → IsAlike s c m → IsBehind m s v d
    → IsBehind c s v d
behind_first c m d s v alike behind =
    let same : switches m (event_of s v) ≡ switches c (event_of s v) =
    switches_alike c m (event_of s v) alike.is_tls13 in
    record {
      side = (
        behind.side.0,
        λ t. alike.side t ∙ behind.side.1 t,
        subst (λ b. IsSwitchedIf b behind.side.0 (reader_of d s)) same behind.side.2,
      );
      other = subst (λ x. IsSwitchedIf (switches c (event_of s v)) x (reader_of d (other s))) (sym alike.other)
          (subst (λ b. IsSwitchedIf b (reader_of m (other s)) (reader_of d (other s))) same behind.other);
      is_tls13 = behind.is_tls13 ∙ ap (λ b. b || switches m (event_of s v)) (sym alike.is_tls13)
          ∙ ap (λ b. c.is_tls13 || b) same;
    }

past_first : (c m d : ConversationReader) (s : Side) (v : StreamEvent) (vs : List StreamEvent) → IsAlike s c m
    → IsPast m s (v ∷ vs) d
    → IsPast c s (v ∷ vs) d
past_first c m d s v [] alike past =
    (c, refl, behind_first c m d s v alike (subst (λ x. IsBehind x s v d) past.1 past.2))
past_first c m d s v (w ∷ ws) alike past =
    (past.0, past_first c m past.0 s w ws alike past.1, past.2)

-- A reader that was fed a piece has the events that it has with that piece.
fed_alike : (c d : ConversationReader) (s : Side) (q : Bytes) → IsFedBy c s q d
    → IsAlike s (further c s q) d
fed_alike c d ToServer q fed = record {
  side = λ t. further_events_of_more c.client q t ∙ fed.side t;
  other = sym fed.other;
  is_tls13 = sym fed.is_tls13;
}
fed_alike c d FromServer q fed = record {
  side = λ t. further_events_of_more c.server q t ∙ fed.side t;
  other = sym fed.other;
  is_tls13 = sym fed.is_tls13;
}

pub fed_further : (c d : ConversationReader) (s : Side) (p q : Bytes) → IsFedBy c s p d
    → IsFedBy c s (p ++ q) (further d s q)
fed_further c d ToServer p q fed = record {
  side = λ t. ap (further_events c.client) (append_assoc p q t) ∙ fed.side (q ++ t)
      ∙ sym (further_events_of_more d.client q t);
  other = fed.other;
  is_tls13 = fed.is_tls13;
}
fed_further c d FromServer p q fed = record {
  side = λ t. ap (further_events c.server) (append_assoc p q t) ∙ fed.side (q ++ t)
      ∙ sym (further_events_of_more d.server q t);
  other = fed.other;
  is_tls13 = fed.is_tls13;
}

fed_on : (c m d : ConversationReader) (s : Side) (p q : Bytes) → IsFedBy c s p m → IsFedBy m s q d
    → IsFedBy c s (p ++ q) d
fed_on c m d s p q first last = record {
  side = λ t. ap (further_events (reader_of c s)) (append_assoc p q t) ∙ first.side (q ++ t) ∙ last.side t;
  other = last.other ∙ first.other;
  is_tls13 = last.is_tls13 ∙ first.is_tls13;
}

-- What two pieces say is what both say joined.
pub record IsJoined (c : ConversationReader) (s : Side) (p : Bytes) (vs : List StreamEvent)
    (d : ConversationReader) : Type 0 where
  pub begun : ConversationReader
  pub fed : IsFedBy c s p begun
  pub past : IsPast begun s vs d

pub joined : (c a m b d : ConversationReader) (s : Side) (p q : Bytes) (vs ws : List StreamEvent)
    → IsFedBy c s p a
    → IsPast a s vs m → IsFedBy m s q b
    → IsPast b s ws d → IsJoined c s (p ++ q) (ws ++ vs) d
joined c a m b d s p q vs (w ∷ ws) fed past fed_again past_again = record {
  begun = further a s q;
  fed = fed_further c a s p q fed;
  past = past_on (further a s q) (further m s q) d s vs (w ∷ ws) (past_further a m s vs q past)
      (past_first (further m s q) b d s w ws (fed_alike m b s q fed_again) past_again);
}
joined c a m b d s p q [] [] fed past fed_again past_again = record {
  begun = b;
  fed = fed_on c m b s p q (subst (λ x. IsFedBy c s p x) (sym past) fed) fed_again;
  past = past_again;
}
joined c a m b d s p q (v ∷ vs) [] fed past fed_again past_again = record {
  begun = further a s q;
  fed = fed_further c a s p q fed;
  past = subst (λ x. IsPast (further a s q) s (v ∷ vs) x) (sym past_again) (
    further past.0 s q,
    past_further a past.0 s vs q past.1,
    behind_last (further past.0 s q) (further m s q) b s v (behind_further past.0 m s v q past.2)
        (fed_alike m b s q
        fed_again),
  );
}

pub history_on : (s : Side) (h : List ℕ) (vs ws : List StreamEvent)
    → history s (history s h vs) ws ≡ history s h (ws ++ vs)
history_on s h vs [] = refl
history_on s h vs (w ∷ ws) = ap (λ g. with_letter s g (letter_of w)) (history_on s h vs ws)

or_false : (b : Bool) → b ≡ (b || false)
or_false true = refl
or_false false = refl

or_on : (a b c : Bool) → ((a || b) || c) ≡ (a || (b || c))
or_on true b c = refl
or_on false b c = refl

pub sealed_on : (vs ws : List StreamEvent) → has_sealed (ws ++ vs) ≡ (has_sealed vs || has_sealed ws)
sealed_on vs [] = or_false (has_sealed vs)
sealed_on vs (w ∷ ws) = ap (λ b. b || is_sealed w) (sealed_on vs ws)
    ∙ or_on (has_sealed vs) (has_sealed ws) (is_sealed w)

pub longer : (vs ws : List StreamEvent) (n : ℕ) → n ≤ length ws → n ≤ length (ws ++ vs)
longer vs ws n few = let e : length (ws ++ vs) ≡ length ws + length vs = length-append ws vs in
    omega (arith, few, e)
