-- The events of joined fragments.
use Rattle.std.proofs.Common.{
  ◌≡◌,
  ℕ,
  ◌<◌,
  ◌≤◌,
  ◌==◌,
  List,
  [],
  ◌∷◌,
  ◌++◌,
  length,
  map,
  Bool,
  true,
  false,
  cond,
  Option,
  Some,
  None,
  refl,
  sym,
  ◌∙◌,
  ap,
  arith,
  append_assoc,
  lit<,
}
use Rattle.std.specs.Prelude.{◌&&◌, nat_le, nat_lt}
use Rattle.std.proofs.lemmas.Bool.{eqb-true, eq-eqb, le-leb, lt-ltb}
use Rattle.layouts.specs.Bytes.{Bytes}
use Rattle.tls_stream.specs.Frames.{Shape, IsTooLarge, body_length, front, frames, left, up_to}
use Rattle.tls_stream.specs.Records.{message_frame}
use Rattle.tls_stream.proofs.FrontLemmas.{front_stays, large_longer, none_large}
use Rattle.tls_stream.proofs.FrameLemmas.{first_frame, no_frame}
use Rattle.tls_stream.specs.Item.{Event, Failed, Item, Fragment, Alone, Broken}
use Rattle.tls_stream.specs.Messages.{alerts, event_of, messages_of}
use Rattle.tls_stream.specs.Stream.{
  sent,
  open_part,
  is_above,
  too_large_or,
  closed,
  events_of,
  onto_fragment,
  joined_items,
}
use Rattle.tls_stream.specs.declared.fault.Fault.TheVariants as fault

pub takes : (limit kind : ℕ) → 0 < (messages_of limit kind).header
takes limit kind = go (kind == 21)
  where
    go : (t : Bool) → 0 < (cond t (up_to alerts 0) (message_frame limit)).header
    go true = lit< tt
    go false = lit< tt

pub above : (f : Shape) (b : Bytes) → IsTooLarge f b → is_above f b ≡ true
above f b l =
    ap (λ t. t && nat_lt f.limit (body_length f b)) (le-leb f.header (length b) l.has_header)
    ∙ lt-ltb f.limit (body_length f b) l.above

-- A length that is too large ends everything.
pub large_or : (f : Shape) (b : Bytes) (others : List Event) → IsTooLarge f b
    → too_large_or f b others ≡ Failed fault.TooLarge ∷ []
large_or f b others l = ap (λ t. cond t (Failed fault.TooLarge ∷ []) others) (above f b l)

pub large_closed : (f : Shape) (b : Bytes) (others : List Event) → 0 < f.header → IsTooLarge f b
    → closed f b others ≡ Failed fault.TooLarge ∷ []
large_closed f [] others some l = let h : f.header ≤ 0 = l.has_header in
    absurd (omega (arith, some, h))
large_closed f (c ∷ b) others some l = large_or f (c ∷ b) (Failed fault.Interrupted ∷ []) l

module _ (limit kind : ℕ) where
  abbrev shape : Shape
  shape = messages_of limit kind

  -- A message is taken off the part.
  sent_then : (X : Bytes → List Event) (b : Bytes) (x : Bytes × Bytes) → front shape b ≡ Some x
      → sent limit kind b ++ X (open_part limit kind b)
      ≡ event_of kind x.0 ∷ (sent limit kind x.1 ++ X (open_part limit kind x.1))
  sent_then X b x e =
      let one = first_frame shape (takes limit kind) b x.0 x.1 e in
      ap (λ ys. map (event_of kind) ys ++ X (left shape b)) one.0
      ∙ ap (λ l. event_of kind x.0 ∷ (map (event_of kind) (frames shape x.1) ++ X l)) one.1

  pub message_first : (b : Bytes) (x : Bytes × Bytes) → front shape b ≡ Some x → (is : List Item)
      → events_of limit kind b is ≡ event_of kind x.0 ∷ events_of limit kind x.1 is
  message_first b x e [] = sent_then (λ l. too_large_or shape l []) b x e
  message_first b x e (Fragment k f ∷ is) =
      go (k == kind) (message_first (b ++ f) (x.0, x.1 ++ f) (front_stays shape b f x e) is)
    where
      go : (t : Bool)
          → events_of limit kind (b ++ f) is ≡ event_of kind x.0 ∷ events_of limit kind
          (x.1 ++ f) is
          → cond t (events_of limit kind (b ++ f) is)
          (sent limit kind b ++ closed shape (open_part limit kind b) (events_of limit k f is))
          ≡ event_of kind x.0 ∷ cond t (events_of limit kind (x.1 ++ f) is)
          (sent limit kind x.1 ++ closed shape (open_part limit kind x.1) (events_of limit k f is))
      go true again = again
      go false again = sent_then (λ l. closed shape l (events_of limit k f is)) b x e
  message_first b x e (Alone a ∷ is) =
      sent_then (λ l. closed shape l (a ∷ events_of limit kind [] is)) b x e
  message_first b x e (Broken k ∷ is) =
      sent_then (λ l. too_large_or shape l (Failed (fault.Refused k) ∷ [])) b x e

  -- The part starts with no message.
  pub none_then : (X : Bytes → List Event) (b : Bytes) → front shape b ≡ None
      → sent limit kind b ++ X (open_part limit kind b) ≡ X b
  none_then X b e =
      let no = no_frame shape (takes limit kind) b e in
      ap (λ ys. map (event_of kind) ys ++ X (left shape b)) no.0 ∙ ap X no.1

  pub large_first : (b : Bytes) → IsTooLarge shape b → (is : List Item)
      → events_of limit kind b is ≡ Failed fault.TooLarge ∷ []
  large_first b l [] = none_then (λ l. too_large_or shape l []) b (none_large shape b l)
      ∙ large_or shape b [] l
  large_first b l (Fragment k f ∷ is) =
      go (k == kind) (large_first (b ++ f) (large_longer shape b f l) is)
    where
      go : (t : Bool) → events_of limit kind (b ++ f) is ≡ Failed fault.TooLarge ∷ []
          → cond t (events_of limit kind (b ++ f) is)
          (sent limit kind b ++ closed shape (open_part limit kind b) (events_of limit k f is))
          ≡ Failed fault.TooLarge ∷ []
      go true again = again
      go false again =
          none_then (λ l. closed shape l (events_of limit k f is)) b (none_large shape b l)
          ∙ large_closed shape b (events_of limit k f is) (takes limit kind) l
  large_first b l (Alone a ∷ is) =
      none_then (λ l. closed shape l (a ∷ events_of limit kind [] is)) b (none_large shape b l)
      ∙ large_closed shape b (a ∷ events_of limit kind [] is) (takes limit kind) l
  large_first b l (Broken k ∷ is) =
      none_then (λ l. too_large_or shape l (Failed (fault.Refused k) ∷ [])) b (none_large shape b l)
      ∙ large_or shape b (Failed (fault.Refused k) ∷ []) l

-- A fragment joins with following ones of its type.
onto_same : (limit kind k : ℕ) (b f : Bytes) (is : List Item)
    → events_of limit kind b (onto_fragment k f is) ≡ events_of limit kind b (Fragment k f ∷ is)
onto_same limit kind k b f [] = refl
onto_same limit kind k b f (Alone a ∷ is) = refl
onto_same limit kind k b f (Broken e ∷ is) = refl
onto_same limit kind k b f (Fragment j g ∷ is) = go (j == k) refl
  where
    same : (t : Bool) → k == kind ≡ t → j == k ≡ true
        → cond t (events_of limit kind (b ++ (f ++ g)) is)
        (sent limit kind b ++ closed (messages_of limit kind) (open_part limit kind b)
        (events_of limit k (f ++ g) is))
        ≡ cond t (events_of limit kind (b ++ f) (Fragment j g ∷ is))
        (sent limit kind b ++ closed (messages_of limit kind) (open_part limit kind b)
        (events_of limit k f (Fragment j g ∷ is)))
    same true at e =
        let is_kind : j == kind ≡ true = eq-eqb j kind (eqb-true j k e ∙ eqb-true k kind at) in
        ap (λ x. events_of limit kind x is) (sym (append_assoc b f g))
        ∙ ap (λ t. cond t (events_of limit kind ((b ++ f) ++ g) is)
        (sent limit kind (b ++ f) ++ closed (messages_of limit kind) (open_part limit kind (b ++ f))
        (events_of limit j g is))) (sym is_kind)
    same false at e =
        ap (λ t. sent limit kind b ++ closed (messages_of limit kind) (open_part limit kind b)
        (cond t (events_of limit k (f ++ g) is) (sent limit k f
        ++ closed (messages_of limit k) (open_part limit k f) (events_of limit j g is)))) (sym e)

    go : (t : Bool) → j == k ≡ t → events_of limit kind b
        (cond t (Fragment k (f ++ g) ∷ is) (Fragment k f ∷ Fragment j g ∷ is))
        ≡ events_of limit kind b (Fragment k f ∷ Fragment j g ∷ is)
    go true e = same (k == kind) refl e
    go false e = refl

pub joined_same : (limit kind : ℕ) (b : Bytes) (is : List Item)
    → events_of limit kind b (joined_items is) ≡ events_of limit kind b is
joined_same limit kind b [] = refl
joined_same limit kind b (Fragment k f ∷ is) =
    onto_same limit kind k b f (joined_items is)
    ∙ ap (λ es. cond (k == kind) es (sent limit kind b
    ++ closed (messages_of limit kind) (open_part limit kind b)
    (events_of limit k f (joined_items is))))
    (joined_same limit kind (b ++ f) is)
    ∙ ap (λ es. cond (k == kind) (events_of limit kind (b ++ f) is)
    (sent limit kind b ++ closed (messages_of limit kind) (open_part limit kind b) es)) (joined_same
    limit k f is)
joined_same limit kind b (Alone a ∷ is) =
    ap (λ es. sent limit kind b ++ closed (messages_of limit kind)
    (open_part limit kind b) (a ∷ es))
    (joined_same limit kind [] is)
joined_same limit kind b (Broken e ∷ is) = refl

pub same_joined : (limit kind : ℕ) (part : Bytes) (is js : List Item)
    → joined_items is ≡ joined_items js
    → events_of limit kind part is ≡ events_of limit kind part js
same_joined limit kind part is js same =
    sym (joined_same limit kind part is) ∙ ap (events_of limit kind part) same
    ∙ joined_same limit kind part js
