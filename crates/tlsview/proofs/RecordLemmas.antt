-- Records in order.
use Rattle.std.proofs.Common.{
  ◌≡◌,
  ℕ,
  zero,
  suc,
  ◌<◌,
  ◌||◌,
  Bool,
  List,
  [],
  ◌++◌,
  length,
  Result,
  Ok,
  Err,
  refl,
  sym,
  ◌∙◌,
  ap,
  subst,
  arith,
  append_assoc,
  append-nil,
}
use Rattle.layouts.specs.Bytes.{Bytes}
use Rattle.layouts.specs.Meaning.{Answer, Refusal, Broken, Lacks}
use Rattle.layouts.specs.Reading.{reading}
use Rattle.layouts.specs.declared.result.ErrorKind.TheVariants.{TooLarge}
use Rattle.tls_records.specs.Record.{RawRecord, raw_record}
use Rattle.tls_states.specs.declared.state.TlsState.{TlsState}
use Rattle.tls_stream.specs.Frames.{FrontTaken, IsTooLarge, front}
use Rattle.tls_stream.specs.Records.{front_of, record_frame}
use Rattle.tls_stream.proofs.RawRecordLemmas.{front_is_read, large_stays, record_takes}
use Rattle.tlsview.specs.Fault.{Fault, Refused}
use Rattle.tlsview.specs.Out.{
  Content,
  Half,
  Part,
  content_of,
  content_text,
  content_part,
  record_part,
  records_part,
  half_part,
  half_behind,
  state_behind,
  cipher_behind,
}
use Rattle.tlsview.specs.Shown.{IsShown, IsNext}
use Rattle.tlsview.specs.declared.direction.LineDirection.{LineDirection}
use Rattle.tlsview.specs.declared.records.NextRecord as rust_next
use Rattle.tlsview.specs.declared.records.NextRecord.TheVariants as next

abbrev then_part : List ℕ → Part Half → Part Half
then_part text p = (text ++ p.0, p.1)

same_part : (d : LineDirection) (h : Half) (f g : Half → Part Half)
    → ((k : Half) → length k.left < length h.left → f k ≡ g k)
    → record_part d h (reading raw_record h.left) f ≡ record_part d h (reading raw_record h.left) g
same_part d h f g same = go (reading raw_record h.left) refl
  where
    held : (x : RawRecord × Bytes) (c : Result Content Refusal) → reading raw_record h.left ≡ Ok x
        → content_part d h x.1 c f ≡ content_part d h x.1 c g
    held x (Ok c) e = ap (then_part (content_text d c))
        (same (half_behind d h c x.1) (omega (arith, record_takes h.left x.1 x.0 e)))
    held x (Err e) read = refl

    go : (a : Answer RawRecord) → reading raw_record h.left ≡ a
        → record_part d h a f ≡ record_part d h a g
    go (Ok x) e = held x (content_of h.is_encrypted x.0) e
    go (Err (Lacks n)) e = refl
    go (Err (Broken k)) e = refl

-- the count of records doesn't matter, once it is at least the count of bytes
enough : (m n : ℕ) (d : LineDirection) (h : Half) → length h.left < m → length h.left < n
    → records_part m d h ≡ records_part n d h
enough zero n d h less more = absurd (omega (arith, less))
enough (suc m) zero d h less more = absurd (omega (arith, more))
enough (suc m) (suc n) d h less more = same_part d h (records_part m d) (records_part n d)
    (λ k short. enough m n d k (omega (arith, short, less)) (omega (arith, short, more)))

-- the records of some bytes are the next one and those after it
pub record_by_record : (d : LineDirection) (h : Half)
    → half_part d h ≡ record_part d h (reading raw_record h.left) (half_part d)
record_by_record d h = same_part d h (records_part (length h.left) d) (half_part d)
    (λ k short. enough (length h.left) (suc (length k.left)) d k short (omega arith))

abbrev half_of : Bytes → Bool → TlsState → Half
half_of b enc q = record { left = b; is_encrypted = enc; state = q }

half_then : (d : LineDirection) (h : Half) (a : Answer RawRecord) → reading raw_record h.left ≡ a
    → half_part d h ≡ record_part d h a (half_part d)
half_then d h a e = record_by_record d h ∙ ap (λ a. record_part d h a (half_part d)) e

-- One more record was printed, and removed.
pub record OneShown (d : LineDirection) (text text' : List ℕ) (h h' : Half) : Type 0 where
  pub text_is : text' ++ (half_part d h').0 ≡ text ++ (half_part d h).0
  pub ending_is : (half_part d h').1 ≡ (half_part d h).1
  pub fewer : length h'.left < length h.left

one_content : (d : LineDirection) (text text' : List ℕ) (b r new : Bytes) (enc enc' : Bool)
    (q q' : TlsState)
    (v : RawRecord) (c : Content)
    → reading raw_record b ≡ Ok (v, r) → content_of enc v ≡ Ok c → new ≡ r
    → text' ≡ text ++ content_text d c → q' ≡ state_behind d q c → enc' ≡ (enc || cipher_behind c)
    → OneShown d text text' (half_of b enc q) (half_of new enc' q')
one_content d text text' b r new enc enc' q q' v c read holds rest printed followed changed =
    let h = half_of b enc q in
    let behind : half_of new enc' q' ≡ half_behind d h c r
    = ap (λ l. half_of l enc' q') rest ∙ ap (λ t. half_of r t q') changed
    ∙ ap (λ s. half_of r (enc || cipher_behind c) s) followed in
    let step : half_part d h ≡ then_part (content_text d c) (half_part d (half_behind d h c r))
    = half_then d h (Ok (v, r)) read ∙ ap (λ k. content_part d h r k (half_part d)) holds in
    let parts : half_part d (half_of new enc' q') ≡ half_part d (half_behind d h c r) =
    ap (half_part d) behind in
    record {
      text_is =
          ap (λ t. t ++ (half_part d (half_of new enc' q')).0) printed
          ∙ append_assoc text (content_text d c) (half_part d (half_of new enc' q')).0
          ∙ ap (λ (p : Part Half). text ++ (content_text d c ++ p.0)) parts
          ∙ ap (λ (p : Part Half). text ++ p.0) (sym step);
      ending_is = ap (λ (p : Part Half). p.1) parts ∙ ap (λ (p : Part Half). p.1) (sym step);
      fewer = omega (arith, record_takes b r v read, ap length rest);
    }

pub one_shown : (d : LineDirection) (text text' : List ℕ) (b new : Bytes) (enc enc' taken : Bool)
    (q q' : TlsState)
    (n : rust_next.NextRecord) → n ≡ next.Record enc'
    → IsNext d text q text' q' enc (reading raw_record b) n
    → FrontTaken (front record_frame b) b taken new
    → OneShown d text text' (half_of b enc q) (half_of new enc' q')
one_shown d text text' b new enc enc' taken q q' n same is takes =
    go (reading raw_record b) refl
    (subst (IsNext d text q text' q' enc (reading raw_record b)) same is)
    (subst (λ a. FrontTaken a b taken new) (front_is_read b) takes)
  where
    held : (x : RawRecord × Bytes) (k : Result Content Refusal) → content_of enc x.0 ≡ k
        → reading raw_record b ≡ Ok x
        → new ≡ x.1
        → IsShown d text q text' q' enc k (next.Record enc')
        → OneShown d text text' (half_of b enc q) (half_of new enc' q')
    held x (Ok c) holds read rest s =
        one_content d text text' b x.1 new enc enc' q q' x.0 c read holds rest s.0 s.1 s.2
    held x (Err e) holds read rest s = absurd s

    go : (a : Answer RawRecord) → reading raw_record b ≡ a
        → IsNext d text q text' q' enc a (next.Record enc')
        → FrontTaken (front_of a b) b taken new
        → OneShown d text text' (half_of b enc q) (half_of new enc' q')
    go (Ok x) read s t = held x (content_of enc x.0) refl read t.1 s
    go (Err (Lacks n)) read s t = absurd s
    go (Err (Broken k)) read s t = absurd s

-- Nothing more is printed: the text, and the state then.
pub record IsLast (d : LineDirection) (text text' : List ℕ) (h : Half)
    (end : Result Half Fault) : Type 0 where
  pub text_is : text' ≡ text ++ (half_part d h).0
  pub ending_is : (half_part d h).1 ≡ end

abbrev last_part : (d : LineDirection) (text text' : List ℕ) (h : Half) (end : Result Half Fault)
    → text' ≡ text
    → half_part d h ≡ ([], end) → IsLast d text text' h end
last_part d text text' h end same is = record {
  text_is = same ∙ sym (append-nil text) ∙ ap (λ (p : Part Half). text ++ p.0) (sym is);
  ending_is = ap (λ (p : Part Half). p.1) is;
}

-- A direction with a length that is too large stays so.
pub too_large_shown : (d : LineDirection) (text : List ℕ) (b s : Bytes) (enc : Bool) (q : TlsState)
    → IsTooLarge record_frame b
    → IsLast d text text (half_of (b ++ s) enc q) (Err (Refused (Broken TooLarge)))
too_large_shown d text b s enc q large =
    last_part d text text (half_of (b ++ s) enc q) (Err (Refused (Broken TooLarge))) refl
    (half_then d (half_of (b ++ s) enc q) (Err (Broken TooLarge)) (large_stays b s large))
