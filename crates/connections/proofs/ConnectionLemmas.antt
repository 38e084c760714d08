-- What a segment does to a connection.
use Rattle.std.proofs.Common.{◌≡◌, ◌∙◌, ap, refl, subst, sym, true, false, Option, Result, Ok, Err}
use Rattle.std.specs.Prelude.{OnErr, OnOk}
use Rattle.connections.specs.Segment.{begins}
use Rattle.connections.specs.Connection.{adds_nothing, counted, counted_from, part_by, judgement_of, noting, noting_from, side_of, without_bytes, Accepts, AcceptsAnswer, Begins, IsBegunBy, LeavesOut, LeavesOutPart, LeavesOutSyn, PutsData, PutsPart, PutsSyn}
use Rattle.connections.specs.declared.connection.Beginning.{Beginning}
use Rattle.connections.specs.declared.connection.Connection.{Connection}
use Rattle.connections.specs.declared.connection.Side.{Side}
use Rattle.connections.specs.declared.connection.Side.TheVariants.{Originator, Responder}
use Rattle.connections.specs.declared.five_tuple.End.{End}
use Rattle.connections.specs.declared.receiver.Judgement.{Judgement}
use Rattle.connections.specs.declared.segment.Segment.{Segment}

-- What follows from a value or from an error also follows for a result of either kind.

pub where_ok : {A E P Q : Type 0} → (r : Result A E) → (P → Q) → OnOk r P → OnOk r Q
where_ok (Ok a) f h = f h
where_ok (Err e) f h = _

pub where_err : {A E P Q : Type 0} → (r : Result A E) → (P → Q) → OnErr r P → OnErr r Q
where_err (Ok a) f h = _
where_err (Err e) f h = f h

-- A segment's side stays the same when it is counted.
same_side : {T : Type 0} → (side : Side) (s : Segment) (c : Connection T) (sender : End)
    → side_of (counted_from side s c) sender ≡ side_of c sender
same_side Originator s c sender = refl
same_side Responder s c sender = refl

module _ {T : Type 0} (side : Side) (s : Segment) (old : Connection T) (j : Judgement)
    (mid noted new : Connection T)
    (sent : side ≡ side_of old s.source) (judged : j ≡ judgement_of s old)
    (counts : mid ≡ counted_from side s old)
    (notes : noted ≡ noting_from side j s mid) where
  counts_its : mid ≡ counted s old
  counts_its = counts ∙ ap (λ x. counted_from x s old) sent

  is_its : side ≡ side_of mid s.source
  is_its = sent ∙ (sym (same_side side s old s.source) ∙ ap (λ c. side_of c s.source) (sym counts))

  behind : noted ≡ noting (judgement_of s old) s (counted s old)
  behind =
      notes ∙ ap (λ x. noting_from x j s mid) is_its ∙ ap (λ x. noting x s mid) judged
      ∙ ap (noting (judgement_of s old) s) counts_its

  pub syn_accepted : begins s ≡ true → PutsSyn j s noted new → Accepts s old new
  syn_accepted b p =
      subst (λ x. PutsPart x (judgement_of s old) s (noting (judgement_of s old) s (counted s old))
      new) (sym b)
      (subst (λ m. PutsSyn (judgement_of s old) s m new) behind
      (subst (λ x. PutsSyn x s noted new) judged p))

  pub syn_left_out : begins s ≡ true → LeavesOutSyn j s noted new → LeavesOut s old new
  syn_left_out b p =
      subst (λ x. LeavesOutPart x (judgement_of s old) s
      (noting (judgement_of s old) s (counted s old)) new) (sym b)
      (subst (λ m. LeavesOutSyn (judgement_of s old) s m new) behind
      (subst (λ x. LeavesOutSyn x s noted new) judged p))

  pub part_accepted : begins s ≡ false → PutsData (adds_nothing j s) (part_by j s) noted new
      → Accepts s old new
  part_accepted b p =
      subst (λ x. PutsPart x (judgement_of s old) s (noting (judgement_of s old) s (counted s old))
      new) (sym b)
      (subst (λ m. PutsData (adds_nothing (judgement_of s old) s) (part_by (judgement_of s old) s) m
      new) behind
      (subst (λ x. PutsData (adds_nothing x s) (part_by x s) noted new) judged p))

  pub part_left_out : begins s ≡ false → new ≡ without_bytes (part_by j s) noted
      → LeavesOut s old new
  part_left_out b p =
      subst (λ x. LeavesOutPart x (judgement_of s old) s
      (noting (judgement_of s old) s (counted s old)) new) (sym b)
      (p ∙ ap (λ x. without_bytes (part_by x s) noted) judged
      ∙ ap (without_bytes (part_by (judgement_of s old) s)) behind)

module _ {T : Type 0} where
  pub began : (b : Beginning) (silent begun its : Connection T) → IsBegunBy b.first silent
      → Accepts b.first silent begun
      → (o : Option Segment) → o ≡ b.answer → AcceptsAnswer o begun its → Begins b its
  began b silent begun its i f o h a = record {
    silent = silent;
    begun = begun;
    is_silent = i;
    first = f;
    answer = subst (λ x. AcceptsAnswer x begun its) h a;
  }
