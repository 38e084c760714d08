-- Dropped and pending packets change only counts and the pending segments.
use Rattle.std.proofs.Common.{◌∙◌, ap, refl, ℕ, Bool, true, false, Option, None, Some}
use Rattle.connections.specs.Connection.{belying_from, counting_had, counting_syn, dropped_from, dropping, dropping_if, heeding, heeding_if, is_taken, judgement_of, keeps_syn, lacks_of, left_by, left_if, pending_if, reached_at, side_of, taken_from, with_syn, with_waiting, is_beyond_in, without_earlier, without_first, without_pending, ChangesCountsAlone}
use Rattle.connections.specs.Segment.{answers}
use Rattle.connections.specs.Waiting.{has_room, taken_syn, without_syn, Kept}
use Rattle.std.specs.Prelude.{length}
use Rattle.connections.specs.declared.connection.Connection.{Connection}
use Rattle.connections.specs.declared.connection.Side.{Side}
use Rattle.connections.specs.declared.connection.Side.TheVariants.{Originator, Responder}
use Rattle.connections.specs.declared.receiver.DropReason.{DropReason}
use Rattle.connections.specs.declared.segment.Segment.{Segment}

module _ {T : Type 0} where
  then_alone : (a b c : Connection T) → ChangesCountsAlone a b → ChangesCountsAlone b c
      → ChangesCountsAlone a c
  then_alone a b c h k = k ∙ ap {A = Connection T} (λ x. record x {
    waiting = c.waiting;
    originator_dropped = c.originator_dropped;
    responder_dropped = c.responder_dropped;
  }) h

  from_alone : (side : Side) (r : DropReason) (c : Connection T)
      → ChangesCountsAlone c (dropped_from side r c)
  from_alone Originator r c = refl
  from_alone Responder r c = refl

  syn_alone : (o : Option Kept) (r : DropReason) (c : Connection T)
      → ChangesCountsAlone c (counting_syn o r c)
  syn_alone None r c = refl
  syn_alone (Some k) r c = from_alone (side_of c k.header.source) r c

  pub earlier_alone : (r : DropReason) (s : Segment) (c : Connection T)
      → ChangesCountsAlone c (without_earlier r s c)
  earlier_alone r s c =
      let mid = record c { waiting = without_syn (answers s) c.waiting } in
      then_alone c mid (without_earlier r s c) refl
      (syn_alone (taken_syn (answers s) c.waiting) r mid)

  dropping_if_alone : (b : Bool) (r : DropReason) (s : Segment) (c : Connection T)
      → ChangesCountsAlone c (dropping_if b r s c)
  dropping_if_alone false r s c = from_alone (side_of c s.source) r c
  dropping_if_alone true r s c =
      then_alone c (without_earlier r s c) (with_syn r s (without_earlier r s c))
      (earlier_alone r s c) refl

  pub dropping_alone : (r : DropReason) (s : Segment) (c : Connection T)
      → ChangesCountsAlone c (dropping r s c)
  dropping_alone r s c = dropping_if_alone (keeps_syn r s c) r s c

  pending_if_alone : (b : Bool) (r : DropReason) (s : Segment) (c : Connection T)
      → ChangesCountsAlone c (pending_if b r s c)
  pending_if_alone true r s c = refl
  pending_if_alone false r s c = from_alone (side_of c s.source) r c

  pub waiting_alone : (r : DropReason) (s : Segment) (c : Connection T)
      → ChangesCountsAlone c (with_waiting r s c)
  waiting_alone r s c = pending_if_alone
      (has_room (length s.payload.now) (Some r) (is_beyond_in s c) c.waiting) r s c

  belying_alone : (side : Side) (n : ℕ) (s : Segment) (c : Connection T)
      → ChangesCountsAlone c (belying_from side n s c)
  belying_alone Originator n s c = refl
  belying_alone Responder n s c = refl

  heeding_if_alone : (b : Bool) (s : Segment) (c : Connection T)
      → ChangesCountsAlone c (heeding_if b s c)
  heeding_if_alone true s c = belying_alone (side_of c s.source) (reached_at s c) s c
  heeding_if_alone false s c = refl

  had_alone : (o : Option DropReason) (side : Side) (c : Connection T)
      → ChangesCountsAlone c (counting_had o side c)
  had_alone None side c = refl
  had_alone (Some r) side c = from_alone side r c

  left_if_alone : (b : Bool) (k : Kept) (c : Connection T) → ChangesCountsAlone c (left_if b k c)
  left_if_alone true k c = refl
  left_if_alone false k c = had_alone k.reason (side_of c k.header.source) c

  left_alone : (o : Option Kept) (s : Segment) (c : Connection T)
      → ChangesCountsAlone c (left_by o s c)
  left_alone None s c = refl
  left_alone (Some k) s c = left_if_alone (lacks_of k c) k c

  pub pending_alone : (s : Segment) (c : Connection T) → ChangesCountsAlone c (without_pending s c)
  pending_alone s c =
      let heeds = heeding s c in let mid = without_first s heeds in
      then_alone c heeds (without_pending s c)
      (heeding_if_alone (is_taken (judgement_of s c)) s c)
      (then_alone heeds mid (without_pending s c) refl
      (left_alone (taken_from s heeds) s mid))
