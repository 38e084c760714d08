-- Which connections stay.
use Rattle.std.proofs.Common.{◌≡◌, refl, sym, ap, ◌∙◌, subst, Option, Some, None, List, [], ◌∷◌, Bool, true, false, ℕ, ◌-◌}
use Rattle.std.specs.Prelude.{if◌then◌else◌, is_some, OnErr, OnOk, Result, Ok, Err}
use Rattle.std.specs.Map.{set_value}
use Rattle.connections.proofs.TableLemmas.{at-others, others-first, written, written_promoted}
use Rattle.connections.specs.Datagram.{five_tuple_of_datagram}
use Rattle.connections.specs.FiveTuple.{is_five_tuple}
use Rattle.connections.specs.Lends.{with_first}
use Rattle.connections.specs.Memory.{IsSettled}
use Rattle.connections.specs.Segment.{five_tuple_of}
use Rattle.connections.specs.Table.{BeginsAfter, IsAnewAt, Replaced, Table, at, changing_at, ended, others, promoting, weight_of, with_other, without_ended}
use Rattle.connections.specs.declared.connection.Connection.{Connection}
use Rattle.connections.specs.declared.datagram.Datagram.{Datagram}
use Rattle.connections.specs.declared.five_tuple.FiveTuple.{FiveTuple}
use Rattle.connections.specs.declared.segment.Segment.{Segment}
use Rattle.log_connections.specs.Capacity.{most_bytes_of}
use Rattle.log_connections.specs.Log.{KeepsOthers, Settles}
use Rattle.log_connections.specs.declared.analysis.TlsAnalysis.{TlsAnalysis}

module _ {X : Type 0} (e : FiveTuple) where
  written_others : (xs : List (FiveTuple × X)) (w : X)
      → others e (set_value (is_five_tuple e) xs w) ≡ others e xs
  written_others [] w = refl
  written_others (f ∷ xs) w = (elim (is_five_tuple e f.0) as
      (λ y. is_five_tuple e f.0 ≡ y
      → others e (set_value (is_five_tuple e) (f ∷ xs) w) ≡ others e (f ∷ xs)) [
        | true ↦ λ t. rw (t, t) refl
        | false ↦ λ t. rw (t, t) (ap (λ l. f ∷ l) (written_others xs w))
      ]) refl

  pub keeps_same : (xs ys : List (FiveTuple × X)) → ys ≡ xs → KeepsOthers e xs ys
  keeps_same xs ys is = record { same = λ f apart. ap (at f) is }

  pub keeps_then : (xs ys zs : List (FiveTuple × X)) → KeepsOthers e xs ys → KeepsOthers e ys zs
      → KeepsOthers e xs zs
  keeps_then xs ys zs h k = record { same = λ f apart. k.same f apart ∙ h.same f apart }

  pub keeps_without : (xs : List (FiveTuple × X)) → KeepsOthers e xs (others e xs)
  keeps_without xs = record { same = λ f apart. at-others e f apart xs }

  pub keeps_by_others : (xs ys : List (FiveTuple × X)) → others e ys ≡ others e xs
      → KeepsOthers e xs ys
  keeps_by_others xs ys is = record {
    same = λ f apart. sym (at-others e f apart ys) ∙ ap (at f) is ∙ at-others e f apart xs;
  }

  -- A value is written, in place or first.
  pub keeps_written : (xs : List (FiveTuple × X)) (w : X)
      → KeepsOthers e xs (set_value (is_five_tuple e) xs w)
  keeps_written xs w =
      keeps_by_others xs (set_value (is_five_tuple e) xs w) (written_others xs w)

  pub keeps_put : (xs ys : List (FiveTuple × X)) (w : X) → ys ≡ (e, w) ∷ others e xs
      → KeepsOthers e xs ys
  keeps_put xs ys w is =
      keeps_by_others xs ys (ap (others e) is ∙ others-first e (others e xs) w)

-- By the five-tuple that a call returned.
pub keeps_at : {X : Type 0} (e f : FiveTuple) (xs ys : List (FiveTuple × X)) → f ≡ e
    → KeepsOthers f xs ys → KeepsOthers e xs ys
keeps_at e f xs ys is h = subst (λ g. KeepsOthers g xs ys) is h

module _ {K : Type 0} (e : FiveTuple) where
  pub keeps_other : (t : Table (TlsAnalysis K)) (w : Connection (TlsAnalysis K))
      → KeepsOthers e t.live (with_other e w t).live
  keeps_other t w = keeps_written e t.live w

  pub keeps_promoted : (t : Table (TlsAnalysis K)) (c w : Connection (TlsAnalysis K))
      → Some c ≡ at e t.live → KeepsOthers e t.live (promoting e (with_other e w t)).live
  keeps_promoted t c w found =
      keeps_put e t.live (promoting e (with_other e w t)).live w
      (written_promoted e t.live c w (sym found))

  pub keeps_first : (t : Table (TlsAnalysis K)) (c w : Connection (TlsAnalysis K))
      → Some c ≡ at e t.live → KeepsOthers e t.live (with_first e w t).live
  keeps_first t c w found =
      keeps_put e t.live (with_first e w t).live w (written e t.live c w (sym found))

  pub keeps_ended : (time : ℕ) (t : Table (TlsAnalysis K))
      → KeepsOthers e t.live (without_ended e time t).live
  keeps_ended time t = go (is_some (ended e t))
    where
      go : (b : Bool) → KeepsOthers e t.live (if b then record {
        live = others e t.live;
        closed = (e, time) ∷ others e t.closed;
        held =
            t.held - weight_of (at e t.live);
      } else t).live
      go true = keeps_without e t.live
      go false = keeps_same e t.live t.live refl

  pub keeps_changed : (f : Connection (TlsAnalysis K) → Connection (TlsAnalysis K))
      (o : Option (Connection (TlsAnalysis K))) (t : Table (TlsAnalysis K))
      → KeepsOthers e t.live (changing_at e f o t).live
  keeps_changed f None t = keeps_same e t.live t.live refl
  keeps_changed f (Some c) t = keeps_written e t.live (f c)

  pub keeps_anew : (time : ℕ) (o : Option (Connection (TlsAnalysis K)))
      (old new : Table (TlsAnalysis K)) → IsAnewAt time e o old new
      → KeepsOthers e old.live new.live
  keeps_anew time None old new same = keeps_same e old.live new.live (ap (λ t. t.live) same)
  keeps_anew time (Some c) old new anew =
      subst (λ t. KeepsOthers e old.live t.live) (sym anew.2) (keeps_written e old.live anew.0)

module _ {K : Type 0} (M : K → ℕ) (e : FiveTuple) where
  keeps_updated : (o : Option (Connection (TlsAnalysis K))) (old new : Table (TlsAnalysis K))
      → IsSettled (most_bytes_of M) e o old new → KeepsOthers e old.live new.live
  keeps_updated None old new same = keeps_same e old.live new.live (ap (λ t. t.live) same)
  keeps_updated (Some c) old new is =
      subst (λ t. KeepsOthers e old.live t.live) (sym is.1.stands)
      (keeps_written e old.live is.0)

  pub keeps_settled : (due : Bool) (old new : Table (TlsAnalysis K)) → Settles M due e old new
      → KeepsOthers e old.live new.live
  keeps_settled false old new same = keeps_same e old.live new.live (ap (λ t. t.live) same)
  keeps_settled true old new is = keeps_updated (at e old.live) old new is

-- What a call did, whether it failed or not.
module _ {K A E : Type 0} (e : FiveTuple) (r : Result A E)
    (old one other new : Table (TlsAnalysis K)) where
  pub keeps_either : KeepsOthers e old.live one.live → KeepsOthers e old.live other.live
      → OnOk r (new ≡ one) → OnErr r (new ≡ other) → KeepsOthers e old.live new.live
  keeps_either h k ok err = go r ok err
    where
      go : (q : Result A E) → OnOk q (new ≡ one) → OnErr q (new ≡ other)
          → KeepsOthers e old.live new.live
      go (Ok x) is _ = subst (λ t. KeepsOthers e old.live t.live) (sym is) h
      go (Err x) _ is = subst (λ t. KeepsOthers e old.live t.live) (sym is) k

module _ {K : Type 0} where
  pub keeps_replaced : (s : Segment) (old new : Table (TlsAnalysis K))
      (o : Option (Connection (TlsAnalysis K))) → Replaced s old new o
      → KeepsOthers (five_tuple_of s) old.live new.live
  keeps_replaced s old new None is =
      keeps_same (five_tuple_of s) old.live new.live (ap (λ t. t.live) is.0)
  keeps_replaced s old new (Some c) is =
      keeps_put (five_tuple_of s) old.live new.live is.its (ap (λ t. t.live) is.stands)

  pub keeps_after : (d : Datagram) (o : Option (Connection (TlsAnalysis K)))
      (old new : Table (TlsAnalysis K)) → BeginsAfter d o old new
      → KeepsOthers (five_tuple_of_datagram d) old.live new.live
  keeps_after d None old new same =
      keeps_same (five_tuple_of_datagram d) old.live new.live (ap (λ t. t.live) same)
  keeps_after d (Some c) old new is =
      subst (λ t. KeepsOthers (five_tuple_of_datagram d) old.live t.live) (sym is.2)
      (keeps_written (five_tuple_of_datagram d) old.live is.0)
