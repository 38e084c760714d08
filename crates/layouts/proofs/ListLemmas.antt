-- Lists, read item by item.
use Rattle.std.proofs.Common.{
  ◌≡◌,
  ℕ,
  ◌<◌,
  ◌≤◌,
  List,
  [],
  ◌∷◌,
  ◌++◌,
  map,
  length,
  Ok,
  Err,
  cond,
  refl,
  sym,
  ◌∙◌,
  ap,
  append_assoc,
  append-nil,
}
use Rattle.std.proofs.lemmas.List.{map-append, map-id}
use Rattle.layouts.specs.Bytes.{Bytes, AreBytes}
use Rattle.layouts.specs.Layout.{Layout, list, behind}
use Rattle.layouts.specs.Meaning.{Refusal, Answer}
use Rattle.layouts.specs.Reading.{with_items, items_at, reading}
use Rattle.std.specs.Borrow.{Bor}
use Rattle.layouts.specs.Answers.{GivesOrMemory, IsNotOutOfMemory, refusal_of}
use Rattle.layouts.specs.declared.result.Error.{Error}
use Rattle.layouts.specs.declared.result.Err.{Err as Failed}
use Rattle.layouts.specs.declared.result.Err.TheVariants as failed
use Rattle.layouts.proofs.OneAnswerLemmas.{ltb_yes, ltb_no, read_allowed}
use Rattle.layouts.proofs.ItemsLemmas.{none_with, items_step}

-- what is read from b, after the items `first`, is xs followed by what is read from m
pub record ListRead {A : Type 0} (l : Layout A) (first : List A) (b : Bytes) (xs : List A)
    (m : Bytes) : Type 0 where
  pub read : ◌≡◌ {A = List A × Bytes} (
    first ++ (items_at (reading l) (length b) b).0,
    (items_at (reading l) (length b) b).1,
  ) (
    xs ++ (items_at (reading l) (length m) m).0,
    (items_at (reading l) (length m) m).1,
  )

pub list_none : {A : Type 0} (l : Layout A) (first : List A) (b : Bytes)
    → ListRead l first b first b
list_none l first b = record { read = refl }

module _ {A : Type 0} (l : Layout A) (first : List A) (b : Bytes) (xs : List A) (m : Bytes)
    (h : ListRead l first b xs m) where
  list_more : (x : A) (r : Bytes) → reading l m ≡ Ok (x, r) → length r < length m
      → ListRead l first b (xs ++ x ∷ []) r
  list_more x r e short =
      let step : items_at (reading l) (length m) m
      ≡ (x ∷ (items_at (reading l) (length r) r).0, (items_at (reading l) (length r) r).1)
      = items_step (reading l) m
      ∙ ap (λ a. with_items a (λ m. items_at (reading l) (length m) m) m) e
      ∙ ap (λ t. cond t
      (x ∷ (items_at (reading l) (length r) r).0, (items_at (reading l) (length r) r).1) ([], m))
      (ltb_yes (length r) (length m) short) in
      record {
        read = h.read ∙ ap (λ y. (xs ++ y.0, y.1)) step
            ∙ ap (λ ys. (ys, (items_at (reading l) (length r) r).1))
            (sym (append_assoc xs (x ∷ []) (items_at (reading l) (length r) r).0));
      }

  list_end : with_items (reading l m) (λ m. items_at (reading l) (length m) m) m ≡ ([], m)
      → reading (behind first (list l)) b ≡ Ok (xs, m)
  list_end e = ap Ok (h.read ∙ ap (λ y. (xs ++ y.0, y.1)) (items_step (reading l) m ∙ e)
      ∙ ap (λ ys. (ys, m)) (append-nil xs))

  -- no bytes are left
  list_over : length m ≤ 0 → reading (behind first (list l)) b ≡ Ok (xs, m)
  list_over none =
      list_end (none_with (reading l m) (λ m. items_at (reading l) (length m) m) m none)

  -- the next item can't be read, or is empty
  list_refused : (e : Refusal) → reading l m ≡ Err e
      → reading (behind first (list l)) b ≡ Ok (xs, m)
  list_refused e f = list_end (ap (λ a. with_items a (λ m. items_at (reading l) (length m) m) m) f)

  list_still : (x : A) (r : Bytes) → reading l m ≡ Ok (x, r) → length m ≤ length r
      → reading (behind first (list l)) b ≡ Ok (xs, m)
  list_still x r f long =
      list_end (ap (λ a. with_items a (λ m. items_at (reading l) (length m) m) m) f
      ∙ ap (λ t. cond t
      (x ∷ (items_at (reading l) (length r) r).0, (items_at (reading l) (length r) r).1) ([], m))
      (ltb_no (length r) (length m) long))

had_memory : (e : Failed (Error (Bor (List ℕ)))) → (e ≡ failed.OutOfMemory → ⊥) → IsNotOutOfMemory e
had_memory failed.OutOfMemory h = h refl
had_memory (failed.Incomplete n) h = tt
had_memory (failed.Error x) h = tt
had_memory (failed.Failure x) h = tt

-- The steps for the results of calls.
module _ {X A : Type 0} (view : X → A) (l : Layout A) (first : List A) (b : Bytes) where
  pub list_push : (xs : List X) (m : Bytes) (x : X) (r : Bor (List ℕ))
      → ListRead l first b (map view xs) m
      → GivesOrMemory view l m (Ok (r, x)) → length r.now < length m
      → ListRead l first b (map view (xs ++ x ∷ [])) r.now
  list_push xs m x r h g short =
      rw map-append (list_more l first b (map view xs) m h (view x) r.now (g.read tt) short)

  -- v holds all items that were read, and o is the rest
  module _ {V : Type 0} (views : V → List A) (v : V) (o : Bor (List ℕ)) (are : AreBytes b)
      (h : ListRead l first b (views v) o.now) where
    gives_list : reading (behind first (list l)) b ≡ Ok (views v, o.now)
        → GivesOrMemory views (behind first (list l)) b (Ok (o, v))
    gives_list e = record {
      answers = λ _. tt;
      read = λ _. e;
      allowed =
          λ _. read_allowed (behind first (list l)) b _ are e;
    }

    pub list_ends_over : length o.now ≤ 0
        → GivesOrMemory views (behind first (list l)) b (Ok (o, v))
    list_ends_over none = gives_list (list_over l first b (views v) o.now h none)

    pub list_ends_still : (x : X) (r : Bor (List ℕ)) → GivesOrMemory view l o.now (Ok (r, x))
        → length o.now ≤ length r.now → GivesOrMemory views (behind first (list l)) b (Ok (o, v))
    list_ends_still x r g long =
        gives_list (list_still l first b (views v) o.now h (view x) r.now (g.read tt) long)

    pub list_ends_refused : (e : Failed (Error (Bor (List ℕ)))) → (e ≡ failed.OutOfMemory → ⊥)
        → GivesOrMemory view l o.now (Err e)
        → GivesOrMemory views (behind first (list l)) b (Ok (o, v))
    list_ends_refused e had g = gives_list (list_refused l first b (views v) o.now h (refusal_of e)
        (g.read (had_memory e had)))

-- items that are their own views
pub map_same : (xs : List ℕ) → map (λ n. n) xs ≡ xs
map_same xs = map-id xs
