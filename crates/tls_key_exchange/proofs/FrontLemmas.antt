-- A prefix of the bytes, however it was cut off.
use Rattle.std.proofs.Common.{◌≡◌, ◌∙◌, ap, sym, refl, ℕ, ◌-◌, ◌≤◌, cond, [], ◌++◌, length, take, drop, Ok, Err}
use Rattle.std.proofs.lemmas.List.{take-append-drop, length-take-le}
use Rattle.std.specs.Borrow.{Bor}
use Rattle.layouts.specs.Bytes.{Bytes}
use Rattle.layouts.specs.Layout.{block}
use Rattle.layouts.specs.Meaning.{Allows, Lacks}
use Rattle.layouts.specs.Reading.{split_at}
use Rattle.layouts.specs.Answers.{Gives}
use Rattle.layouts.proofs.OneAnswerLemmas.{ltb_no}

-- the first n bytes as the value, and the others as the rest
pub front_read : {X : Type 0} (view : X → Bytes) (n : ℕ) (b : Bytes) (x : X) (r : Bor Bytes)
    → n ≤ length b
    → view x ≡ take n b → r.now ≡ drop n b → Gives view (block n) b (Ok (r, x))
unfolding Allows split_at
front_read view n b x r enough front back = record {
  answers = tt;
  read =
      ap (λ t. cond t (Err (Lacks (n - length b))) (Ok (take n b, drop n b)))
      (ltb_no (length b) n enough)
      ∙ (ap (λ k. Ok (k, drop n b)) (sym front) ∙ ap (λ k. Ok (view x, k)) (sym back));
  allowed = (
    [],
    (
      ap length front ∙ length-take-le n b enough,
      sym (take-append-drop n b)
          ∙ (ap (λ k. k ++ drop n b) (sym front) ∙ ap (λ k. view x ++ k) (sym back)),
      refl,
    ),
  );
}
