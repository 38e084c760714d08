use Rattle.std.proofs.Common.{◌++◌, ◌∷◌, [], map, ap, sym, decimal, ◌∙◌, append_assoc}
use Rattle.std.proofs.lemmas.List.{take_all}
use Rattle.std.proofs.lemmas.Result.{on_ok_weaker}
use Rattle.json.specs.Token.{number, begin_array, end_array}
use Rattle.json_objects.specs.Data.{capped}
use Rattle.json_objects.proofs.ListTokens.{numbers-tokens}
use Rattle.json_objects.proofs.lists.write_numbers.Goals as goal

pub returns-clause-ok : goal.returns-clause-ok
returns-clause-ok c =
    let ns = c.args.numbers.now in
    let tokens = map (λ n. number (decimal (capped n))) ns in
    let all = ap (λ xs. map (λ n. number (decimal (capped n))) xs)
    (take_all c.loop-one.one-index ns c.loop-one-test.false) in
    let old = c.args.out.now.tokens in
    on_ok_weaker c.end_array.result
    (λ e. e ∙ ap (λ ts. ts ++ end_array ∷ [])
    (c.loop-one.invariant.tokens ∙ (λ i. c.in_ok-begin_array.ensures.ok i ++ all i))
    ∙ append_assoc (old ++ begin_array ∷ []) tokens (end_array ∷ [])
    ∙ append_assoc old (begin_array ∷ []) (tokens ++ end_array ∷ [])
    ∙ ap (λ ts. old ++ begin_array ∷ ts) (sym (numbers-tokens ns)))
    c.end_array.ensures.ok
