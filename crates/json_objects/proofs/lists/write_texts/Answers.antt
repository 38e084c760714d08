use Rattle.std.proofs.Common.{◌≡◌, ◌++◌, ◌∷◌, [], List, map, ap, sym, refl, ◌∙◌, append_assoc}
use Rattle.std.proofs.lemmas.List.{take_all}
use Rattle.std.proofs.lemmas.Result.{on_ok_weaker}
use Rattle.std.specs.String.{string_bytes}
use Rattle.json.specs.Token.{string, begin_array, end_array}
use Rattle.json_objects.proofs.ListTokens.{strings-tokens}
use Rattle.json_objects.proofs.lists.write_texts.Goals as goal

pub returns-clause-ok : goal.returns-clause-ok
returns-clause-ok c =
    let ns = c.args.texts.now in
    let tokens = map (λ n. string (string_bytes n)) ns in
    let all = ap (λ xs. map (λ n. string (string_bytes n)) xs)
    (take_all c.loop-one.one-index ns c.loop-one-test.false) in
    let old = c.args.out.now.tokens in
    on_ok_weaker c.end_array.result
    (λ e. e ∙ ap (λ ts. ts ++ end_array ∷ [])
    (c.loop-one.invariant.tokens ∙ (λ i. c.in_ok-begin_array.ensures.ok i ++ all i))
    ∙ append_assoc (old ++ begin_array ∷ []) tokens (end_array ∷ [])
    ∙ append_assoc old (begin_array ∷ []) (tokens ++ end_array ∷ [])
    ∙ ap (λ ts. old ++ begin_array ∷ ts) (sym (strings-tokens ns)))
    c.end_array.ensures.ok
