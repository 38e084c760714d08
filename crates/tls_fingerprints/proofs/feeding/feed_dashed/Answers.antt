use Rattle.std.proofs.Common.{◌≤◌, ◌<◌, ◌++◌, ◌∷◌, length, take, get_or, ap, sym, ◌∙◌, refl, subst, arith, append_assoc, append-nil, decimal}
use Rattle.std.specs.List.{flat_map}
use Rattle.md5.specs.Md5.{Holds}
use Rattle.tls_fingerprints.proofs.JoinLemmas.{each_next, joined_all}
use Rattle.tls_fingerprints.proofs.feeding.feed_dashed.Goals as goal

pub loop-n-init : goal.loop-n-init
loop-n-init c = λ m held. subst (Holds c.feed_decimal.new.text) (sym (append-nil m)) held

pub loop-n-preserved : goal.loop-n-preserved
loop-n-preserved c = λ m held.
    let os = c.in-Some.others.now in
    let i = c.loop-n.n-index in
    let short : c.loop-n.n-index < length c.in-Some.others.now = omega arith in
    subst (Holds c.feed_next.new.text)
    (append_assoc m (flat_map (λ n. 45 ∷ decimal n) (take i os)) (45 ∷ decimal (get_or os i 0))
    ∙ ap (λ t. m ++ t) (sym (each_next (λ n. 45 ∷ decimal n) os i 0 short)))
    (c.feed_next.ensures (m ++ flat_map (λ n. 45 ∷ decimal n) (take i os))
    (c.loop-n.invariant m held))

pub returns : goal.returns
returns c = λ m held.
    let over : length c.in-Some.others.now ≤ c.loop-n.n-index = omega arith in
    subst (Holds c.loop-n.text)
    (joined_all 45 decimal c.in-Some.first.now c.in-Some.others.now c.args.numbers.now
    c.loop-n.n-index m
    (m ++ decimal c.in-Some.first.now)
    ((m ++ decimal c.in-Some.first.now) ++ flat_map (λ n. 45 ∷ decimal n)
    (take c.loop-n.n-index c.in-Some.others.now))
    c.in-Some.ensures.cases.0 refl refl over)
    (c.loop-n.invariant (m ++ decimal c.in-Some.first.now) (c.feed_decimal.ensures m held))
