use Rattle.std.proofs.Common.{◌≤◌, ◌<◌, ◌++◌, ◌∷◌, length, take, get_or, ap, sym, ◌∙◌, refl, subst, arith, append_assoc, append-nil}
use Rattle.std.specs.List.{flat_map}
use Rattle.sha2.specs.Hashers.{Holds256}
use Rattle.tls_fingerprints.specs.Numbers.{four_digits}
use Rattle.tls_fingerprints.proofs.JoinLemmas.{each_next, joined_all}
use Rattle.tls_fingerprints.proofs.feeding.feed_hex_list.Goals as goal

pub loop-n-init : goal.loop-n-init
loop-n-init c = λ m held. subst (Holds256 c.update.new.self) (sym (append-nil m)) held

pub loop-n-preserved : goal.loop-n-preserved
loop-n-preserved c = λ m held.
    let os = c.in-Some.others.now in
    let i = c.loop-n.n-index in
    let short : c.loop-n.n-index < length c.in-Some.others.now = omega arith in
    let front = m ++ flat_map (λ n. 44 ∷ four_digits n) (take i os) in
    subst (Holds256 c.update-in-loop-n.new.self)
    (ap (λ t. front ++ t) c.led_digits-digits.ensures
    ∙ append_assoc m (flat_map (λ n. 44 ∷ four_digits n) (take i os))
    (44 ∷ four_digits (get_or os i 0))
    ∙ ap (λ t. m ++ t) (sym (each_next (λ n. 44 ∷ four_digits n) os i 0 short)))
    (c.update-in-loop-n.ensures front (c.loop-n.invariant m held))

pub returns : goal.returns
returns c = λ m held.
    let over : length c.in-Some.others.now ≤ c.loop-n.n-index = omega arith in
    let front = m ++ four_digits c.in-Some.first.now in
    subst (Holds256 c.loop-n.text)
    (joined_all 44 four_digits c.in-Some.first.now c.in-Some.others.now c.args.numbers.now
    c.loop-n.n-index m front
    (front ++ flat_map (λ n. 44 ∷ four_digits n) (take c.loop-n.n-index c.in-Some.others.now))
    c.in-Some.ensures.cases.0 refl refl over)
    (c.loop-n.invariant front
    (subst (Holds256 c.update.new.self) (ap (λ t. m ++ t) c.four_digits-digits.ensures)
    (c.update.ensures m held)))
