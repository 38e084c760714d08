use Rattle.std.proofs.Common.{◌≡◌, ◌+◌, ◌-◌, drop, take, sym, ◌∙◌, ap, arith}
use Rattle.segments.specs.Cells.{known}
use Rattle.segments.proofs.MarkLemmas.{known_marked}
use Rattle.segments.proofs.PartLemmas.{all_in_part, none_in_part, part_is, part_length}
use Rattle.segments.proofs.page.Page.known.Goals as goal

pub returns-clause-is : goal.returns-clause-is
returns-clause-is c =
    let i = c.self.inside in
    let a = c.args.from in
    let n = c.args.n in
    let k = a + n - a in
    let l = c.self.invariant in
    let same : k ≡ n = omega arith in
    let fits = c.requires in
    c.count_marks.ensures.is
    ∙ sym (known_marked (take k (drop a i.marks)) (take k (drop a i.bytes))
    (part_length i.bytes a k (omega (arith, fits, same, l.bytes_long))
    ∙ sym (part_length i.marks a k (omega (arith, fits, same, l.marks_long)))))
    ∙ ap known (part_is i.marks i.bytes a k n same)
    ∙ ap (λ v. known (take n (drop a v))) c.self.view_is

pub returns-then-self-eq0-clause-is : goal.returns-then-self-eq0-clause-is
returns-then-self-eq0-clause-is c =
    let i = c.self.inside in
    let l = c.self.invariant in
    let fits = c.requires in
    none_in_part i.marks i.bytes c.args.from c.args.n (omega (arith, l.marks_long, fits))
    (l.bytes_long ∙ sym l.marks_long) (sym l.held_is ∙ c.if-self-eq0.true)
    ∙ ap (λ v. known (take c.args.n (drop c.args.from v))) c.self.view_is

pub returns-then-self-eq-PAGE-clause-is : goal.returns-then-self-eq-PAGE-clause-is
returns-then-self-eq-PAGE-clause-is c =
    let i = c.self.inside in
    let l = c.self.invariant in
    let fits = c.requires in
    all_in_part i.marks i.bytes c.args.from c.args.n (omega (arith, l.marks_long, fits))
    (l.bytes_long ∙ sym l.marks_long) (sym l.held_is ∙ c.if-self-eq-PAGE.true ∙ sym l.marks_long)
    ∙ ap (λ v. known (take c.args.n (drop c.args.from v))) c.self.view_is
