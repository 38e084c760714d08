use Rattle.std.proofs.Common.{◌≡◌, ◌+◌, ◌-◌, length, drop, take, sym, ◌∙◌, ap, arith}
use Rattle.segments.specs.Cells.{known, put}
use Rattle.segments.specs.Pages.{set_marks}
use Rattle.segments.proofs.MarkLemmas.{set_marks_low}
use Rattle.segments.proofs.PartLemmas.{counted_part, marks_replaced, part_is, part_length, replaced_long, written_part}
use Rattle.segments.proofs.page.Page.write.Goals as goal

pub returns-clause-put : goal.returns-clause-put
returns-clause-put c =
    let i = c.self.inside in
    let a = c.args.at in
    let ys = c.args.new.now in
    let n = length ys in
    let k = a + n - a in
    let l = c.self.invariant in
    let same : k ≡ n = omega arith in
    let fits = c.requires in
    written_part i.marks c.fill_empty-count.new.marks i.bytes c.fill_empty-count.new.bytes ys a k
    (l.bytes_long ∙ sym l.marks_long) same
    (omega (arith, fits, l.marks_long))
    (c.fill_empty-count.auto.marks
    ∙ part_length i.marks a k (omega (arith, fits, same, l.marks_long)))
    (c.fill_empty-count.auto.bytes
    ∙ part_length i.bytes a k (omega (arith, fits, same, l.bytes_long)))
    c.fill_empty-count.ensures.filled
    ∙ ap (put a ys) c.self.view_is

pub returns-clause-counted : goal.returns-clause-counted
returns-clause-counted c =
    let i = c.self.inside in
    let a = c.args.at in
    let n = length c.args.new.now in
    let k = a + n - a in
    let l = c.self.invariant in
    let same : k ≡ n = omega arith in
    let fits = c.requires in
    counted_part i.marks c.fill_empty-count.new.marks i.bytes c.fill_empty-count.new.bytes a k n
    c.fill_empty-count.result
    (l.bytes_long ∙ sym l.marks_long) same
    (omega (arith, fits, l.marks_long))
    (c.fill_empty-count.auto.marks
    ∙ part_length i.marks a k (omega (arith, fits, same, l.marks_long)))
    (c.fill_empty-count.auto.bytes
    ∙ part_length i.bytes a k (omega (arith, fits, same, l.bytes_long)))
    c.fill_empty-count.ensures.counted
    ∙ ap (λ v. known (take n (drop a v)) + c.fill_empty-count.result) c.self.view_is

pub fill_empty-count-requires-clause-standing : goal.fill_empty-count-requires-clause-standing
fill_empty-count-requires-clause-standing c =
    let i = c.self.inside in
    let a = c.args.at in
    let n = length c.args.new.now in
    c.known-standing.ensures.is
    ∙ ap (λ v. known (take n (drop a v))) (sym c.self.view_is)
    ∙ ap known (sym (part_is i.marks i.bytes a (a + n - a) n (omega arith)))

pub overflow_add-self : goal.overflow_add-self
overflow_add-self c =
    let low = set_marks_low c.self.inside.marks in
    let few = c.fill_empty-count.ensures.within in
    let l = c.self.invariant in
    let fits = c.requires in
    omega (arith, low, few, l.held_is, l.marks_long, fits)

pub invariant_of-self : goal.invariant_of-self
invariant_of-self c =
    let i = c.self.inside in
    let a = c.args.at in
    let n = length c.args.new.now in
    let k = a + n - a in
    let l = c.self.invariant in
    let same : k ≡ n = omega arith in
    let fits = c.requires in
    let marks = c.fill_empty-count.auto.marks
    ∙ part_length i.marks a k (omega (arith, fits, same, l.marks_long)) in
    let bytes = c.fill_empty-count.auto.bytes
    ∙ part_length i.bytes a k (omega (arith, fits, same, l.bytes_long)) in
    let set = marks_replaced i.marks c.fill_empty-count.new.marks i.bytes
    c.fill_empty-count.new.bytes a k n
    c.fill_empty-count.result
    (l.bytes_long ∙ sym l.marks_long) same
    (omega (arith, fits, l.marks_long))
    marks bytes
    c.fill_empty-count.ensures.counted in
    let h = l.held_is in
    record {
      marks_long =
          replaced_long i.marks c.fill_empty-count.new.marks a k
          (omega (arith, fits, same, l.marks_long)) marks
          ∙ l.marks_long;
      bytes_long =
          replaced_long i.bytes c.fill_empty-count.new.bytes a k
          (omega (arith, fits, same, l.bytes_long)) bytes
          ∙ l.bytes_long;
      held_is = (let t : i.held + c.fill_empty-count.result ≡ set_marks i.marks
          + c.fill_empty-count.result =
          omega (arith, h) in t) ∙ sym set;
    }
