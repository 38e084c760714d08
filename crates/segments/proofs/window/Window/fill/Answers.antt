use Rattle.std.proofs.Common.{◌<◌, ◌+◌, ◌^◌, length, max, refl, ◌∙◌, ap, arith}
use Rattle.segments.specs.Cells.{fill_at}
use Rattle.segments.specs.Pages.{places}
use Rattle.segments.proofs.CellLemmas.{known_low}
use Rattle.segments.proofs.PageLemmas.{filled, places_length, places_same}
use Rattle.segments.proofs.PageMapLemmas.{on_err, paged_same}
use Rattle.segments.proofs.window.Window.fill.Goals as goal

pub invariant_of-self : goal.invariant_of-self
invariant_of-self c =
    let i = c.self.inside in
    paged_same i.begin i.len i.held i.pages c.make_pages.new.pages c.self.invariant
    c.in_err-make_pages.ensures.same

pub returns-in_err-make_pages-clause-err : goal.returns-in_err-make_pages-clause-err
returns-in_err-make_pages-clause-err c =
    let i = c.self.inside in
    on_err c.from_residual.result _
    (places_same i.len i.begin i.pages c.make_pages.new.pages
    (λ j h. c.in_err-make_pages.ensures.same.stands j)
    ∙ c.self.view_is)

pub overflow_add-self : goal.overflow_add-self
overflow_add-self c =
    let i = c.self.inside in
    let ys = c.args.bytes.now in
    let small : i.begin + c.args.at + length ys < 2 ^ 64 = grind (arith, c.in-Some.ensures) in
    let paged = paged_same i.begin i.len i.held i.pages c.make_pages.new.pages c.self.invariant
    c.in_ok-make_pages.ensures.same in
    let more = filled i.begin i.len i.held c.args.at (i.begin + c.args.at) c.write_bytes.result
    (max i.len (c.args.at + length ys)) ys
    c.make_pages.new.pages c.write_bytes.new.pages paged c.write_bytes.ensures refl refl
    c.requires.some small in
    let known = more.paged.held_is in
    let low = known_low
    (places (max i.len (c.args.at + length ys)) i.begin c.write_bytes.new.pages) in
    let l = places_length (max i.len (c.args.at + length ys)) i.begin c.write_bytes.new.pages in
    let fits = more.paged.small in
    omega (arith, known, low, l, fits)

pub invariant_of-self-2 : goal.invariant_of-self-2
invariant_of-self-2 c =
    let i = c.self.inside in
    let ys = c.args.bytes.now in
    let small : i.begin + c.args.at + length ys < 2 ^ 64 = grind (arith, c.in-Some.ensures) in
    let paged = paged_same i.begin i.len i.held i.pages c.make_pages.new.pages c.self.invariant
    c.in_ok-make_pages.ensures.same in
    (filled i.begin i.len i.held c.args.at (i.begin + c.args.at) c.write_bytes.result
    c.max-self-inside.result ys
    c.make_pages.new.pages c.write_bytes.new.pages paged c.write_bytes.ensures refl
    c.max-self-inside.ensures
    c.requires.some small).paged

pub returns-clause-ok : goal.returns-clause-ok
returns-clause-ok c =
    let i = c.self.inside in
    let ys = c.args.bytes.now in
    let small : i.begin + c.args.at + length ys < 2 ^ 64 = grind (arith, c.in-Some.ensures) in
    let same = c.in_ok-make_pages.ensures.same in
    let paged = paged_same i.begin i.len i.held i.pages c.make_pages.new.pages
    c.self.invariant same in
    (filled i.begin i.len i.held c.args.at (i.begin + c.args.at) c.write_bytes.result
    c.max-self-inside.result ys
    c.make_pages.new.pages c.write_bytes.new.pages paged c.write_bytes.ensures refl
    c.max-self-inside.ensures
    c.requires.some small).shows
    ∙ ap (λ w. fill_at c.args.at w ys)
    (places_same i.len i.begin i.pages c.make_pages.new.pages (λ j h. same.stands j)
    ∙ c.self.view_is)
