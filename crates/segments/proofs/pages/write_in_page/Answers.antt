use Rattle.std.proofs.Common.{sym, ap}
use Rattle.std.specs.Box.{with_value}
use Rattle.std.specs.Option.{is_some}
use Rattle.segments.proofs.PageMapLemmas.{found_put}
use Rattle.segments.proofs.pages.write_in_page.Goals as goal

pub returns-clause-written : goal.returns-clause-written
returns-clause-written c =
    let p = c.in-Some.page.now in
    let w = with_value p c.write.new.self in
    found_put c.args.at c.args.bytes.now p w c.args.pages.now (c.get_mut.follows.lender w)
    c.write.result
    c.number_of.result c.within_page.result c.deref_mut.result.now c.number_of.ensures
    c.within_page.ensures.is
    c.in-Some.ensures.value c.deref_mut.ensures.value c.requires.whole c.write.ensures.put
    ((c.get_mut.follows.holds w).3 (ap is_some (sym c.in-Some.ensures.value))).0
    c.requires.one c.write.ensures.counted
