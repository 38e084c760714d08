use Rattle.std.proofs.Common.{sym, ◌∙◌}
use Rattle.segments.proofs.PageMapLemmas.{page_made}
use Rattle.segments.proofs.pages.make_page.Goals as goal

pub returns-clause-same : goal.returns-clause-same
returns-clause-same c =
    page_made c.args.number c.in_ok-page.page c.args.pages.now c.insert.new.self c.requires
    c.in_ok-insert.ensures.updates.0
    (sym c.contains_key.ensures ∙ c.if-contains_key.false)
    (c.in_ok-page.ensures.ok ∙ c.new.ensures)
