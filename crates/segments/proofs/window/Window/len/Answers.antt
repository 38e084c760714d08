use Rattle.std.proofs.Common.{length, sym, ◌∙◌, ap}
use Rattle.segments.proofs.PageLemmas.{places_length}
use Rattle.segments.proofs.window.Window.len.Goals as goal

pub returns : goal.returns
returns c =
    let i = c.self.inside in
    sym (places_length i.len i.begin i.pages) ∙ ap length c.self.view_is
