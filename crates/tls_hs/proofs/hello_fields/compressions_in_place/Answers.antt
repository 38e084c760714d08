use Rattle.std.proofs.Common.{sym, subst}
use Rattle.tls_hs.specs.Places.{Leads}
use Rattle.tls_hs.proofs.PlacesLemmas.{cut_leads}
use Rattle.tls_hs.proofs.hello_fields.compressions_in_place.Goals as goal

pub returns-clause-leads : goal.returns-clause-leads
returns-clause-leads c =
    subst (λ x. Leads 1 c.args.i.now x c.split_at.result.1.now) (sym c.new.ensures)
    (cut_leads 1 _ c.args.i.now c.in_ok-after.after.now c.split_at.result.0.now
    c.split_at.result.1.now
    c.in_ok-after.k c.in_ok-after.ensures.allowed c.split_at.ensures.front c.split_at.ensures.back)
