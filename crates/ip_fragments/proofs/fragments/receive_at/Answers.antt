use Rattle.std.proofs.Common.{ap, sym}
use Rattle.std.proofs.lemmas.Map.Steps.{set_value_same}
use Rattle.lru.specs.LruCache.{lru_cache}
use Rattle.ip_fragments.specs.Key.{are_keys}
use Rattle.ip_fragments.proofs.TableLemmas.{on_err}
use Rattle.ip_fragments.proofs.fragments.receive_at.Goals as goal

pub returns-in_err-outcome-clause-err : goal.returns-in_err-outcome-clause-err
returns-in_err-outcome-clause-err c =
    let found = sym c.in-Some.ensures.value in
    on_err c.from_residual.result
    (rw c.in_err-outcome.ensures.err
    (ap (λ l. lru_cache l c.args.table.now.cap)
    (set_value_same (are_keys c.args.key.now) c.args.table.now.entries
    c.in-Some.waiting.now found)))
