use Rattle.std.proofs.Common.{arith}
use Rattle.lru.specs.LruCache.{lru_cache}
use Rattle.connections.proofs.TableLemmas.{put_first}
use Rattle.connections.proofs.table.put_under.Goals as goal

pub returns-clause-put : goal.returns-clause-put
returns-clause-put g c = rw c.in_ok-put.ensures.entries
    (put_first c.args.five_tuple (lru_cache c.args.table.now.entries c.args.table.now.cap)
    c.args.value (omega (arith, c.requires)))
