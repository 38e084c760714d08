use Rattle.std.proofs.Common.{sym, rules}
use Rattle.log_formats.proofs.text_cache.text_in.Goals as goal

pub returns-then-is_of-clause-found : goal.returns-then-is_of-clause-found
returns-then-is_of-clause-found g c =
    let is = c.is_of.ensures.0 c.if-is_of.true in (
      c.loop-one.one-index,
      c.one-item.result,
      c.loop-one-test.true,
      sym c.one-item.is,
      (is.0, is.1, search rules),
    )
