use Rattle.std.proofs.Common.{subst}
use Rattle.log_formats.specs.Cached.{AddsText, share_groups}
use Rattle.log_formats.proofs.text_cache.KnownLists.keep_shares.Goals as goal

pub returns-clause-added : goal.returns-clause-added
returns-clause-added c =
    subst
    (λ b. AddsText c.args.self.now c.keep.new.self c.args.place (share_groups b) c.args.text.now)
    c.new.ensures c.keep.ensures.added
