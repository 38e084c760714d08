use Rattle.std.proofs.Common.{ℕ, ◌<◌, get_or}
use Rattle.log_formats.specs.Cached.{IsOf}
use Rattle.log_formats.specs.declared.text_cache.KnownList.{KnownList}
use Rattle.log_formats.proofs.text_cache.text_in.Given as goal

abbrev pub invariant-loop-one : goal.invariant-loop-one
invariant-loop-one g l =
    (k : ℕ) (d : KnownList) → k < l.one-index
    → ¬ IsOf l.place (g.T.Coded.numbers l.list.bytes.now) (get_or l.set k d)
