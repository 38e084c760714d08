use Rattle.std.proofs.Common.{sym, ◌∙◌, subst, refl, Any}
use Rattle.log_formats.specs.Cached.{IsText}
use Rattle.log_formats.proofs.CachedLemmas.{emptied_adds, pushed_adds, pushed_has_it}
use Rattle.log_formats.proofs.text_cache.add_text.Goals as goal

pub returns-in_err-text-clause-added : goal.returns-in_err-text-clause-added
returns-in_err-text-clause-added c = λ p ns t h.
    emptied_adds (IsText p ns t) _ c.args.set.now.items c.empty_full.new.list.items
    c.empty_full.ensures.either h

pub returns-in_err-push-clause-added : goal.returns-in_err-push-clause-added
returns-in_err-push-clause-added c = λ p ns t h.
    emptied_adds (IsText p ns t) _ c.args.set.now.items c.empty_full.new.list.items
    c.empty_full.ensures.either
    (subst (Any (IsText p ns t)) c.in_err-push.ensures.items h)

pub returns-clause-added : goal.returns-clause-added
returns-clause-added c = λ p ns t h.
    pushed_adds (IsText p ns t) _ c.args.set.now.items c.empty_full.new.list.items
    c.push.new.self.items _ c.empty_full.ensures.either c.in_ok-push.ensures.items
    (λ q. (sym q.0, sym q.1, sym q.2 ∙ c.in_ok-text.ensures.items))
    h

pub returns-clause-there : goal.returns-clause-there
returns-clause-there c =
    pushed_has_it (IsText c.args.place c.args.numbers.items c.args.text.now) _ _ _
    c.in_ok-push.ensures.items
    (refl, refl, c.in_ok-text.ensures.items)
