use Rattle.std.proofs.Common.{◌≡◌, ◌<◌, ◌⊎◌, inl, inr, length, rules, subst, Any}
use Rattle.std.specs.Prelude.{slice_get, slice_set, IsSomeAnd}
use Rattle.log_formats.specs.Cached.{IsText, IsThis, set_of}
use Rattle.log_formats.proofs.CachedLemmas.{ok_weaker, set_adds, set_has}
use Rattle.log_formats.proofs.text_cache.KnownLists.keep.Goals as goal

pub returns-clause-added : goal.returns-clause-added
returns-clause-added g c = λ p ns t h.
    let nums : c.in-Some.numbers.items ≡ g.T.Coded.numbers c.args.list.bytes.now = search rules in
    let its = IsThis c.args.place (g.T.Coded.numbers c.args.list.bytes.now) c.args.text.now
    p ns t in
    let added = subst
    (λ n. Any (IsText p ns t) c.add_text.new.set.items
    → Any (IsText p ns t) c.index_mut.result.now.items
    ⊎ IsThis c.args.place n c.args.text.now p ns t)
    nums (c.add_text.ensures.added p ns t) in
    let at = c.index_mut.ensures.value in
    elim (set_adds (λ set. Any (IsText p ns t) set.items) its c.make_sets.new.self.sets.items
    c.set_of-at.result (set_of ns) c.add_text.new.set c.index_mut.result.now
    (subst (λ s. Any (IsText p ns t) c.add_text.new.set.items → Any (IsText p ns t) s.items ⊎ its)
    at added) h) [
      | inl i ↦ inl (c.make_sets.ensures.added p ns t i)
      | inr r ↦ inr r
    ]

pub returns-clause-there : goal.returns-clause-there
returns-clause-there g c =
    let nums : c.in-Some.numbers.items ≡ g.T.Coded.numbers c.args.list.bytes.now = search rules in
    let within : c.set_of-at.result < length c.make_sets.new.self.sets.items = search rules in
    ok_weaker c.add_text.result (λ it short fits.
    subst (λ k. IsSomeAnd
    (slice_get (slice_set c.make_sets.new.self.sets.items c.set_of-at.result c.add_text.new.set) k)
    (λ set. Any
    (IsText c.args.place (g.T.Coded.numbers c.args.list.bytes.now) c.args.text.now) set.items))
    c.set_of-at.ensures.is
    (set_has (λ set. Any
    (IsText c.args.place (g.T.Coded.numbers c.args.list.bytes.now) c.args.text.now) set.items)
    c.make_sets.new.self.sets.items c.set_of-at.result c.add_text.new.set within
    (subst (λ n. Any (IsText c.args.place n c.args.text.now) c.add_text.new.set.items) nums it)))
    c.add_text.ensures.there
