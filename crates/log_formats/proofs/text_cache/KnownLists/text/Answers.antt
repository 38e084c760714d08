use Rattle.std.proofs.Common.{◌≡◌, ◌<◌, length, get_or, ap, arith, rules, subst, Any}
use Rattle.std.specs.Prelude.{List, ℕ, IfNone, IfSome}
use Rattle.log_formats.specs.declared.text_cache.KnownList.{KnownList}
use Rattle.log_formats.specs.Cached.{IsText, set_of}
use Rattle.log_formats.proofs.CachedLemmas.{none_has, past_has_none, some_has}
use Rattle.log_formats.proofs.text_cache.KnownLists.text.Goals as goal

pub returns-in-Some-clause-found : goal.returns-in-Some-clause-found
returns-in-Some-clause-found g c =
    let same : c.as_slice.result.now ≡ c.in-Some.set.now.items = search rules in
    let sets : c.deref.result.now ≡ c.args.self.now.sets.items = search rules in
    let looked = c.in-Some.ensures.lookup in
    some_has (λ text set. Any
    (IsText c.args.place (g.T.Coded.numbers c.args.list.bytes.now) text.now) set.items)
    c.args.self.now.sets.items _ c.set_of.result c.in-Some.set.now c.text_in.result
    c.set_of.ensures.is
    (subst (λ xs. c.set_of.result < length xs) sets looked.3.0)
    (subst (λ xs. c.in-Some.set.now ≡ get_or xs c.set_of.result c.in-Some.set.now) sets looked.1)
    (subst (λ (s : List KnownList). IfSome c.text_in.result (λ text. Any
    (IsText c.args.place (g.T.Coded.numbers c.args.list.bytes.now) text.now) s))
    same c.text_in.ensures.found)

pub returns-in-Some-clause-none : goal.returns-in-Some-clause-none
returns-in-Some-clause-none g c =
    let same : c.as_slice.result.now ≡ c.in-Some.set.now.items = search rules in
    let sets : c.deref.result.now ≡ c.args.self.now.sets.items = search rules in
    let looked = c.in-Some.ensures.lookup in
    none_has (λ text set. Any
    (IsText c.args.place (g.T.Coded.numbers c.args.list.bytes.now) text) set.items)
    c.args.self.now.sets.items _ c.set_of.result c.in-Some.set.now c.text_in.result
    c.set_of.ensures.is
    (subst (λ xs. c.in-Some.set.now ≡ get_or xs c.set_of.result c.in-Some.set.now) sets looked.1)
    (subst (λ (s : List KnownList). IfNone c.text_in.result ((text : List ℕ) → ¬ Any
    (IsText c.args.place (g.T.Coded.numbers c.args.list.bytes.now) text) s))
    same c.text_in.ensures.none)

pub returns-in-None-clause-none : goal.returns-in-None-clause-none
returns-in-None-clause-none g c =
    let sets : c.deref.result.now ≡ c.args.self.now.sets.items = search rules in
    let past = c.in-None.ensures.lookup.3 in
    λ text has. past_has_none (λ set. Any
    (IsText c.args.place (g.T.Coded.numbers c.args.list.bytes.now) text) set.items)
    c.args.self.now.sets.items (set_of (g.T.Coded.numbers c.args.list.bytes.now))
    (omega (arith, past, ap length sets, c.set_of.ensures.is)) has
