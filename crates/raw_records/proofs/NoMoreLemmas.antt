-- Calls that never return `Incomplete`.
use Rattle.std.proofs.Common.{List, Ok, Err}
use Rattle.layouts.specs.Bytes.{Bytes}
use Rattle.layouts.specs.Layout.{Layout, complete, list1}
use Rattle.layouts.specs.Meaning.{Allows}
use Rattle.layouts.specs.Stable.{NeverLacks}
use Rattle.layouts.specs.Answers.{Returned, GivesOrMemory}
use Rattle.layouts.specs.declared.result.Err.TheVariants as err
use Rattle.layouts.specs.declared.result.Needed.TheVariants as needed
use Rattle.layouts.proofs.LackingLemmas.{never-complete, never-list1}
use Rattle.raw_records.specs.Framing.{AsksNoMore}

pub asks_no_more : {X Y : Type 0} (view : X → Y) (l : Layout Y) → NeverLacks l
    → (b : Bytes) (r : Returned X)
    → GivesOrMemory view l b r → AsksNoMore r
unfolding Allows
asks_no_more view l never b (Ok x) g = tt
asks_no_more view l never b (Err (err.Incomplete needed.Unknown)) g = g.answers tt
asks_no_more view l never b (Err (err.Incomplete (needed.Size n))) g = never b n (g.allowed tt)
asks_no_more view l never b (Err (err.Error e)) g = tt
asks_no_more view l never b (Err (err.Failure e)) g = tt
asks_no_more view l never b (Err err.OutOfMemory) g = tt

pub list_asks : {X Y : Type 0} (view : X → List Y) (l : Layout Y) (b : Bytes) (r : Returned X)
    → GivesOrMemory view (list1 l) b r → AsksNoMore r
list_asks view l b r g = asks_no_more view (list1 l) (never-list1 l) b r g

pub whole_asks : {X Y : Type 0} (view : X → Y) (l : Layout Y) (b : Bytes) (r : Returned X)
    → GivesOrMemory view (complete l) b r → AsksNoMore r
whole_asks view l b r g = asks_no_more view (complete l) (never-complete l) b r g
