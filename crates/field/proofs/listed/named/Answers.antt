-- `listed::named` meets its contract: what the library's `any` says over the first n of the list.
-- Assumes nothing.
use Prim.Native.Nat.{ℕ}
use mathlib.Core.List.{List}
use mathlib.Core.Path.{◌∙◌, ap}
use borrow.Author.Tests.{tests}
use lib.ListN.{take}
use Rattle.std.proofs.Common.{rules}
use Rattle.field.proofs.Lists.{map_self, named_any}
use Rattle.field.specs.Listed.{named}
use Rattle.field.proofs.listed.named.Goals as goal

pub returns : goal.returns
returns c =
    let a = c.args in
    let us = take a.n a.units.now in
    named_any (λ x. x) a.u us (cc) c.any.ensures.ran (λ x b q k. search (rules, tests)) ∙ ap (λ (l : List ℕ). named l a.u) (map_self us)
