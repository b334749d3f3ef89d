-- `settling::one_stands` meets its contract: what the library's `any` says over the units.
-- Assumes nothing.
use borrow.Author.Tests.{tests}
use Rattle.std.proofs.Common.{rules}
use Rattle.position.specs.Layout.{hex}
use Rattle.field.proofs.Lists.{named_any}
use Rattle.results.proofs.settling.one_stands.Goals as goal

pub returns : goal.returns
returns c = named_any (hex c.args.p.now) c.args.h c.args.units.now (cc) c.any.ensures.ran (λ x b q k. search (rules, tests))
