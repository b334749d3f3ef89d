-- `follow::leads` meets its contract: what the library's `any` says over the six directions.
-- Assumes nothing.
use mathlib.Core.Path.{refl}
use borrow.Author.Tests.{tests}
use Rattle.std.proofs.Common.{rules}
use Rattle.position.specs.Ground.{is_at}
use Rattle.position.proofs.Options.{led}
use Rattle.position.proofs.Ranges.{any_over}
use Rattle.chains.specs.Chain.{leads}
use Rattle.plot.specs.Plot.{next_in}
use Rattle.follow.proofs.leads.Goals as goal

pub returns : goal.returns
unfolding leads
returns c = any_over (λ d. is_at (next_in c.args.plot.now c.args.h d) c.args.z) 6 refl c.any.ensures.ran (λ x b q k. search (rules, tests, led))
