-- `chart_ok::codes_ok` meets its contract: what the library's `all` says over the faces of the die.
-- Assumes nothing.
use Prim.Native.Nat.{◌+◌}
use mathlib.Core.Path.{refl}
use borrow.Author.Tests.{tests}
use Rattle.std.proofs.Common.{rules}
use Rattle.position.specs.Layout.{code, die_faces}
use Rattle.position.specs.Shape.{In}
use Rattle.position.proofs.Ranges.{all_over}
use Rattle.setting.proofs.chart_ok.codes_ok.Goals as goal

pub returns : goal.returns
returns c = all_over (λ die. In 1 (code c.args.p.now c.args.c (die + 1)) 10) die_faces refl c.all.ensures.ran (λ x b q k. search (rules, tests))
