-- `map_ok::edges_ok` meets its contract: what the library's `all` says over the three sides.
-- Assumes nothing.
use mathlib.Core.Path.{refl}
use native.Mathlib.Omega.{arith}
use borrow.Author.Tests.{tests, eq-eqb}
use Rattle.std.proofs.Common.{rules}
use Rattle.position.specs.Board.{ground}
use Rattle.position.proofs.Answers.{says}
use Rattle.position.proofs.Ranges.{all_over}
use Rattle.setting.specs.Setting.{EdgeOk}
use Rattle.setting.proofs.Rims.{all_plain}
use Rattle.setting.proofs.map_ok.edges_ok.Goals as goal

pub returns-then-sides-eq0 : goal.returns-then-sides-eq0
returns-then-sides-eq0 c = says _ (λ e. all_plain (ground c.args.p.now) c.args.h (omega arith)) (λ e. eq-eqb c.sides.result 0 (omega arith))

pub returns-else-sides-eq0 : goal.returns-else-sides-eq0
returns-else-sides-eq0 c = all_over (EdgeOk (ground c.args.p.now) c.args.h) 3 refl c.all.ensures.ran (λ x b q k. search (rules, tests))
