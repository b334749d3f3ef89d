-- `chart_ok::chart_ok` meets its contract: what the library's `all` says over the terrains.
-- Assumes nothing.
use mathlib.Core.Path.{refl}
use borrow.Author.Tests.{tests}
use Rattle.std.proofs.Common.{rules}
use Rattle.position.specs.Board.{chart}
use Rattle.position.specs.Layout.{chart_rows}
use Rattle.position.proofs.Ranges.{all_over}
use Rattle.setting.specs.Setting.{TerrainOk}
use Rattle.setting.proofs.chart_ok.chart_ok.Goals as goal

pub returns : goal.returns
returns c = all_over (TerrainOk (chart c.args.p.now)) chart_rows refl c.all.ensures.ran (λ x b q k. search (rules, tests))
