-- `map_ok::rim_ok` meets its contract. The loop's invariant: every hex before h has its sides as they should be, and h is the rim's next.
-- Assumes nothing.
use Rattle.position.proofs.Answers.{said}
use Rattle.setting.proofs.Rims.{round_goes_on}
use Rattle.setting.proofs.map_ok.rim_ok.Goals as goal

pub loop-h-preserved : goal.loop-h-preserved
loop-h-preserved c =
    round_goes_on c.requires c.loop-h.invariant
    (said c.edges_ok.result c.if-not-edges_ok.false c.edges_ok.ensures)
    c.after-h.ensures
