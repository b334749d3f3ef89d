-- `Seen::note` meets its contract: the hex is among those noted, or there is no room, or it is written behind them.
-- Assumes nothing.
use mathlib.Core.Path.{sym, ◌∙◌}
use native.Mathlib.Omega.{arith}
use Rattle.acceptance.proofs.Notes.{among_first, note_known, note_full, note_fresh}
use Rattle.stages.proofs.owing.Seen.note.Goals as goal

pub returns-then-contains : goal.returns-then-contains
returns-then-contains c =
    let s = c.args.self.now in
    note_known _ _ _ (sym (among_first s.hexes c.args.h (omega arith) c.contains.result c.contains.ensures.cases) ∙ c.if-contains.true)

pub returns-then-self-eq-ROUTE_COUNT : goal.returns-then-self-eq-ROUTE_COUNT
returns-then-self-eq-ROUTE_COUNT c =
    let s = c.args.self.now in
    note_full _ _ _ (sym (among_first s.hexes c.args.h (omega arith) c.contains.result c.contains.ensures.cases) ∙ c.if-contains.false) (omega arith)

pub returns : goal.returns
returns c =
    let s = c.args.self.now in
    note_fresh _ _ _ (sym (among_first s.hexes c.args.h (omega arith) c.contains.result c.contains.ensures.cases) ∙ c.if-contains.false) (omega arith)
