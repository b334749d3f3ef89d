-- `losses::each_loss` meets its contract. The loop's invariant: what meets the tests from the next place on meets them all.
-- Assumes nothing.
use mathlib.Core.List.{[]}
use lib.ListN.{take}
use Rattle.position.specs.Board.{board}
use Rattle.ruling.proofs.Going.{Gone}
use Rattle.field.specs.Listed.{and_then}
use Rattle.aftermath.specs.Losses.{loss}
use Rattle.losses.proofs.each_loss.Given as goal

abbrev pub invariant-loop-i : goal.invariant-loop-i
invariant-loop-i l = Gone l.p (loss (board l.p)) and_then [] l.units l.i (take l.i l.units)
