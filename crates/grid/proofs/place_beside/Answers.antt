-- `grid::place_beside` meets its contract: each arm is one of the six directions in the one table.
-- Assumes nothing.
use mathlib.Core.Path.{◌∙◌}
use native.Mathlib.Omega.{arith}
use Rattle.grid.proofs.Step.{one_table_lem, nowhere}
use Rattle.grid.proofs.place_beside.Goals as goal

pub returns-in-0 : goal.returns-in-0
returns-in-0 c = (one_table_lem _ _ _ _ c.requires.low_bound c.requires.le_x.2) ∙ rw c.in-0.is

pub returns-in-1 : goal.returns-in-1
returns-in-1 c = (one_table_lem _ _ _ _ c.requires.low_bound c.requires.le_x.2) ∙ rw c.in-1.is

pub returns-in-2 : goal.returns-in-2
returns-in-2 c = (one_table_lem _ _ _ _ c.requires.low_bound c.requires.le_x.2) ∙ rw c.in-2.is

pub returns-in-3 : goal.returns-in-3
returns-in-3 c = (one_table_lem _ _ _ _ c.requires.low_bound c.requires.le_x.2) ∙ rw c.in-3.is

pub returns-in-4 : goal.returns-in-4
returns-in-4 c = (one_table_lem _ _ _ _ c.requires.low_bound c.requires.le_x.2) ∙ rw c.in-4.is

pub returns-in-5 : goal.returns-in-5
returns-in-5 c = (one_table_lem _ _ _ _ c.requires.low_bound c.requires.le_x.2) ∙ rw c.in-5.is

pub returns-in_default : goal.returns-in_default
returns-in_default c = nowhere _ _ _ _ c.requires.low_bound c.requires.le_x.2 (omega arith)
