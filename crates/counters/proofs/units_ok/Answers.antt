-- `counters::units_ok` meets its contract: each unit, the stacks and the roles are asked for, and that is all.
-- Assumes nothing.
use mathlib.Core.Path.{sym, ◌∙◌}
use native.Mathlib.Omega.{arith}
use Rattle.position.proofs.Answers.{said, unsaid, told}
use Rattle.position.proofs.Tallies.{not_both}
use Rattle.acceptance.proofs.Asking.{units_asked, alone_of, stacks_of, roles_of}
use Rattle.counters.proofs.units_ok.Goals as goal
use Rattle.counters.proofs.units_ok.Goals.{then-each_ok, else-each_ok}

pub returns-then-stacks_ok : goal.returns-then-stacks_ok
returns-then-stacks_ok c =
    elim c.if-each_ok.branch [
      | then-each_ok w ↦
          told c.roles_ok.result
          (units_asked (said c.each_ok.result w.if-each_ok.true c.each_ok.ensures) (said w.stacks_ok.result (sym w.value-is ∙ c.if-stacks_ok.true) w.stacks_ok.ensures))
          roles_of c.roles_ok.ensures
      | else-each_ok w ↦ not_both c.if-each_ok.value c.if-stacks_ok.true (w.value-is ∙ w.if-each_ok.false)
    ]

pub returns-else-stacks_ok : goal.returns-else-stacks_ok
returns-else-stacks_ok c =
    let l = c.requires in
    rw c.if-stacks_ok.false
    (λ t. elim c.if-each_ok.branch [
      | then-each_ok w ↦ unsaid w.stacks_ok.result (sym w.value-is ∙ c.if-stacks_ok.false) w.stacks_ok.ensures (stacks_of t (omega (arith, l.fits.hexes, l.view.hexes)))
      | else-each_ok w ↦ unsaid c.each_ok.result w.if-each_ok.false c.each_ok.ensures (alone_of t)
    ])
