-- `ranks::join` meets its contract. The loop's invariant: the units passed that stand there have joined.
-- Assumes nothing.
use Prim.Native.Nat.{ℕ, ◌+◌, ◌≤◌}
use mathlib.Core.Path.{◌≡◌, ◌∙◌, sym}
use native.Mathlib.Omega.{arith}
use lib.ListN.{length}
use Rattle.position.specs.Board.{Board}
use Rattle.field.proofs.Zones.{stands_here, stands_off}
use Rattle.field.specs.Scene.{scene}
use Rattle.field.specs.Zone.{stands_on}
use Rattle.battle.proofs.Lines.{joining_hit, joining_miss, joining_none, joining_room, joins_all}
use Rattle.field.specs.Listed.{sieve}
use Rattle.results.specs.Participants.{defenders}
use Rattle.line.specs.Line.{places}
use Rattle.ranks.proofs.join.Goals as goal
use Rattle.ranks.proofs.join.Goals.{then-hex-target, else-hex-target}

-- there is room for all that stand there
room : (b : Board) (target m n : ℕ) → n ≡ b.units.count → m + length (defenders b target) ≤ places → m + length (sieve (stands_on (scene b) target) n) ≤ places
unfolding defenders
room b target m n e l = rw e l

pub loop-u-init : goal.loop-u-init
loop-u-init c = joining_none c.told-line

pub bounds-line-n : goal.bounds-line-n
bounds-line-n c = joining_room c.loop-u.invariant (omega arith) (room _ _ _ _ c.requires.0.view.count c.requires.1) (stands_here _ _ _ (sym c.hex.ensures.is ∙ c.if-hex-target.true))

pub loop-u-preserved : goal.loop-u-preserved
loop-u-preserved c =
    elim c.if-hex-target.branch [
      | then-hex-target w ↦ joining_hit c.loop-u.invariant (omega arith) (room _ _ _ _ c.requires.0.view.count c.requires.1) (stands_here _ _ _ (sym c.hex.ensures.is ∙ w.if-hex-target.true)) w.recruit.ensures w.line-is w.n-is
      | else-hex-target w ↦ joining_miss c.loop-u.invariant (omega arith) (stands_off _ _ _ (λ e. w.if-hex-target.false (c.hex.ensures.is ∙ e))) w.line-is w.n-is
    ]

pub returns : goal.returns
returns c = joins_all c.loop-u.invariant (omega arith) c.requires.0.view.count
