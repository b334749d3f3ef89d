-- The battle line: what each participant brings.
-- Assumes nothing.
use Rattle.std.specs.Prelude.{ℕ, List, [], ◌∷◌, length, take, drop}
use Rattle.position.specs.Board.{Board}
use Rattle.line.specs.declared.Fighter.{Fighter}
use Rattle.field.specs.Scene.{scene}
use Rattle.field.specs.Working.{working}
use Rattle.supply.specs.Supply.{supplied}
use Rattle.results.specs.Participants.{defenders}

-- "Each strength out of supply at that instant is halved, fractions up, unit by unit.": each by its own nationality, as the call begins
unfoldable pub strength_of : Board → ℕ → ℕ → ℕ
strength_of b u printed = working b u (supplied (scene b) (b.units.counter.nationality u) (b.units.state.hex u)) printed

-- "one record for each participant, carries unit, printed strength and fighting strength"
unfoldable pub fighter : Board → ℕ → ℕ → Fighter
fighter b u printed = record { unit = u; printed = printed; fighting = strength_of b u printed }

-- the battle line of units with their printed strengths
unfoldable pub line : Board → List ℕ → List ℕ → List Fighter
line b [] ss = []
line b (u ∷ us) [] = []
line b (u ∷ us) (s ∷ ss) = fighter b u s ∷ line b us ss

-- the attackers come first in the line: their strengths, and those of the defenders behind them
unfoldable pub attack_line : Board → List ℕ → List ℕ → List Fighter
attack_line b units ss = line b units (take (length units) ss)

unfoldable pub defence_line : Board → ℕ → List ℕ → List ℕ → List Fighter
defence_line b target units ss = line b (defenders b target) (drop (length units) ss)
