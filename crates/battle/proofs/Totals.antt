-- What a battle line comes to in printed strengths.
-- Assumes nothing.
use Prim.Native.Nat.{ℕ, ◌*◌}
use mathlib.Core.Path.{◌≡◌, refl, ap}
use mathlib.Core.List.{List, [], ◌∷◌, ◌++◌, map}
use native.Mathlib.Omega.{arith}
use lib.ListN.{length, take, drop}
use Rattle.position.specs.Board.{Board}
use Rattle.position.specs.Shape.{In}
use Rattle.ruling.specs.Secret.{Each}
use Rattle.line.specs.Line.{printed_total, total_by}
use Rattle.results.specs.Participants.{defenders, participants}
use Rattle.battle.specs.Line.{fighter, line, attack_line, defence_line}

-- the strengths of those in front, and of those behind
front_strengths : (f : ℕ → ℕ) (us ds : List ℕ) → take (length us) (map f (us ++ ds)) ≡ map f us
front_strengths f [] ds = refl
front_strengths f (u ∷ us) ds = ap (λ (l : List ℕ). f u ∷ l) (front_strengths f us ds)

back_strengths : (f : ℕ → ℕ) (us ds : List ℕ) → drop (length us) (map f (us ++ ds)) ≡ map f ds
back_strengths f [] ds = refl
back_strengths f (u ∷ us) ds = back_strengths f us ds

module _ (b : Board) (f : ℕ → ℕ) where
  -- each is 1 to 60
  totals : (us : List ℕ) → Each (λ u. In 1 (f u) 60) us → In (length us) (printed_total (line b us (map f us))) (60 * length us)
  unfolding line total_by fighter
  totals [] h = record { low = omega arith; high = omega arith }
  totals (u ∷ us) h =
      let i = totals us h.1 in
      let k = h.0 in
      record { low = omega arith; high = omega arith }

  module _ (target : ℕ) (units : List ℕ) where
    pub attack_total :
        Each (λ u. In 1 (f u) 60) units
        → In (length units) (printed_total (attack_line b units (map f (participants b target units)))) (60 * length units)
    unfolding attack_line participants
    attack_total h = rw (front_strengths f units (defenders b target)) (totals units h)

    pub defence_total :
        Each (λ u. In 1 (f u) 60) (defenders b target)
        → In (length (defenders b target)) (printed_total (defence_line b target units (map f (participants b target units))))
        (60 * length (defenders b target))
    unfolding defence_line participants
    defence_total h = rw (back_strengths f units (defenders b target)) (totals (defenders b target) h)
