-- What the supply call answers has room in a number.
-- Assumes nothing.
use Prim.Native.Nat.{ℕ}
use mathlib.Core.Path.{refl}
use mathlib.Core.Bool.{not}
use mathlib.Core.List.{List}
use lib.Dec.{ltb, eqb}
use Rattle.position.specs.Board.{Board}
use Rattle.position.specs.Kind.{canada}
use Rattle.ruling.specs.Packed.Replies.{plainly}
use Rattle.ruling.proofs.Bounded.{Bounded, bounded_past, bounded_ruled}
use Rattle.supply.specs.Supply.{supply_rule}

pub supply_bounded : {p l : List ℕ} (b : Board) (n long : ℕ) → Bounded plainly p l (supply_rule b n long)
unfolding supply_rule
supply_bounded b n long =
    bounded_past (not (eqb long b.map.hexes)) refl (λ _. bounded_past (ltb canada n) refl (λ _. bounded_ruled refl))
