-- Beside what is certain: vocabulary of contracts and proofs.
-- What comes of a group, once it is known that it owes.
-- Assumes nothing.
use Rattle.std.specs.Prelude.{ℕ, Bool, cond, ◌&&◌, List}
use Rattle.position.specs.Board.{Board}
use Rattle.routes.specs.Legal.{legal}
use Rattle.chains.specs.Follows.{none, legal_pushes}
use Rattle.pushes.specs.declared.Served.{Served}
use Rattle.pushes.specs.declared.Served.TheVariants.{None, Wrong, Right}
use Rattle.shoves.specs.Group.{group_force}
use Rattle.retreat.specs.declared.Fate.{Fate}
use Rattle.retreat.specs.declared.Fate.TheVariants.{Lost, WrongRoute, WrongPushes, Walking, Pushing}
use Rattle.retreat.specs.Retreat.{has_route, doomed, is_part}

-- where the group is destroyed: a part route and nothing else was sent, or what was sent is refused
unfoldable pub lost_fate : Bool → List ℕ → Fate
lost_fate part pushes = cond (part && none pushes) Lost WrongRoute

-- by route alone, where a vacant one exists
unfoldable pub route_fate : Board → ℕ → List ℕ → List ℕ → Fate
route_fate b h route pushes =
    cond (legal b (group_force b h) h b.desk.battle.owed route && none pushes) Walking WrongRoute

-- by pushes, where only they serve
unfoldable pub push_fate : Board → ℕ → List ℕ → List ℕ → Fate
push_fate b h route pushes = cond (legal_pushes b (group_force b h) h b.desk.battle.owed route pushes) Pushing WrongPushes

-- the fate that an answer about pushes comes to; `unserved` is that of a group whom none serve
abbrev pub served_fate : Fate → Served → Fate
served_fate unserved None = unserved
served_fate unserved Wrong = WrongPushes
served_fate unserved Right = Pushing

unfoldable pub fate_of : Board → ℕ → List ℕ → List ℕ → Fate
fate_of b h route pushes =
    cond (doomed b h) (lost_fate (is_part b h route) pushes)
    (cond (has_route b h) (route_fate b h route pushes) (push_fate b h route pushes))
