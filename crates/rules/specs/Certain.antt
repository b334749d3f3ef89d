-- Everything that is certain of this referee, as one statement. Each of the eight calls (src/lib.rt) promises `Met` of the verdict on its
-- order; these are the facts about all that so promise. Proved in proofs/Certain.antt.
-- Assumes nothing.
use Rattle.shoves.specs.Played.{LegalPlayedRight}
use Rattle.retreat.specs.Words.{GroupRight, DestroyedRight, TrappedRight, RoadRight, RetreatedRight, PushedRight}
use Rattle.retreat.specs.Units.{LostRight, GoneRight}
use Rattle.rules.specs.Order.{step}
use Rattle.rules.specs.Demands.{Total, NumbersRight, OneResult, RefusalsLeaveAll, SupplyRight, DistanceRight, StaysAccepted, OldDesksRight, Secrecy}
use Rattle.rules.specs.Referee.{Meets, Agree}
use Rattle.rules.specs.Useless.{FourUseless}
use Rattle.rules.specs.Greying.{GreyingOut}
use Rattle.rules.specs.Supplied.{InSupplyRight}
use Rattle.rules.specs.Turned.{SecrecyByMarks, Exhibited}
use Rattle.rules.specs.Rulings.{SmallRulings}
use Rattle.rules.specs.Onward.{NeverStuck}

-- 1. Every call, on all bytes, orders and buffers, has an outcome that its promise allows, and no other. Its answer is read back from its
-- number. A refusal changes no byte.
pub record DemandOne : Type 0 where
  pub total : Total
  pub one : OneResult
  pub numbers : NumbersRight
  pub leaves : RefusalsLeaveAll

-- 2. The rulings of the rules keep every promise, and a referee that keeps every promise gives no others. A unit is in supply exactly if an
-- unblocked line of hexes to a source exists, by the supply call's bytes, by its mark and by how it fights; a beaten group is trapped
-- exactly if neither a vacant route of the owed length nor a series of pushes exists, or only supply units owe, and then it is eliminated
-- exactly if it was sent as long a road as it has, which is written; else what was sent is accepted exactly if it is legal, a vacant route
-- first; and legal are the pushes that can be played on the board, each step done before the next. Where each unit stands then is told of
-- the group, of its supply units and of everybody else. Accepted positions stay accepted. Positions that name no players are ruled on as
-- with four. Useless referees are shut out, and so is the one that greys out a hopeless attack, which breaks demand 3 too.
pub record DemandTwo : Type 0 where
  pub right : Meets step
  pub agree : Agree
  pub supply : SupplyRight
  pub in_supply : InSupplyRight
  pub distance : DistanceRight
  pub group : GroupRight
  pub destroyed : DestroyedRight
  pub trapped : TrappedRight
  pub road : RoadRight
  pub retreated : RetreatedRight
  pub pushed : PushedRight
  pub lost : LostRight
  pub gone : GoneRight
  pub played : LegalPlayedRight
  pub keeps : StaysAccepted
  pub old : OldDesksRight
  pub small : SmallRulings
  pub useless : FourUseless
  pub greying : GreyingOut

-- 3. Two accepted positions that differ only in face-down strengths are ruled on alike, as long as what is turned over is equal: of the
-- rulings of 2, "never alone". What is turned over is told by the marks that are seen, or by the moment at which it is turned; and there are
-- such positions.
pub record DemandThree : Type 0 where
  pub seen : SecrecyByMarks
  pub turned : Secrecy
  pub exhibited : Exhibited

pub record Certain : Type 0 where
  pub one : DemandOne
  pub two : DemandTwo
  pub three : DemandThree
  -- and no game gets stuck before its end
  pub onward : NeverStuck
