-- Everything that is certain of this referee holds.
-- Assumes nothing.
use mathlib.Core.Path.{refl}
use Rattle.grid.proofs.Walks.{distance_is}
use Rattle.shoves.proofs.Played.{legal_played_right}
use Rattle.retreat.proofs.Road.{road_right}
use Rattle.retreat.proofs.Words.{group_right, destroyed_right, trapped_right, retreated_right, pushed_right}
use Rattle.retreat.proofs.UnitsLost.{lost_right}
use Rattle.retreat.proofs.UnitsGone.{gone_right}
use Rattle.rules.specs.Order.{step}
use Rattle.rules.specs.Referee.{Meets}
use Rattle.rules.specs.Certain.{DemandOne, DemandTwo, DemandThree, Certain}
use Rattle.rules.proofs.Demands.{total, one_result, numbers_right, refusals_leave_all, supply_right, stays_accepted, old_desks_right, secrecy}
use Rattle.rules.proofs.Greying.{greying_out}
use Rattle.rules.proofs.Supplied.{in_supply_right}
use Rattle.rules.proofs.Turned.{secrecy_by_marks, exhibited}
use Rattle.rules.proofs.Referees.{agree}
use Rattle.rules.proofs.Rulings.{small_rulings}
use Rattle.rules.proofs.Useless.{four_useless}
use Rattle.rules.proofs.Onward.{never_stuck}

rules_meet : Meets step
rules_meet p c = record { answers = refl; leaves = refl; lends = refl }

demand_one : DemandOne
demand_one = record { total = total; one = one_result; numbers = numbers_right; leaves = refusals_leave_all }

demand_two : DemandTwo
demand_two =
    record {
      right = rules_meet;
      agree = agree;
      supply = supply_right;
      in_supply = in_supply_right;
      distance = distance_is;
      group = group_right;
      destroyed = destroyed_right;
      trapped = trapped_right;
      road = road_right;
      retreated = retreated_right;
      pushed = pushed_right;
      lost = lost_right;
      gone = gone_right;
      played = legal_played_right;
      keeps = stays_accepted;
      old = old_desks_right;
      small = small_rulings;
      useless = four_useless;
      greying = greying_out;
    }

demand_three : DemandThree
demand_three = record { seen = secrecy_by_marks; turned = secrecy; exhibited = exhibited }

pub certain : Certain
certain = record { one = demand_one; two = demand_two; three = demand_three; onward = never_stuck }
