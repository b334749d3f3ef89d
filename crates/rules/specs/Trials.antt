-- Beside what is certain: examples.
-- Small positions on which whole calls are computed.
-- Assumes nothing.
use Rattle.std.specs.Prelude.{ℕ, List, [], ◌∷◌, replicate}
use Rattle.position.specs.Bits.{with, without, faced}
use Rattle.position.specs.Layout.{set_unit, set_desk, set_hex, set_marks, set_role, set_clock, set_stage, set_route_hex, set_route, clear_routes}
use Rattle.position.specs.Parts.{
  Parts,
  Row,
  plain,
  infantry,
  having,
  but,
  but_desk,
  built,
  unit_marks,
  unit_role,
  desk_force,
  route_hex,
}
use Rattle.position.specs.Change.{make, makes}
use Rattle.position.specs.Effect.{upd, reroute, unfilled, change, changes}
use Rattle.acceptance.specs.Examples.{computing, during}
use Rattle.ruling.specs.Verdict.{after_check, judged, outcome, along}
use Rattle.ruling.specs.Secret.{Sent}
use Rattle.field.specs.Listed.{off_map, on_map_all, on_map_from, sieve}
use Rattle.routes.specs.Examples.{searching}
use Rattle.supply.specs.Supply.{supply_rule}
use Rattle.clock.specs.Clock.{next_clock, is_last, judges_supply}
use Rattle.march.specs.EndPhase.{rested, rest_all, supply_changes, end_changes, end_rule}
use Rattle.aftermath.specs.Stage.{passes_on, then_on}
use Rattle.chains.specs.Examples.{pushing}
use Rattle.shoves.specs.Group.{group, group_force}
use Rattle.retreat.specs.Retreat.{
  walks_from,
  has_route,
  has_series,
  doomed,
  not_part,
  not_vacant,
  not_pushed,
  end_of,
  leaves,
  goes_off,
  note_of,
  retreat_changes,
  doom_changes,
  leave_changes,
  retreat_values,
  retreat_rule,
}
use Rattle.rules.specs.Order.{Order, rule_of}
use Rattle.rules.specs.Order.Order.{supply, end_phase, retreat}

-- 'unfolding playing' opens what these calls compute by
unfoldable pub playing : ℕ
unfolding computing searching pushing with without faced set_unit set_desk set_hex set_marks set_role set_clock set_stage set_route_hex set_route clear_routes make makes upd reroute unfilled change changes after_check judged outcome along off_map on_map_all on_map_from sieve supply_rule next_clock is_last judges_supply rested rest_all supply_changes end_changes end_rule passes_on then_on group group_force walks_from has_route has_series doomed not_part not_vacant not_pushed end_of leaves goes_off note_of retreat_changes doom_changes leave_changes retreat_values retreat_rule rule_of
playing = 0

-- on the roster's position: the end of the phase, with a scratch of three bytes; and the supply of a nationality that there is not
abbrev pub ending : Sent Order
ending = record { order = end_phase; lent = replicate 3 7 }

abbrev pub sixth : Sent Order
sixth = record { order = supply 5; lent = replicate 3 7 }

-- a tried infantry: nationality, hex and role
abbrev fought : ℕ → ℕ → ℕ → Row
fought n h r = having (having (infantry n h) unit_marks 1) unit_role r

-- Seven hexes in a row, plain. Two stacks of the S.A.U. owe a retreat of one hex, unit 0 on hex 1 and unit 1 on hex 2; unit 2 of the
-- E.S.C., the victor, stands on hex 6 and may advance.
abbrev retreats : ℕ → ℕ → Parts
retreats first role = during (but_desk (plain 7 1 (infantry 0 first ∷ fought 0 2 1 ∷ fought 1 6 2 ∷ [])) desk_force 1) 1 1 0 role

abbrev pub two_owe : List ℕ
two_owe = built (retreats 1 1)

-- the first stack goes to hex 0; then unit 1 alone owes, and the road from hex 1 to hex 0 is written
abbrev pub first_goes : Sent Order
first_goes = record { order = retreat 1 (0 ∷ []) []; lent = [] }

abbrev pub one_owes : List ℕ
one_owes = built (but (but (retreats 0 0) (route_hex 0) 0 1) (route_hex 1) 0 0)

-- the second stack goes to hex 3
abbrev pub second_goes : Sent Order
second_goes = record { order = retreat 2 (3 ∷ []) []; lent = [] }
