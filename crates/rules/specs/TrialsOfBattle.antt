-- Beside what is certain: examples.
-- Small battles: one beside which a counter stays face down, and a hopeless one.
-- Assumes nothing.
use Rattle.std.specs.Prelude.{ℕ, List, [], ◌∷◌, replicate}
use Rattle.position.specs.Bits.{with, faced}
use Rattle.position.specs.Kind.{may_attack}
use Rattle.position.specs.Layout.{strength_field, set_unit, set_desk, set_marks, set_role, set_stage}
use Rattle.position.specs.Ground.{least, bearing}
use Rattle.position.specs.Parts.{plain, infantry, but_desk, built, desk_phase}
use Rattle.position.specs.Change.{make, makes, turned}
use Rattle.line.specs.Line.{total_by}
use Rattle.ruling.specs.Verdict.{after_check, reveal_all, along, judged, outcome}
use Rattle.ruling.specs.Secret.{Sent}
use Rattle.field.specs.Listed.{list_length, no_unit, all_there, named, and_then, sieve}
use Rattle.field.specs.Phasing.{not_phasing}
use Rattle.field.specs.Working.{half, working}
use Rattle.supply.specs.Examples.{supplying}
use Rattle.odds.specs.Odds.{
  smaller,
  larger,
  side_multiple,
  crossed,
  smallest_from,
  smallest,
  defence_multiple,
  multiple_at,
  reached,
  last,
  column,
}
use Rattle.results.specs.Participants.{defenders, participants}
use Rattle.results.specs.Results.{
  upshot,
  need_of,
  fought_by,
  suffers,
  suffered_by,
  add_once,
  once_each,
  routes_written,
  routed_from,
  battle_changes,
}
use Rattle.battle.specs.Line.{strength_of, fighter, line, attack_line, defence_line}
use Rattle.battle.specs.Attack.{
  die_fits,
  may_attack_now,
  fought_on,
  no_target,
  cannot_attack,
  not_beside,
  attacker,
  attackers,
  in_range,
  attack_checks,
}
use Rattle.battle.specs.Battle.{column_of, code_of, need_for, ruled, battle, attack_rule}
use Rattle.rules.specs.Order.{Order, rule_of}
use Rattle.rules.specs.Order.Order.{attack}

-- 'unfolding fighting' opens what an attack computes by
unfoldable pub fighting : ℕ
unfolding supplying with faced may_attack set_unit set_desk set_marks set_role set_stage least bearing make makes turned total_by after_check reveal_all along judged outcome list_length no_unit all_there named and_then sieve not_phasing half working smaller larger side_multiple crossed smallest_from smallest defence_multiple multiple_at reached last column defenders participants upshot need_of fought_by suffers suffered_by add_once once_each routes_written routed_from battle_changes strength_of fighter line attack_line defence_line die_fits may_attack_now fought_on no_target cannot_attack not_beside attacker attackers in_range attack_checks column_of code_of need_for ruled battle attack_rule rule_of
fighting = 0

-- Two hexes, plain, in the combat phase of the S.A.U.: its units 0 and 2 stand on hex 0, unit 1 of the E.S.C. on hex 1, all face down.
abbrev pub facing : List ℕ
facing = built (but_desk (plain 2 1 (infantry 0 0 ∷ infantry 1 1 ∷ infantry 0 0 ∷ [])) desk_phase 1)

-- the same with another strength under unit 2
abbrev pub facing_too : List ℕ
facing_too = set_unit facing 2 strength_field 4

-- unit 0 attacks hex 1, and the die shows 1
abbrev pub attacking : Sent Order
attacking = record { order = attack 1 (0 ∷ []) 1; lent = replicate 2 0 }

-- the same with a defender far too strong for unit 0, whose odds are then below 1:1; and with one that is not
abbrev pub strong : List ℕ
strong = set_unit facing 1 strength_field 60

abbrev pub weak : List ℕ
weak = set_unit strong 1 strength_field 1
