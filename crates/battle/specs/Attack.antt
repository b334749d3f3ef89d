-- The attack: its refusals in their order.
-- Assumes nothing.
use Rattle.std.specs.Prelude.{ℕ, Bool, not, ◌&&◌, ◌||◌, List, [], leb, eqb}
use Rattle.clock.specs.Phase as Phase
use Rattle.position.specs.Stage as Stage
use Rattle.position.specs.Tally.{any}
use Rattle.position.specs.Bits.{has, fought}
use Rattle.position.specs.Kind.{may_attack}
use Rattle.position.specs.Board.{Board}
use Rattle.position.specs.Ground.{joined}
use Rattle.position.specs.Layout.{die_faces}
use Rattle.ruling.specs.Verdict.{Verdict, along}
use Rattle.ruling.specs.Verdict.Verdict.{refuse_if}
use Rattle.field.specs.Scene.{scene}
use Rattle.field.specs.Zone.{stands_on, holds_enemy}
use Rattle.field.specs.Phasing.{not_phasing}
use Rattle.field.specs.Listed.{list_length, all_there, named, and_then}

-- "die 1..6"
unfoldable pub die_fits : ℕ → Bool
die_fits die = leb 1 die && leb die die_faces

-- "wrong stage (.. attack .. 0 ..) or phase (.. attack 1)"
unfoldable pub may_attack_now : Board → Bool
may_attack_now b = eqb b.desk.battle.stage Stage.quiet && eqb b.desk.clock.phase Phase.combat

-- unit u stands on hex h, and has fought
unfoldable pub fought_on : Board → ℕ → ℕ → Bool
fought_on b h u = stands_on (scene b) h u && has fought (b.units.state.marks u)

-- "target without Enemy, or a unit there has fought"
unfoldable pub no_target : Board → ℕ → Bool
no_target b target = not (holds_enemy (scene b) b.desk.clock.force target) || any (fought_on b target) b.units.count

-- "type or mark forbids it: .. fought for an attack"
unfoldable pub cannot_attack : Board → ℕ → Bool
cannot_attack b u = not (may_attack (b.units.counter.kind u)) || has fought (b.units.state.marks u)

-- "attacker not adjacent over an unblocked side"
unfoldable pub not_beside : Board → ℕ → ℕ → Bool
not_beside b target u = not (joined b.map (b.units.state.hex u) target)

-- the questions of the unit at place k, with the units named before: "each unit 4, 5, 6, 13"
unfoldable pub attacker : Board → ℕ → List ℕ → ℕ → ℕ → Verdict → Verdict
attacker b target before u k rest =
    refuse_if (not_phasing b u) 4 k
    (refuse_if (cannot_attack b u) 5 k
    (refuse_if (named before u) 6 k
    (refuse_if (not_beside b target u) 13 k rest)))

unfoldable pub attackers : Board → ℕ → List ℕ → Verdict → Verdict
attackers b target units rest = along (attacker b target) and_then [] units 1 (λ s. rest)

-- "Refusal 3 looks at lengths first (place 0), then at single numbers (place 0), then along the list."; `long` is the length of the scratch
unfoldable pub in_range : Board → ℕ → List ℕ → ℕ → ℕ → Verdict → Verdict
in_range b target units die long rest =
    refuse_if (not (list_length units)) 3 0
    (refuse_if (not (eqb long b.map.hexes)) 3 0
    (refuse_if (leb b.map.hexes target) 3 0
    (refuse_if (not (die_fits die)) 3 0 (all_there b units rest))))

-- all the questions of an attack, and what follows: "Order: 1, 3, 2, then: .. attack 12, each unit 4, 5, 6, 13"
unfoldable pub attack_checks : Board → ℕ → List ℕ → ℕ → ℕ → Verdict → Verdict
attack_checks b target units die long rest =
    in_range b target units die long
    (refuse_if (not (may_attack_now b)) 2 0
    (refuse_if (no_target b target) 12 0 (attackers b target units rest)))
