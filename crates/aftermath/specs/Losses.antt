-- Losses: their refusals in their order, and what they change.
-- Assumes nothing.
use Rattle.std.specs.Prelude.{ℕ, ◌+◌, Bool, not, ◌&&◌, ◌||◌, List, [], ◌∷◌, ◌++◌, map, leb, eqb, get_or}
use Rattle.position.specs.Role as Role
use Rattle.position.specs.Stage as Stage
use Rattle.position.specs.Tally.{any}
use Rattle.position.specs.Kind.{special}
use Rattle.position.specs.Board.{Board, force_of}
use Rattle.position.specs.Change.{Change}
use Rattle.position.specs.Change.Change.{destroyed, assigned}
use Rattle.line.specs.Line.{fighter_of}
use Rattle.line.specs.declared.Fighter.{Fighter}
use Rattle.ruling.specs.Values.{accepting}
use Rattle.ruling.specs.Verdict.{Verdict, along}
use Rattle.ruling.specs.Verdict.Judge.{rule}
use Rattle.ruling.specs.Verdict.Verdict.{refuse_if, judge}
use Rattle.field.specs.Listed.{list_length, all_there, named, and_then, sieve}
use Rattle.aftermath.specs.Stage.{then_on}

-- role 1 owes
unfoldable pub owes : Board → ℕ → Bool
owes b u = eqb (b.units.state.role u) Role.owes

-- the questions of the unit at place k, with the units named before: "losses each 4, 6"; "4 asks the role only"
unfoldable pub loss : Board → List ℕ → ℕ → ℕ → Verdict → Verdict
loss b before u k rest = refuse_if (not (owes b u)) 4 k (refuse_if (named before u) 6 k rest)

unfoldable pub losses : Board → List ℕ → Verdict → Verdict
losses b units rest = along (loss b) and_then [] units 1 (λ s. rest)

-- the printed total of a list; units that owe are tried, and show their strength
unfoldable pub shown_total : Board → List ℕ → ℕ
shown_total b [] = 0
shown_total b (u ∷ us) = b.units.state.shown u + shown_total b us

-- a unit of the list in the battle line, by the strength that it shows; nobody fights
unfoldable pub loss_fighter : Board → ℕ → Fighter
loss_fighter b u = fighter_of u (b.units.state.shown u) 0

-- the fighter at place i of the list's line
unfoldable pub loss_at : Board → List ℕ → ℕ → Fighter
loss_at b units i = loss_fighter b (get_or units i 0)

-- unit u owes, and the list spares it
unfoldable pub spared : Board → List ℕ → ℕ → Bool
spared b units u = owes b u && not (named units u)

-- "its printed total reaches need or it names all"
unfoldable pub enough : Board → List ℕ → Bool
enough b units = leb b.desk.battle.need (shown_total b units) || not (any (spared b units) b.units.count)

-- the owing units are the phasing force's
unfoldable pub owes_phasing : Board → ℕ → Bool
owes_phasing b u = owes b u && eqb (force_of b u) b.desk.clock.force

-- the list names another type than special infantry
unfoldable pub other_type : Board → List ℕ → ℕ → Bool
other_type b units u = named units u && not (eqb (b.units.counter.kind u) special)

unfoldable pub spared_special : Board → List ℕ → ℕ → Bool
spared_special b units u = spared b units u && eqb (b.units.counter.kind u) special

-- "for the phasing force, other types only with every special infantry (16.12)"
unfoldable pub passed_over : Board → List ℕ → Bool
passed_over b units =
    any (owes_phasing b) b.units.count && (any (other_type b units) b.units.count && any (spared_special b units) b.units.count)

-- "losses short, or special infantry passed over"
unfoldable pub short : Board → List ℕ → Bool
short b units = not (enough b units) || passed_over b units

-- "Survivors get role 2."
unfoldable pub loss_changes : Board → List ℕ → List Change
loss_changes b units = map destroyed units ++ map (λ u. assigned u Role.advances) (sieve (spared b units) b.units.count)

-- all the questions of losses, and what follows: "wrong stage (.. losses 2 ..)", then "losses each 4, 6, last 15"
unfoldable pub loss_checks : Board → List ℕ → Verdict → Verdict
loss_checks b units rest =
    refuse_if (not (list_length units)) 3 0
    (all_there b units
    (refuse_if (not (eqb b.desk.battle.stage Stage.losses)) 2 0 (losses b units (refuse_if (short b units) 15 0 rest))))

unfoldable pub losses_rule : Board → List ℕ → Verdict
losses_rule b units = loss_checks b units (judge (rule accepting (then_on b (loss_changes b units)) []))
