-- What a result does: who is destroyed, who owes, who may advance, and what is written on the desk.
-- Assumes nothing.
use Rattle.std.specs.Prelude.{ℕ, ◌+◌, ◌-◌, cond, List, [], ◌∷◌, ◌++◌, map, leb, eqb}
use Rattle.position.specs.Stage as Stage
use Rattle.position.specs.Role as Role
use Rattle.position.specs.Role as Role
use Rattle.position.specs.Bits.{with, fought}
use Rattle.position.specs.Board.{Board, nowhere}
use Rattle.position.specs.Change.{Change}
use Rattle.position.specs.Change.Change.{destroyed, marked, assigned, staged, routed}
use Rattle.results.specs.declared.Upshot.{Upshot}
use Rattle.results.specs.Participants.{defenders, participants}
use Rattle.field.specs.Listed.{named}

-- what becomes of a side: it is destroyed, it owes (role 1), or it may advance (role 2)
abbrev pub lost : ℕ
lost = 0

-- what becomes of attackers and defenders, the stage and n
abbrev pub comes_to : ℕ → ℕ → ℕ → ℕ → Upshot
comes_to a d s n = record { attackers = a; defenders = d; stage = s; owed = n }

-- "D or A gives the losers role 1 and n. De and Ae destroy. Dx and Ax destroy one side; .. the other side gets role 1. Victors of
-- D, De, A, Ae get role 2. D and A lead to stage 1, Dx and Ax to 2, De and Ae to 3."
-- "Codes: 1..3 D1..D3, 4..6 A1..A3, 7 Ae, 8 De, 9 Dx, 10 Ax."
unfoldable pub upshot : ℕ → Upshot
upshot code =
    cond (leb code 3) (comes_to Role.advances Role.owes Stage.retreats code)
    (cond (leb code 6) (comes_to Role.owes Role.advances Stage.retreats (code - 3))
    (cond (eqb code 7) (comes_to lost Role.advances Stage.advances 0)
    (cond (eqb code 8) (comes_to Role.advances lost Stage.advances 0)
    (cond (eqb code 9) (comes_to Role.owes lost Stage.losses 0)
    (comes_to lost Role.owes Stage.losses 0)))))

-- "need is its printed total": the destroyed side's, in an exchange alone
unfoldable pub need_of : Upshot → ℕ → ℕ → ℕ
need_of o attack defence = cond (eqb o.stage Stage.losses) (cond (eqb o.attackers lost) attack defence) 0

-- "All participants turn over and get fought."
unfoldable pub fought_by : Board → List ℕ → List Change
fought_by b us = map (λ u. marked u (with fought (b.units.state.marks u))) us

-- what becomes of unit u of a side
unfoldable pub suffers : ℕ → ℕ → Change
suffers fate u = cond (eqb fate lost) (destroyed u) (assigned u fate)

unfoldable pub suffered_by : Board → ℕ → List ℕ → Upshot → List Change
suffered_by b target units o = map (suffers o.attackers) units ++ map (suffers o.defenders) (defenders b target)

-- the numbers of a list by first naming, once each
unfoldable pub add_once : List ℕ → ℕ → List ℕ
add_once seen x = cond (named seen x) seen (seen ++ (x ∷ []))

unfoldable pub once_each : List ℕ → List ℕ → List ℕ
once_each seen [] = seen
once_each seen (x ∷ xs) = once_each (add_once seen x) xs

-- "A side destroyed by the result writes its hex alone as a route (attackers' hexes in list order, once each, even if others remain there)"
unfoldable pub routes_written : Board → ℕ → List ℕ → Upshot → List ℕ
routes_written b target units o =
    cond (eqb o.attackers lost) (once_each [] (map b.units.state.hex units)) (cond (eqb o.defenders lost) (target ∷ []) [])

-- route r and the next are these hexes, each alone
unfoldable pub routed_from : ℕ → List ℕ → List Change
routed_from r [] = []
routed_from r (h ∷ hs) = routed r h nowhere nowhere nowhere ∷ routed_from (r + 1) hs

-- all that a battle changes besides what it turns over
unfoldable pub battle_changes : Board → ℕ → List ℕ → Upshot → ℕ → List Change
battle_changes b target units o need =
    fought_by b (participants b target units)
    ++ (routed_from 0 (routes_written b target units o)
    ++ (suffered_by b target units o
    ++ (staged o.stage o.owed need ∷ [])))
