-- The battle: what an attack that is let through turns over, answers and changes; and the ruling on the attack.
-- Assumes nothing.
use Rattle.std.specs.Prelude.{ℕ, ◌+◌, ◌*◌, List, replicate}
use Rattle.position.specs.Board.{Board}
use Rattle.line.specs.Line.{fighting_total, printed_total}
use Rattle.ruling.specs.Values.{fought_with}
use Rattle.ruling.specs.Verdict.{Verdict, Judge, reveal_all}
use Rattle.ruling.specs.Verdict.Judge.{rule}
use Rattle.ruling.specs.Verdict.Verdict.{judge}
use Rattle.results.specs.Participants.{participants}
use Rattle.battle.specs.Line.{attack_line, defence_line}
use Rattle.odds.specs.Odds.{multiple_at, column}
use Rattle.results.specs.Results.{upshot, need_of, battle_changes}
use Rattle.battle.specs.Attack.{attack_checks}

-- the column of a battle, counted from 0: "Defence is the sum times" the multiple
unfoldable pub column_of : Board → ℕ → List ℕ → List ℕ → ℕ
column_of b target units ss =
    column b.results (fighting_total (attack_line b units ss))
    (fighting_total (defence_line b target units ss) * multiple_at b target units)

unfoldable pub code_of : Board → ℕ → List ℕ → ℕ → List ℕ → ℕ
code_of b target units die ss = b.results.code (column_of b target units ss) die

unfoldable pub need_for : Board → ℕ → List ℕ → ℕ → List ℕ → ℕ
need_for b target units die ss =
    need_of (upshot (code_of b target units die ss)) (printed_total (attack_line b units ss)) (printed_total (defence_line b target units ss))

-- "The answer is column, from 1, and result code."
unfoldable pub ruled : Board → ℕ → List ℕ → ℕ → List ℕ → Judge
ruled b target units die ss =
    rule (fought_with (column_of b target units ss + 1) (code_of b target units die ss))
    (battle_changes b target units (upshot (code_of b target units die ss)) (need_for b target units die ss))
    (replicate b.map.hexes 0)

-- "All participants turn over": their strengths decide
unfoldable pub battle : Board → ℕ → List ℕ → ℕ → Verdict
battle b target units die = judge (reveal_all (participants b target units) (ruled b target units die))

unfoldable pub attack_rule : Board → ℕ → List ℕ → ℕ → ℕ → Verdict
attack_rule b target units die long = attack_checks b target units die long (battle b target units die)
