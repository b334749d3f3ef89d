-- Beside what is certain: vocabulary of contracts and proofs.
-- What the writing parts of a battle leave.
-- Assumes nothing.
use Rattle.std.specs.Prelude.{ℕ, ◌+◌, ◌/◌, ◌<◌, ◌≡◌, Bool, cond, List}
use Rattle.position.specs.Bits.{with, fought}
use Rattle.position.specs.Board.{Board, board, nowhere}
use Rattle.position.specs.Change.{make, makes}
use Rattle.position.specs.Change.Change.{routed}
use Rattle.results.specs.declared.Upshot.{Upshot}
use Rattle.results.specs.Results.{fought_by}

-- board c has the marks of board b, but for tried and fought
pub record Likened (b c : Board) : Type 0 where
  pub marks : (u : ℕ) → with fought (c.units.state.marks u) / 2 ≡ with fought (b.units.state.marks u) / 2

-- the units us get fought, by the marks that they had on a board b that this call began with
pub record MarksAll (p us q : List ℕ) : Type 0 where
  pub made : (b : Board) → Likened b (board p) → q ≡ makes p (fought_by b us)

-- hex h is written as route r and r counted on, unless it was written before
pub record RoutesOnce (p : List ℕ) (before : Bool) (r h : ℕ) (next : ℕ) (q : List ℕ) : Type 0 where
  pub count : next ≡ cond before r (r + 1)
  pub made : q ≡ cond before p (make p (routed r h nowhere nowhere nowhere))

-- numbers that fit the desk
pub record Fitting (o : Upshot) : Type 0 where
  pub attackers : o.attackers < 256
  pub defenders : o.defenders < 256
  pub stage : o.stage < 256
  pub owed : o.owed < 256
