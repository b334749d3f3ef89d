-- `look` meets its contract: the first direction that leads to such a hex is the one that is answered, as those before it lead to none.
-- Assumes nothing.
use native.Mathlib.Omega.{arith}
use Rattle.walk.proofs.Looks.{first_none, first_here, first_on}
use Rattle.looking.proofs.look.Goals as goal

pub returns-then-opens : goal.returns-then-opens
returns-then-opens c = (
  (first_here 0 (omega arith) (rw c.if-opens.true at c.opens.ensures)),
  omega arith,
)

pub returns-then-opens-2 : goal.returns-then-opens-2
returns-then-opens-2 c = (
  (first_on 0 (rw c.if-opens.false at c.opens.ensures)
      (first_here 1 (omega arith) (rw c.if-opens-2.true at c.opens-2.ensures))),
  omega arith,
)

pub returns-then-opens-3 : goal.returns-then-opens-3
returns-then-opens-3 c = (
  (first_on 0 (rw c.if-opens.false at c.opens.ensures)
      (first_on 1 (rw c.if-opens-2.false at c.opens-2.ensures)
      (first_here 2 (omega arith) (rw c.if-opens-3.true at c.opens-3.ensures)))),
  omega arith,
)

pub returns-then-opens-4 : goal.returns-then-opens-4
returns-then-opens-4 c = (
  (first_on 0 (rw c.if-opens.false at c.opens.ensures)
      (first_on 1 (rw c.if-opens-2.false at c.opens-2.ensures)
      (first_on 2 (rw c.if-opens-3.false at c.opens-3.ensures)
      (first_here 3 (omega arith) (rw c.if-opens-4.true at c.opens-4.ensures))))),
  omega arith,
)

pub returns-then-opens-5 : goal.returns-then-opens-5
returns-then-opens-5 c = (
  (first_on 0 (rw c.if-opens.false at c.opens.ensures)
      (first_on 1 (rw c.if-opens-2.false at c.opens-2.ensures)
      (first_on 2 (rw c.if-opens-3.false at c.opens-3.ensures)
      (first_on 3 (rw c.if-opens-4.false at c.opens-4.ensures)
      (first_here 4 (omega arith) (rw c.if-opens-5.true at c.opens-5.ensures)))))),
  omega arith,
)

pub returns-then-opens-6 : goal.returns-then-opens-6
returns-then-opens-6 c = (
  (first_on 0 (rw c.if-opens.false at c.opens.ensures)
      (first_on 1 (rw c.if-opens-2.false at c.opens-2.ensures)
      (first_on 2 (rw c.if-opens-3.false at c.opens-3.ensures)
      (first_on 3 (rw c.if-opens-4.false at c.opens-4.ensures)
      (first_on 4 (rw c.if-opens-5.false at c.opens-5.ensures)
      (first_here 5 (omega arith) (rw c.if-opens-6.true at c.opens-6.ensures))))))),
  omega arith,
)

pub returns : goal.returns
returns c =
    first_on 0 (rw c.if-opens.false at c.opens.ensures)
    (first_on 1 (rw c.if-opens-2.false at c.opens-2.ensures)
    (first_on 2 (rw c.if-opens-3.false at c.opens-3.ensures)
    (first_on 3 (rw c.if-opens-4.false at c.opens-4.ensures)
    (first_on 4 (rw c.if-opens-5.false at c.opens-5.ensures)
    (first_on 5 (rw c.if-opens-6.false at c.opens-6.ensures)
    first_none)))))
