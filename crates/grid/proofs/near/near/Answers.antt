-- `near` meets its contract: where the moves lead, the direction leads, and where one leads off the map, it does.
-- Assumes nothing.
use Rattle.std.proofs.Common.{◌≡◌, arith}
use Rattle.grid.proofs.Spots.{near_off, near_moved}
use Rattle.grid.proofs.Step.{aside, down}
use Rattle.grid.proofs.near.near.Goals as goal

pub returns-in_err-east-in-1 : goal.returns-in_err-east-in-1
unfolding aside down
returns-in_err-east-in-1 c =
    rw (c.in-1.is, c.from_residual.ensures) (near_off c.requires.0 1 (λ x y p q g. omega (arith, g.over, c.in_err-east-in-1.ensures)))

pub returns-in_err-east-in-2 : goal.returns-in_err-east-in-2
unfolding aside down
returns-in_err-east-in-2 c =
    rw (c.in-2.is, c.from_residual-in_err-east-in-2.ensures) (near_off c.requires.0 2 (λ x y p q g. omega (arith, g.over, c.in_err-east-in-2.ensures)))

pub returns-in_err-west-in-4 : goal.returns-in_err-west-in-4
unfolding aside down
returns-in_err-west-in-4 c =
    rw (c.in-4.is, c.from_residual-in_err-west-in-4.ensures) (near_off c.requires.0 4 (λ x y p q g. omega (arith, g.over, c.in_err-west-in-4.ensures)))

pub returns-in_err-west-in_default : goal.returns-in_err-west-in_default
unfolding aside down
returns-in_err-west-in_default c =
    let e : c.args.dir ≡ 5 = omega arith in
    rw (e, c.from_residual-in_err-west-in_default.ensures) (near_off c.requires.0 5 (λ x y p q g. omega (arith, g.over, c.in_err-west-in_default.ensures)))

pub returns-in-0 : goal.returns-in-0
unfolding aside down
returns-in-0 c = rw c.in-0.is (near_moved c.requires.0 0 _ c.above.ensures (λ x y p q. omega arith) (λ n x y p q g. omega (arith, g.deeper, g.over)))

pub returns-in_ok-east-in-1 : goal.returns-in_ok-east-in-1
unfolding aside down
returns-in_ok-east-in-1 c =
    let t = c.in_ok-east-in-1.ensures in
    rw c.in-1.is
    (near_moved c.requires.0 1 _ c.upper.ensures (λ x y p q. omega (arith, t.1, t.2)) (λ n x y p q g. omega (arith, g.deeper, g.over, t.1, t.2)))

pub returns-in_ok-east-in-2 : goal.returns-in_ok-east-in-2
unfolding aside down
returns-in_ok-east-in-2 c =
    let t = c.in_ok-east-in-2.ensures in
    rw c.in-2.is
    (near_moved c.requires.0 2 _ c.lower.ensures (λ x y p q. omega (arith, t.1, t.2)) (λ n x y p q g. omega (arith, g.deeper, g.over, t.1, t.2)))

pub returns-in-3 : goal.returns-in-3
unfolding aside down
returns-in-3 c = rw c.in-3.is (near_moved c.requires.0 3 _ c.below.ensures (λ x y p q. omega arith) (λ n x y p q g. omega (arith, g.deeper, g.over)))

pub returns-in_ok-west-in-4 : goal.returns-in_ok-west-in-4
unfolding aside down
returns-in_ok-west-in-4 c =
    let t = c.in_ok-west-in-4.ensures in
    rw c.in-4.is
    (near_moved c.requires.0 4 _ c.lower-in-4.ensures (λ x y p q. omega (arith, t.1, t.2)) (λ n x y p q g. omega (arith, g.deeper, g.over, t.1, t.2)))

pub returns-in_ok-west-in_default : goal.returns-in_ok-west-in_default
unfolding aside down
returns-in_ok-west-in_default c =
    let t = c.in_ok-west-in_default.ensures in
    let e : c.args.dir ≡ 5 = omega arith in
    rw e
    (near_moved c.requires.0 5 _ c.upper-in_default.ensures (λ x y p q. omega (arith, t.1, t.2)) (λ n x y p q g. omega (arith, g.deeper, g.over, t.1, t.2)))
