-- `ground::stored` meets its contract: two bits of the byte of sides, for each direction.
-- Assumes nothing.
use Prim.Native.Nat.{ℕ, ◌/◌, ◌%◌}
use mathlib.Core.Path.{ap, sym, ◌∙◌}
use native.Mathlib.Omega.{arith}
use Rattle.position.specs.Board.{ground}
use Rattle.position.proofs.Sides.{stored_north, stored_north_east, stored_south_east}
use Rattle.ground.proofs.stored.Goals as goal

pub returns-then-d-eq0 : goal.returns-then-d-eq0
returns-then-d-eq0 c =
    let a = c.args in
    let m = ground a.p.now in
    record {
      is = ap (λ (s : ℕ). s % 4) c.sides-sides.ensures.is ∙ sym (stored_north m a.h a.d c.if-d-eq0.true);
      small = omega arith;
    }

pub returns-then-d-eq1 : goal.returns-then-d-eq1
returns-then-d-eq1 c =
    let a = c.args in
    let m = ground a.p.now in
    record {
      is = ap (λ (s : ℕ). s / 4 % 4) c.sides-sides.ensures.is ∙ sym (stored_north_east m a.h a.d c.if-d-eq1.true);
      small = omega arith;
    }

pub returns : goal.returns
returns c =
    let a = c.args in
    let m = ground a.p.now in
    record {
      is = ap (λ (s : ℕ). s / 16 % 4) c.sides-sides.ensures.is ∙ sym (stored_south_east m a.h a.d (omega arith));
      small = omega arith;
    }
