-- `group::owes_at` meets its contract: the role is asked first, then the hex.
-- Assumes nothing.
use Prim.Native.Nat.{ℕ}
use mathlib.Core.Path.{ap, sym, ◌∙◌}
use lib.Dec.{eqb}
use Rattle.shoves.proofs.Turns.{owes_not, owes_where}
use Rattle.shoves.proofs.group.owes_at.Goals as goal

pub returns-then-role-ne-OWES : goal.returns-then-role-ne-OWES
returns-then-role-ne-OWES c = sym (owes_not _ _ _ (λ e. c.if-role-ne-OWES.true (c.role.ensures.is ∙ e)))

pub returns : goal.returns
returns c =
    ap (λ (k : ℕ). eqb k c.args.h) c.hex.ensures.is
    ∙ sym (owes_where _ _ _ (sym c.role.ensures.is ∙ c.if-role-ne-OWES.false))
