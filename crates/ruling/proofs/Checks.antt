-- What the check's answer settles: a broken position is refused by 1, and on an accepted one whoever meets the rule meets the verdict.
-- Assumes nothing.
use Rattle.std.specs.Prelude.{Option, Some, None}
use Prim.Native.Nat.{ℕ}
use mathlib.Core.Path.{◌≡◌, subst}
use mathlib.Core.List.{List}
use Rattle.position.specs.Laid.{Laid}
use Rattle.position.specs.declared.View.{View}
use Rattle.acceptance.specs.Accepted.{Accepted}
use Rattle.acceptance.specs.Broken.{broken_true, broken_false}
use Rattle.acceptance.specs.Checked.{CheckedOf}
use Rattle.ruling.specs.Verdict.{Verdict, Ruling, Met, after_check}
use Rattle.ruling.specs.Verdict.Ruling.{refused}
use Rattle.ruling.proofs.Meets.{pass, stop}

-- past the check
pub checked : {p l : List ℕ} {v : Verdict} {a : Ruling} {q m : List ℕ} → Accepted p → Met p l v a q m → Met p l (after_check p v) a q m
unfolding after_check
checked y g = pass (broken_false y) g

-- at the check
pub unchecked : {p l : List ℕ} {r : Option View} (v : Verdict) → CheckedOf p r → r ≡ None → Met p l (after_check p v) (refused 1 0) p l
unfolding after_check
unchecked v o e = stop (broken_true (subst (CheckedOf _) e o))

-- the position taken apart is accepted, and laid out as its view says
pub whole : {p : List ℕ} {r : Option View} {w : View} → CheckedOf p r → r ≡ Some w → Accepted p × Laid p w
whole o e = subst (CheckedOf _) e o
