-- What may be missing, as the code asks of it: whether it is a certain one, and whether it is there.
-- Assumes nothing.
use Rattle.std.specs.Prelude.{ℕ, ◌≡◌, Option, Some, None, nat_eq, is_some, ltb}
use Rattle.std.specs.Option.{option_eq}
use mathlib.Core.Path.{refl, sym}
use native.Mathlib.Omega.{arith}
use borrow.Author.Tests.{lt-ltb, le-ltb}
use Rattle.position.specs.Ground.{is_at}
use Rattle.position.specs.Laid.{Sought}

-- whether it is a certain one
pub led : (o : Option ℕ) (x : ℕ) → option_eq nat_eq o (Some x) ≡ is_at o x
unfolding is_at
led (Some n) x = refl
led None x = refl

-- a number that was found is below its limit
pub told : (want limit : ℕ) (r : Option ℕ) → Sought want limit r → is_some r ≡ ltb want limit
told want limit (Some r) h = sym (lt-ltb want limit (omega (arith, h.0, h.1)))
told want limit None h = sym (le-ltb want limit (omega (arith, h)))
