-- Counting and asking over the numbers below n.
-- Assumes nothing.
use Rattle.std.specs.Prelude.{ℕ, zero, suc, ◌+◌, Bool, false, cond, ◌||◌}

-- how many numbers below n pass the test
unfoldable pub tally : (ℕ → Bool) → ℕ → ℕ
tally t zero = 0
tally t (suc n) = cond (t n) (tally t n + 1) (tally t n)

-- whether a number below n passes the test
unfoldable pub any : (ℕ → Bool) → ℕ → Bool
any t zero = false
any t (suc n) = t n || any t n
