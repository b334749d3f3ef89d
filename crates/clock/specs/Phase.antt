-- "phase (0 land movement, 1 combat, 2 mechanised)"
-- Assumes nothing.
use Rattle.std.specs.Prelude.{ℕ}

abbrev pub land : ℕ
land = 0

abbrev pub combat : ℕ
combat = 1

abbrev pub mechanised : ℕ
mechanised = 2

-- "passes 0, 1, 2": the first phase of a force, the last, and how many there are
abbrev pub first : ℕ
first = land

abbrev pub last : ℕ
last = mechanised

abbrev pub count : ℕ
count = 3
