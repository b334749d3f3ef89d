-- Numbers that are sums of 1, 2, 4 and 8, each there or not: marks and flags.
-- Assumes nothing.
use Rattle.std.specs.Prelude.{ℕ, ◌+◌, ◌*◌, ◌/◌, ◌%◌, Bool, eqb}

-- k, one of 1, 2, 4 and 8, is among those that make up m
unfoldable pub has : ℕ → ℕ → Bool
has k m = eqb (m / k % 2) 1

-- m with k, and m without it
unfoldable pub with : ℕ → ℕ → ℕ
with k m = m % k + k + m / (2 * k) * (2 * k)

unfoldable pub without : ℕ → ℕ → ℕ
without k m = m % k + m / (2 * k) * (2 * k)

-- "marks (1 tried + 2 supplied + 4 moved + 8 fought)"
abbrev pub tried : ℕ
tried = 1

abbrev pub supplied : ℕ
supplied = 2

abbrev pub moved : ℕ
moved = 4

abbrev pub fought : ℕ
fought = 8

-- marks are below this: "unnamed bits are 0"
abbrev pub marks_end : ℕ
marks_end = 16

-- "flags (1 port + 2 urban + 4 supply)"
abbrev pub port : ℕ
port = 1

abbrev pub urban : ℕ
urban = 2

abbrev pub supply : ℕ
supply = 4

-- the marks m with the face that the marks `old` show: tried stays as it is, and only turning over changes it
unfoldable pub faced : ℕ → ℕ → ℕ
faced old m = m / 2 * 2 + old % 2
