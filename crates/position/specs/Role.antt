-- "Role 1 owes, role 2 may advance"; a unit without a role has 0
-- Assumes nothing.
use Rattle.std.specs.Prelude.{ℕ}

abbrev pub none : ℕ
none = 0

abbrev pub owes : ℕ
owes = 1

abbrev pub advances : ℕ
advances = 2
