-- "Stages: 0 quiet, 1 retreats, 2 losses, 3 advances"
-- Assumes nothing.
use Rattle.std.specs.Prelude.{ℕ}

abbrev pub quiet : ℕ
quiet = 0

abbrev pub retreats : ℕ
retreats = 1

abbrev pub losses : ℕ
losses = 2

abbrev pub advances : ℕ
advances = 3
