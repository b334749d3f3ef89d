-- Beside what is certain: vocabulary of contracts and proofs.
-- What the check of the off-map sides asks of a hex.
-- Assumes nothing.
use Rattle.std.specs.Prelude.{ℕ, ◌<◌}
use Rattle.position.specs.Board.{Map}
use Rattle.setting.specs.Setting.{EdgeOk}

-- the three sides that a hex keeps
abbrev pub EdgesOk : Map → ℕ → Type 0
EdgesOk m h = (d : ℕ) → d < 3 → EdgeOk m h d
