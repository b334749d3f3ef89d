-- Beside what is certain: vocabulary of contracts and proofs.
-- What a hex of the picture is drawn from: numbers of the board.
-- Assumes nothing.
use Rattle.std.specs.Prelude.{ℕ, ◌≡◌}
use Rattle.position.specs.Board.{Board}
use Rattle.picture.specs.declared.hexes.Ground.{Ground}

-- hex h, as the board shows it
pub record GroundOf (b : Board) (h : ℕ) (r : Ground) : Type 0 where
  pub number : r.number ≡ h
  pub surface : r.surface ≡ b.map.surface h
  pub terrain : r.terrain ≡ b.map.terrain h
  pub cost : r.cost ≡ b.chart.cost r.terrain
  pub multiple : r.multiple ≡ b.chart.multiple r.terrain
  pub flags : r.flags ≡ b.map.flags h
  pub country : r.country ≡ b.map.country h
  pub sides : r.sides ≡ b.map.sides h
