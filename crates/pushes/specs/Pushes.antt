-- Beside what is certain: vocabulary of contracts and proofs.
-- What comes of an order where no vacant route exists.
-- Assumes nothing.
use Rattle.std.specs.Prelude.{ℕ, cond, ◌&&◌, List, eqb, length}
use Rattle.position.specs.Board.{Board}
use Rattle.chains.specs.Follows.{legal_pushes}
use Rattle.chains.specs.Serves.{pushes_serve}
use Rattle.plot.specs.Search.{serves_in}
use Rattle.plot.specs.Follow.{follows_in}
use Rattle.pushes.specs.declared.Served.{Served}
use Rattle.pushes.specs.declared.Served.TheVariants.{None, Wrong, Right}

-- "The group is destroyed exactly if neither a vacant route nor such a series of pushes exists"; where only pushes serve, "route and pushes
-- must be legal together"
unfoldable pub served : Board → ℕ → ℕ → ℕ → List ℕ → List ℕ → Served
served b f start n route pushes =
    cond (pushes_serve b f start n) (cond (legal_pushes b f start n route pushes) Right Wrong) None

-- the same asked of a plot l, on which each hex has its place and the group starts from the place `home`
unfoldable pub served_in : (ℕ → ℕ) → ℕ → List ℕ → ℕ → List ℕ → List ℕ → Served
served_in place home l n route pushes =
    cond (serves_in home l n 0 home)
    (cond (eqb (length route) n && follows_in place home l 0 home route 0 pushes) Right Wrong)
    None
