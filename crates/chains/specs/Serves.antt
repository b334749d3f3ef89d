-- The search for a series of pushes.
-- Assumes nothing.
use Rattle.std.specs.Prelude.{ℕ, zero, suc, ◌≡◌, Bool, true, false, cond, ◌&&◌, List, [], ◌∷◌, ◌↔◌, eqb}
use Rattle.position.specs.Tally.{any}
use Rattle.position.specs.Board.{Board}
use Rattle.chains.specs.Stand.{stand}
use Rattle.chains.specs.Chain.{Ways, Stands, rests, yields, leads_to, leads, has_rest, most, after}
use Rattle.chains.specs.Series.{Land, land_of, SeriesFrom, Bounded, SeriesExists}
use Rattle.chains.specs.Follows.{by_stand}

-- a chain from the stack in hex h on may end in hex y. It grows by a hex each time, so those not used become fewer
unfoldable pub ends_in : Ways → Stands → List ℕ → ℕ → ℕ → ℕ → Bool
ends_in next s used zero h y = false
ends_in next s used (suc left) h y =
    cond (has_rest next s (h ∷ used) h)
    (leads next h y && rests s (h ∷ used) y)
    (any (λ d. leads_to (λ z. yields s (h ∷ used) z && ends_in next s (h ∷ used) left z y) (next h d)) 6)

-- the group, gone from hex a into hex x, can be brought further, if `on` says how from there: with the chain that ends in hex y,
unfoldable pub on_with : Land → (Stands → ℕ → Bool) → Stands → ℕ → ℕ → ℕ → Bool
on_with g on s a x y = ends_in g.next s (a ∷ []) most x y && on (after s x y) x

-- or with no chain or any, after i steps
unfoldable pub on_over : Land → (Stands → ℕ → Bool) → Stands → ℕ → ℕ → ℕ → Bool
on_over g on s i a x = eqb (g.far x) (suc i) && by_stand (on s x) (any (on_with g on s a x) g.hexes) (s x)

-- a series of k more steps goes on from hex a after i steps
unfoldable pub serves : Land → Stands → ℕ → ℕ → ℕ → Bool
serves g s zero i a = true
serves g s (suc k) i a = any (λ d. leads_to (on_over g (λ t x. serves g t k (suc i) x) s i a) (g.next a d)) 6

-- a series of n steps exists for a group of force f in hex `start`
unfoldable pub pushes_serve : Board → ℕ → ℕ → ℕ → Bool
pushes_serve b f start n = serves (land_of b start) (stand b f start) n 0 start

-- On any bounded land the search finds one exactly if there is one. Proved in proofs/Serves.antt, and so is the next.
abbrev pub SearchRight : Type 0
SearchRight = (g : Land) → Bounded g → (s : Stands) (k i a : ℕ) → (serves g s k i a ≡ true) ↔ SeriesFrom g s k i a

-- The search finds one exactly if one exists.
abbrev pub ServesRight : Type 0
ServesRight = (b : Board) (f start n : ℕ) → (pushes_serve b f start n ≡ true) ↔ SeriesExists b f start n
