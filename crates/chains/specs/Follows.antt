-- The test of a route with its pushes, hex by hex.
-- Assumes nothing.
use Rattle.std.specs.Prelude.{ℕ, zero, suc, ◌≡◌, Bool, true, false, cond, ◌&&◌, List, [], ◌∷◌, ◌↔◌, eqb, length}
use Rattle.position.specs.Board.{Board}
use Rattle.chains.specs.declared.Stand.{Stand}
use Rattle.chains.specs.declared.Stand.TheVariants.{Shut, Free, Loose}
use Rattle.chains.specs.Stand.{stand}
use Rattle.chains.specs.Chain.{Ways, Stands, rests, yields, leads, has_rest, most, after}
use Rattle.chains.specs.Series.{Land, land_of, LegalSeries}

-- what a chain takes off the pushes that were sent: it comes to its last hex and leaves the rest of them, or it is wrong
pub data Taken : Type 0 where
  up_to : ℕ → List ℕ → Taken
  wrong : Taken

-- the pushes "delimit themselves": the chain ends at the first vacant hex
unfoldable pub takes : Ways → Stands → List ℕ → ℕ → ℕ → List ℕ → Taken
takes next s used left h [] = wrong
takes next s used zero h (z ∷ zs) = wrong
takes next s used (suc left) h (z ∷ zs) =
    cond (leads next h z)
    (cond (rests s (h ∷ used) z) (up_to z zs)
    (cond (has_rest next s (h ∷ used) h) wrong (cond (yields s (h ∷ used) z) (takes next s (h ∷ used) left z zs) wrong)))
    wrong

abbrev pub none : List ℕ → Bool
none [] = true
none (z ∷ zs) = false

-- whether a hex may be entered, by what it is: a vacant one, or one from which a stack is pushed
abbrev pub by_stand : Bool → Bool → Stand → Bool
by_stand vacated pushed Shut = false
by_stand vacated pushed Free = vacated
by_stand vacated pushed Loose = pushed

-- whether the group goes on, by what its chain took
abbrev pub by_taken : (ℕ → List ℕ → Bool) → Taken → Bool
by_taken on wrong = false
by_taken on (up_to y ps) = on y ps

-- the group goes on from hex a after i steps, along the route and with these pushes: "A list that ends too early, or has hexes left over at
-- the end, is not legal"
unfoldable pub follows : Land → Stands → ℕ → ℕ → List ℕ → List ℕ → Bool
follows g s i a [] ps = none ps
follows g s i a (x ∷ route) ps =
    leads g.next a x
    && (eqb (g.far x) (suc i)
    && by_stand (follows g s (suc i) x route ps)
    (by_taken (λ y qs. follows g (after s x y) (suc i) x route qs) (takes g.next s (a ∷ []) most x ps))
    (s x))

-- route and pushes are legal: this is asked where "only pushes serve and route or pushes are not legal" is refused
unfoldable pub legal_pushes : Board → ℕ → ℕ → ℕ → List ℕ → List ℕ → Bool
legal_pushes b f start n route pushes =
    eqb (length route) n && follows (land_of b start) (stand b f start) 0 start route pushes

-- The test is true exactly of the legal ones. Proved in proofs/Follows.antt.
abbrev pub LegalPushesRight : Type 0
LegalPushesRight =
    (b : Board) (f start n : ℕ) (route pushes : List ℕ)
    → (legal_pushes b f start n route pushes ≡ true) ↔ LegalSeries b f start n route pushes
