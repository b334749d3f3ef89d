-- What the plot's answers say of an order.
-- Assumes nothing.
use Prim.Native.Nat.{ℕ, ◌≤◌}
use mathlib.Core.Path.{◌≡◌, ap, ap₂}
use mathlib.Core.Bool.{Bool, true, false, cond, ◌&&◌}
use mathlib.Core.List.{List}
use native.Mathlib.Omega.{arith}
use lib.Dec.{eqb}
use lib.ListN.{length}
use borrow.Author.Tests.{eq-eqb, ne_eqb}
use Rattle.grid.specs.declared.region.Region.{Region}
use Rattle.grid.specs.Map.{On}
use Rattle.grid.specs.Region.{place_of, place_in, Round}
use Rattle.position.specs.Board.{Board}
use Rattle.position.proofs.Tallies.{same_or}
use Rattle.chains.specs.Follows.{legal_pushes}
use Rattle.plot.specs.Search.{serves_in}
use Rattle.plot.specs.Follow.{places_from, follows_in}
use Rattle.pushes.specs.declared.Served.TheVariants.{None, Wrong, Right}
use Rattle.pushes.specs.Drawn.{Drawn}
use Rattle.pushes.specs.Pushes.{served, served_in}
use Rattle.pushes.proofs.Folding.{serves_there, follows_there}

-- what comes of an order on a plot, by the search, the route's length and the test
module _ (place : ℕ → ℕ) (home : ℕ) (l : List ℕ) (n : ℕ) (route pushes : List ℕ) where
  pub none_serves : serves_in home l n 0 home ≡ false → served_in place home l n route pushes ≡ None
  unfolding served_in
  none_serves e = simp e

  module _ (e : serves_in home l n 0 home ≡ true) where
    pub wrong_length : (length route ≡ n → ⊥) → served_in place home l n route pushes ≡ Wrong
    unfolding served_in
    wrong_length h = simp (e, ne_eqb (length route) n h)

    module _ (h : length route ≡ n) where
      pub sent_wrong : follows_in place home l 0 home route 0 pushes ≡ false → served_in place home l n route pushes ≡ Wrong
      unfolding served_in
      sent_wrong q = simp (e, eq-eqb (length route) n h, q)

      pub sent_right : follows_in place home l 0 home route 0 pushes ≡ true → served_in place home l n route pushes ≡ Right
      unfolding served_in
      sent_right q = simp (e, eq-eqb (length route) n h, q)

-- a plot that is drawn for the group answers as the board does
module _ (b : Board) (f start home : ℕ) (at : Region) (l : List ℕ) (o : On b.map.width b.map.height start)
    (r : Round b.map.width b.map.height start 6 at) (e : home ≡ place_of b.map.width at start) (k : Drawn b f start at l) where
  abbrev place : ℕ → ℕ
  place = place_in b.map.width b.map.height at

  -- a route of the right length is legal if it is followed, and another is not
  legal : (n : ℕ) (route pushes : List ℕ) → n ≤ 3
      → (eqb (length route) n && follows_in place home l 0 home route 0 pushes) ≡ legal_pushes b f start n route pushes
  unfolding legal_pushes follows_in places_from
  legal n route pushes t =
      same_or (length route) n
      (λ q. ap (λ (x : Bool). eqb (length route) n && x) (follows_there b f start home at l o r e k route pushes (omega (arith, q, t))))
      (λ q. simp (ne_eqb (length route) n q))

  pub as_on_board : (n : ℕ) (route pushes : List ℕ) → n ≤ 3 → served_in place home l n route pushes ≡ served b f start n route pushes
  unfolding served_in served serves_in
  as_on_board n route pushes t =
      ap₂ (λ (x y : Bool). cond x (cond y Right Wrong) None) (serves_there b f start home at l o r e k n t) (legal n route pushes t)
