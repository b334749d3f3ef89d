-- The drawn plot is a copy of the land round the start, so the search and the test answer on it as they do on the board.
-- Assumes nothing.
use Rattle.std.specs.Prelude.{Option, Some, None}
use Prim.Native.Nat.{ℕ, ◌+◌, ◌≤◌, ◌<◌}
use mathlib.Core.Path.{◌≡◌, refl, sym, ap, ap₂, ◌∙◌}
use mathlib.Core.Bool.{Bool, true, false}
use mathlib.Core.List.{List, map}
use native.Mathlib.Omega.{arith}
use lib.ListN.{length}
use Rattle.grid.specs.declared.region.Region.{Region}
use Rattle.grid.specs.Map.{On, neighbour_of}
use Rattle.grid.specs.Walk.{distance_of}
use Rattle.grid.specs.Region.{Inside, place_of, place_in, Round}
use Rattle.grid.proofs.Tests.{under}
use Rattle.grid.proofs.Laws.{on_map_lem}
use Rattle.grid.proofs.Regions.{place_some, place_back}
use Rattle.position.specs.Bits.{has}
use Rattle.position.specs.Layout.{byte}
use Rattle.position.specs.Board.{Board}
use Rattle.position.specs.Ground.{next}
use Rattle.position.proofs.Sides.{next_over}
use Rattle.chains.specs.Stand.{stand}
use Rattle.chains.specs.Series.{land_of, Bounded}
use Rattle.chains.specs.Follows.{follows}
use Rattle.chains.specs.Serves.{serves, pushes_serve}
use Rattle.chains.specs.Fold.{moved, Folds, Agrees}
use Rattle.chains.proofs.Serves.{board_bounded}
use Rattle.chains.proofs.Fold.{same_search, same_test}
use Rattle.plot.specs.Plot.{side_bit, stand_in, next_in, land_in}
use Rattle.pushes.specs.Drawn.{stand_number, open_bits, opens, byte_of, Drawn}
use Rattle.pushes.proofs.Drawing.{opens_at, opens_off, stand_back, has_back}
use Rattle.pushes.proofs.Nearby.{Near, near_start, near_more, near_further}

-- every step on a plot leads to one of its places
plot_bounded : (home : ℕ) (l : List ℕ) → Bounded (land_in home l)
unfolding land_in next_in
plot_bounded home l =
    record {
      below = λ h d z e.
          let t = under (has (side_bit d) (byte l h)) (neighbour_of 14 13 h d) e in
          (on_map_lem 14 13 h d z t.1).below;
    }

-- where a step from a place leads, by whether the direction is open
module _ (l : List ℕ) (i d : ℕ) where
  step_open : has (side_bit d) (byte l i) ≡ true → next_in l i d ≡ neighbour_of 14 13 i d
  unfolding next_in
  step_open e = simp e

  step_shut : has (side_bit d) (byte l i) ≡ false → next_in l i d ≡ None
  unfolding next_in
  step_shut e = simp e

module _ (b : Board) (f start home : ℕ) (at : Region) (l : List ℕ) (o : On b.map.width b.map.height start)
    (r : Round b.map.width b.map.height start 6 at) (e : home ≡ place_of b.map.width at start) (k : Drawn b f start at l) where
  abbrev w : ℕ
  w = b.map.width

  abbrev h : ℕ
  h = b.map.height

  abbrev place : ℕ → ℕ
  place = place_in w h at

  -- a near hex lies in the region, and has its place
  near_inside : (x : ℕ) → Near w h start 6 x → Inside w h at x
  near_inside x n = r.near x n.on n.steps

  near_place : (x : ℕ) → Near w h start 6 x → place x ≡ place_of w at x
  near_place x n = place_some w h at x (near_inside x n)

  start_near : Near w h start 6 start
  start_near = near_more w h start 0 6 start (near_start w h start o) (omega arith)

  start_place : place start ≡ home
  start_place = near_place start start_near ∙ sym e

  -- places lie to each other as the hexes do
  near_far : (x : ℕ) → Near w h start 6 x → distance_of 14 home (place x) ≡ distance_of w start x
  near_far x n =
      rw (e, near_place x n)
      (ap (λ (m : ℕ). distance_of m (place_of w at start) (place_of w at x)) (sym r.wide)
      ∙ r.alike.far start x (near_inside start start_near) (near_inside x n))

  near_step : (x d z : ℕ) → Near w h start 5 x → neighbour_of w h x d ≡ Some z → neighbour_of 14 13 (place x) d ≡ Some (place z)
  near_step x d z n q =
      let i = near_more w h start 5 6 x n (omega arith) in
      let j = near_further w h start o 5 x d z n q in
      rw (near_place x i, near_place z j)
      (ap₂ (λ (m t : ℕ). neighbour_of m t (place_of w at x) d) (sym r.wide) (sym r.high)
      ∙ r.alike.steps x d z (near_inside x i) (near_inside z j) q)

  -- the byte of a near hex
  drawn_byte : (x : ℕ) → Near w h start 6 x → byte l (place x) ≡ open_bits b.map x 6 + stand_number (stand b f start x)
  unfolding byte_of
  drawn_byte x n = ap (byte l) (near_place x n) ∙ k.each x (near_inside x n)

  -- says what the hex is,
  agrees : Agrees place (Near w h start) (stand b f start) (stand_in l)
  unfolding stand_in
  agrees = record { same = λ x n. rw (drawn_byte x n) (stand_back b.map x (stand b f start x)) }

  -- and which directions are open
  drawn_open : (x d : ℕ) → Near w h start 6 x → d < 6 → has (side_bit d) (byte l (place x)) ≡ opens b.map x d
  drawn_open x d n q = rw (drawn_byte x n) (has_back b.map x (stand b f start x) d q)

  way : (x d : ℕ) → Near w h start 5 x → d < 6 → (t : Option ℕ) → next b.map x d ≡ t → next_in l (place x) d ≡ moved place t
  unfolding moved
  way x d n q (Some z) u =
      step_open l (place x) d (drawn_open x d (near_more w h start 5 6 x n (omega arith)) q ∙ opens_at b.map x d (sym u) refl)
      ∙ near_step x d z n (next_over b.map x d z u)
  way x d n q None u =
      step_shut l (place x) d (drawn_open x d (near_more w h start 5 6 x n (omega arith)) q ∙ opens_off b.map x d (sym u) refl)

  -- so the plot is a copy of the land
  folds : Folds (land_of b start) (land_in home l) place (Near w h start)
  unfolding land_of land_in
  folds =
      record {
        more = near_more w h start;
        further = λ m x d z n u. near_further w h start o m x d z n (next_over b.map x d z u);
        ways = λ x d n q. way x d n q (next b.map x d) refl;
        far = near_far;
        one = λ x z n u. place_back w h at x z (near_inside x n) u;
      }

  -- the search finds on it what it finds on the board,
  pub serves_there : (n : ℕ) → n ≤ 3 → serves (land_in home l) (stand_in l) n 0 home ≡ pushes_serve b f start n
  unfolding pushes_serve
  serves_there n q =
      ap (serves (land_in home l) (stand_in l) n 0) (sym start_place)
      ∙ sym (same_search folds agrees (board_bounded b start) (plot_bounded home l) n 0 start (near_start w h start o) (omega arith))

  -- and the test of an order says what it says there
  pub follows_there :
      (route pushes : List ℕ) → length route ≤ 3
      → follows (land_in home l) (stand_in l) 0 home (map place route) (map place pushes)
      ≡ follows (land_of b start) (stand b f start) 0 start route pushes
  follows_there route pushes q =
      let by : ℕ → Bool = λ i. follows (land_in home l) (stand_in l) 0 i (map place route) (map place pushes) in
      ap by (sym start_place) ∙ sym (same_test folds agrees 0 start (near_start w h start o) route pushes (omega arith))
