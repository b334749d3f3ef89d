-- Laws of spots: a hex, its column and its row fix each other, and where a direction leads from one.
-- Assumes nothing.
use Rattle.std.specs.Prelude.{Option, Some, None}
use mathlib.Core.Path.{◌≡◌, refl, sym, ◌∙◌, ap, ap₂, subst}
use Prim.Native.Nat.{ℕ, ◌+◌, ◌-◌, ◌*◌, ◌/◌, ◌%◌, ◌≤◌, ◌<◌}
use native.Mathlib.Nat.{add-mul}
use native.Mathlib.Omega.{arith}
use Rattle.grid.specs.declared.Spot.{Spot}
use Rattle.grid.specs.Map.{On, neighbour_of}
use Rattle.grid.specs.Spot.{SpotOf, NearOf, MovedOf}
use Rattle.grid.proofs.Arith.{small, column, row, number, column_of_lem, row_of, inside}
use Rattle.grid.proofs.Step.{Goes, stepped, steps}

module _ {w h : ℕ} {s : Spot} (o : SpotOf w h s) where
  pub spot_column : s.column < w
  spot_column = omega (arith, o.column, column o.on)

  pub spot_row : s.row < h
  spot_row = omega (arith, o.row, row o.on)

  -- "Hex number = row x width + column"
  pub spot_number : s.hex ≡ s.row * w + s.column
  spot_number = sym (ap₂ (λ (r c : ℕ). r * w + c) o.row o.column ∙ number w s.hex)

  pub spot_small : s.hex < 4096
  spot_small = omega (arith, o.on.below, small o.on.wide64 o.on.high64)

  -- a row higher, there are as many hexes fewer before as the map is wide, and a row lower as many more
  pub row_above : 1 ≤ s.row → s.hex ≡ (s.row - 1) * w + w + s.column
  row_above p =
      let e : s.row - 1 + 1 ≡ s.row = omega arith in
      omega (arith, spot_number, add-mul (s.row - 1) 1 w, ap (λ (n : ℕ). n * w) e)

  pub row_below : s.hex + w ≡ (s.row + 1) * w + s.column
  row_below = omega (arith, spot_number, add-mul s.row 1 w)

  -- the hex in column x and row y of the map is a spot
  pub spot_at : (n x y : ℕ) → x < w → y < h → n ≡ y * w + x → SpotOf w h (record { hex = n; column = x; row = y })
  spot_at n x y p q e =
      record {
        on = subst (On w h) (sym e) (inside o.on p q);
        column = sym (ap (λ (k : ℕ). k % w) e ∙ column_of_lem y p);
        row = sym (ap (λ (k : ℕ). k / w) e ∙ row_of y p);
      }

  -- a spot to which a direction leads is near
  pub near_at : (d : ℕ) (t : Spot) → SpotOf w h t → Goes d s.column s.row t.column t.row → NearOf w h s.hex d (Some t)
  near_at d t k g = (
    steps w h s.hex d t.column t.row o.on (omega (arith, k.column, column k.on)) (omega (arith, k.row, row k.on)) (rw (o.column, o.row) at g)
        ∙ ap Some (ap₂ (λ (r c : ℕ). r * w + c) k.row k.column ∙ number w t.hex),
    k,
  )

  -- and one that leads to none leads off the map
  pub near_off : (d : ℕ) → ((c r : ℕ) → c < w → r < h → Goes d s.column s.row c r → ⊥) → NearOf w h s.hex d None
  near_off d f = go (neighbour_of w h s.hex d) refl
    where
      go : (b : Option ℕ) → neighbour_of w h s.hex d ≡ b → neighbour_of w h s.hex d ≡ None
      go (Some b) e =
          let st = stepped w h s.hex d b e in
          absurd (f (b % w) (b / w) (column st.to) (row st.to) (rw (← o.column, ← o.row) at st.goes))
      go None e = e

  -- so what was moved to is near, if the direction leads there
  pub near_moved :
      {x y : ℕ} {off : Type 0} (d : ℕ) (r : Option Spot)
      → MovedOf w h x y off r
      → ((c b : ℕ) → c + 1 ≡ x → b + 1 ≡ y → Goes d s.column s.row c b)
      → (off → (c b : ℕ) → c < w → b < h → Goes d s.column s.row c b → ⊥)
      → NearOf w h s.hex d r
  near_moved d (Some t) m g f = near_at d t m.0 (g t.column t.row m.1 m.2)
  near_moved d None m g f = near_off d (f m)
