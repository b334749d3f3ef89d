-- Reading after writing: what a byte written to a unit or to the desk leaves, and what it shows.
-- Assumes nothing.
use Prim.Native.Nat.{ℕ, ◌+◌, ◌≤◌, ◌<◌}
use mathlib.Core.Path.{◌≡◌, sym, ap, ◌∙◌}
use mathlib.Core.List.{List}
use native.Mathlib.Omega.{arith}
use native.Mathlib.Decide.{dec_lt}
use lib.Seq.{get_or-set_same, get_or-set_other}
use Rattle.position.specs.Layout.{byte, units_head, unit_size, players_field, units_at, count, desk_at, unit_at, unit_byte, desk_byte, set_unit, set_desk}
use Rattle.position.specs.Shape.{Shaped}
use Rattle.position.proofs.Cells.{cell_in, cell_out}
use Rattle.position.proofs.Tables.{set_unit_in, set_unit_out}
use Rattle.position.proofs.Counts.{Counts, desk_at_same, unit_at_same}
use Rattle.position.proofs.Front.{Front, Behind, behind_refl, behind_set, behind_front, count_kept, desk_at_kept, unit_at_kept}

-- a unit's byte in the list, and past the units
pub unit_in : (p : List ℕ) (u f : ℕ) → u < count p → unit_byte p u f ≡ byte p (unit_at p u + f)
unfolding unit_byte unit_at
unit_in p u f l = cell_in p (units_at p + units_head) unit_size (count p) u f l

pub unit_out : (p : List ℕ) (u f : ℕ) → count p ≤ u → unit_byte p u f ≡ 0
unfolding unit_byte
unit_out p u f l = cell_out p (units_at p + units_head) unit_size (count p) u f l

pub behind_unit : (p : List ℕ) (u f x : ℕ) → Behind p (set_unit p u f x)
unfolding unit_at
behind_unit p u f x = at (dec_lt u (count p))
  where
    at : Dec (u < count p) → Behind p (set_unit p u f x)
    at (yes l) = rw (set_unit_in p u f x l) (behind_set (unit_at p u + f) x (omega arith) (behind_refl p))
    at (no n) = rw (set_unit_out p u f x (omega arith)) (behind_refl p)

pub behind_desk : (p : List ℕ) (f x : ℕ) → Behind p (set_desk p f x)
unfolding set_desk desk_at
behind_desk p f x = behind_set (desk_at p + f) x (omega arith) (behind_refl p)

pub front_unit : (p : List ℕ) (u f x : ℕ) → Front p (set_unit p u f x)
front_unit p u f x = behind_front (behind_unit p u f x)

pub front_desk : (p : List ℕ) (f x : ℕ) → Front p (set_desk p f x)
front_desk p f x = behind_front (behind_desk p f x)

-- bytes elsewhere
pub byte_unit : (p : List ℕ) (u f x i : ℕ) → (u < count p → i ≡ unit_at p u + f → ⊥) → byte (set_unit p u f x) i ≡ byte p i
byte_unit p u f x i n = at (dec_lt u (count p))
  where
    at : Dec (u < count p) → byte (set_unit p u f x) i ≡ byte p i
    at (yes l) = ap (λ (q : List ℕ). byte q i) (set_unit_in p u f x l) ∙ get_or-set_other p (unit_at p u + f) i x 0 (n l)
    at (no m) = ap (λ (q : List ℕ). byte q i) (set_unit_out p u f x (omega arith))

pub byte_desk : (p : List ℕ) (f x i : ℕ) → (i ≡ desk_at p + f → ⊥) → byte (set_desk p f x) i ≡ byte p i
unfolding set_desk
byte_desk p f x i n = get_or-set_other p (desk_at p + f) i x 0 n

-- a unit's byte in a position that has the same counts
pub unit_there : {p q : List ℕ} → Counts p q → (w g : ℕ) → (w < count p → byte q (unit_at p w + g) ≡ byte p (unit_at p w + g)) → unit_byte q w g ≡ unit_byte p w g
unit_there {p} {q} f w g h = at (dec_lt w (count p))
  where
    at : Dec (w < count p) → unit_byte q w g ≡ unit_byte p w g
    at (yes l) =
        unit_in q w g (omega (arith, f.count))
        ∙ ap (λ (i : ℕ). byte q (i + g)) (unit_at_same f w)
        ∙ h l
        ∙ sym (unit_in p w g l)
    at (no n) = unit_out q w g (omega (arith, f.count)) ∙ sym (unit_out p w g (omega arith))

pub desk_there : {p q : List ℕ} → Counts p q → (k : ℕ) → byte q (desk_at p + k) ≡ byte p (desk_at p + k) → desk_byte q k ≡ desk_byte p k
unfolding desk_byte
desk_there {p} {q} f k h = ap (λ (i : ℕ). byte q (i + k)) (desk_at_same f) ∙ h

-- the bytes of units and desk after a write to a unit
module _ (p : List ℕ) (u f x : ℕ) (l : f < unit_size) where
  pub unit_unit : (w g : ℕ) → g < unit_size → (w ≡ u → g ≡ f → ⊥) → unit_byte (set_unit p u f x) w g ≡ unit_byte p w g
  unfolding unit_at
  unit_unit w g m n =
      unit_there (front_unit p u f x).counts w g (λ k. byte_unit p u f x (unit_at p w + g) (λ j e. n (omega arith) (omega arith)))

  pub unit_same : Shaped p → u < count p → unit_byte (set_unit p u f x) u f ≡ x
  unfolding desk_at unit_at
  unit_same s m =
      unit_in (set_unit p u f x) u f (omega (arith, count_kept (front_unit p u f x)))
      ∙ ap (λ (i : ℕ). byte (set_unit p u f x) (i + f)) (unit_at_kept (front_unit p u f x) u)
      ∙ ap (λ (q : List ℕ). byte q (unit_at p u + f)) (set_unit_in p u f x m)
      ∙ get_or-set_same p (unit_at p u + f) x 0 (omega (arith, s.whole))

  pub desk_unit : (k : ℕ) → desk_byte (set_unit p u f x) k ≡ desk_byte p k
  unfolding desk_at unit_at
  desk_unit k = desk_there (front_unit p u f x).counts k (byte_unit p u f x (desk_at p + k) (λ m e. omega arith))

-- and after a write to the desk
module _ (p : List ℕ) (f x : ℕ) where
  pub unit_desk : (w g : ℕ) → g < unit_size → unit_byte (set_desk p f x) w g ≡ unit_byte p w g
  unfolding desk_at unit_at
  unit_desk w g m = unit_there (front_desk p f x).counts w g (λ l. byte_desk p f x (unit_at p w + g) (λ e. omega arith))

  pub desk_desk : (k : ℕ) → (k ≡ f → ⊥) → desk_byte (set_desk p f x) k ≡ desk_byte p k
  desk_desk k n = desk_there (front_desk p f x).counts k (byte_desk p f x (desk_at p + k) (λ e. n (omega arith)))

  pub desk_same : Shaped p → f < players_field → desk_byte (set_desk p f x) f ≡ x
  unfolding desk_byte set_desk
  desk_same s l =
      ap (λ (i : ℕ). byte (set_desk p f x) (i + f)) (desk_at_kept (front_desk p f x))
      ∙ get_or-set_same p (desk_at p + f) x 0 (omega (arith, s.whole))
