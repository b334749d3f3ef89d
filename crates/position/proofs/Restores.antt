-- Writing a number back restores the bytes.
-- Assumes nothing.
use Prim.Native.Nat.{ℕ, ◌+◌, ◌*◌, ◌/◌, ◌%◌, ◌<◌}
use mathlib.Core.Path.{◌≡◌, sym, ap, ap₂, ◌∙◌}
use mathlib.Core.List.{List}
use native.Mathlib.Omega.{arith}
use native.Mathlib.Decide.{dec_lt}
use lib.ListN.{set}
use lib.Seq.{set-set, set-get_or, set_comm}
use borrow.Author.Tests.{lt-ltb, le-ltb}
use Rattle.position.specs.Bits.{faced}
use Rattle.position.specs.Layout.{hex_field, marks_field, role_field, count, hexes, unit_at, unit_byte, hex, marks, role, set_unit, set_hex, set_marks, set_role}
use Rattle.position.specs.Shape.{Shaped}
use Rattle.position.specs.Change.{make}
use Rattle.position.specs.Change.Change.{placed, marked, assigned}
use Rattle.position.proofs.Tables.{hex_in, set_unit_in, set_unit_out}
use Rattle.position.proofs.Front.{count_kept, unit_at_kept, hexes_kept}
use Rattle.position.proofs.Writes.{unit_in, front_unit, unit_same}
use Rattle.position.proofs.Effects.{front_hex}

-- one byte of a unit, written twice
unit_again : (p : List ℕ) (u f x y : ℕ) → set_unit (set_unit p u f x) u f y ≡ set_unit p u f y
unit_again p u f x y = at (dec_lt u (count p))
  where
    at : Dec (u < count p) → set_unit (set_unit p u f x) u f y ≡ set_unit p u f y
    at (yes l) =
        set_unit_in (set_unit p u f x) u f y (omega (arith, count_kept (front_unit p u f x)))
        ∙ ap₂ (λ (q : List ℕ) (i : ℕ). set q (i + f) y) (set_unit_in p u f x l) (unit_at_kept (front_unit p u f x) u)
        ∙ set-set p (unit_at p u + f) x y
        ∙ sym (set_unit_in p u f y l)
    at (no n) = ap (λ (q : List ℕ). set_unit q u f y) (set_unit_out p u f x (omega arith))

-- two bytes of a unit, written in either order
unit_swap : (p : List ℕ) (u f g x y : ℕ) → (f ≡ g → ⊥) → set_unit (set_unit p u f x) u g y ≡ set_unit (set_unit p u g y) u f x
unit_swap p u f g x y n = at (dec_lt u (count p))
  where
    at : Dec (u < count p) → set_unit (set_unit p u f x) u g y ≡ set_unit (set_unit p u g y) u f x
    at (yes l) =
        set_unit_in (set_unit p u f x) u g y (omega (arith, count_kept (front_unit p u f x)))
        ∙ ap₂ (λ (q : List ℕ) (i : ℕ). set q (i + g) y) (set_unit_in p u f x l) (unit_at_kept (front_unit p u f x) u)
        ∙ set_comm p (unit_at p u + f) (unit_at p u + g) x y (λ e. n (omega arith))
        ∙ ap₂ (λ (q : List ℕ) (i : ℕ). set q (i + f) x) (sym (set_unit_in p u g y l)) (sym (unit_at_kept (front_unit p u g y) u))
        ∙ sym (set_unit_in (set_unit p u g y) u f x (omega (arith, count_kept (front_unit p u g y))))
    at (no m) =
        ap (λ (q : List ℕ). set_unit q u g y) (set_unit_out p u f x (omega arith))
        ∙ set_unit_out p u g y (omega arith)
        ∙ sym (ap (λ (q : List ℕ). set_unit q u f x) (set_unit_out p u g y (omega arith)) ∙ set_unit_out p u f x (omega arith))

-- a byte written that stood there
unit_idle : (p : List ℕ) (u f : ℕ) → set_unit p u f (unit_byte p u f) ≡ p
unit_idle p u f = at (dec_lt u (count p))
  where
    at : Dec (u < count p) → set_unit p u f (unit_byte p u f) ≡ p
    at (yes l) =
        set_unit_in p u f (unit_byte p u f) l
        ∙ ap (λ (x : ℕ). set p (unit_at p u + f) x) (unit_in p u f l)
        ∙ set-get_or p (unit_at p u + f) 0
    at (no n) = set_unit_out p u f (unit_byte p u f) (omega arith)

pub unit_restored : (p : List ℕ) (u f x : ℕ) → set_unit (set_unit p u f x) u f (unit_byte p u f) ≡ p
unit_restored p u f x = unit_again p u f x (unit_byte p u f) ∙ unit_idle p u f

-- a role given back
pub role_restored : (p : List ℕ) (u r : ℕ) → make (make p (assigned u r)) (assigned u (role p u)) ≡ p
unfolding make set_role
role_restored p u r = unit_restored p u role_field r

-- marks given back
pub marks_restored : {p : List ℕ} → Shaped p → (u m : ℕ) → u < count p → make (make p (marked u m)) (marked u (marks p u)) ≡ p
unfolding make set_marks faced
marks_restored {p} s u m l =
    let old = marks p u in
    let x = m / 2 * 2 + old % 2 in
    let now : unit_byte (set_unit p u marks_field x) u marks_field ≡ x = unit_same p u marks_field x (omega arith) s l in
    ap (set_unit (set_unit p u marks_field x) u marks_field) (omega (arith, now)) ∙ unit_restored p u marks_field x

-- a unit put back where it stood on the map; a byte is below 256
hex_again : (p : List ℕ) (u h k : ℕ) → set_hex (set_hex p u h) u k ≡ set_hex p u k
unfolding set_hex
hex_again p u h k =
    ap (λ (q : List ℕ). set_unit q u (hex_field + 1) (k / 256))
    (unit_swap (set_unit p u hex_field (h % 256)) u (hex_field + 1) hex_field (h / 256) (k % 256) (λ e. omega arith)
    ∙ ap (λ (q : List ℕ). set_unit q u (hex_field + 1) (h / 256)) (unit_again p u hex_field (h % 256) (k % 256)))
    ∙ unit_again (set_unit p u hex_field (k % 256)) u (hex_field + 1) (h / 256) (k / 256)

hex_idle : (p : List ℕ) (u : ℕ) → u < count p → unit_byte p u hex_field < 256 → set_hex p u (hex p u) ≡ p
unfolding set_hex
hex_idle p u l b =
    let k = hex_in p u l in
    let low : hex p u % 256 ≡ unit_byte p u hex_field = omega arith in
    let high : hex p u / 256 ≡ unit_byte p u (hex_field + 1) = omega arith in
    ap₂ (λ (q : List ℕ) (x : ℕ). set_unit q u (hex_field + 1) x) (ap (set_unit p u hex_field) low ∙ unit_idle p u hex_field) high ∙ unit_idle p u (hex_field + 1)

pub hex_restored : {p : List ℕ} → Shaped p → (u h : ℕ) → u < count p → unit_byte p u hex_field < 256 → hex p u < hexes p → make (make p (placed u h)) (placed u (hex p u)) ≡ p
unfolding make
hex_restored {p} s u h l b m = at (dec_lt h (hexes p))
  where
    at : Dec (h < hexes p) → make (make p (placed u h)) (placed u (hex p u)) ≡ p
    at (yes k) =
        simp (lt-ltb h (hexes p) k, hexes_kept (front_hex s u h), lt-ltb (hex p u) (hexes p) m) (hex_again p u h (hex p u) ∙ hex_idle p u l b)
    at (no k) = simp (le-ltb h (hexes p) (omega arith), lt-ltb (hex p u) (hexes p) m) (hex_idle p u l b)
