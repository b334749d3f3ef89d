-- Laws of a buffer of bytes: after a store, and along a pass over all of them.
-- Assumes nothing.
use Prim.Native.Nat.{ℕ, ◌≤◌, ◌<◌}
use mathlib.Core.Path.{◌≡◌}
use mathlib.Core.List.{List}
use native.Mathlib.Omega.{arith}
use lib.ListN.{length, set, get_or-eq_default}
use lib.Seq.{get_or-set_same, get_or-set_other}
use Rattle.position.specs.Layout.{byte}

-- past its end a buffer shows 0
pub byte_past : (l : List ℕ) (h : ℕ) → length l ≤ h → byte l h ≡ 0
byte_past l h past = get_or-eq_default l 0 past

module _ (l : List ℕ) (i v : ℕ) where
  pub byte_set : i < length l → byte (set l i v) i ≡ v
  byte_set le = get_or-set_same l i v 0 le

  pub byte_other : (h : ℕ) → (h ≡ i → ⊥) → byte (set l i v) h ≡ byte l h
  byte_other h ne = get_or-set_other l i h v 0 ne

-- the bytes below i are rewritten by f, the others are as they were
pub record Pass (f : ℕ → ℕ → ℕ) (i : ℕ) (l m : List ℕ) : Type 0 where
  pub long : length m ≡ length l
  pub past : (h : ℕ) → h < i → h < length l → byte m h ≡ f h (byte l h)
  pub ahead : (h : ℕ) → i ≤ h → byte m h ≡ byte l h

module _ {f : ℕ → ℕ → ℕ} {i : ℕ} {l m : List ℕ} (s : Pass f i l m) where
  pub pass_all : length l ≤ i → (h : ℕ) → h < length l → byte m h ≡ f h (byte l h)
  pass_all le h hl = s.past h (omega arith) hl
