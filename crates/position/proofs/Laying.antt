-- The layout after each kind of write, as the writers' proofs ask for it.
-- Assumes nothing.
use Prim.Native.Nat.{ℕ, ◌≤◌, ◌<◌}
use mathlib.Core.Path.{◌≡◌}
use mathlib.Core.List.{List}
use native.Mathlib.Omega.{arith}
use borrow.Author.Tests.{lt-ltb, le-ltb}
use Rattle.position.specs.declared.View.{View}
use Rattle.position.specs.Bits.{with, tried}
use Rattle.position.specs.Layout.{route_count, hexes, set_unit, set_desk, set_hex, set_route_hex, set_route}
use Rattle.position.specs.Laid.{Laid}
use Rattle.position.specs.Change.{make}
use Rattle.position.specs.Change.Change.{placed, routed}
use Rattle.position.proofs.Front.{front_trans, laid_kept}
use Rattle.position.proofs.Writes.{front_unit, front_desk}
use Rattle.position.proofs.Effects.{front_hex}
use Rattle.position.proofs.DeskEffects.{desked_front, route_desked}

pub laid_unit : {p q : List ℕ} {v : View} (u f x : ℕ) → Laid p v → q ≡ set_unit p u f x → Laid q v
laid_unit {p} u f x l e = rw e (laid_kept (front_unit p u f x) l)

pub laid_desk : {p q : List ℕ} {v : View} (f x : ℕ) → Laid p v → q ≡ set_desk p f x → Laid q v
laid_desk {p} f x l e = rw e (laid_kept (front_desk p f x) l)

pub laid_hex : {p q : List ℕ} {v : View} (u h : ℕ) → Laid p v → q ≡ set_hex p u h → Laid q v
laid_hex u h l e = rw e (laid_kept (front_hex l.shaped u h) l)

pub laid_route_hex : {p q : List ℕ} {v : View} (r j h : ℕ) → Laid p v → q ≡ set_route_hex p r j h → Laid q v
unfolding set_route_hex
laid_route_hex {p} r j h l e = rw e (laid_kept (front_trans (front_desk p _ _) (front_desk _ _ _)) l)

pub laid_route : {p q : List ℕ} {v : View} (r a b c d : ℕ) → Laid p v → q ≡ set_route p r a b c d → Laid q v
laid_route r a b c d l e = rw e (laid_kept (desked_front (route_desked l.shaped r a b c d)) l)

-- what `place` and `set_route` write, and what they leave where there is no such hex or route
pub placed_in : (p : List ℕ) (u h : ℕ) → h < hexes p → make p (placed u h) ≡ set_hex p u h
unfolding make
placed_in p u h l = simp (lt-ltb h (hexes p) l)

pub placed_out : (p : List ℕ) (u h : ℕ) → hexes p ≤ h → make p (placed u h) ≡ p
unfolding make
placed_out p u h l = simp (le-ltb h (hexes p) l)

pub routed_in :
    (p : List ℕ) (r a b c d : ℕ) → r < route_count
    → make p (routed r a b c d) ≡ set_route_hex (set_route_hex (set_route_hex (set_route_hex p r 0 a) r 1 b) r 2 c) r 3 d
unfolding make set_route
routed_in p r a b c d l = simp (lt-ltb r route_count l)

pub routed_out : (p : List ℕ) (r a b c d : ℕ) → route_count ≤ r → make p (routed r a b c d) ≡ p
unfolding make set_route
routed_out p r a b c d l = simp (le-ltb r route_count l)

-- a unit turned over has marks that fit a byte
pub with_small : (m : ℕ) → m < 256 → with tried m < 256
unfolding with
with_small m l = omega arith
