-- The board that a battle leaves, step by step: marks, routes, and what becomes of each side.
-- Assumes nothing.
use Prim.Native.Nat.{ℕ, ◌+◌, ◌≤◌, ◌<◌}
use mathlib.Core.Path.{◌≡◌, refl, sym, ap, subst, ◌∙◌}
use mathlib.Core.Bool.{true, false}
use mathlib.Core.List.{List, [], ◌∷◌, map}
use native.Mathlib.Omega.{arith}
use lib.ListN.{length}
use lib.Dec.{eqb}
use borrow.Author.Tests.{eqb-true, eqb-false}
use Rattle.position.specs.Bits.{with, fought}
use Rattle.position.specs.Layout.{route_count}
use Rattle.position.specs.Board.{Board, nowhere}
use Rattle.position.specs.Ground.{standable}
use Rattle.position.specs.Crowd.{filled}
use Rattle.position.specs.Change.Change.{routed}
use Rattle.position.specs.Effect.{change, changes}
use Rattle.position.proofs.BitLaws.{with_within}
use Rattle.position.proofs.BitLaws.UnitMark.{is_fought}
use Rattle.position.proofs.Tallies.{not_both, same_or, either}
use Rattle.acceptance.specs.Accepted.{RoutesOk, Lawful}
use Rattle.acceptance.proofs.Carries.{Fixed, fixed_change, standable_by}
use Rattle.acceptance.proofs.Lawfuls.{lawful_marked}
use Rattle.acceptance.proofs.Stills.{fixed_trans, Still, still_refl, still_trans, marked_still}
use Rattle.acceptance.proofs.Fates.{
  Same,
  Fated,
  same_trans,
  same_fated,
  fated_same,
  fated_twice,
  destroyed_else,
  destroyed_here,
  assigned_else,
  assigned_here,
}
use Rattle.acceptance.proofs.Routings.{filled_there, filled_else, routes_lone}
use Rattle.ruling.specs.Secret.{Each}
use Rattle.field.specs.Listed.{named}
use Rattle.results.specs.Results.{lost, fought_by, suffers, routed_from}
use Rattle.field.proofs.Lists.{named_nil}
use Rattle.field.proofs.Named.{named_past, unnamed_parts}

-- a unit that is there, on the map
pub record Present (b : Board) (u : ℕ) : Type 0 where
  pub below : u < b.units.count
  pub mapped : b.units.state.hex u ≡ nowhere → ⊥

pub record MarkedAll (d c : Board) : Type 0 where
  pub lawful : Lawful c
  pub still : Still d c

pub marked_all :
    {b : Board} → Lawful b → (us : List ℕ) → Each (Present b) us → {d : Board} → Lawful d → Still b d
    → MarkedAll d (changes d (fought_by b us))
unfolding fought_by changes
marked_all l [] h {d} k s = record { lawful = k; still = still_refl d }
marked_all {b} l (u ∷ us) h {d} k s =
    let m = with fought (b.units.state.marks u) in
    let e : d.units.state.hex u ≡ b.units.state.hex u = λ i. s.hex i u in
    let t = marked_still d u m in
    let o =
    lawful_marked k u m
    (record {
      marks = with_within is_fought (b.units.state.marks u) (l.units.each u h.0.below).counter.marks;
      destroyed = λ z. absurd (h.0.mapped (sym e ∙ z));
    })
    in
    let r = marked_all l us h.1 o (still_trans s t) in
    record { lawful = r.lawful; still = still_trans t r.still }

-- hexes written as routes, each alone
pub record Routed (d e : Board) : Type 0 where
  pub units : e.units ≡ d.units
  pub clock : e.desk.clock ≡ d.desk.clock

pub routed_all : (hs : List ℕ) (r : ℕ) (d : Board) → Routed d (changes d (routed_from r hs))
unfolding routed_from changes change
routed_all [] r d = record { units = refl; clock = refl }
routed_all (h ∷ hs) r d =
    let i = routed_all hs (r + 1) (change d (routed r h nowhere nowhere nowhere)) in
    record { units = i.units; clock = i.clock }

-- a hex to stand on, of the map
pub record Footing (b : Board) (h : ℕ) : Type 0 where
  pub stands : standable b h ≡ true
  pub hex : h ≡ nowhere → ⊥

module _ (b : Board) where
  pub routes_all :
      (hs : List ℕ) (r : ℕ) → r + length hs ≤ route_count → Each (Footing b) hs → (d : Board) → Fixed b d
      → ((i : ℕ) → i < r → filled d i ≡ true) → RoutesOk d → RoutesOk (changes d (routed_from r hs))
  unfolding routed_from changes
  routes_all [] r l h d f before o = o
  routes_all (x ∷ xs) r l h d f before o =
      let m : r < route_count = omega arith in
      let n = h.0.hex in
      let c = change d (routed r x nowhere nowhere nowhere) in
      let w = routes_lone d r x m (standable_by f x ∙ h.0.stands) n (λ i e. before i (omega arith)) o in
      routes_all xs (r + 1) (omega arith) h.1 c (fixed_trans f (fixed_change d (routed r x nowhere nowhere nowhere)))
      (λ i k.
      same_or i r (λ e. ap (filled c) e ∙ filled_there d r x nowhere nowhere nowhere m n)
      (λ e. filled_else d r x nowhere nowhere nowhere i e ∙ before i (omega arith)))
      w

-- what becomes of one unit, and of a side
module _ (b : Board) (f u : ℕ) where
  suffers_desk : (change b (suffers f u)).desk ≡ b.desk
  unfolding suffers change
  suffers_desk = either (eqb f lost) (λ e. simp e) (λ e. simp e)

  suffers_count : (change b (suffers f u)).units.count ≡ b.units.count
  suffers_count = (fixed_change b (suffers f u)).count

  suffers_else : (w : ℕ) → (w ≡ u → ⊥) → Same b.units (change b (suffers f u)).units w
  unfolding suffers
  suffers_else w n = either (eqb f lost) (λ e. simp e (destroyed_else b u w n)) (λ e. simp e (assigned_else b u f w n))

  suffers_here : u < b.units.count → Fated b.units (change b (suffers f u)).units f u
  unfolding suffers
  suffers_here l =
      either (eqb f lost)
      (λ e. rw (eqb-true f lost e) (destroyed_here b u l))
      (λ e. simp e (assigned_here b u f l (eqb-false f lost e)))

pub record Struck (b c : Board) (f : ℕ) (us : List ℕ) : Type 0 where
  pub desk : c.desk ≡ b.desk
  pub off : (w : ℕ) → named us w ≡ false → Same b.units c.units w
  pub hit : (w : ℕ) → named us w ≡ true → Fated b.units c.units f w

pub struck :
    (f n : ℕ) (us : List ℕ) → Each (λ u. u < n) us → (b : Board) → b.units.count ≡ n
    → Struck b (changes b (map (suffers f) us)) f us
unfolding changes
struck f n [] h b e =
    record {
      desk = refl;
      off = λ w _. record { hex = refl; marks = refl; role = refl };
      hit = λ w q. not_both (named [] w) q (named_nil w);
    }
struck f n (u ∷ us) h b e =
    let c = change b (suffers f u) in
    let r = struck f n us h.1 c (suffers_count b f u ∙ e) in
    let here = suffers_here b f u (omega (arith, h.0)) in
    record {
      desk = r.desk ∙ suffers_desk b f u;
      off =
          λ w q.
          let x = unnamed_parts u us w q in
          same_trans (suffers_else b f u w (λ z. x.0 (sym z))) (r.off w x.1);
      hit =
          λ w q.
          same_or u w
          (λ z.
          let k = subst (λ (v : ℕ). Fated b.units c.units f v) z here in
          either (named us w) (λ y. fated_twice k (r.hit w y)) (λ y. fated_same k (r.off w y)))
          (λ z. same_fated (suffers_else b f u w (λ y. z (sym y))) (r.hit w (sym (named_past u us w z) ∙ q)));
    }
