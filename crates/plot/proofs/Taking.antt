-- Laws of the chain of pushes that an order names.
-- Assumes nothing.
use Rattle.std.specs.Prelude.{Some, None, Option}
use Prim.Native.Nat.{ℕ, zero, suc, ◌+◌, ◌-◌, ◌<◌, ◌≤◌}
use mathlib.Core.Path.{◌≡◌, refl, sym, ap, ◌∙◌}
use mathlib.Core.Bool.{Bool, true, false}
use mathlib.Core.List.{List, [], ◌∷◌, map}
use native.Mathlib.Omega.{arith}
use native.Mathlib.Numerals.{add-one}
use borrow.Author.Tests.{eq-eqb, ne_eqb}
use lib.Dec.{eqb}
use lib.ListN.{length, get_or, drop_of_length-le}
use lib.Seq.{drop-cons}
use Rattle.position.specs.Ground.{is_at}
use Rattle.position.specs.Tally.{any}
use Rattle.position.proofs.Tallies.{any_miss, any_true, either, same_or}
use Rattle.chains.specs.Chain.{Ways, Stands, rests, yields, leads, has_rest, most}
use Rattle.chains.specs.Follows.{up_to, wrong, takes, none}
use Rattle.chains.proofs.Chains.{leads_steps}
use Rattle.plot.specs.Plot.{places, stand_in, next_in, shifted}
use Rattle.plot.specs.Follow.{places_from, took_of, TookIn, PushedOut}
use Rattle.plot.proofs.Plots.{next_below}

-- a step from place h in direction d leads to place z
unfoldable pub led_by : Ways → ℕ → ℕ → ℕ → Bool
led_by next h z d = is_at (next h d) z

module _ (next : Ways) (h z d : ℕ) where
  leads_by : leads next h z ≡ any (led_by next h z) 6
  unfolding leads led_by
  leads_by = refl

  led_off : next h d ≡ None → led_by next h z d ≡ false
  unfolding led_by is_at
  led_off e = rw e

  led_at : (x : ℕ) → next h d ≡ Some x → led_by next h z d ≡ eqb x z
  unfolding led_by is_at
  led_at x e = rw e

-- what leads there is a step, and it is a place of the plot
pub led_by_lem : (l : List ℕ) (h z : ℕ) → leads (next_in l) h z ≡ true → (d : ℕ) × (next_in l h d ≡ Some z)
led_by_lem l h z e = let s = leads_steps (next_in l) h z e in (s.dir, s.way)

pub led_below : (l : List ℕ) (h z : ℕ) → leads (next_in l) h z ≡ true → z < places
led_below l h z e = let s = led_by_lem l h z e in next_below l h s.0 z s.1

-- no step in the directions before d leads from place h to place z
pub record Unled (l : List ℕ) (h z d : ℕ) : Type 0 where
  pub most : d ≤ 6
  pub none : any (led_by (next_in l) h z) d ≡ false

module _ {l : List ℕ} {h z d : ℕ} (u : Unled l h z d) where
  pub unled_off : d < 6 → next_in l h d ≡ None → Unled l h z (d + 1)
  unled_off b e = record { most = omega arith; none = any_miss _ _ (led_off (next_in l) h z d e) ∙ u.none }

  pub unled_at : {x : ℕ} → d < 6 → next_in l h d ≡ Some x → (x ≡ z → ⊥) → Unled l h z (d + 1)
  unled_at {x} b e n =
      record { most = omega arith; none = any_miss _ _ (led_at (next_in l) h z d x e ∙ ne_eqb x z n) ∙ u.none }

  pub led : {x : ℕ} → d < 6 → next_in l h d ≡ Some x → x ≡ z → leads (next_in l) h z ≡ true
  led {x} b e q = leads_by (next_in l) h z d ∙ any_true _ 6 d b (led_at (next_in l) h z d x e ∙ eq-eqb x z q)

  pub unled : 6 ≤ d → leads (next_in l) h z ≡ false
  unled b = let e : 6 ≡ d = omega (arith, u.most) in leads_by (next_in l) h z d ∙ ap (any (led_by (next_in l) h z)) e ∙ u.none

-- the pushes, or the hexes of a route, from number k on
module _ (place : ℕ → ℕ) (k : ℕ) (hexes : List ℕ) where
  pub places_none : length hexes ≤ k → places_from place k hexes ≡ []
  unfolding places_from
  places_none l = ap (map place) (drop_of_length-le hexes l)

  pub places_more :
      k < length hexes → places_from place k hexes ≡ place (get_or hexes k 0) ∷ places_from place (k + 1) hexes
  unfolding places_from
  places_more l = rw (add-one k) (ap (map place) (drop-cons hexes k 0 l))

  pub none_left : k ≤ length hexes → none (places_from place k hexes) ≡ eqb k (length hexes)
  none_left l =
      same_or k (length hexes)
      (λ e. ap none (places_none (omega arith)) ∙ sym (eq-eqb k (length hexes) e))
      (λ n. ap none (places_more (omega arith)) ∙ sym (ne_eqb k (length hexes) n))

  pub places_next :
      (z : ℕ) → k < length hexes → z ≡ place (get_or hexes k 0)
      → places_from place k hexes ≡ z ∷ places_from place (k + 1) hexes
  places_next z b e = places_more b ∙ ap (λ (x : ℕ). x ∷ places_from place (k + 1) hexes) (sym e)

-- what a chain takes, by its next hex
module _ (next : Ways) (s : Stands) (used : List ℕ) (h z : ℕ) (zs : List ℕ) where
  pub takes_none : (left : ℕ) → takes next s used left h [] ≡ wrong
  unfolding takes
  takes_none left = refl

  pub takes_apart : (left : ℕ) → leads next h z ≡ false → takes next s used left h (z ∷ zs) ≡ wrong
  unfolding takes
  takes_apart zero e = refl
  takes_apart (suc n) e = simp e

  pub takes_rest :
      (left : ℕ) → 1 ≤ left → leads next h z ≡ true → rests s (h ∷ used) z ≡ true → takes next s used left h (z ∷ zs) ≡ up_to z zs
  unfolding takes
  takes_rest zero p e f = absurd (omega arith)
  takes_rest (suc n) p e f = simp (e, f)

  pub takes_shy :
      (left : ℕ) → leads next h z ≡ true → rests s (h ∷ used) z ≡ false → has_rest next s (h ∷ used) h ≡ true
      → takes next s used left h (z ∷ zs) ≡ wrong
  unfolding takes
  takes_shy zero e f g = refl
  takes_shy (suc n) e f g = simp (e, f, g)

  pub takes_firm :
      (left : ℕ) → leads next h z ≡ true → rests s (h ∷ used) z ≡ false → has_rest next s (h ∷ used) h ≡ false
      → yields s (h ∷ used) z ≡ false → takes next s used left h (z ∷ zs) ≡ wrong
  unfolding takes
  takes_firm zero e f g y = refl
  takes_firm (suc n) e f g y = simp (e, f, g, y)

  more :
      (n : ℕ) → leads next h z ≡ true → rests s (h ∷ used) z ≡ false → has_rest next s (h ∷ used) h ≡ false
      → yields s (h ∷ used) z ≡ true → takes next s used (suc n) h (z ∷ zs) ≡ takes next s (h ∷ used) n z zs
  unfolding takes
  more n e f g y = simp (e, f, g, y)

  pub takes_on :
      (left : ℕ) → 1 ≤ left → leads next h z ≡ true → rests s (h ∷ used) z ≡ false → has_rest next s (h ∷ used) h ≡ false
      → yields s (h ∷ used) z ≡ true → takes next s used left h (z ∷ zs) ≡ takes next s (h ∷ used) (left - 1) z zs
  takes_on left p e f g y =
      let q : left ≡ suc (left - 1) = omega arith in
      ap (λ (n : ℕ). takes next s used n h (z ∷ zs)) q ∙ more (left - 1) e f g y

-- where none may be pushed, no chain is right
takes_zero : (next : Ways) (s : Stands) (used : List ℕ) (h : ℕ) (ps : List ℕ) → takes next s used 0 h ps ≡ wrong
unfolding takes
takes_zero next s used h [] = refl
takes_zero next s used h (p ∷ ps) = refl

-- the last stack that may be pushed pushes none
pub takes_last :
    (next : Ways) (s : Stands) (used : List ℕ) (h z : ℕ) (zs : List ℕ) (left : ℕ) → 1 ≤ left → left < 2 → leads next h z ≡ true
    → rests s (h ∷ used) z ≡ false → takes next s used left h (z ∷ zs) ≡ wrong
takes_last next s used h z zs left p b e f =
    either (has_rest next s (h ∷ used) h)
    (λ g. takes_shy next s used h z zs left e f g)
    (λ g.
    either (yields s (h ∷ used) z)
    (λ y.
    let q : left - 1 ≡ 0 = omega arith in
    takes_on next s used h z zs left p e f g y
    ∙ ap (λ (n : ℕ). takes next s (h ∷ used) n z zs) q ∙ takes_zero next s (h ∷ used) z zs)
    (λ y. takes_firm next s used h z zs left e f g y))

-- an answer's parts
abbrev parts : Option (ℕ × ℕ) → ℕ × ℕ
parts (Some p) = p
parts None = (0, 0)

pub same_took : (y j z k : ℕ) → ◌≡◌ {A = Option (ℕ × ℕ)} (Some (y, j)) (Some (z, k)) → (y ≡ z) × (j ≡ k)
same_took y j z k e = (ap (λ (o : Option (ℕ × ℕ)). (parts o).0) e, ap (λ (o : Option (ℕ × ℕ)). (parts o).1) e)

pub never_took : {A : Type 0} (y j : ℕ) → ◌≡◌ {A = Option (ℕ × ℕ)} None (Some (y, j)) → A
never_took y j e = let z : ◌≡◌ {A = ℕ} 0 1 = cc in absurd (omega arith)

-- the next push is the place z
along_chain :
    (place : ℕ → ℕ) (l used : List ℕ) (left h k : ℕ) (pushes : List ℕ) (z : ℕ) → k < length pushes → z ≡ place (get_or pushes k 0)
    → takes (next_in l) (stand_in l) used left h (places_from place k pushes)
    ≡ takes (next_in l) (stand_in l) used left h (z ∷ places_from place (k + 1) pushes)
along_chain place l used left h k pushes z b e =
    ap (takes (next_in l) (stand_in l) used left h)
    (places_next place k pushes z b e)

-- the chain from the stack in place h on is wrong; or it comes to its last place
module _ {place : ℕ → ℕ} {l used : List ℕ} {left h k : ℕ} {pushes : List ℕ} where
  took_wrong :
      takes (next_in l) (stand_in l) used left h (places_from place k pushes) ≡ wrong → TookIn place l used left h k pushes None
  took_wrong e = record { took = sym e; ends = λ y j f. never_took y j f }

  pub took_none : length pushes ≤ k → TookIn place l used left h k pushes None
  took_none b =
      took_wrong
      (ap (takes (next_in l) (stand_in l) used left h) (places_none place k pushes b) ∙ takes_none (next_in l) (stand_in l) used h 0 [] left)

  module _ {z : ℕ} (b : k < length pushes) (e : z ≡ place (get_or pushes k 0)) where
    pub took_apart : leads (next_in l) h z ≡ false → TookIn place l used left h k pushes None
    took_apart f = took_wrong (along_chain place l used left h k pushes z b e ∙ takes_apart _ _ _ _ _ _ left f)

    pub took_rest :
        1 ≤ left → leads (next_in l) h z ≡ true → rests (stand_in l) (h ∷ used) z ≡ true
        → TookIn place l used left h k pushes (Some (z, (k + 1)))
    took_rest p f r =
        record {
          took = sym (along_chain place l used left h k pushes z b e ∙ takes_rest _ _ _ _ _ _ left p f r);
          ends = λ y j q.
              let s = same_took z (k + 1) y j q in
              (omega (arith, led_below l h z f, s.0), omega (arith, s.1));
        }

    pub took_last :
        1 ≤ left → left < 2 → leads (next_in l) h z ≡ true → rests (stand_in l) (h ∷ used) z ≡ false
        → TookIn place l used left h k pushes None
    took_last p q f r = took_wrong (along_chain place l used left h k pushes z b e ∙ takes_last _ _ _ _ _ _ left p q f r)

    pub took_shy :
        leads (next_in l) h z ≡ true → rests (stand_in l) (h ∷ used) z ≡ false → has_rest (next_in l) (stand_in l) (h ∷ used) h ≡ true
        → TookIn place l used left h k pushes None
    took_shy f r g = took_wrong (along_chain place l used left h k pushes z b e ∙ takes_shy _ _ _ _ _ _ left f r g)

    pub took_firm :
        leads (next_in l) h z ≡ true → rests (stand_in l) (h ∷ used) z ≡ false → has_rest (next_in l) (stand_in l) (h ∷ used) h ≡ false
        → yields (stand_in l) (h ∷ used) z ≡ false → TookIn place l used left h k pushes None
    took_firm f r g y = took_wrong (along_chain place l used left h k pushes z b e ∙ takes_firm _ _ _ _ _ _ left f r g y)

    -- it goes on from the stack there
    pub took_on :
        {more : List ℕ} {r : Option (ℕ × ℕ)} → 1 ≤ left → leads (next_in l) h z ≡ true → rests (stand_in l) (h ∷ used) z ≡ false
        → has_rest (next_in l) (stand_in l) (h ∷ used) h ≡ false → yields (stand_in l) (h ∷ used) z ≡ true → more ≡ h ∷ used
        → TookIn place l more (left - 1) z (k + 1) pushes r → TookIn place l used left h k pushes r
    took_on p f r g y q t =
        record {
          took =
              t.took
              ∙ ap (λ (u : List ℕ). takes (next_in l) (stand_in l) u (left - 1) z (places_from place (k + 1) pushes)) q
              ∙ sym (along_chain place l used left h k pushes z b e ∙ takes_on _ _ _ _ _ _ left p f r g y);
          ends = t.ends;
        }

-- the group's own chain
module _ {place : ℕ → ℕ} {l used : List ℕ} {a x k : ℕ} {pushes : List ℕ} {r : Option (ℕ × ℕ)} (own : used ≡ a ∷ [])
    (t : TookIn place l used most x k pushes r) where
  taken : took_of place pushes r ≡ takes (next_in l) (stand_in l) (a ∷ []) most x (places_from place k pushes)
  taken = t.took ∙ ap (λ (u : List ℕ). takes (next_in l) (stand_in l) u most x (places_from place k pushes)) own

  pub pushed_wrong : r ≡ None → PushedOut place l l a x k pushes None
  pushed_wrong e =
      record { took = ap (took_of place pushes) (sym e) ∙ taken; left = λ y j f. never_took y j f; kept = λ _. refl }

  pub pushed_to : {m : List ℕ} {y j : ℕ} → r ≡ Some (y, j) → m ≡ shifted l x y → PushedOut place l m a x k pushes (Some (y, j))
  pushed_to {m} {y} {j} e f =
      record {
        took = ap (took_of place pushes) (sym e) ∙ taken;
        left = λ y' j' g.
            let s = same_took y j y' j' g in
            let n = t.ends y j e in
            (f ∙ ap (shifted l x) s.0, omega (arith, n.0, s.0), omega (arith, n.1, s.1));
        kept = λ g. never_took y j (sym g);
      }
