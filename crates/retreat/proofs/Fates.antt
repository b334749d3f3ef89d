-- What comes of a group, by the tests that decide it, and what each fate says of the refusals.
-- Assumes nothing.
use Prim.Native.Nat.{ℕ}
use mathlib.Core.Bool.{Bool, ◌&&◌, ◌||◌, cond, false, or-true, true}
use mathlib.Core.List.{List, [], ◌∷◌}
use mathlib.Core.Path.{◌≡◌, refl, sym, ap, ◌∙◌}
use native.Mathlib.Omega.{arith}
use borrow.Author.Tests.{ne_eqb}
use lib.Dec.{eqb}
use lib.ListN.{length}
use Rattle.position.proofs.Tallies.{either, not_both}
use Rattle.position.specs.Board.{Board}
use Rattle.position.specs.Tally.{any}
use Rattle.routes.specs.Legal.{legal}
use Rattle.routes.specs.Part.{part_route}
use Rattle.chains.specs.Follows.{legal_pushes, none}
use Rattle.chains.specs.Serves.{pushes_serve}
use Rattle.pushes.specs.Pushes.{served}
use Rattle.shoves.specs.Group.{group_force}
use Rattle.retreat.specs.declared.Fate.{Fate}
use Rattle.retreat.specs.declared.Fate.TheVariants.{Lost, WrongPushes, WrongRoute, Pushing, Walking}
use Rattle.retreat.specs.Retreat.{doomed, has_route, has_series, is_part, not_part, not_pushed, not_vacant, walks_from}
use Rattle.retreat.specs.Fate.{fate_of, lost_fate, push_fate, route_fate, served_fate}

-- who is destroyed
module _ (b : Board) (h : ℕ) where
  pub doomed_supply : any (walks_from b h) b.units.count ≡ false → doomed b h ≡ true
  unfolding doomed
  doomed_supply e = simp e

  pub doomed_neither : has_route b h ≡ false → has_series b h ≡ false → doomed b h ≡ true
  unfolding doomed
  doomed_neither r s = simp (r, s, or-true)

  module _ (w : any (walks_from b h) b.units.count ≡ true) where
    pub spared_route : has_route b h ≡ true → doomed b h ≡ false
    unfolding doomed
    spared_route r = simp (w, r)

    pub spared_series : has_series b h ≡ true → doomed b h ≡ false
    unfolding doomed
    spared_series s = simp (w, s, or-true)

pub none_nil : (xs : List ℕ) → none xs ≡ true → xs ≡ []
none_nil [] e = refl
none_nil (x ∷ xs) e = not_both false e refl

none_eqb : (xs : List ℕ) → eqb (length xs) 0 ≡ none xs
none_eqb [] = refl
none_eqb (x ∷ xs) = ne_eqb (length (x ∷ xs)) 0 (λ e. omega arith)

-- what a group that is destroyed must be sent
module _ (b : Board) (h : ℕ) (route : List ℕ) where
  pub part_walks :
      any (walks_from b h) b.units.count ≡ true → is_part b h route ≡ part_route b (group_force b h) h route
  unfolding is_part
  part_walks w = simp w

  pub part_supply : any (walks_from b h) b.units.count ≡ false → is_part b h route ≡ none route
  unfolding is_part
  part_supply w = simp w

-- the fate of a group, as the tests come one after another
module _ (b : Board) (h : ℕ) (route pushes : List ℕ) where
  abbrev pub fits : Bool
  fits = legal b (group_force b h) h b.desk.battle.owed route && none pushes

  abbrev pub fits_pushed : Bool
  fits_pushed = legal_pushes b (group_force b h) h b.desk.battle.owed route pushes

  abbrev pub parts : Bool
  parts = is_part b h route && none pushes

  fate_doomed : doomed b h ≡ true → fate_of b h route pushes ≡ lost_fate (is_part b h route) pushes
  unfolding fate_of
  fate_doomed e = simp e

  module _ (e : doomed b h ≡ true) where
    pub fate_lost : parts ≡ true → fate_of b h route pushes ≡ Lost
    unfolding fate_of lost_fate
    fate_lost f = simp (e, f)

    pub fate_no_part : parts ≡ false → fate_of b h route pushes ≡ WrongRoute
    unfolding fate_of lost_fate
    fate_no_part f = simp (e, f)

  module _ (e : doomed b h ≡ false) where
    module _ (r : has_route b h ≡ true) where
      pub fate_vacant : fits ≡ true → fate_of b h route pushes ≡ Walking
      unfolding fate_of route_fate
      fate_vacant f = simp (e, r, f)

      pub fate_no_route : fits ≡ false → fate_of b h route pushes ≡ WrongRoute
      unfolding fate_of route_fate
      fate_no_route f = simp (e, r, f)

    module _ (r : has_route b h ≡ false) where
      pub fate_pushing : fits_pushed ≡ true → fate_of b h route pushes ≡ Pushing
      unfolding fate_of push_fate
      fate_pushing f = simp (e, r, f)

      pub fate_no_pushes : fits_pushed ≡ false → fate_of b h route pushes ≡ WrongPushes
      unfolding fate_of push_fate
      fate_no_pushes f = simp (e, r, f)

  -- where only supply units owe
  pub fate_supply :
      any (walks_from b h) b.units.count ≡ false → lost_fate (eqb (length route) 0) pushes ≡ fate_of b h route pushes
  fate_supply w =
      ap (λ (t : Bool). lost_fate t pushes) (none_eqb route ∙ sym (part_supply b h route w))
      ∙ sym (fate_doomed (doomed_supply b h w))

  module _ (w : any (walks_from b h) b.units.count ≡ true) where
    -- where no vacant route exists, and no series either
    pub fate_trapped :
        has_route b h ≡ false → has_series b h ≡ false
        → lost_fate (part_route b (group_force b h) h route) pushes ≡ fate_of b h route pushes
    fate_trapped r s =
        ap (λ (t : Bool). lost_fate t pushes) (sym (part_walks b h route w)) ∙ sym (fate_doomed (doomed_neither b h r s))

    -- where no vacant route exists
    pub fate_served :
        has_route b h ≡ false
        → served_fate (lost_fate (part_route b (group_force b h) h route) pushes)
        (served b (group_force b h) h b.desk.battle.owed route pushes)
        ≡ fate_of b h route pushes
    unfolding served has_series
    fate_served r =
        either (pushes_serve b (group_force b h) h b.desk.battle.owed)
        (λ s.
        either fits_pushed
        (λ f. simp (s, f) (sym (fate_pushing (spared_series b h w s) r f)))
        (λ f. simp (s, f) (sym (fate_no_pushes (spared_series b h w s) r f))))
        (λ s. simp s (fate_trapped r s))

    -- where one does
    module _ (r : has_route b h ≡ true) where
      pub fate_legal :
          legal b (group_force b h) h b.desk.battle.owed route ≡ true → cond (none pushes) Walking WrongRoute ≡ fate_of b h route pushes
      fate_legal f =
          either (none pushes)
          (λ e. simp e (sym (fate_vacant (spared_route b h w r) r (simp (f, e)))))
          (λ e. simp e (sym (fate_no_route (spared_route b h w r) r (simp (f, e)))))

      pub fate_illegal : legal b (group_force b h) h b.desk.battle.owed route ≡ false → WrongRoute ≡ fate_of b h route pushes
      fate_illegal f = sym (fate_no_route (spared_route b h w r) r (simp f))

-- what a fate says of the tests of 14 and 17, and of what follows them
pub record Goes (b : Board) (h : ℕ) (route pushes : List ℕ) (r : Bool) : Type 0 where
  pub spared : doomed b h ≡ false
  pub way : has_route b h ≡ r
  pub vacant : not_vacant b h route pushes ≡ false
  pub pushed : not_pushed b h route pushes ≡ false

pub record Falls (b : Board) (h : ℕ) (route pushes : List ℕ) : Type 0 where
  pub lost : doomed b h ≡ true
  pub part : not_part b h route pushes ≡ false

pub falls_by : (b : Board) (h : ℕ) (route pushes : List ℕ) → doomed b h ≡ true → parts b h route pushes ≡ true → Falls b h route pushes
unfolding not_part
falls_by b h route pushes e f = record { lost = e; part = simp (e, f) }

abbrev pub FateSays : Board → ℕ → List ℕ → List ℕ → Fate → Type 0
FateSays b h route pushes Lost = Falls b h route pushes
FateSays b h route pushes WrongRoute = (not_part b h route pushes || not_vacant b h route pushes) ≡ true
FateSays b h route pushes WrongPushes = (doomed b h ≡ false) × (not_vacant b h route pushes ≡ false) × (not_pushed b h route pushes ≡ true)
FateSays b h route pushes Walking = Goes b h route pushes true
FateSays b h route pushes Pushing = Goes b h route pushes false

pub fate_says : (b : Board) (h : ℕ) (route pushes : List ℕ) → FateSays b h route pushes (fate_of b h route pushes)
unfolding not_part not_vacant not_pushed
fate_says b h route pushes =
    either (doomed b h)
    (λ e.
    either (parts b h route pushes)
    (λ f. rw (fate_lost b h route pushes e f) (falls_by b h route pushes e f))
    (λ f. rw (fate_no_part b h route pushes e f) (simp (e, f))))
    (λ e.
    either (has_route b h)
    (λ r.
    either (fits b h route pushes)
    (λ f. rw (fate_vacant b h route pushes e r f) (record { spared = e; way = r; vacant = simp (e, r, f); pushed = simp (e, r) }))
    (λ f. rw (fate_no_route b h route pushes e r f) (simp (e, r, f))))
    (λ r.
    either (fits_pushed b h route pushes)
    (λ f. rw (fate_pushing b h route pushes e r f) (record { spared = e; way = r; vacant = simp (e, r); pushed = simp (e, r, f) }))
    (λ f. rw (fate_no_pushes b h route pushes e r f) (e, simp (e, r), simp (e, r, f)))))

module _ (b : Board) (h : ℕ) (route pushes : List ℕ) where
  -- who is destroyed is refused by neither test of those who are spared,
  pub doomed_vacant : doomed b h ≡ true → not_vacant b h route pushes ≡ false
  unfolding not_vacant
  doomed_vacant e = simp e

  pub doomed_pushed : doomed b h ≡ true → not_pushed b h route pushes ≡ false
  unfolding not_pushed
  doomed_pushed e = simp e

  -- and who is spared not by the test of those who are destroyed
  pub spared_part : doomed b h ≡ false → not_part b h route pushes ≡ false
  unfolding not_part
  spared_part e = simp e
