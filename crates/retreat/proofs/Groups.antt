-- Laws of the questions of a retreat: each test by its cases, and the first of the group.
-- Assumes nothing.
use Prim.Native.Nat.{◌+◌, ◌<◌, ◌≤◌, suc, zero, ℕ}
use mathlib.Core.Bool.{Bool, cond, false, not, true}
use mathlib.Core.List.{List, [], ◌∷◌}
use mathlib.Core.Path.{◌∙◌, ◌≡◌, ap, ap₂, refl, sym}
use native.Mathlib.Omega.{arith}
use borrow.Author.Tests.{eq-eqb, le-leb, le-ltb, lt-leb, lt-ltb, ne_eqb}
use lib.Dec.{eqb, leb, ltb}
use lib.ListN.{get_or-append, get_or, length}
use Rattle.position.proofs.Tallies.{neither, same_or, tally_pos}
use Rattle.position.specs.Board.{Board, board}
use Rattle.position.specs.Crowd.{owes_at}
use Rattle.position.specs.Tally.{any}
use Rattle.position.specs.Laid.{Laid}
use Rattle.position.specs.Shape.{In}
use Rattle.position.specs.declared.View.{View}
use Rattle.position.specs.Stage as Stage
use Rattle.acceptance.specs.Accepted.{Accepted}
use Rattle.ruling.proofs.Meets.{pass, stop}
use Rattle.ruling.specs.Judged.{Passes, Stops}
use Rattle.ruling.specs.Verdict.{Met, Ruling, Verdict}
use Rattle.ruling.specs.Verdict.Verdict.{refuse_if}
use Rattle.field.proofs.Lists.{sieve_long}
use Rattle.field.specs.Listed.{on_map_all, on_map_from, sieve}
use Rattle.routes.specs.Legal.{legal}
use Rattle.routes.specs.Outlook.{Nobody, OutlookOf}
use Rattle.routes.specs.Part.{is_run}
use Rattle.routes.specs.Search.{first_route, found}
use Rattle.routes.specs.declared.Outlook.{Outlook}
use Rattle.routes.specs.declared.Outlook.TheVariants.{Alone, Friends, Illegal, Legal}
use Rattle.pushes.specs.Pushes.{served}
use Rattle.pushes.specs.declared.Served.{Served}
use Rattle.shoves.specs.Group.{group, group_force}
use Rattle.retreat.specs.Retreat.{RetreatNow, group_checks, has_route, walks_from}

-- each test by its cases
module _ (b : Board) (h u : ℕ) where
  pub walks_not : owes_at b h u ≡ false → walks_from b h u ≡ false
  unfolding walks_from
  walks_not e = simp e

  pub walks_kind : owes_at b h u ≡ true → walks_from b h u ≡ not (eqb (b.units.counter.kind u) 5)
  unfolding walks_from
  walks_kind e = simp e

-- the first number that passes
module _ (t : ℕ → Bool) where
  pub sieve_none : (n : ℕ) → any t n ≡ false → sieve t n ≡ []
  unfolding any sieve
  sieve_none zero e = refl
  sieve_none (suc n) e = let z = neither (t n) (any t n) e in simp (z.0, sieve_none n z.1)

  pub sieve_first : (n u : ℕ) → any t u ≡ false → u < n → t u ≡ true → get_or (sieve t n) 0 0 ≡ u
  unfolding sieve
  sieve_first zero u e l y = absurd (omega arith)
  sieve_first (suc n) u e l y =
      same_or u n
      (λ q.
      let z : sieve t n ≡ [] = sieve_none n (ap (any t) (sym q) ∙ e) in
      let k : t n ≡ true = ap t (sym q) ∙ y in
      simp (z, k) (sym q))
      (λ q.
      let k = tally_pos t n u (omega arith) y in
      get_or-append (sieve t n) (cond (t n) (n ∷ []) []) 0 0 (omega (arith, sieve_long t n))
      ∙ sieve_first n u e (omega arith) y)

module _ (b : Board) (h : ℕ) where
  pub first_owing_lem :
      (u : ℕ) → any (owes_at b h) u ≡ false → u < b.units.count → owes_at b h u ≡ true → u ≡ get_or (group b h) 0 0
  unfolding group
  first_owing_lem u e l y = sym (sieve_first (owes_at b h) b.units.count u e l y)

  pub none_owing : any (owes_at b h) b.units.count ≡ false → 0 ≡ get_or (group b h) 0 0
  unfolding group
  none_owing e = sym (ap (λ (us : List ℕ). get_or us 0 0) (sieve_none (owes_at b h) b.units.count e))

-- what is asked of a vacant route
pub none_found :
    (b : Board) (h : ℕ) → has_route b h ≡ false → found (first_route b (group_force b h) h b.desk.battle.owed) ≡ false
unfolding has_route
none_found b h e = e

-- and what each outlook says of the group
module _ (b : Board) (h : ℕ) (route : List ℕ) where
  abbrev Says : Outlook → Type 0
  Says r = OutlookOf b (group_force b h) h b.desk.battle.owed route r

  pub told_legal : Says Legal → (has_route b h ≡ true) × (legal b (group_force b h) h b.desk.battle.owed route ≡ true)
  unfolding has_route
  told_legal o = o

  pub told_illegal : Says Illegal → (has_route b h ≡ true) × (legal b (group_force b h) h b.desk.battle.owed route ≡ false)
  unfolding has_route
  told_illegal o = o

  pub told_friends : {t : Bool} → Says (Friends t) → (has_route b h ≡ false) × (t ≡ is_run b (group_force b h) h route)
  unfolding has_route
  told_friends o = o

  pub told_alone :
      {t : Bool} → Says (Alone t) → (has_route b h ≡ false) × (t ≡ is_run b (group_force b h) h route) × Nobody b (group_force b h) h
  unfolding has_route
  told_alone o = o

-- and what comes of pushes, of them
pub served_as :
    (b : Board) (h : ℕ) (route pushes : List ℕ) {f n : ℕ} {y : Served} → f ≡ group_force b h → n ≡ b.desk.battle.owed
    → y ≡ served b f h n route pushes → y ≡ served b (group_force b h) h b.desk.battle.owed route pushes
served_as b h route pushes ef en ey = ey ∙ ap₂ (λ (f n : ℕ). served b f h n route pushes) ef en

-- the questions of the group, in their order
module _ (p : List ℕ) (b : Board) (h : ℕ) (route pushes : List ℕ) where
  pub stops_long : 3 < length route → Stops p (group_checks b h route pushes) 3 0
  stops_long m l v = stop (lt-ltb 3 (length route) m)

  module _ (m : length route ≤ 3) where
    pub stops_many : 9 < length pushes → Stops p (group_checks b h route pushes) 3 0
    stops_many n l v = pass (le-ltb 3 (length route) m) (stop (lt-ltb 9 (length pushes) n))

    module _ (n : length pushes ≤ 9) where
      pub stops_hex : b.map.hexes ≤ h → Stops p (group_checks b h route pushes) 3 0
      stops_hex k l v =
          pass (le-ltb 3 (length route) m) (pass (le-ltb 9 (length pushes) n) (stop (le-leb b.map.hexes h k)))

      module _ (k : h < b.map.hexes) where
        numbers :
            {l : List ℕ} {v : Verdict} {a : Ruling} {q x : List ℕ} → Met p l v a q x
            → Met p l
            (refuse_if (ltb 3 (length route)) 3 0 (refuse_if (ltb 9 (length pushes)) 3 0 (refuse_if (leb b.map.hexes h) 3 0 v)))
            a q x
        numbers w = pass (le-ltb 3 (length route) m) (pass (le-ltb 9 (length pushes) n) (pass (lt-leb b.map.hexes h k) w))

        pub stops_route : {n j : ℕ} → Stops p (on_map_all b route) n j → Stops p (group_checks b h route pushes) n j
        stops_route s l v = numbers (s l _)

        module _ (o : Passes p (on_map_all b route)) where
          pub stops_pushes :
              {n j : ℕ} → Stops p (on_map_from b pushes (length route + 1)) n j → Stops p (group_checks b h route pushes) n j
          stops_pushes s l v = numbers (o l _ _ _ _ (s l _))

          module _ (i : Passes p (on_map_from b pushes (length route + 1))) where
            pub stops_stage : (b.desk.battle.stage ≡ Stage.retreats → ⊥) → Stops p (group_checks b h route pushes) 2 0
            stops_stage e l v = numbers (o l _ _ _ _ (i l _ _ _ _ (stop (ap not (ne_eqb b.desk.battle.stage Stage.retreats e)))))

            module _ (e : b.desk.battle.stage ≡ Stage.retreats) where
              pub stops_role : any (owes_at b h) b.units.count ≡ false → Stops p (group_checks b h route pushes) 4 0
              stops_role f l v =
                  numbers (o l _ _ _ _ (i l _ _ _ _ (pass (ap not (eq-eqb b.desk.battle.stage Stage.retreats e)) (stop (ap not f)))))

              pub passes_group :
                  any (owes_at b h) b.units.count ≡ true → Passes p (group_checks b h route pushes) × RetreatNow b h
              passes_group f = (
                λ l v a q x w.
                    numbers (o l _ a q x (i l _ a q x (pass (ap not (eq-eqb b.desk.battle.stage Stage.retreats e)) (pass (ap not f) w)))),
                record { there = k; now = e },
              )

-- "Stage 1: n is 1..3", and a hex is a 16-bit number
pub owed_of : {p : List ℕ} {h : ℕ} → Accepted p → RetreatNow (board p) h → In 1 (board p).desk.battle.owed 3
owed_of a o = (a.lawful.stage.during.retreats o.now).owed

pub small_hex : {p : List ℕ} {v : View} {h : ℕ} → Laid p v → RetreatNow (board p) h → h < 65536
small_hex l o = omega (arith, o.there, l.view.hexes, l.fits.hexes)
