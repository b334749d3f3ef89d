-- The test of a part route is true exactly of the longest runs: a run that is cut short is a run.
-- Assumes nothing.
use Prim.Native.Nat.{ℕ, zero, suc, ◌+◌, ◌≤◌, ◌<◌}
use mathlib.Core.Path.{◌≡◌, refl, sym, ap, subst, ◌∙◌}
use mathlib.Core.List.{List, [], ◌∷◌}
use mathlib.Core.Logic.{◌↔◌}
use mathlib.Core.Bool.{Bool, true, false, not}
use native.Mathlib.Omega.{arith}
use native.Mathlib.Decide.{dec_le, dec_lt}
use lib.ListN.{length}
use borrow.Author.Tests.{not-true}
use Rattle.position.specs.Board.{Board}
use Rattle.position.proofs.Tallies.{both_yes, either, not_both}
use Rattle.routes.specs.Run.{Run, stay, go, LegalRoute, RouteExists}
use Rattle.routes.specs.Legal.{legal}
use Rattle.routes.specs.Search.{first_route, found}
use Rattle.routes.specs.Part.{Longest, is_run, no_longer, part_route, farthest, PartRight, FarthestRight}
use Rattle.routes.specs.Outlook.{RouteTested}
use Rattle.routes.proofs.First.{Way, found_right}
use Rattle.routes.proofs.Legal.{legal_right, right_length}

module _ (b : Board) (f start : ℕ) where
  -- the first k hexes of a run
  cut : {i a last : ℕ} {route : List ℕ} (k : ℕ) → Run b f start i a route last → k ≤ length route → Way b f start i k a
  cut {a = a} zero r l = record { route = []; long = refl; last = a; run = stay }
  cut (suc k) stay l = absurd (omega arith)
  cut (suc k) (go {x = x} d s r) l =
      let c = cut k r (omega arith) in
      record { route = x ∷ c.route; long = ap suc c.long; last = c.last; run = go d s c.run }

  cut_route : (j k : ℕ) → k ≤ j → RouteExists b f start j → RouteExists b f start k
  cut_route j k l r =
      let c = cut k r.1.run (omega (arith, r.1.long)) in
      (c.route, record { long = c.long; last = c.last; run = c.run })

  -- where no run of k steps is found, every run is shorter
  pub none_shorter : (j k : ℕ) → found (first_route b f start k) ≡ false → RouteExists b f start j → j < k
  none_shorter j k e r = at (dec_le k j)
    where
      at : Dec (k ≤ j) → j < k
      at (yes l) = not_both (found (first_route b f start k)) ((found_right b f start k).1 (cut_route j k l r)) e
      at (no n) = omega arith

-- the test of a run is true exactly of the runs
pub run_right : (b : Board) (f start : ℕ) (route : List ℕ) → (is_run b f start route ≡ true) ↔ LegalRoute b f start (length route) route
unfolding is_run
run_right b f start route =
    let r = legal_right b f start (length route) route in
    let e = right_length b f start (length route) route refl in
    (λ t. r.0 (e ∙ t), λ l. sym e ∙ r.1 l)

-- of a part route, by its parts
module _ (b : Board) (f start : ℕ) (route : List ℕ) where
  pub part_no_run : is_run b f start route ≡ false → part_route b f start route ≡ false
  unfolding part_route
  part_no_run t = simp t

  pub part_run : is_run b f start route ≡ true → part_route b f start route ≡ no_longer b f start (length route)
  unfolding part_route
  part_run t = simp t

pub part_right : PartRight
unfolding part_route no_longer
part_right b f start route =
    let k = length route in
    let t = found (first_route b f start (k + 1)) in
    let r = run_right b f start route in (
      λ e.
          let s = both_yes (is_run b f start route) (not t) e in
          record {
            steps = k;
            longest =
                record {
                  some = (route, r.0 s.0);
                  most = λ j x. let l = none_shorter b f start j (k + 1) (not-true t s.1) x in omega arith;
                };
            run = r.0 s.0;
          },
      λ q.
          let none =
          either t
          (λ y. absurd (omega (arith, q.run.long, q.longest.most (k + 1) ((found_right b f start (k + 1)).0 y))))
          (λ y. y) in
          simp (r.1 (record { long = refl; last = q.run.last; run = q.run.run }), none),
    )

-- whether a run has more than k steps, where it is known, and by what is found of one step more
module _ (b : Board) (f start k : ℕ) where
  pub longer_known : (n : ℕ) → n ≤ k + 1 → found (first_route b f start n) ≡ false → no_longer b f start k ≡ true
  unfolding no_longer
  longer_known n l e =
      either (found (first_route b f start (k + 1)))
      (λ y. absurd (omega (arith, none_shorter b f start (k + 1) n e ((found_right b f start (k + 1)).0 y))))
      (λ y. ap not y)

  pub longer_found : {t : Bool} → found (first_route b f start (k + 1)) ≡ t → no_longer b f start k ≡ not t
  unfolding no_longer
  longer_found e = ap not e

-- where no legal route exists, the test of the steps that a route is tested for is that of a run
module _ (b : Board) (f start n : ℕ) (route : List ℕ) (e : found (first_route b f start n) ≡ false) where
  no_legal : legal b f start n route ≡ false
  no_legal =
      either (legal b f start n route)
      (λ y. absurd (omega (arith, none_shorter b f start n n e (route, (legal_right b f start n route).0 y))))
      (λ y. y)

  no_run : n ≤ length route → is_run b f start route ≡ false
  no_run l =
      either (is_run b f start route)
      (λ y. absurd (omega (arith, none_shorter b f start (length route) n e (route, (run_right b f start route).0 y))))
      (λ y. y)

  pub tested_run : {t : Bool} {k : ℕ} → RouteTested t n (length route) k → t ≡ false → legal b f start k route ≡ is_run b f start route
  unfolding is_run
  tested_run {t} {k} s out = at (dec_lt (length route) n)
    where
      at : Dec (length route < n) → legal b f start k route ≡ is_run b f start route
      at (yes l) = right_length b f start k route (sym (s.own out l))
      at (no l) =
          ap (λ (j : ℕ). legal b f start j route) (s.most out (omega arith)) ∙ no_legal ∙ sym (no_run (omega arith))

-- how far a group gets, by what is found
module _ (b : Board) (f start : ℕ) where
  pub farthest_here : (n : ℕ) → found (first_route b f start n) ≡ true → farthest b f start n ≡ n
  unfolding farthest
  farthest_here zero e = refl
  farthest_here (suc n) e = simp e

  farthest_less : (n : ℕ) → found (first_route b f start (suc n)) ≡ false → farthest b f start (suc n) ≡ farthest b f start n
  unfolding farthest
  farthest_less n e = simp e

pub farthest_right : FarthestRight
farthest_right b f start zero e =
    absurd (omega (arith, none_shorter b f start 0 0 e ([], record { long = refl; last = start; run = stay })))
farthest_right b f start (suc n) e =
    let q = farthest_less b f start n e in
    either (found (first_route b f start n))
    (λ t.
    subst (λ (k : ℕ). Longest b f start k × (k < suc n)) (sym (q ∙ farthest_here b f start n t)) (
      record {
        some = (found_right b f start n).0 t;
        most = λ j x. let l = none_shorter b f start j (suc n) e x in omega arith;
      },
      omega arith,
    ))
    (λ t. let r = farthest_right b f start n t in (rw q r.0, omega (arith, r.1)))
