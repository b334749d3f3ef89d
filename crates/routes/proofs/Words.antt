-- A run is a legal route in the document's words: what ends at distance n after n steps was at distance i after i steps.
-- Assumes nothing.
use Prim.Native.Nat.{ℕ, ◌+◌}
use mathlib.Core.Path.{◌≡◌, subst}
use mathlib.Core.List.{List}
use native.Mathlib.Omega.{arith}
use lib.ListN.{length}
use Rattle.grid.specs.Map.{On}
use Rattle.grid.specs.Walk.{Walk, here, step, Distance, distance_of}
use Rattle.grid.proofs.Laws.{then, closed, measured, same_zero, first_part}
use Rattle.position.specs.Board.{Board}
use Rattle.routes.specs.Run.{Run, stay, go}
use Rattle.routes.specs.Words.{Steps, stop, enter, RunsAsWorded}
use Rattle.position.proofs.Sides.{next_over, next_on}

module _ (b : Board) (f : ℕ) where
  abbrev Onto : ℕ → Type 0
  Onto a = On b.map.width b.map.height a

  abbrev Walked : ℕ → ℕ → ℕ → Type 0
  Walked a x n = Walk b.map.width b.map.height a x n

  abbrev Far : ℕ → ℕ → ℕ → Type 0
  Far a x n = Distance b.map.width b.map.height a x n

  ends_on : {a last : ℕ} {route : List ℕ} → Onto a → Steps b f a route last → Onto last
  ends_on o stop = o
  ends_on o (enter {a} {x} d e r k) = ends_on (next_on b.map a d x e) k

  walked : {a last : ℕ} {route : List ℕ} → Onto a → Steps b f a route last → Walked a last (length route)
  walked o stop = here o
  walked o (enter {a} {x} d e r k) = step d (next_over b.map a d x e) (walked (next_on b.map a d x e) k)

  module _ (start : ℕ) where
    steps_of : {i a last : ℕ} {route : List ℕ} → Run b f start i a route last → Steps b f a route last
    steps_of stay = stop
    steps_of (go d s k) = enter d s.leads s.into (steps_of k)

    -- a run that is at distance i after i steps ends as far away as it has steps
    away : {i a last : ℕ} {route : List ℕ} → distance_of b.map.width start a ≡ i → Run b f start i a route last
        → distance_of b.map.width start last ≡ i + length route
    away e stay = omega arith
    away e (go d s k) = let r = away (omega (arith, s.away)) k in omega arith

    -- steps that go on from hex a after i steps, and end as far away as there are steps, are a run
    runs : {i a last : ℕ} {route : List ℕ} → Walked start a i → Steps b f a route last → Far start last (i + length route)
        → Run b f start i a route last
    runs w stop p = stay
    runs {i} w (enter {a} {x} {last} {route} d e r k) p =
        let n = next_on b.map a d x e in
        let w1 : Walked start x (i + 1) = then w (step d (next_over b.map a d x e) (here n)) in
        let q : Far start last (i + 1 + length route) = subst (λ (m : ℕ). Far start last m) (omega arith) p in
        let s : Far start x (i + 1) = first_part w1 (walked n k) q in
        go d (record { leads = e; into = r; away = closed s })
        (runs (subst (λ (m : ℕ). Walked start x m) (omega arith) w1) k (subst (λ (m : ℕ). Far start last m) (omega arith) q))

pub runs_as_worded : RunsAsWorded
runs_as_worded b f start n route o = (
  λ l.
      let k = steps_of b f start l.run in
      let e : distance_of b.map.width start l.last ≡ n = omega (arith, away b f start (same_zero b.map.width start) l.run, l.long) in
      record { long = l.long; last = l.last; steps = k; ending = measured o (ends_on b f o k) e },
  λ r.
      record {
        long = r.long;
        last = r.last;
        run = runs b f start (here o) r.steps (subst (λ (m : ℕ). Far b f start r.last m) (omega (arith, r.long)) r.ending);
      },
)
