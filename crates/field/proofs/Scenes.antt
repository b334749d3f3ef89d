-- Marks, roles, clock, stage and routes do not matter to zones and supply: a change of them leaves the scene as it was.
-- Assumes nothing.
use Prim.Native.Nat.{ℕ}
use mathlib.Core.Path.{◌≡◌, refl}
use Rattle.position.specs.Board.{Board, enemy, neutral}
use Rattle.position.specs.Change.{Change}
use Rattle.position.specs.Change.Change.{marked, assigned, timed, staged, routed, unrouted}
use Rattle.position.specs.Effect.{change, turned_up}
use Rattle.field.specs.Scene.{scene}

-- the changes that move no unit
pub data Still : Change → Type 0 where
  marks : {u m : ℕ} → Still (marked u m)
  role : {u r : ℕ} → Still (assigned u r)
  clock : {t f ph : ℕ} → Still (timed t f ph)
  stage : {s n x : ℕ} → Still (staged s n x)
  route : {r w x y z : ℕ} → Still (routed r w x y z)
  routes : Still unrouted

pub scene_marks : (b : Board) {x : Change} → Still x → scene (change b x) ≡ scene b
unfolding change enemy neutral
scene_marks b marks = refl
scene_marks b role = refl
scene_marks b clock = refl
scene_marks b stage = refl
scene_marks b route = refl
scene_marks b routes = refl

-- nor does it matter who is turned over
pub scene_turned_up : (b : Board) (u x : ℕ) → scene (turned_up b u x) ≡ scene b
unfolding turned_up enemy neutral
scene_turned_up b u x = refl
