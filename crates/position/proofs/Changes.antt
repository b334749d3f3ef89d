-- The board after a change, and after changes one after another; the layout and the strengths, which no change touches.
-- Assumes nothing.
use Prim.Native.Nat.{ℕ, ◌+◌, ◌%◌, ◌/◌, ◌<◌}
use mathlib.Core.Path.{◌≡◌, refl, sym, ap, ◌∙◌}
use mathlib.Core.List.{List, [], ◌∷◌, ◌++◌}
use native.Mathlib.Omega.{arith}
use native.Mathlib.Decide.{dec_lt}
use borrow.Author.Tests.{lt-ltb, le-ltb}
use Rattle.position.specs.declared.View.{View}
use Rattle.position.specs.Bits.{has, with, tried, faced}
use Rattle.position.specs.Layout.{hex_field, strength_field, marks_field, role_field, route_count, hexes, strength, marks, set_unit, set_hex, set_marks, set_role}
use Rattle.position.specs.Board.{Board, Units, board, units, desk, nowhere}
use Rattle.position.specs.Shape.{Shaped}
use Rattle.position.specs.Laid.{Laid}
use Rattle.position.specs.Change.{Change, make, makes, turned, source}
use Rattle.position.specs.Change.Change.{placed, destroyed, marked, assigned, timed, staged, routed, unrouted}
use Rattle.position.specs.Effect.{with_hex, with_marks, with_role, with_units, with_desk, change, changes, turned_up}
use Rattle.position.proofs.Front.{Front, Behind, front_refl, front_trans, behind_front, behind_trans, shaped_kept, laid_kept}
use Rattle.position.proofs.Writes.{behind_unit, front_unit, unit_unit}
use Rattle.position.proofs.Effects.{board_units, board_desk, units_role, units_faced, units_turned, units_hex, behind_hex, desk_behind, faced_face}
use Rattle.position.proofs.DeskEffects.{Desked, desked_front, clock_desked, desk_clock, stage_desked, desk_stage_lem, route_desked, desk_route, cleared_desked, desk_cleared}

-- what a write to the units leaves: the front, the desk, and every strength
record Unit-written (p q : List ℕ) (s : Units) : Type 0 where
  behind : Behind p q
  units : units q ≡ s
  desk : desk q ≡ desk p
  strengths : (w : ℕ) → strength q w ≡ strength p w

hex_written : {p : List ℕ} → Shaped p → (u h : ℕ) → Unit-written p (set_hex p u h) (with_hex (units p) u h)
unfolding set_hex
hex_written {p} s u h =
    let q = set_unit p u hex_field (h % 256) in
    record {
      behind = behind_hex s u h;
      units = units_hex s u h;
      desk = desk_behind q u (hex_field + 1) (h / 256) (omega arith) ∙ desk_behind p u hex_field (h % 256) (omega arith);
      strengths =
          λ w.
          unit_unit q u (hex_field + 1) (h / 256) (omega arith) w strength_field (omega arith) (λ e g. omega arith)
          ∙ unit_unit p u hex_field (h % 256) (omega arith) w strength_field (omega arith) (λ e g. omega arith);
    }

faced_written : {p : List ℕ} → Shaped p → (u m : ℕ) → has tried m ≡ has tried (marks p u) → Unit-written p (set_marks p u m) (with_marks (units p) u m)
unfolding set_marks
faced_written {p} s u m e =
    record {
      behind = behind_unit p u marks_field m;
      units = units_faced s u m e;
      desk = desk_behind p u marks_field m (omega arith);
      strengths = λ w. unit_unit p u marks_field m (omega arith) w strength_field (omega arith) (λ e g. omega arith);
    }

role_written : {p : List ℕ} → Shaped p → (u r : ℕ) → Unit-written p (set_role p u r) (with_role (units p) u r)
unfolding set_role
role_written {p} s u r =
    record {
      behind = behind_unit p u role_field r;
      units = units_role s u r;
      desk = desk_behind p u role_field r (omega arith);
      strengths = λ w. unit_unit p u role_field r (omega arith) w strength_field (omega arith) (λ e g. omega arith);
    }

-- what stays and what is new after a change
pub record Made (p q : List ℕ) (b : Board) : Type 0 where
  pub front : Front p q
  pub board : board q ≡ b
  pub strengths : (w : ℕ) → strength q w ≡ strength p w

made_units : {p q : List ℕ} {s : Units} → Unit-written p q s → Made p q (with_units (board p) s)
made_units w =
    record { front = behind_front w.behind; board = board_units w.behind w.units w.desk; strengths = w.strengths }

written_then : {p q r : List ℕ} {s : Units} (g : Units → Units) → Unit-written p q s → Unit-written q r (g (units q)) → Unit-written p r (g s)
written_then g a b =
    record {
      behind = behind_trans a.behind b.behind;
      units = b.units ∙ ap g a.units;
      desk = b.desk ∙ a.desk;
      strengths = λ w. b.strengths w ∙ a.strengths w;
    }

destroyed_written : {p : List ℕ} → Shaped p → (u : ℕ) → Unit-written p (make p (destroyed u)) (with_role (with_marks (with_hex (units p) u nowhere) u (faced (marks p u) 0)) u 0)
unfolding make
destroyed_written {p} s u =
    let m = faced (marks p u) 0 in
    let a = hex_written s u nowhere in
    let s₁ = shaped_kept (behind_front a.behind) s in
    let e : has tried m ≡ has tried (marks (set_hex p u nowhere) u) =
    faced_face (marks p u) 0 ∙ ap (has tried) (ap (λ (x : Units). x.state.marks u) (sym a.units))
    in
    let b = faced_written s₁ u m e in
    written_then (λ (x : Units). with_role x u 0) (written_then (λ (x : Units). with_marks x u m) a b)
    (role_written (shaped_kept (behind_front b.behind) s₁) u 0)

made_desk : {p q : List ℕ} → Desked p q → Made p q (with_desk (board p) (desk q))
made_desk k = record { front = desked_front k; board = board_desk k.behind k.units refl; strengths = k.strengths }

-- the desk as it is told
told : {p q : List ℕ} {b c : Board} → b ≡ c → Made p q b → Made p q c
told e m = record { front = m.front; board = m.board ∙ e; strengths = m.strengths }

pub made : {p : List ℕ} → Shaped p → (x : Change) → Made p (make p x) (change (board p) x)
unfolding make change
made {p} s (placed u h) = at (dec_lt h (hexes p))
  where
    at : Dec (h < hexes p) → Made p (make p (placed u h)) (change (board p) (placed u h))
    at (yes l) = simp (lt-ltb h (hexes p) l) (made_units (hex_written s u h))
    at (no n) = simp (le-ltb h (hexes p) (omega arith)) (record { front = front_refl p; board = refl; strengths = λ w. refl })
made s (destroyed u) = made_units (destroyed_written s u)
made {p} s (marked u m) = made_units (faced_written s u (faced (marks p u) m) (faced_face (marks p u) m))
made s (assigned u r) = made_units (role_written s u r)
made {p} s (timed t f ph) = told (ap (with_desk (board p)) (desk_clock p t f ph s)) (made_desk (clock_desked p t f ph))
made {p} s (staged st n x) = told (ap (with_desk (board p)) (desk_stage_lem p st n x s)) (made_desk (stage_desked p st n x))
made {p} s (routed r a b c d) = told (ap (with_desk (board p)) (desk_route s r a b c d)) (made_desk (route_desked s r a b c d))
made {p} s unrouted = told (ap (with_desk (board p)) (desk_cleared s)) (made_desk (cleared_desked s route_count))

-- what turning over leaves and shows
pub turned_made : {p : List ℕ} → Shaped p → (u : ℕ) → Made p (turned p u) (turned_up (board p) u (strength p u))
unfolding turned turned_up set_marks
turned_made {p} s u =
    let m = with tried (marks p u) in
    record {
      front = front_unit p u marks_field m;
      board = board_units (behind_unit p u marks_field m) (units_turned s u) (desk_behind p u marks_field m (omega arith));
      strengths = λ w. unit_unit p u marks_field m (omega arith) w strength_field (omega arith) (λ e g. omega arith);
    }

-- the layout stays, whatever changes
pub front_make : {p : List ℕ} → Shaped p → (x : Change) → Front p (make p x)
front_make s x = (made s x).front

pub laid_make : {p : List ℕ} {v : View} → Laid p v → (x : Change) → Laid (make p x) v
laid_make l x = laid_kept (front_make l.shaped x) l

pub laid_turned : {p : List ℕ} {v : View} → Laid p v → (u : ℕ) → Laid (turned p u) v
laid_turned l u = laid_kept (turned_made l.shaped u).front l

-- the board after a change
pub board_make : {p : List ℕ} → Shaped p → (x : Change) → board (make p x) ≡ change (board p) x
board_make s x = (made s x).board

-- strengths after a change are those of the change's sources
pub strength_make : {p : List ℕ} → Shaped p → (x : Change) (w : ℕ) → strength (make p x) w ≡ strength p (source x w)
unfolding source
strength_make s x w = (made s x).strengths w

-- changes one after another
pub front_makes : {p : List ℕ} → Shaped p → (xs : List Change) → Front p (makes p xs)
unfolding makes
front_makes {p} s [] = front_refl p
front_makes {p = p} s (x ∷ xs) = let f = front_make s x in front_trans f (front_makes {p = make p x} (shaped_kept f s) xs)

pub laid_makes : {p q : List ℕ} {v : View} (xs : List Change) → Laid p v → q ≡ makes p xs → Laid q v
laid_makes xs l e = rw e (laid_kept (front_makes l.shaped xs) l)

pub board_makes : {p : List ℕ} → Shaped p → (xs : List Change) → board (makes p xs) ≡ changes (board p) xs
unfolding makes changes
board_makes s [] = refl
board_makes {p} s (x ∷ xs) =
    board_makes {p = make p x} (shaped_kept (front_make s x) s) xs ∙ ap (λ (b : Board). changes b xs) (board_make s x)

pub makes_snoc : (xs : List Change) (x : Change) (p : List ℕ) → makes p (xs ++ (x ∷ [])) ≡ make (makes p xs) x
unfolding makes
makes_snoc [] x p = refl
makes_snoc (y ∷ xs) x p = makes_snoc xs x (make p y)

pub makes_then : (xs ys : List Change) (p : List ℕ) → makes p (xs ++ ys) ≡ makes (makes p xs) ys
unfolding makes
makes_then [] ys p = refl
makes_then (x ∷ xs) ys p = makes_then xs ys (make p x)
