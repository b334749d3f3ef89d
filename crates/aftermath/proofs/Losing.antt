-- Laws of losses: each test by its cases, the tests of a unit in their order, the printed total, and who is left.
-- Assumes nothing.
use Prim.Native.Nat.{◌+◌, ◌<◌, ◌≤◌, ℕ}
use mathlib.Core.Bool.{Bool, ◌&&◌, and-false, and-true, false, not, true}
use mathlib.Core.List.{List, [], ◌∷◌, map}
use mathlib.Core.Path.{◌∙◌, ◌≡◌, ap, refl, sym}
use native.Mathlib.Omega.{arith}
use borrow.Author.Tests.{eq-eqb, le-leb, lt-leb, ne_eqb}
use lib.Dec.{eqb}
use lib.ListN.{get_or, length, take}
use lib.Seq.{take_all}
use Rattle.position.proofs.Changes.{board_makes, makes_then}
use Rattle.position.proofs.Tallies.{same_or}
use Rattle.position.specs.Board.{Board, board, force_of}
use Rattle.position.specs.Change.{Change, makes}
use Rattle.position.specs.Change.Change.{assigned, destroyed}
use Rattle.position.specs.Effect.{change, changes}
use Rattle.position.specs.Shape.{Shaped}
use Rattle.position.specs.Tally.{any}
use Rattle.position.specs.Role as Role
use Rattle.acceptance.proofs.Carries.{fixed_change}
use Rattle.acceptance.proofs.Fates.{destroyed_else, destroyed_here}
use Rattle.ruling.proofs.Going.{Gone, gone_more}
use Rattle.ruling.proofs.Meets.{pass, stop}
use Rattle.ruling.specs.Judged.{Passes, Stops}
use Rattle.ruling.specs.Verdict.{Verdict}
use Rattle.field.proofs.Lists.{sieve_same, take_more}
use Rattle.field.specs.Listed.{and_then, named, sieve}
use Rattle.line.proofs.Filling.{filled_list}
use Rattle.line.specs.Line.{Filled, fighter_of, printed_total, total_by}
use Rattle.line.specs.declared.Fighter.{Fighter}
use Rattle.aftermath.specs.Losses.{
  enough,
  loss,
  loss_at,
  loss_changes,
  loss_fighter,
  other_type,
  owes,
  owes_phasing,
  passed_over,
  short,
  shown_total,
  spared,
  spared_special,
}
use Rattle.aftermath.specs.Stage.{reassigned}

-- each test by its cases
module _ (b : Board) (units : List ℕ) where
  module _ (u : ℕ) where
    pub spared_not : owes b u ≡ false → spared b units u ≡ false
    unfolding spared
    spared_not e = simp e

    pub spared_owes : owes b u ≡ true → spared b units u ≡ not (named units u)
    unfolding spared
    spared_owes e = simp e

    pub other_unnamed : named units u ≡ false → other_type b units u ≡ false
    unfolding other_type
    other_unnamed e = simp e

    pub other_named : named units u ≡ true → other_type b units u ≡ not (eqb (b.units.counter.kind u) 4)
    unfolding other_type
    other_named e = simp e

    pub special_not : spared b units u ≡ false → spared_special b units u ≡ false
    unfolding spared_special
    special_not e = simp e

    pub special_spared : spared b units u ≡ true → spared_special b units u ≡ eqb (b.units.counter.kind u) 4
    unfolding spared_special
    special_spared e = simp e

  pub enough_need : b.desk.battle.need ≤ shown_total b units → enough b units ≡ true
  unfolding enough
  enough_need l = simp (le-leb b.desk.battle.need (shown_total b units) l)

  pub enough_all : shown_total b units < b.desk.battle.need → enough b units ≡ not (any (spared b units) b.units.count)
  unfolding enough
  enough_all l = simp (lt-leb b.desk.battle.need (shown_total b units) l)

  pub passed_other_force : any (owes_phasing b) b.units.count ≡ false → passed_over b units ≡ false
  unfolding passed_over
  passed_other_force e = simp e

  module _ (e : any (owes_phasing b) b.units.count ≡ true) where
    pub passed_special_alone : any (other_type b units) b.units.count ≡ false → passed_over b units ≡ false
    unfolding passed_over
    passed_special_alone f = simp (e, f)

    pub passed_special :
        any (other_type b units) b.units.count ≡ true → passed_over b units ≡ any (spared_special b units) b.units.count
    unfolding passed_over
    passed_special f = simp (e, f)

  pub short_need : enough b units ≡ false → short b units ≡ true
  unfolding short
  short_need e = simp e

  pub short_special : enough b units ≡ true → short b units ≡ passed_over b units
  unfolding short
  short_special e = simp e

module _ (b : Board) (u : ℕ) where
  pub phasing_not : owes b u ≡ false → owes_phasing b u ≡ false
  unfolding owes_phasing
  phasing_not e = simp e

  pub phasing_owes : owes b u ≡ true → owes_phasing b u ≡ eqb (force_of b u) b.desk.clock.force
  unfolding owes_phasing
  phasing_owes e = simp e

-- the tests of one unit, in their order
module _ (p : List ℕ) (b : Board) (before : List ℕ) (u k : ℕ) where
  pub stops_role : owes b u ≡ false → Stops p (loss b before u k) 4 k
  unfolding loss
  stops_role e l v = stop (ap not e)

  module _ (e : owes b u ≡ true) where
    pub stops_named : named before u ≡ true → Stops p (loss b before u k) 6 k
    unfolding loss
    stops_named f l v = pass (ap not e) (stop f)

    pub passes_loss : named before u ≡ false → Passes p (loss b before u k) × Unit {0}
    unfolding loss
    passes_loss f = (λ l v a q m w. pass (ap not e) (pass f w), tt)

-- tests that know the units named before, passed up to place i
pub gone_behind :
    {p : List ℕ} {test : List ℕ → ℕ → ℕ → Verdict → Verdict} {units : List ℕ} {i : ℕ}
    → Gone p test and_then [] units i (take i units) → i < length units → Passes p (test (take i units) (get_or units i 0) (i + 1))
    → Gone p test and_then [] units (i + 1) (take (i + 1) units)
unfolding and_then
gone_behind {units = units} {i} o l t = rw (take_more units i l) (gone_more o l t)

-- the printed total of a list is that of its line
pub line_total : (b : Board) (us : List ℕ) → shown_total b us ≡ printed_total (map (loss_fighter b) us)
unfolding shown_total total_by loss_fighter
line_total b [] = refl
line_total b (u ∷ us) = ap (λ (n : ℕ). b.units.state.shown u + n) (line_total b us)

-- a place of the line, and all of it
pub loss_place : (b : Board) (units : List ℕ) (i : ℕ) {s : ℕ} → s ≡ b.units.state.shown (get_or units i 0) → fighter_of (get_or units i 0) s 0 ≡ loss_at b units i
unfolding loss_at loss_fighter
loss_place b units i e = ap (λ (k : ℕ). fighter_of (get_or units i 0) k 0) e

pub listed_total :
    (b : Board) (units : List ℕ) {l : List Fighter} {r : ℕ} → length units ≤ 18 → Filled (loss_at b units) (length units) l
    → r ≡ printed_total (take (length units) l) → r ≡ shown_total b units
unfolding loss_at
listed_total b units {l} k f e =
    e
    ∙ ap printed_total (filled_list (loss_fighter b) units (omega arith) f refl (λ i j. refl))
    ∙ sym (line_total b units)

-- a whole list, named
pub named_whole : (units : List ℕ) (u n : ℕ) {r : Bool} → r ≡ named (take n units) u → length units ≤ n → r ≡ named units u
named_whole units u n e l = e ∙ ap (λ (k : List ℕ). named k u) (take_all n units l)

-- of the units that owed, those that the list spares owe still
pub owes_after :
    (units : List ℕ) (b : Board) (w : ℕ) → w < b.units.count
    → eqb ((changes b (map destroyed units)).units.state.role w) Role.owes ≡ (eqb (b.units.state.role w) Role.owes && not (named units w))
unfolding changes named
owes_after [] b w l = simp and-true
owes_after (u ∷ us) b w l =
    let c = change b (destroyed u) in
    let k : w < c.units.count = omega (arith, (fixed_change b (destroyed u)).count) in
    owes_after us c w k
    ∙ same_or w u
    (λ e.
    let m : u < b.units.count = omega arith in
    let r = ap c.units.state.role e ∙ (destroyed_here b u m).role in
    ap (λ (x : ℕ). eqb x Role.owes && not (named us w)) r ∙ sym (simp (eq-eqb u w (sym e), and-false)))
    (λ n.
    ap (λ (x : ℕ). eqb x Role.owes && not (named us w)) (destroyed_else b u w n).role ∙ sym (simp (ne_eqb u w (λ e. n (sym e)))))

changes_count : (xs : List Change) (b : Board) → (changes b xs).units.count ≡ b.units.count
unfolding changes
changes_count [] b = refl
changes_count (x ∷ xs) b = changes_count xs (change b x) ∙ (fixed_change b x).count

module _ (b : Board) (units : List ℕ) where
  -- they are given the role of survivors
  pub survivors : reassigned (changes b (map destroyed units)) Role.owes Role.advances ≡ map (λ u. assigned u Role.advances) (sieve (spared b units) b.units.count)
  unfolding reassigned spared owes
  survivors =
      let c = changes b (map destroyed units) in
      let t : ℕ → Bool = λ u. eqb (c.units.state.role u) Role.owes in
      ap (map (λ u. assigned u Role.advances))
      (ap (sieve t) (changes_count (map destroyed units) b)
      ∙ sieve_same t (spared b units) b.units.count (λ k l. owes_after units b k l))

-- the units of the list are destroyed, and then the survivors get role 2
pub lost_then :
    {p q r : List ℕ} → Shaped p → (units : List ℕ) → q ≡ makes p (map destroyed units) → r ≡ makes q (reassigned (board q) Role.owes Role.advances)
    → r ≡ makes p (loss_changes (board p) units)
unfolding loss_changes
lost_then {p} s units e f =
    let xs = map destroyed units in
    let ys = map (λ u. assigned u Role.advances) (sieve (spared (board p) units) (board p).units.count) in
    f
    ∙ ap (λ (l : List ℕ). makes l (reassigned (board l) Role.owes Role.advances)) e
    ∙ ap (makes (makes p xs)) (ap (λ (b : Board). reassigned b Role.owes Role.advances) (board_makes s xs) ∙ survivors (board p) units)
    ∙ sym (makes_then xs ys p)
