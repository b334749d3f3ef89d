-- Laws of a battle as a whole: who takes part stands where supply can be looked up, the line drawn up is the line of the definition,
-- and what is turned over, answered and changed meets the ruling.
-- Assumes nothing.
use Prim.Native.Nat.{◌*◌, ◌+◌, ◌-◌, ◌<◌, ◌≤◌, suc, zero, ℕ}
use mathlib.Core.Bool.{Bool, false, not, true}
use mathlib.Core.List.{List, [], ◌++◌, ◌∷◌, map}
use mathlib.Core.Path.{◌∙◌, ◌≡◌, ap, ap₂, refl, sym}
use native.Mathlib.Nat.{mul-le-mul}
use native.Mathlib.Omega.{arith}
use borrow.Author.Tests.{eqb-false, eqb-true, leb-true, ne_eqb}
use lib.Dec.{eqb}
use lib.ListN.{get_or-append, drop, get_or, length, length-append, length-drop, length-map, replicate, take, take-append-drop}
use lib.Seq.{drop-append-le, drop_at, get_or-append-add, length-take-le, take_at, take-take}
use Rattle.position.proofs.Crowds.{crowd_is}
use Rattle.acceptance.proofs.Lawfuls.{standable_on}
use Rattle.position.proofs.Tallies.{equals, neither, not_both, same_or, tally_some}
use Rattle.position.specs.Shape.{Shaped}
use Rattle.acceptance.specs.Accepted.{Lawful}
use Rattle.position.specs.Board.{Board, board, force_of, nowhere}
use Rattle.position.specs.Change.{makes}
use Rattle.position.specs.Crowd.{crowd}
use Rattle.position.specs.Kind.{force, may_belong}
use Rattle.position.specs.Layout.{strength}
use Rattle.position.specs.Tally.{tally}
use Rattle.position.specs.Stage as Stage
use Rattle.ruling.proofs.Meets.{seen_all}
use Rattle.ruling.specs.Values.{fought_with}
use Rattle.ruling.specs.Verdict.{Met, Outcome, judged, outcome, turned_all}
use Rattle.ruling.specs.Verdict.Ruling.{accepted}
use Rattle.walk.proofs.Marks.{le_or}
use Rattle.std.proofs.lemmas.List.{get_or-map, map-append}
use Rattle.line.specs.Line.{fighter_of, fighting_total, most, places, printed_total}
use Rattle.line.specs.declared.Fighter.{Fighter}
use Rattle.field.proofs.Lists.{Passing, map_long, sieve_at, sieve_long}
use Rattle.field.specs.Phasing.{not_phasing}
use Rattle.field.specs.Scene.{scene}
use Rattle.field.specs.Zone.{stands_on}
use Rattle.results.proofs.Upshots.{need_attackers, need_defenders, need_none}
use Rattle.battle.specs.Asked.{Faces, Engaged}
use Rattle.battle.specs.Battle.{battle, code_of, column_of, need_for, ruled}
use Rattle.results.specs.Participants.{defenders, participants}
use Rattle.battle.specs.Line.{attack_line, defence_line, fighter, line}
use Rattle.battle.specs.Mustered.{AllStanding, Musters, Standing, armed, recruit, unit_of}
use Rattle.odds.specs.Odds.{column, multiple_at}
use Rattle.results.specs.Results.{battle_changes, lost, need_of, upshot}
use Rattle.results.specs.declared.Upshot.{Upshot}

-- the defenders are as many as the crowd, and stand there
module _ (b : Board) (target : ℕ) where
  stands_is : stands_on (scene b) target ≡ equals b.units.state.hex target
  unfolding stands_on equals
  stands_is = refl

  pub defenders_crowd : length (defenders b target) ≡ crowd b target
  unfolding defenders
  defenders_crowd =
      sieve_long (stands_on (scene b) target) b.units.count
      ∙ ap (λ (t : ℕ → Bool). tally t b.units.count) stands_is
      ∙ sym (crowd_is b target)

  pub record Defends (u : ℕ) : Type 0 where
    pub counted : u < b.units.count
    pub there : b.units.state.hex u ≡ target

  pub defends : (u : ℕ) → Passing (stands_on (scene b) target) b.units.count u → Defends u
  unfolding stands_on
  defends u o = record { counted = o.below; there = eqb-true (b.units.state.hex u) target o.passes }

  pub defender_at : (i : ℕ) → i < length (defenders b target) → Defends (get_or (defenders b target) i 0)
  unfolding defenders
  defender_at i l = defends (get_or (defenders b target) i 0) (sieve_at (stands_on (scene b) target) b.units.count i l)

-- a test's answer, and a unit's nationality and place
equals_is : (f : ℕ → ℕ) (x k : ℕ) → equals f x k ≡ true → f k ≡ x
unfolding equals
equals_is f x k e = eqb-true (f k) x e

force_five : (n : ℕ) → force n ≡ 3 → n < 5
unfolding force
force_five n e = same_or n 4 (λ z. omega arith) (λ z. let k = simp (ne_eqb n 4 z) at e in omega arith)

belongs_five : (k n : ℕ) → may_belong k n ≡ true → n < 5
unfolding may_belong
belongs_five zero n e = omega (arith, leb-true n 4 e)
belongs_five (suc zero) n e = omega (arith, leb-true n 4 e)
belongs_five (suc (suc zero)) n e = omega (arith, leb-true n 4 e)
belongs_five (suc (suc (suc zero))) n e = force_five n (eqb-true (force n) 3 e)
belongs_five (suc (suc (suc (suc zero)))) n e = omega (arith, eqb-true n 2 e)
belongs_five (suc (suc (suc (suc (suc zero))))) n e = omega (arith, leb-true n 2 e)
belongs_five (suc (suc (suc (suc (suc (suc k)))))) n e = not_both false e refl

pub phasing_on : (b : Board) (u : ℕ) → not_phasing b u ≡ false → b.units.state.hex u ≡ nowhere → ⊥
unfolding not_phasing
phasing_on b u e =
    eqb-false (b.units.state.hex u) nowhere
    (neither (eqb (b.units.state.hex u) nowhere) (not (eqb (force_of b u) b.desk.clock.force)) e).0

-- at most three stand in a hex of a lawful board
module _ {b : Board} (l : Lawful b) (m : b.map.hexes ≤ 4096) where
  off_box : (h : ℕ) → h < b.map.hexes → h ≡ nowhere → ⊥
  off_box h k e = omega arith

  pub few_there : (target : ℕ) → target < b.map.hexes → crowd b target ≤ 3
  few_there target k =
      let t = equals b.units.state.hex target in
      le_or 1 (tally t b.units.count)
      (λ s.
      let o = tally_some t b.units.count s in
      let e = equals_is b.units.state.hex target o.at o.passes in
      rw (sym e) ((l.units.each o.at o.below).stand.mapped (λ z. off_box target k (sym e ∙ z))).room)
      (λ s. omega (arith, crowd_is b target))

  pub few_defend : (target : ℕ) → target < b.map.hexes → length (defenders b target) ≤ 3
  few_defend target k = omega (arith, defenders_crowd b target, few_there target k)

  pub stand_nation : (u : ℕ) → u < b.units.count → b.units.counter.nationality u < 5
  stand_nation u n = belongs_five (b.units.counter.kind u) (b.units.counter.nationality u) (l.units.each u n).counter.belongs

  pub attacker_stands : (target u : ℕ) → u < b.units.count → Faces b target u → Standing b u
  attacker_stands target u n a =
      record {
        nation = stand_nation u n;
        mapped = standable_on b (b.units.state.hex u) ((l.units.each u n).stand.mapped (phasing_on b u a.phasing)).stands;
      }

  pub defender_stands : (target u : ℕ) → target < b.map.hexes → Defends b target u → Standing b u
  defender_stands target u k d = record { nation = stand_nation u d.counted; mapped = rw d.there k }

-- every number of two lists, one behind the other
pub either_part :
    (P : ℕ → Type 0) (xs ys : List ℕ) → ((i : ℕ) → i < length xs → P (get_or xs i 0)) → ((i : ℕ) → i < length ys → P (get_or ys i 0))
    → (i : ℕ) → i < length xs + length ys → P (get_or (xs ++ ys) i 0)
either_part P xs ys f g i l =
    le_or (length xs) i
    (λ k.
    let e : i ≡ length xs + (i - length xs) = omega arith in
    rw (ap (λ (j : ℕ). get_or (xs ++ ys) j 0) e ∙ get_or-append-add xs ys (i - length xs) 0) (g (i - length xs) (omega arith)))
    (λ k. rw (get_or-append xs ys 0 i k) (f i k))

pub all_standing :
    {p : List ℕ} {target : ℕ} {units : List ℕ} {fs : List Fighter} {n long : ℕ} → Lawful (board p) → (board p).map.hexes ≤ 4096 → Engaged (board p) target units long
    → Musters p target units fs n → AllStanding (board p) (take n fs)
unfolding participants recruit
all_standing {p} {target} {units} {fs} {n} l m e w =
    let b = board p in
    let ds = defenders b target in
    rw w.held
    (record {
      each =
          λ i k.
          let h : i < length (units ++ ds) = omega (arith, map_long (recruit p) (units ++ ds)) in
          rw (get_or-map (recruit p) (units ++ ds) i 0 (fighter_of 0 0 0) h)
          (either_part (Standing b) units ds
          (λ j h. attacker_stands l m target (get_or units j 0) (e.range.counted j h) (e.able j h))
          (λ j h. defender_stands l m target (get_or ds j 0) e.range.aimed (defender_at b target j h))
          i
          (omega (arith, length-append units ds)));
    })

-- the first n places of a line are what g makes of the participants: of the attackers, and then of the defenders
module _ (g : ℕ → Fighter) (us ds : List ℕ) (xs : List Fighter) (n : ℕ) (z : length xs ≡ places) (m : n ≤ places) (c : n ≡ length us + length ds) (e : take n xs ≡ map g (us ++ ds)) where
  halves : take n xs ≡ map g us ++ map g ds
  halves = e ∙ map-append g us ds

  pub first_part : take (length us) xs ≡ map g us
  first_part =
      sym (take-take (length us) n xs (omega arith))
      ∙ ap (take (length us)) halves
      ∙ take_at (map g us) (map g ds) (length us) (map_long g us)

  pub second_part : take (n - length us) (drop (length us) xs) ≡ map g ds
  second_part =
      let k = length us in
      let w : xs ≡ take n xs ++ drop n xs = sym (take-append-drop n xs) in
      let h : length (take n xs) ≡ n = length-take-le n xs (omega arith) in
      let y : drop k xs ≡ drop k (take n xs) ++ drop n xs = ap (drop k) w ∙ drop-append-le k (take n xs) (drop n xs) (omega arith) in
      ap (take (n - k)) y
      ∙ take_at (drop k (take n xs)) (drop n xs) (n - k) (omega (arith, length-drop k (take n xs)))
      ∙ ap (drop k) halves
      ∙ drop_at (map g us) (map g ds) k (map_long g us)

-- the fighter of unit u
unfoldable pub fighter_by : Board → (ℕ → ℕ) → ℕ → Fighter
fighter_by b s u = fighter b u (s u)

-- who was recruited and is armed is the fighter of the unit
recruit_armed : (p : List ℕ) (u : ℕ) → armed (board p) (recruit p u) ≡ fighter_by (board p) (strength p) u
unfolding armed recruit fighter_by
recruit_armed p u = refl

recruits_armed : (p us : List ℕ) → map (armed (board p)) (map (recruit p) us) ≡ map (fighter_by (board p) (strength p)) us
recruits_armed p [] = refl
recruits_armed p (u ∷ us) = ap₂ (λ (x : Fighter) (l : List Fighter). x ∷ l) (recruit_armed p u) (recruits_armed p us)

-- the two sides of the line
module _ (b : Board) (s : ℕ → ℕ) where
  line_of : (us : List ℕ) → line b us (map s us) ≡ map (fighter_by b s) us
  unfolding line fighter_by
  line_of [] = refl
  line_of (u ∷ us) = ap (λ (l : List Fighter). fighter b u (s u) ∷ l) (line_of us)

  module _ (target : ℕ) (units : List ℕ) where
    abbrev strengths : List ℕ
    strengths = map s (participants b target units)

    two_sides : strengths ≡ map s units ++ map s (defenders b target)
    unfolding participants
    two_sides = map-append s units (defenders b target)

    pub attack_line_lem : attack_line b units strengths ≡ map (fighter_by b s) units
    unfolding attack_line
    attack_line_lem =
        ap (λ (x : List ℕ). line b units (take (length units) x)) two_sides
        ∙ ap (line b units) (take_at (map s units) (map s (defenders b target)) (length units) (map_long s units))
        ∙ line_of units

    pub defence_line_lem : defence_line b target units strengths ≡ map (fighter_by b s) (defenders b target)
    unfolding defence_line
    defence_line_lem =
        ap (λ (x : List ℕ). line b (defenders b target) (drop (length units) x)) two_sides
        ∙ ap (line b (defenders b target)) (drop_at (map s units) (map s (defenders b target)) (length units) (map_long s units))
        ∙ line_of (defenders b target)

-- what is read and computed is what the ruling says: column, code and need
pub record Decides (b : Board) (target : ℕ) (units : List ℕ) (die : ℕ) (ss : List ℕ) (c k x : ℕ) : Type 0 where
  pub column : c ≡ column_of b target units ss
  pub code : k ≡ code_of b target units die ss
  pub need : x ≡ need_for b target units die ss

pub decides :
    (b : Board) (target : ℕ) (units : List ℕ) (die : ℕ) (ss : List ℕ) {fa fd fm pa pd c k x : ℕ}
    → fa ≡ fighting_total (attack_line b units ss) → fd ≡ fighting_total (defence_line b target units ss) → fm ≡ multiple_at b target units
    → c ≡ column b.results fa (fd * fm) → k ≡ b.results.code c die
    → pa ≡ printed_total (attack_line b units ss) → pd ≡ printed_total (defence_line b target units ss) → x ≡ need_of (upshot k) pa pd
    → Decides b target units die ss c k x
unfolding column_of code_of need_for
decides b target units die ss {k = k} e f g h i j m n =
    let z = h ∙ ap₂ (column b.results) e (ap₂ (λ (x y : ℕ). x * y) f g) in
    let y = i ∙ ap (λ (q : ℕ). b.results.code q die) z in
    record {
      column = z;
      code = y;
      need =
          n
          ∙ ap₂ (need_of (upshot k)) j m
          ∙ ap (λ (q : ℕ). need_of (upshot q) (printed_total (attack_line b units ss)) (printed_total (defence_line b target units ss))) y;
    }

-- what is turned over and changed, and the scratch handed back all 0, meet the ruling
pub battled :
    {p l q m : List ℕ} {target : ℕ} {units : List ℕ} {die c k x : ℕ} → Shaped p
    → Decides (board p) target units die (map (strength p) (participants (board p) target units)) c k x
    → q ≡ makes (turned_all p (participants (board p) target units)) (battle_changes (board p) target units (upshot k) x)
    → m ≡ replicate (board p).map.hexes 0
    → Met p l (battle (board p) target units die) (accepted (fought_with (c + 1) k)) q m
unfolding battle ruled outcome judged
battled {p} {l} {q} {m} {target} {units} {die} {c} {k} {x} s d e f =
    let b = board p in
    let us = participants b target units in
    let ss = map (strength p) us in
    let z = seen_all s us (ruled b target units die) in
    record {
      answers = ap₂ (λ (y w : ℕ). accepted (fought_with (y + 1) w)) d.column d.code ∙ sym (ap (λ (o : Outcome). o.answer) z);
      leaves =
          e
          ∙ ap₂ (λ (y w : ℕ). makes (turned_all p us) (battle_changes b target units (upshot y) w)) d.code d.need
          ∙ sym (ap (λ (o : Outcome). o.position) z);
      lends = f ∙ sym (ap (λ (o : Outcome). o.lent) z);
    }

-- the sums fit
pub defence_fits : {m n : ℕ} → m ≤ most → n < 256 → m * n < 16777216
defence_fits {m} {n} l k = let b : n ≤ 255 = omega arith in let e : m * n ≤ most * 255 = mul-le-mul l b in omega arith

pub need_fits : (o : Upshot) (a d : ℕ) → a ≤ most → d ≤ most → need_of o a d < 65536
need_fits o a d l k =
    same_or o.stage Stage.losses
    (λ e.
    same_or o.attackers lost
    (λ f. omega (arith, need_attackers o a d e f))
    (λ f. omega (arith, need_defenders o a d e f)))
    (λ e. omega (arith, need_none o a d e))

-- both sides, as they are lent from the line that is drawn up
pub record Sides (p : List ℕ) (target : ℕ) (units : List ℕ) (fs : List Fighter) (n : ℕ) : Type 0 where
  pub attackers : take (length units) fs ≡ attack_line (board p) units (map (strength p) (participants (board p) target units))
  pub defenders :
      take (n - length units) (drop (length units) fs)
      ≡ defence_line (board p) target units (map (strength p) (participants (board p) target units))

-- the participants are mustered and armed
pub record Ranked (p : List ℕ) (target : ℕ) (units : List ℕ) (n : ℕ) (fs : List Fighter) : Type 0 where
  pub size : length fs ≡ places
  pub most : n ≤ places
  pub long : n ≡ length units + length (defenders (board p) target)
  pub held : take n fs ≡ map (fighter_by (board p) (strength p)) (participants (board p) target units)

-- the line is armed in place: what stands behind it is as it was
pub ranked :
    {p : List ℕ} {target : ℕ} {units : List ℕ} {n : ℕ} {fs gs : List Fighter} → Musters p target units fs n → length fs ≡ places
    → gs ≡ map (armed (board p)) (take n fs) → Ranked p target units n (gs ++ drop n fs)
ranked {p} {target} {units} {n} {fs} {gs} w k e =
    let b = board p in
    let z : length gs ≡ n = ap length e ∙ length-map (take n fs) (armed b) ∙ length-take-le n fs (omega (arith, w.most)) in
    record {
      size = omega (arith, length-append gs (drop n fs), length-drop n fs, z, w.most);
      most = w.most;
      long = w.long;
      held = take_at gs (drop n fs) n z ∙ e ∙ ap (map (armed b)) w.held ∙ recruits_armed p (participants b target units);
    }

pub sides : {p : List ℕ} {target : ℕ} {units : List ℕ} {n : ℕ} {fs : List Fighter} → Ranked p target units n fs → Sides p target units fs n
unfolding participants
sides {p} {target} {units} {n} {fs} w =
    let b = board p in
    let ds = defenders b target in
    let g = fighter_by b (strength p) in
    record {
      attackers = first_part g units ds fs n w.size w.most w.long w.held ∙ sym (attack_line_lem b (strength p) target units);
      defenders = second_part g units ds fs n w.size w.most w.long w.held ∙ sym (defence_line_lem b (strength p) target units);
    }

-- the units of the line
units_back : (b : Board) (s : ℕ → ℕ) (us : List ℕ) → map unit_of (map (fighter_by b s) us) ≡ us
unfolding fighter_by fighter
units_back b s [] = refl
units_back b s (u ∷ us) = ap (λ (l : List ℕ). u ∷ l) (units_back b s us)

-- the participants, as the line's units are read back
pub lent_all : {p : List ℕ} {target : ℕ} {units : List ℕ} {n : ℕ} {fs : List Fighter} (all : List ℕ)
    → Ranked p target units n fs → take (length (take n fs)) all ≡ map unit_of (take n fs) → take n all ≡ participants (board p) target units
lent_all {p} {target} {units} {n} {fs} all w e =
    let b = board p in
    let z : length (take n fs) ≡ n = length-take-le n fs (omega (arith, w.size, w.most)) in
    ap (λ (k : ℕ). take k all) (sym z)
    ∙ e
    ∙ ap (map unit_of) w.held
    ∙ units_back b (strength p) (participants b target units)
