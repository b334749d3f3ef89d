-- Laws of the battle line while it is filled: who joins it, and what each is armed with, place by place.
-- Assumes nothing.
use Prim.Native.Nat.{◌+◌, ◌<◌, ◌≤◌, ℕ}
use mathlib.Core.Bool.{Bool, false, true}
use mathlib.Core.List.{List, ◌++◌, ◌∷◌, [], append_assoc, append-nil, map, map-map}
use mathlib.Core.Path.{◌∙◌, ◌≡◌, ap, ap₂, refl, sym}
use native.Mathlib.Omega.{arith}
use borrow.Author.Tests.{eq-eqb, eqb-false, le-ltb, lt-ltb, ne_eqb}
use lib.Dec.{leb, ltb}
use lib.ListN.{get_or, length, length-append, length-map, length-set, set, take}
use lib.Seq.{ext_get_or, get_or-set_other, get_or-set_same}
use Rattle.std.specs.Prelude.{cond}
use Rattle.std.proofs.lemmas.List.{get_or-map, map-append, map-id, map_push, take_more_set}
use Rattle.position.proofs.Tallies.{any_false, same_or}
use Rattle.position.specs.Board.{Board, board}
use Rattle.position.specs.Kind.{us, canada}
use Rattle.position.specs.Tally.{any}
use Rattle.field.proofs.Lists.{sieve_grows, sieve_hit, sieve_miss}
use Rattle.field.specs.Listed.{sieve}
use Rattle.field.specs.Scene.{Scene, scene}
use Rattle.field.specs.Working.{working}
use Rattle.field.specs.Zone.{stands_on}
use Rattle.walk.proofs.Marks.{le_or}
use Rattle.walk.specs.Chain.{mark}
use Rattle.supply.specs.Supply.{supplied}
use Rattle.supply.specs.Traced.{Traced}
use Rattle.results.specs.Participants.{defenders, participants}
use Rattle.battle.specs.Line.{fighter, strength_of}
use Rattle.battle.specs.Mustered.{AllStanding, Joins, Musters, arm_home, arm_own, armed, nation_at, nation_of, recruit}
use Rattle.line.specs.Line.{fighter_at, fighter_of, places}
use Rattle.line.specs.declared.Fighter.{Fighter}

-- the units below u that pass have joined
pub record Joining (t : ℕ → Bool) (r : ℕ → Fighter) (before : List Fighter) (m count : ℕ) (after : List Fighter) (n u : ℕ) : Type 0 where
  pub most : u ≤ count
  pub size : length after ≡ places
  pub long : n ≡ m + length (sieve t u)
  pub held : take n after ≡ take m before ++ map r (sieve t u)

module _ {t : ℕ → Bool} {r : ℕ → Fighter} {before : List Fighter} {m count : ℕ} where
  pub joining_none : length before ≡ places → Joining t r before m count before m 0
  unfolding sieve
  joining_none e = record { most = omega arith; size = e; long = omega arith; held = simp append-nil }

  module _ {after : List Fighter} {n u : ℕ} (o : Joining t r before m count after n u) (l : u < count) where
    pub joining_room : m + length (sieve t count) ≤ places → t u ≡ true → n < places
    joining_room w e =
        let k = ap length (sieve_hit t u e) ∙ length-append (sieve t u) (u ∷ []) in
        omega (arith, o.long, sieve_grows t (u + 1) count (omega arith))

    pub joining_hit :
        {after' : List Fighter} {n' : ℕ} {x : Fighter} → m + length (sieve t count) ≤ places → t u ≡ true → x ≡ r u → after' ≡ set after n x → n' ≡ n + 1
        → Joining t r before m count after' n' (u + 1)
    joining_hit {x = x} w e d f g =
        let k = ap length (sieve_hit t u e) ∙ length-append (sieve t u) (u ∷ []) in
        rw (f, g)
        (record {
          most = omega arith;
          size = length-set after n x ∙ o.size;
          long = omega (arith, o.long);
          held =
              take_more_set after n x (omega (arith, o.size, joining_room w e))
              ∙ ap₂ (λ (a : List Fighter) (b : Fighter). a ++ (b ∷ [])) o.held d
              ∙ append_assoc (take m before) (map r (sieve t u)) (r u ∷ [])
              ∙ ap (λ (a : List Fighter). take m before ++ a) (sym (map_push r (sieve t u) u) ∙ ap (map r) (sym (sieve_hit t u e)));
        })

    pub joining_miss :
        {after' : List Fighter} {n' : ℕ} → t u ≡ false → after' ≡ after → n' ≡ n → Joining t r before m count after' n' (u + 1)
    joining_miss e f g =
        rw (f, g)
        (record {
          most = omega arith;
          size = o.size;
          long = o.long ∙ ap (λ (x : List ℕ). m + length x) (sym (sieve_miss t u e));
          held = o.held ∙ ap (λ (x : List ℕ). take m before ++ map r x) (sym (sieve_miss t u e));
        })

pub joins_all :
    {p : List ℕ} {target : ℕ} {before : List Fighter} {m count : ℕ} {after : List Fighter} {n u : ℕ}
    → Joining (stands_on (scene (board p)) target) (recruit p) before m count after n u → count ≤ u → count ≡ (board p).units.count
    → Joins p target before m after n
unfolding defenders
joins_all {p} {target} {before} {m} {count} {after} {n} {u} o l e =
    let k : u ≡ (board p).units.count = omega (arith, o.most) in
    record {
      long = o.long ∙ ap (λ (x : ℕ). m + length (sieve (stands_on (scene (board p)) target) x)) k;
      held = o.held ∙ ap (λ (x : ℕ). take m before ++ map (recruit p) (sieve (stands_on (scene (board p)) target) x)) k;
    }

pub musters :
    {p : List ℕ} {target : ℕ} {units : List ℕ} {l l' : List Fighter} {n : ℕ} → length units ≤ 18 → length (defenders (board p) target) ≤ 3
    → take (length units) l ≡ map (recruit p) units → Joins p target l (length units) l' n → Musters p target units l' n
unfolding participants
musters {p} {target} {units} k m e j =
    let ds = defenders (board p) target in
    record {
      long = j.long;
      held = j.held ∙ ap (λ (x : List Fighter). x ++ map (recruit p) ds) e ∙ sym (map-append (recruit p) units ds);
      most = omega (arith, j.long);
    }

-- what is traced of a hex
pub traced_says : {s : Scene} {n : ℕ} {m : List ℕ} → Traced s n m → (h : ℕ) → h < s.map.hexes → leb 2 (get_or m h 0) ≡ supplied s n h
unfolding mark
traced_says t h l = sym (t.tells h l)

pub armed_is :
    (b : Board) (u printed : ℕ) {t : Bool} {r : ℕ} → t ≡ supplied (scene b) (b.units.counter.nationality u) (b.units.state.hex u)
    → r ≡ working b u t printed → r ≡ strength_of b u printed
unfolding strength_of
armed_is b u printed e f = f ∙ ap (λ (x : Bool). working b u x printed) e

-- the fighters below i are as g makes them; all others are as they were
pub record Arming (g : Fighter → Fighter) (before : List Fighter) (i : ℕ) (after : List Fighter) : Type 0 where
  pub long : length after ≡ length before
  pub past : (j : ℕ) → j < i → fighter_at after j ≡ g (fighter_at before j)
  pub ahead : (j : ℕ) → i ≤ j → fighter_at after j ≡ fighter_at before j

module _ {g : Fighter → Fighter} {before : List Fighter} where
  pub arming_none : Arming g before 0 before
  arming_none = record { long = refl; past = λ j l. absurd (omega arith); ahead = λ j l. refl }

  pub arming_all : {i : ℕ} {after : List Fighter} → length before ≤ i → Arming g before i after → after ≡ map g before
  arming_all {i} {after} l o =
      ext_get_or (fighter_of 0 0 0) after (map g before) (o.long ∙ sym (length-map before g))
      (λ j k.
      let h : j < length before = omega (arith, o.long) in
      o.past j (omega (arith, o.long)) ∙ sym (get_or-map g before j (fighter_of 0 0 0) (fighter_of 0 0 0) h))

  module _ {i : ℕ} {after : List Fighter} (o : Arming g before i after) (l : i < length before) where
    pub arming_more : {after' : List Fighter} {x : Fighter} → x ≡ g (fighter_at after i) → after' ≡ set after i x → Arming g before (i + 1) after'
    arming_more {after'} {x} e f =
        let h : i < length after = omega (arith, o.long) in
        rw f
        (record {
          long = length-set after i x ∙ o.long;
          past =
              λ j k.
              same_or j i
              (λ d. rw d (get_or-set_same after i x (fighter_of 0 0 0) h ∙ e ∙ ap g (o.ahead i (omega arith))))
              (λ d. get_or-set_other after i j x (fighter_of 0 0 0) d ∙ o.past j (omega arith));
          ahead = λ j k. get_or-set_other after i j x (fighter_of 0 0 0) (λ d. omega arith) ∙ o.ahead j (omega arith);
        })

-- two ways to make a line of another that agree on each fighter in it
pub made_alike :
    (f g : Fighter → Fighter) (l : List Fighter) → ((i : ℕ) → i < length l → f (fighter_at l i) ≡ g (fighter_at l i)) → map f l ≡ map g l
made_alike f g l e =
    let d = fighter_of 0 0 0 in
    ext_get_or d (map f l) (map g l) (length-map l f ∙ sym (length-map l g))
    (λ i k.
    let h : i < length l = omega (arith, length-map l f) in
    get_or-map f l i d d h ∙ e i h ∙ sym (get_or-map g l i d d h))

module _ (b : Board) where
  -- a fighter is armed or not
  module _ (n : ℕ) (x : Fighter) where
    pub own_armed : nation_of b x ≡ n → arm_own b n x ≡ armed b x
    unfolding arm_own
    own_armed e = simp (eq-eqb (nation_of b x) n e)

    pub own_left : (nation_of b x ≡ n → ⊥) → arm_own b n x ≡ x
    unfolding arm_own
    own_left e = simp (ne_eqb (nation_of b x) n e)

    pub arms_own : {r : ℕ} → nation_of b x ≡ n → r ≡ strength_of b x.unit x.printed → fighter_of x.unit x.printed r ≡ arm_own b n x
    unfolding armed fighter
    arms_own e f = ap (fighter_of x.unit x.printed) f ∙ sym (own_armed e)

    own_unit : (arm_own b n x).unit ≡ x.unit
    unfolding armed fighter
    own_unit =
        same_or (nation_of b x) n
        (λ e. ap (λ (y : Fighter). y.unit) (own_armed e))
        (λ e. ap (λ (y : Fighter). y.unit) (own_left e))

  -- who is armed stands where it stood
  pub standing_own : (n : ℕ) (l : List Fighter) {m : List Fighter} → m ≡ map (arm_own b n) l → AllStanding b l → AllStanding b m
  standing_own n l e s =
      rw e
      (record {
        each =
            λ i k.
            let d = fighter_of 0 0 0 in
            let h : i < length l = omega (arith, length-map l (arm_own b n)) in
            rw (get_or-map (arm_own b n) l i d d h, own_unit n (fighter_at l i)) (s.each i h);
      })

  -- a nationality that takes no part
  pub arms_none : (n : ℕ) (l : List Fighter) → any (nation_at b n l) (length l) ≡ false → l ≡ map (arm_own b n) l
  unfolding nation_at
  arms_none n l e =
      sym (made_alike (arm_own b n) (λ x. x) l
      (λ i k. own_left n (fighter_at l i) (eqb-false (nation_of b (fighter_at l i)) n (any_false (nation_at b n l) (length l) i e k)))
      ∙ map-id l)

  -- the fighter armed if its nationality is below m
  unfoldable pub arm_below : ℕ → Fighter → Fighter
  arm_below m x = cond (ltb (nation_of b x) m) (armed b x) x

  below_armed : (m : ℕ) (x : Fighter) → nation_of b x < m → arm_below m x ≡ armed b x
  unfolding arm_below
  below_armed m x l = simp (lt-ltb (nation_of b x) m l)

  below_left : (m : ℕ) (x : Fighter) → m ≤ nation_of b x → arm_below m x ≡ x
  unfolding arm_below
  below_left m x l = simp (le-ltb (nation_of b x) m l)

  -- one nationality more
  own_below : (m : ℕ) (x : Fighter) → arm_own b m (arm_below m x) ≡ arm_below (m + 1) x
  unfolding armed fighter
  own_below m x =
      same_or (nation_of b x) m
      (λ e. ap (arm_own b m) (below_left m x (omega arith)) ∙ own_armed m x e ∙ sym (below_armed (m + 1) x (omega arith)))
      (λ d.
      le_or m (nation_of b x)
      (λ l. ap (arm_own b m) (below_left m x l) ∙ own_left m x d ∙ sym (below_left (m + 1) x (omega arith)))
      (λ l. ap (arm_own b m) (below_armed m x l) ∙ own_left m (armed b x) d ∙ sym (below_armed (m + 1) x (omega arith))))

  own_below_all : (m : ℕ) (l : List Fighter) → map (arm_own b m) (map (arm_below m) l) ≡ map (arm_below (m + 1)) l
  own_below_all m l = map-map (arm_own b m) (arm_below m) l ∙ made_alike (λ x. arm_own b m (arm_below m x)) (arm_below (m + 1)) l (λ i k. own_below m (fighter_at l i))

  -- those of the nationalities below m are armed
  pub record ArmedTo (before : List Fighter) (m : ℕ) (after : List Fighter) : Type 0 where
    pub most : m ≤ us
    pub made : after ≡ map (arm_below m) before
    pub standing : AllStanding b after

  module _ {before : List Fighter} (s : AllStanding b before) where
    pub armed_none : ArmedTo before 0 before
    armed_none =
        record {
          most = omega arith;
          made = sym (made_alike (arm_below 0) (λ x. x) before (λ i k. below_left 0 (fighter_at before i) (omega arith)) ∙ map-id before);
          standing = s;
        }

    -- all are armed
    pub armed_all : {m : ℕ} {after last : List Fighter} → us ≤ m → ArmedTo before m after → last ≡ arm_home b after → last ≡ map (armed b) before
    unfolding arm_home
    armed_all {m} {after} l o e =
        let k : m ≡ us = omega (arith, o.most) in
        e
        ∙ ap (λ (x : List Fighter). map (arm_own b canada) (map (arm_own b us) x)) (o.made ∙ ap (λ (j : ℕ). map (arm_below j) before) k)
        ∙ ap (map (arm_own b canada)) (own_below_all us before)
        ∙ own_below_all canada before
        ∙ made_alike (arm_below 5) (armed b) before (λ i h. below_armed 5 (fighter_at before i) (s.each i h).nation)

  pub armed_more : {before : List Fighter} {m : ℕ} {after after' : List Fighter} → m < us → ArmedTo before m after → after' ≡ map (arm_own b m) after → ArmedTo before (m + 1) after'
  armed_more {before} {m} {after} l o e =
      record {
        most = omega arith;
        made = e ∙ ap (map (arm_own b m)) o.made ∙ own_below_all m before;
        standing = standing_own m after e o.standing;
      }
