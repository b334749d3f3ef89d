-- What was painted, asked: a hex is open, a source, and graded by its marks as by the units themselves.
-- Assumes nothing.
use Prim.Native.Nat.{ℕ, ◌<◌, ◌≤◌}
use mathlib.Core.Path.{◌≡◌, refl, sym, ap, subst, ◌∙◌}
use mathlib.Core.Bool.{Bool, true, false, ◌&&◌, and-false}
use mathlib.Core.List.{List, [], ◌++◌}
use native.Mathlib.Omega.{arith}
use lib.Dec.{eqb}
use lib.ListN.{length, take, drop, drop_of_length-le, take-append-drop}
use Rattle.std.proofs.lemmas.List.{append-nil}
use borrow.Author.Tests.{lt-ltb, le-ltb, le-leb, lt-leb, eq-eqb, ne_eqb}
use Rattle.grid.specs.declared.region.Region.{Region}
use Rattle.grid.specs.Map.{On}
use Rattle.grid.specs.Region.{Whole}
use Rattle.position.specs.Layout.{byte}
use Rattle.position.specs.Bits.{has, port, urban, supply}
use Rattle.position.specs.Kind.{force, us, canada}
use Rattle.field.specs.Scene.{Scene}
use Rattle.supply.specs.Open.{open_to, home_source, coastal, landing, landed_source, source, grade}
use Rattle.walk.specs.Chain.{mark}
use Rattle.paint.specs.Paint.{Shows, Marked}
use Rattle.paint.proofs.Bytes.{Pass, pass_all}
use Rattle.paint.proofs.Units.{marked_zone, marked_enemy, marked_own, marked_depot}
use Rattle.supply.specs.Traced.{Traced, regrade_by}
use Rattle.supply.specs.Graded.{MapShows, Grades, open_by, landed_by, source_by, grade_by}

-- what each answer of the tests decides, in the order in which they are asked
module _ (s : Scene) (h m : ℕ) where
  pub open_water : 1 < s.map.surface h → open_by s h m ≡ false
  unfolding open_by
  open_water e = simp (lt-leb (s.map.surface h) 1 e)

  pub open_enemy : has 2 m ≡ true → open_by s h m ≡ false
  unfolding open_by
  open_enemy e = simp (e, and-false)

  pub open_zone : s.map.surface h ≤ 1 → has 2 m ≡ false → has 1 m ≡ true → open_by s h m ≡ has 4 m
  unfolding open_by
  open_zone l e z = simp (le-leb (s.map.surface h) 1 l, e, z)

  pub open_free : s.map.surface h ≤ 1 → has 2 m ≡ false → has 1 m ≡ false → open_by s h m ≡ true
  unfolding open_by
  open_free l e z = simp (le-leb (s.map.surface h) 1 l, e, z)

  pub depot_inland : coastal s h ≡ false → (coastal s h && has 8 m) ≡ false
  depot_inland e = simp e

  pub depot_none : has 8 m ≡ false → (coastal s h && has 8 m) ≡ false
  depot_none e = simp (e, and-false)

  pub landed_depot : coastal s h ≡ true → has 8 m ≡ true → landed_by s h m ≡ true
  unfolding landed_by
  landed_depot e d = simp (e, d)

  pub landed_own : (coastal s h && has 8 m) ≡ false → has 4 m ≡ true → landed_by s h m ≡ landing s h
  unfolding landed_by
  landed_own e o = simp (e, o)

  pub landed_not : (coastal s h && has 8 m) ≡ false → has 4 m ≡ false → landed_by s h m ≡ false
  unfolding landed_by
  landed_not e o = simp (e, o)

  module _ (n : ℕ) where
    pub source_us : n ≡ us → source_by s n h m ≡ home_source s 1 h
    unfolding source_by
    source_us e = simp (eq-eqb n us e)

    pub source_canada : n ≡ canada → source_by s n h m ≡ home_source s 2 h
    unfolding source_by
    source_canada e = simp (ne_eqb n us (λ q. omega arith), eq-eqb n canada e)

    pub source_landed : (n ≡ us → ⊥) → (n ≡ canada → ⊥) → source_by s n h m ≡ landed_by s h m
    unfolding source_by
    source_landed e q = simp (ne_eqb n us e, ne_eqb n canada q)

    pub grade_closed : open_by s h m ≡ false → grade_by s n h m ≡ 0
    unfolding grade_by
    grade_closed e = simp e

    pub grade_source : {r : Bool} → open_by s h m ≡ true → r ≡ source_by s n h m → r ≡ true → grade_by s n h m ≡ 2
    unfolding grade_by
    grade_source e q t = simp (e, sym q ∙ t)

    pub grade_open : {r : Bool} → open_by s h m ≡ true → r ≡ source_by s n h m → r ≡ false → grade_by s n h m ≡ 1
    unfolding grade_by
    grade_open e q t = simp (e, sym q ∙ t)

module _ (s : Scene) (h : ℕ) where
  pub home_yes : (c : ℕ) → has supply (s.map.flags h) ≡ true → home_source s c h ≡ eqb (s.map.country h) c
  unfolding home_source
  home_yes c e = simp e

  pub home_no : (c : ℕ) → has supply (s.map.flags h) ≡ false → home_source s c h ≡ false
  unfolding home_source
  home_no c e = simp e

  pub coastal_is : coastal s h ≡ eqb (s.map.surface h) 1
  unfolding coastal
  coastal_is = refl

  pub landing_port : has port (s.map.flags h) ≡ true → landing s h ≡ true
  unfolding landing
  landing_port e = simp e

  module _ (e : has port (s.map.flags h) ≡ false) where
    pub landing_inland : coastal s h ≡ false → landing s h ≡ false
    unfolding landing
    landing_inland q = simp (e, q)

    pub landing_urban : coastal s h ≡ true → has urban (s.map.flags h) ≡ true → landing s h ≡ true
    unfolding landing
    landing_urban q u = simp (e, q, u)

    pub landing_supply : coastal s h ≡ true → has urban (s.map.flags h) ≡ false → landing s h ≡ has supply (s.map.flags h)
    unfolding landing
    landing_supply q u = simp (e, q, u)

-- the region of the whole map shows each hex at its own number
pub map_shows :
    {s : Scene} {f : ℕ} {at : Region} {l : List ℕ} → Whole s.map.width s.map.height at
    → ((h : ℕ) → h < s.map.hexes → On s.map.width s.map.height h) → length l ≡ s.map.hexes → Shows s f at l → MapShows s f l
unfolding mark
map_shows {s} {f} {at} {l} whole on long k =
    record {
      long = long;
      each = λ h e.
          let q = whole.each h (on h e) in
          subst (λ (i : ℕ). Marked s f h (byte l i)) q.1 (k.each h q.0);
    }

module _ (s : Scene) (n : ℕ) (l : List ℕ) (shows : MapShows s (force n) l) (h : ℕ) (le : h < s.map.hexes) where
  here : Marked s (force n) h (mark l h)
  here = shows.each h le

  open_is : open_by s h (mark l h) ≡ open_to s n h
  unfolding open_by open_to
  open_is = simp (marked_enemy here, marked_zone here, marked_own here)

  landed_is : landed_by s h (mark l h) ≡ landed_source s (force n) h
  unfolding landed_by landed_source
  landed_is = simp (marked_own here, marked_depot here)

  source_is : source_by s n h (mark l h) ≡ source s n h
  unfolding source_by source
  source_is = simp landed_is

  pub grade_is : grade_by s n h (mark l h) ≡ grade s n h
  unfolding grade_by grade
  grade_is = simp (lt-ltb h s.map.hexes le, open_is, source_is)

-- a pass over all hexes of a buffer, which are lent as a part of it
pub pass_whole : {f : ℕ → ℕ → ℕ} {i : ℕ} (k : ℕ) (l m : List ℕ) → length l ≤ k → Pass f i (take k l) m → Pass f i l (m ++ drop k l)
pass_whole k l m le p =
    let d : drop k l ≡ [] = drop_of_length-le l le in
    let t : take k l ≡ l = sym (append-nil (take k l)) ∙ ap (λ (x : List ℕ). take k l ++ x) (sym d) ∙ take-append-drop k l in
    rw (d, append-nil m) (rw t at p)

-- a pass that writes each hex's grade over its marks
pub all_graded : {s : Scene} {n i : ℕ} {l m : List ℕ} → MapShows s (force n) l → Pass (grade_by s n) i l m → s.map.hexes ≤ i → Grades s n m
unfolding mark
all_graded {s} {n} {i} {l} {m} shows p le =
    record {
      long = p.long ∙ shows.long;
      each = λ h hl. pass_all p (omega (arith, shows.long)) h (omega (arith, shows.long)) ∙ grade_is s n l shows h hl;
    }

-- US and Canada are one force
alike : (s : Scene) (h : ℕ) → open_to s canada h ≡ open_to s us h
unfolding open_to force
alike s h = refl

-- what is traced for the US, graded for Canada: open alike, and a source by its own country
module _ (s : Scene) (h : ℕ) where
  pub regrade_closed : {m : ℕ} → m ≤ 0 → regrade_by s h m ≡ 0
  unfolding regrade_by
  regrade_closed {m} p = simp (le-ltb 0 m p)

  module _ {r : Bool} (m : ℕ) (p : 0 < m) (q : r ≡ home_source s 2 h) where
    pub regrade_source : r ≡ true → regrade_by s h m ≡ 2
    unfolding regrade_by
    regrade_source t = simp (lt-ltb 0 m p, sym q ∙ t)

    pub regrade_open : r ≡ false → regrade_by s h m ≡ 1
    unfolding regrade_by
    regrade_open t = simp (lt-ltb 0 m p, sym q ∙ t)

  regrade_is : {l : List ℕ} → Traced s us l → h < s.map.hexes → regrade_by s h (mark l h) ≡ grade s canada h
  unfolding regrade_by grade source
  regrade_is t p = simp (lt-ltb h s.map.hexes p, sym (t.free h p), alike s h)

pub all_regraded : {s : Scene} {i : ℕ} {l m : List ℕ} → Traced s us l → Pass (regrade_by s) i l m → s.map.hexes ≤ i → Grades s canada m
unfolding mark
all_regraded {s} {i} {l} {m} t p le =
    record {
      long = p.long ∙ t.long;
      each = λ h hl. pass_all p (omega (arith, t.long)) h (omega (arith, t.long)) ∙ regrade_is s h t hl;
    }
