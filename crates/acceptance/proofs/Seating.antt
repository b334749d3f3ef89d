-- The table of stacks after one unit more: counted where it stands, or no room for it.
-- Assumes nothing.
use Prim.Native.Nat.{ℕ, ◌+◌, ◌-◌, ◌*◌, ◌/◌, ◌%◌, ◌≤◌, ◌<◌}
use mathlib.Core.Path.{◌≡◌, refl, sym, ap, subst, ◌∙◌}
use mathlib.Core.List.{List}
use mathlib.Core.Bool.{Bool, true, false}
use native.Mathlib.Omega.{arith}
use lib.ListN.{length, get_or, set, replicate, length-set, length-replicate, get_or-replicate, get_or-eq_default}
use lib.Seq.{get_or-set_same, get_or-set_other}
use lib.Dec.{ltb}
use borrow.Author.Tests.{ltb-true, ltb-false, lt-ltb, le-ltb}
use Rattle.position.specs.Tally.{tally}
use Rattle.position.specs.Board.{Board, force_of}
use Rattle.position.specs.Crowd.{crowd}
use Rattle.position.proofs.Tallies.{either, same_or, equals, equals_yes, equals_no, equals_is, tally_zero, tally_hit, tally_miss, tally_pos, tally_some, tally_grows}
use Rattle.position.proofs.Crowds.{crowd_is}
use Rattle.acceptance.specs.Asked.{StackOk, StacksIn, StacksOk}
use Rattle.acceptance.specs.Seats.{block, table, seat_of, Empty, AddsTo, first, more, strange, full, Seat, Seated, Counts, Crowded, SeatedOf}

module _ (b : Board) where
  -- how many units below n stand on hex h
  abbrev there : ℕ → ℕ → ℕ
  there h n = tally (equals b.units.state.hex h) n

  many_is : {n h x : ℕ} → Seat b n h x → x % 4 ≡ there h n
  unfolding equals
  many_is s = s.many

  seat_of_lem : (n h x : ℕ) → x < 16 → x % 4 ≡ there h n → (x % 4 ≡ 0 → x ≡ 0) → ((w : ℕ) → w < n → b.units.state.hex w ≡ h → force_of b w ≡ x / 4) → Seat b n h x
  unfolding equals
  seat_of_lem n h x l e z f = record { small = l; many = e; none = z; one = f }

  -- nobody is seated yet
  pub empty_seat : (h : ℕ) → Seat b 0 h 0
  empty_seat h = seat_of_lem 0 h 0 (omega arith) (sym (tally_zero _)) (λ z. refl) (λ w l. absurd (omega arith))

  module _ (u h : ℕ) where
    -- unit u stands elsewhere
    pub passed_by : {x : ℕ} → (b.units.state.hex u ≡ h → ⊥) → Seat b u h x → Seat b (u + 1) h x
    passed_by {x} n s =
        seat_of_lem (u + 1) h x s.small (many_is s ∙ sym (tally_miss (equals b.units.state.hex h) u (equals_no b.units.state.hex h u n)))
        s.none
        (λ w l e. same_or w u (λ q. absurd (n (ap b.units.state.hex (sym q) ∙ e))) (λ k. s.one w (omega arith) e))

    module _ {x : ℕ} (e : b.units.state.hex u ≡ h) (s : Seat b u h x) where
      one_more_there : there h (u + 1) ≡ there h u + 1
      one_more_there = tally_hit (equals b.units.state.hex h) u (equals_yes b.units.state.hex h u e)

      -- the first of a hex
      pub first_there : (f : ℕ) → force_of b u ≡ f → f < 4 → x % 4 ≡ 0 → Seat b (u + 1) h (1 + 4 * f)
      first_there f g l z =
          seat_of_lem (u + 1) h (1 + 4 * f) (omega arith) (omega (arith, one_more_there, many_is s)) (λ z. absurd (omega arith))
          (λ w m q.
          same_or w u (λ r. ap (force_of b) r ∙ g ∙ omega arith)
          (λ k. absurd (omega (arith, many_is s, tally_pos (equals b.units.state.hex h) u w (omega arith) (equals_yes b.units.state.hex h w q)))))

      -- one more of the force that stands there
      pub joins : force_of b u ≡ x / 4 → (x % 4 ≡ 3 → ⊥) → Seat b (u + 1) h (x + 1)
      joins g n =
          let l = s.small in
          seat_of_lem (u + 1) h (x + 1) (omega arith) (omega (arith, one_more_there, many_is s)) (λ z. absurd (n (omega arith)))
          (λ w m q. same_or w u (λ r. ap (force_of b) r ∙ g ∙ omega arith) (λ k. s.one w (omega arith) q ∙ omega arith))

      module _ (l : u < b.units.count) (o : StackOk b u) where
        -- another force stands there
        pub strangers : (x % 4 ≡ 0 → ⊥) → (x / 4 ≡ force_of b u → ⊥) → ⊥
        strangers some other =
            let w = tally_some (equals b.units.state.hex h) u (omega (arith, many_is s)) in
            let q = equals_is b.units.state.hex h w.at w.passes in
            other (sym (s.one w.at w.below q) ∙ o.one w.at (omega (arith, w.below)) (q ∙ sym e))

        -- three stand there already
        pub fourth : x % 4 ≡ 3 → ⊥
        fourth t =
            let c : crowd b h ≤ 3 = subst (λ (k : ℕ). crowd b k ≤ 3) e o.room in
            omega (arith, one_more_there, many_is s, crowd_is b h, tally_grows (equals b.units.state.hex h) (u + 1) b.units.count (omega arith))

-- the table
module _ {b : Board} {base u : ℕ} {s : List ℕ} (g : Seated b base u s) where
  -- unit u stands on no hex of the block
  pub seated_past : ((k : ℕ) → k < block → b.units.state.hex u ≡ base + k → ⊥) → Seated b base (u + 1) s
  seated_past n = record { long = g.long; seat = λ k l. passed_by b u (base + k) (n k l) (g.seat k l) }

  -- unit u stands on hex k of it, whose seat says x in table t, and the others what they said
  seated_at :
      (k x : ℕ) {t : List ℕ} → k < block → b.units.state.hex u ≡ base + k → length t ≡ table → seat_of t k ≡ x
      → ((j : ℕ) → (j ≡ k → ⊥) → seat_of t j ≡ seat_of s j) → Seat b (u + 1) (base + k) x → Seated b base (u + 1) t
  seated_at k x {t} l e long at off y =
      record {
        long = long;
        seat =
            λ j m.
            same_or j k (λ q. subst (λ (i : ℕ). Seat b (u + 1) (base + i) (seat_of t i)) (sym q) (rw at y))
            (λ n. rw (off j n) (passed_by b u (base + j) (λ z. n (omega arith)) (g.seat j m)));
      }

-- the seats of a byte
seat_low : (s : List ℕ) (k : ℕ) → k < table → seat_of s k ≡ get_or s k 0 % 16
unfolding seat_of
seat_low s k l = simp (lt-ltb k table l)

seat_high : (s : List ℕ) (k : ℕ) → table ≤ k → seat_of s k ≡ get_or s (k - table) 0 / 16
unfolding seat_of
seat_high s k l = simp (le-ltb k table l)

-- byte i, which is m, becomes n
module _ (s : List ℕ) (i m n : ℕ) (is : m ≡ get_or s i 0) (l : i < length s) where
  low_kept : n % 16 ≡ m % 16 → (j : ℕ) → get_or (set s i n) j 0 % 16 ≡ get_or s j 0 % 16
  low_kept e j =
      same_or j i
      (λ q. ap (λ (k : ℕ). get_or (set s i n) k 0 % 16) q ∙ ap (λ (k : ℕ). k % 16) (get_or-set_same s i n 0 l) ∙ e ∙ ap (λ (k : ℕ). k % 16) is
      ∙ ap (λ (k : ℕ). get_or s k 0 % 16) (sym q))
      (λ d. ap (λ (k : ℕ). k % 16) (get_or-set_other s i j n 0 d))

  high_kept : n / 16 ≡ m / 16 → (j : ℕ) → get_or (set s i n) j 0 / 16 ≡ get_or s j 0 / 16
  high_kept e j =
      same_or j i
      (λ q. ap (λ (k : ℕ). get_or (set s i n) k 0 / 16) q ∙ ap (λ (k : ℕ). k / 16) (get_or-set_same s i n 0 l) ∙ e ∙ ap (λ (k : ℕ). k / 16) is
      ∙ ap (λ (k : ℕ). get_or s k 0 / 16) (sym q))
      (λ d. ap (λ (k : ℕ). k / 16) (get_or-set_other s i j n 0 d))

-- Unit u, of force f, stands on hex k of the block, whose seat says x, and adds d to it.
module _ {b : Board} {base u : ℕ} {s : List ℕ} (g : Seated b base u s) (k x f d : ℕ) (l : k < block) (e : b.units.state.hex u ≡ base + k)
    (is : x ≡ seat_of s k) (of : f ≡ force_of b u) (r : f < 4) (a : AddsTo x f d) where
  here : Seat b u (base + k) x
  here = rw is (g.seat k l)

  seat_added : 0 < d → Seat b (u + 1) (base + k) (x + d)
  seat_added p = at a
    where
      at : AddsTo x f d → Seat b (u + 1) (base + k) (x + d)
      at (first z q) = subst (Seat b (u + 1) (base + k)) (omega arith) (first_there b u (base + k) e here f (sym of) r (omega arith))
      at (more n q v z) = subst (Seat b (u + 1) (base + k)) (omega arith) (joins b u (base + k) e here (sym of ∙ sym q) v)
      at (strange n q z) = absurd (omega arith)
      at (full t z) = absurd (omega arith)

  seat_refused : d ≡ 0 → u < b.units.count → StacksIn b base (base + block) → ⊥
  seat_refused p c o = at a
    where
      stack : StackOk b u
      stack = o u c (omega arith) (omega arith)

      at : AddsTo x f d → ⊥
      at (first z q) = omega arith
      at (more n q v z) = omega arith
      at (strange n q z) = strangers b u (base + k) e here c stack (λ t. n (here.none t)) (λ w. q (w ∙ sym of))
      at (full t z) = fourth b u (base + k) e here c stack t

-- the same by its byte m: in the lower half, and in the upper one
module _ {b : Board} {base u : ℕ} {s : List ℕ} (i m f d : ℕ) (l : i < table) (is : m ≡ get_or s i 0) (of : f ≡ force_of b u) (r : f < 4) where
  pub counts_low :
      b.units.state.hex u ≡ base + i → AddsTo (m % 16) f d → 0 < d → Seated b base u s → Seated b base (u + 1) (set s i (m + d))
  counts_low e a p g =
      let low : m % 16 ≡ seat_of s i = ap (λ (k : ℕ). k % 16) is ∙ sym (seat_low s i l) in
      let y = seat_added g i (m % 16) f d (omega arith) e low of r a p in
      let small = y.small in
      let long : i < length s = omega (arith, g.long) in
      seated_at g i (m % 16 + d) (omega arith) e (length-set s i (m + d) ∙ g.long)
      (seat_low (set s i (m + d)) i l ∙ ap (λ (k : ℕ). k % 16) (get_or-set_same s i (m + d) 0 long) ∙ omega arith)
      (λ j n.
      either (ltb j table)
      (λ q. let o = ltb-true j table q in
      seat_low (set s i (m + d)) j o ∙ ap (λ (k : ℕ). k % 16) (get_or-set_other s i j (m + d) 0 n) ∙ sym (seat_low s j o))
      (λ q. let o = ltb-false j table q in
      seat_high (set s i (m + d)) j o ∙ high_kept s i m (m + d) is long (omega arith) (j - table) ∙ sym (seat_high s j o)))
      y

  pub counts_high :
      b.units.state.hex u ≡ base + (i + table) → AddsTo (m / 16) f d → 0 < d → Seated b base u s → Seated b base (u + 1) (set s i (m + 16 * d))
  counts_high e a p g =
      let back : i + table - table ≡ i = omega arith in
      let high : m / 16 ≡ seat_of s (i + table) =
      ap (λ (k : ℕ). k / 16) is ∙ ap (λ (k : ℕ). get_or s k 0 / 16) (sym back) ∙ sym (seat_high s (i + table) (omega arith)) in
      let y = seat_added g (i + table) (m / 16) f d (omega arith) e high of r a p in
      let long : i < length s = omega (arith, g.long) in
      seated_at g (i + table) (m / 16 + d) (omega arith) e (length-set s i (m + 16 * d) ∙ g.long)
      (seat_high (set s i (m + 16 * d)) (i + table) (omega arith) ∙ ap (λ (k : ℕ). get_or (set s i (m + 16 * d)) k 0 / 16) back
      ∙ ap (λ (k : ℕ). k / 16) (get_or-set_same s i (m + 16 * d) 0 long) ∙ omega arith)
      (λ j n.
      either (ltb j table)
      (λ q. let o = ltb-true j table q in
      seat_low (set s i (m + 16 * d)) j o ∙ low_kept s i m (m + 16 * d) is long (omega arith) j ∙ sym (seat_low s j o))
      (λ q. let o = ltb-false j table q in
      seat_high (set s i (m + 16 * d)) j o
      ∙ ap (λ (k : ℕ). k / 16) (get_or-set_other s i (j - table) (m + 16 * d) 0 (λ z. n (omega arith))) ∙ sym (seat_high s j o)))
      y

  module _ (z : d ≡ 0) (c : u < b.units.count) (g : Seated b base u s) (o : StacksIn b base (base + block)) where
    pub refused_low : b.units.state.hex u ≡ base + i → AddsTo (m % 16) f d → ⊥
    refused_low e a = seat_refused g i (m % 16) f d (omega arith) e (ap (λ (k : ℕ). k % 16) is ∙ sym (seat_low s i l)) of r a z c o

    pub refused_high : b.units.state.hex u ≡ base + (i + table) → AddsTo (m / 16) f d → ⊥
    refused_high e a =
        let back : i + table - table ≡ i = omega arith in
        seat_refused g (i + table) (m / 16) f d (omega arith) e
        (ap (λ (k : ℕ). k / 16) is ∙ ap (λ (k : ℕ). get_or s k 0 / 16) (sym back) ∙ sym (seat_high s (i + table) (omega arith))) of r a z c o

-- a seat has room for what is added to it
pub adds_fits : {x f d : ℕ} → AddsTo x f d → f < 4 → x < 16 → x + d < 16
adds_fits (first z q) r l = omega arith
adds_fits (more n q v z) r l = omega arith
adds_fits (strange n q z) r l = omega arith
adds_fits (full t z) r l = omega arith

-- the answer by what the unit adds
pub seated_of :
    {b : Board} {base u : ℕ} {s t : List ℕ} (d : ℕ) → (0 < d → Counts b base u s t) → (d ≡ 0 → Crowded b base u s) → SeatedOf b base u s t (ltb 0 d)
seated_of {b} {base} {u} {s} {t} d f g = at (ltb 0 d) (λ e. f (ltb-true 0 d e)) (λ e. g (omega (arith, ltb-false 0 d e)))
  where
    at : (r : Bool) → (r ≡ true → Counts b base u s t) → (r ≡ false → Crowded b base u s) → SeatedOf b base u s t r
    at true f g = f refl
    at false f g = g refl

-- the empty table
pub empty_table : Empty (replicate table 0)
empty_table =
    record {
      long = length-replicate {A = ℕ} table 0;
      zero =
          λ k.
          either (ltb k table)
          (λ e. get_or-replicate table k 0 0 (ltb-true k table e))
          (λ e. get_or-eq_default (replicate table 0) 0 (subst (λ (n : ℕ). n ≤ k) (sym (length-replicate {A = ℕ} table 0)) (ltb-false k table e)));
    }

pub nobody_seated : (b : Board) (base : ℕ) {s : List ℕ} → Empty s → Seated b base 0 s
nobody_seated b base {s} e = record { long = e.long; seat = λ k l. rw (none k) (empty_seat b (base + k)) }
  where
    none : (k : ℕ) → seat_of s k ≡ 0
    none k =
        either (ltb k table)
        (λ q. seat_low s k (ltb-true k table q) ∙ ap (λ (n : ℕ). n % 16) (e.zero k))
        (λ q. seat_high s k (ltb-false k table q) ∙ ap (λ (n : ℕ). n / 16) (e.zero (k - table)))

-- the answer of counting one unit more, past `if !r { return .. }` and in it
module _ {b : Board} {base u : ℕ} {s : List ℕ} (t : List ℕ) (r : Bool) where
  pub counted : r ≡ true → SeatedOf b base u s t r → Seated b base u s → Seated b base (u + 1) t
  counted e a g = at r e a
    where
      at : (r : Bool) → r ≡ true → SeatedOf b base u s t r → Seated b base (u + 1) t
      at true e a = a.on g
      at false e a = cc

-- all units are counted
pub all_seated : {b : Board} {base n : ℕ} {s : List ℕ} → Seated b base n s → n ≡ b.units.count → StacksIn b base (base + block)
all_seated {b} {base} {n} {s} g c u l low high =
    record {
      room = omega (arith, many_is b (seat), crowd_is b h, ap (there b h) c);
      one = λ w m q. seat.one w (omega arith) q ∙ sym (seat.one u (omega arith) refl);
    }
  where
    h : ℕ
    h = b.units.state.hex u

    seat : Seat b n h (seat_of s (h - base))
    seat = subst (λ (k : ℕ). Seat b n k (seat_of s (h - base))) (omega arith) (g.seat (h - base) (omega arith))

-- where the stacks of the map are in order, those of a block are, unless a unit stands past the map
pub block_of : {b : Board} (base next : ℕ) → ((u : ℕ) → u < b.units.count → b.units.state.hex u < next → b.units.state.hex u < b.map.hexes)
    → StacksOk b → StacksIn b base next
block_of base next on o u l low high = o u l (omega arith) (on u l high)
