-- Routes written and cleared: they stay in order where the new one is the first or the one before it is filled, and how many are filled.
-- Assumes nothing.
use Prim.Native.Nat.{ℕ, zero, suc, ◌+◌, ◌≤◌, ◌<◌}
use mathlib.Core.Path.{◌≡◌, refl, sym, ap, subst, ◌∙◌}
use mathlib.Core.Bool.{true, false, not, and-false}
use native.Mathlib.Omega.{arith}
use native.Mathlib.Numerals.{add-one}
use lib.Dec.{eqb}
use borrow.Author.Tests.{lt-ltb, eq-eqb, ne_eqb}
use Rattle.position.specs.Layout.{route_count, route_hexes}
use Rattle.position.specs.Board.{Board, nowhere}
use Rattle.position.specs.Ground.{standable}
use Rattle.position.specs.Crowd.{filled, routes}
use Rattle.position.specs.Change.Change.{routed, unrouted}
use Rattle.position.specs.Effect.{of_four, reroute, unfilled, change}
use Rattle.position.proofs.Tallies.{not_both, same_or, either, tally_most, tally_same, but, but_self, but_other, tally_but_hit, tally_but_miss}
use Rattle.acceptance.specs.Accepted.{PlaceOk, RoutesOk}
use Rattle.acceptance.proofs.Carries.{Fixed, fixed_change, standable_by}
use Rattle.acceptance.proofs.Counts.{tally_nought, front_passes, front_counted}

-- a place of a route that is as it was
place_same :
    {b c : Board} → Fixed b c → (i j : ℕ) → c.desk.route i j ≡ b.desk.route i j
    → c.desk.route i (j + 1) ≡ b.desk.route i (j + 1) → PlaceOk b i j → PlaceOk c i j
place_same {b} {c} f i j e g o =
    record {
      link =
          record {
            front = λ n q. o.link.front (λ z. n (g ∙ z)) (sym e ∙ q);
            step = λ n. rw (e, g, f.map) (o.link.step (λ z. n (g ∙ z)));
          };
      stands = λ n. ap (standable c) e ∙ standable_by f (b.desk.route i j) ∙ o.stands (λ z. n (e ∙ z));
    }

module _ (b : Board) (r w x y z : ℕ) where
  abbrev written : Board
  written = change b (routed r w x y z)

  pub route_there : r < route_count → (j : ℕ) → written.desk.route r j ≡ of_four j w x y z
  unfolding change reroute
  route_there l j = simp (lt-ltb r route_count l, eq-eqb r r refl)

  route_else : (i : ℕ) → (i ≡ r → ⊥) → (j : ℕ) → written.desk.route i j ≡ b.desk.route i j
  unfolding change reroute
  route_else i n j = simp (ne_eqb i r n, and-false)

  pub filled_there : r < route_count → (w ≡ nowhere → ⊥) → filled written r ≡ true
  unfolding filled
  filled_there l n = ap (λ (k : ℕ). not (eqb k nowhere)) (route_there l 0) ∙ ap not (ne_eqb w nowhere n)

  pub filled_else : (i : ℕ) → (i ≡ r → ⊥) → filled written i ≡ filled b i
  unfolding filled
  filled_else i n = ap (λ (k : ℕ). not (eqb k nowhere)) (route_else i n 0)

  pub routes_written_lem :
      r < route_count → (w ≡ nowhere → ⊥) → ((i : ℕ) → i + 1 ≡ r → filled b i ≡ true) → ((j : ℕ) → j < route_hexes → PlaceOk written r j)
      → RoutesOk b → RoutesOk written
  routes_written_lem l n before path o i m =
      record {
        first =
            λ p.
            same_or i r (λ e. ap (filled written) e ∙ filled_there l n)
            (λ d. filled_else i d ∙ same_or (i + 1) r (before i) (λ k. (o i m).first (sym (filled_else (i + 1) k) ∙ p)));
        places =
            λ j k.
            same_or i r (λ e. subst (λ (h : ℕ). PlaceOk written h j) (sym e) (path j k))
            (λ d.
            place_same (fixed_change b (routed r w x y z)) i j (route_else i d j) (route_else i d (j + 1)) ((o i m).places j k));
      }

-- behind a hex alone nothing follows
alone_after : (h j : ℕ) → of_four (suc j) h nowhere nowhere nowhere ≡ nowhere
alone_after h zero = refl
alone_after h (suc zero) = refl
alone_after h (suc (suc zero)) = refl
alone_after h (suc (suc (suc j))) = refl

-- a hex alone as a route
module _ (b : Board) (r h : ℕ) (l : r < route_count) (s : standable b h ≡ true) where
  abbrev lone : Board
  lone = change b (routed r h nowhere nowhere nowhere)

  lone_next : (j : ℕ) → lone.desk.route r (j + 1) ≡ nowhere
  lone_next j = route_there b r h nowhere nowhere nowhere l (j + 1) ∙ rw (add-one j) (alone_after h j)

  lone_stands : (j : ℕ) → (lone.desk.route r j ≡ nowhere → ⊥) → standable lone (lone.desk.route r j) ≡ true
  lone_stands zero n =
      ap (standable lone) (route_there b r h nowhere nowhere nowhere l 0)
      ∙ standable_by (fixed_change b (routed r h nowhere nowhere nowhere)) h
      ∙ s
  lone_stands (suc j) n = absurd (n (route_there b r h nowhere nowhere nowhere l (suc j) ∙ alone_after h j))

  lone_place : (j : ℕ) → PlaceOk lone r j
  lone_place j =
      record {
        link = record { front = λ n. absurd (n (lone_next j)); step = λ n. absurd (n (lone_next j)) };
        stands = lone_stands j;
      }

  pub routes_lone :
      (h ≡ nowhere → ⊥) → ((i : ℕ) → i + 1 ≡ r → filled b i ≡ true) → RoutesOk b → RoutesOk lone
  routes_lone n before o = routes_written_lem b r h nowhere nowhere nowhere l n before (λ j _. lone_place j) o

-- no route at all
module _ (b : Board) where
  cleared : (r j : ℕ) → (change b unrouted).desk.route r j ≡ nowhere
  unfolding change unfilled
  cleared r j = refl

  empty : (r : ℕ) → filled (change b unrouted) r ≡ false
  unfolding filled
  empty r = ap (λ (k : ℕ). not (eqb k nowhere)) (cleared r 0)

  pub routes_cleared : RoutesOk (change b unrouted)
  routes_cleared r l =
      record {
        first = λ p. not_both (filled (change b unrouted) (r + 1)) p (empty (r + 1));
        places =
            λ j k.
            record {
              link = record { front = λ n. absurd (n (cleared r (j + 1))); step = λ n. absurd (n (cleared r (j + 1))) };
              stands = λ n. absurd (n (cleared r j));
            };
      }

  pub routes_none : routes (change b unrouted) ≡ 0
  unfolding routes
  routes_none = tally_nought (filled (change b unrouted)) route_count (λ r _. empty r)

-- Filled routes come first: those below their number are filled, the others are not.
module _ {b : Board} (o : RoutesOk b) where
  first_filled : (i : ℕ) → i + 1 < route_count → filled b (i + 1) ≡ true → filled b i ≡ true
  first_filled i l = (o i (omega arith)).first

  pub routes_filled : (i : ℕ) → i < routes b → filled b i ≡ true
  unfolding routes
  routes_filled i l = front_passes (filled b) route_count first_filled i (omega (arith, tally_most (filled b) route_count)) l

  pub routes_empty : (i : ℕ) → routes b ≤ i → i < route_count → filled b i ≡ false
  unfolding routes
  routes_empty i l m = either (filled b i) (λ e. absurd (omega (arith, front_counted (filled b) route_count first_filled i m e))) (λ e. e)

-- a route written where none was is one more
pub routes_more :
    (b : Board) (r w x y z : ℕ) → r < route_count → (w ≡ nowhere → ⊥) → filled b r ≡ false
    → routes (change b (routed r w x y z)) ≡ routes b + 1
unfolding routes
routes_more b r w x y z l n e =
    let s = filled (change b (routed r w x y z)) in
    let t = filled b in
    let h = tally_but_hit s r route_count l (filled_there b r w x y z l n) in
    let m = tally_but_miss t r route_count e in
    let k =
    tally_same (but s r) (but t r) route_count
    (λ i _.
    same_or i r
    (λ q. but_self s r i q ∙ sym (but_self t r i q))
    (λ q. but_other s r i q ∙ filled_else b r w x y z i q ∙ sym (but_other t r i q)))
    in
    omega arith
