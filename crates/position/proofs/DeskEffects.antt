-- What a change of clock, stage or routes does to the desk, as an equation.
-- Assumes nothing.
use Prim.Native.Nat.{ℕ, zero, suc, ◌+◌, ◌*◌, ◌/◌, ◌%◌, ◌≤◌, ◌<◌}
use mathlib.Core.Path.{◌≡◌, refl, sym, ap, ap₂, fun_ext, ◌∙◌}
use mathlib.Core.List.{List}
use mathlib.Core.Bool.{cond}
use native.Mathlib.Omega.{arith}
use native.Mathlib.Decide.{dec_lt, ℕ_discrete}
use lib.Dec.{eqb}
use borrow.Author.Tests.{lt-ltb, le-ltb, eq-eqb, ne_eqb}
use Rattle.position.specs.Layout.{
  strength_field,
  turn_field,
  last_turn_field,
  force_field,
  phase_field,
  stage_field,
  owed_field,
  need_field,
  routes_field,
  route_count,
  route_hexes,
  players_field,
  strength,
  desk_byte,
  need,
  route,
  route_field,
  player,
  set_desk,
  set_clock,
  set_stage,
  set_route_hex,
  set_route,
  clear_routes,
}
use Rattle.position.specs.Board.{units, desk, nowhere}
use Rattle.position.specs.Shape.{Shaped}
use Rattle.position.specs.Effect.{with_clock, with_stage, with_routes, of_four, reroute, unfilled}
use Rattle.position.proofs.Tables.{route_in, route_past, route_over}
use Rattle.position.proofs.Front.{Front, Behind, behind_refl, behind_trans, behind_front, shaped_kept}
use Rattle.position.proofs.Writes.{behind_desk, front_desk, unit_desk, desk_desk, desk_same}
use Rattle.position.proofs.Effects.{need_from, route_from, player_from, desk_at_lem, units_before}

-- what bytes written to the desk one after another leave alone
pub record Desked (p q : List ℕ) : Type 0 where
  pub behind : Behind p q
  pub units : units q ≡ units p
  pub strengths : (w : ℕ) → strength q w ≡ strength p w
  pub players : (g : ℕ) → player q g ≡ player p g

pub desked : (p : List ℕ) (f x : ℕ) → f < players_field → Desked p (set_desk p f x)
desked p f x l =
    record {
      behind = behind_desk p f x;
      units = units_before p f x;
      strengths = λ w. unit_desk p f x w strength_field (omega arith);
      players = player_from (front_desk p f x) (λ k m. desk_desk p f x k (λ e. omega arith));
    }

pub desked_front : {p q : List ℕ} → Desked p q → Front p q
desked_front k = behind_front k.behind

pub desked_refl : (p : List ℕ) → Desked p p
desked_refl p = record { behind = behind_refl p; units = refl; strengths = λ w. refl; players = λ g. refl }

pub desked_then : {p q r : List ℕ} → Desked p q → Desked q r → Desked p r
desked_then a b =
    record {
      behind = behind_trans a.behind b.behind;
      units = b.units ∙ a.units;
      strengths = λ w. b.strengths w ∙ a.strengths w;
      players = λ g. b.players g ∙ a.players g;
    }

-- turn, force and phase
module _ (p : List ℕ) (t f ph : ℕ) where
  abbrev turned₁ : List ℕ
  turned₁ = set_desk p turn_field t

  abbrev turned₂ : List ℕ
  turned₂ = set_desk turned₁ force_field f

  pub clock_desked : Desked p (set_clock p t f ph)
  unfolding set_clock
  clock_desked =
      desked_then (desked_then (desked p turn_field t (omega arith)) (desked turned₁ force_field f (omega arith))) (desked turned₂ phase_field ph (omega arith))

  clock_far : (k : ℕ) → stage_field ≤ k → desk_byte (set_desk turned₂ phase_field ph) k ≡ desk_byte p k
  clock_far k l =
      desk_desk turned₂ phase_field ph k (λ e. omega arith) ∙ desk_desk turned₁ force_field f k (λ e. omega arith) ∙ desk_desk p turn_field t k (λ e. omega arith)

  module _ (s : Shaped p) where
    clock_bytes : (k : ℕ) → desk_byte (set_desk turned₂ phase_field ph) k ≡ cond (eqb k phase_field) ph (cond (eqb k force_field) f (cond (eqb k turn_field) t (desk_byte p k)))
    clock_bytes k =
        let s₁ = shaped_kept (front_desk p turn_field t) s in
        let s₂ = shaped_kept (front_desk turned₁ force_field f) s₁ in
        desk_at_lem s₂ phase_field ph (omega arith) k
        ∙ ap (cond (eqb k phase_field) ph) (desk_at_lem s₁ force_field f (omega arith) k ∙ ap (cond (eqb k force_field) f) (desk_at_lem s turn_field t (omega arith) k))

    pub desk_clock : desk (set_clock p t f ph) ≡ with_clock (desk p) t f ph
    unfolding set_clock
    desk_clock =
        let q = set_desk turned₂ phase_field ph in
        λ i.
        record {
          clock = record { turn = clock_bytes turn_field i; force = clock_bytes force_field i; phase = clock_bytes phase_field i };
          last_turn = clock_bytes last_turn_field i;
          battle = record { stage = clock_bytes stage_field i; owed = clock_bytes owed_field i; need = need_from p q (clock_bytes need_field) (clock_bytes (need_field + 1)) i };
          route = fun_ext (λ r. fun_ext (route_from p q (λ k l _. clock_far k (omega arith)) r)) i;
          player = fun_ext clock_desked.players i;
        }

-- stage, n and need
module _ (p : List ℕ) (st n x : ℕ) where
  abbrev staged₁ : List ℕ
  staged₁ = set_desk p stage_field st

  abbrev staged₂ : List ℕ
  staged₂ = set_desk staged₁ owed_field n

  abbrev staged₃ : List ℕ
  staged₃ = set_desk staged₂ need_field (x % 256)

  pub stage_desked : Desked p (set_stage p st n x)
  unfolding set_stage
  stage_desked =
      desked_then
      (desked_then (desked_then (desked p stage_field st (omega arith)) (desked staged₁ owed_field n (omega arith))) (desked staged₂ need_field (x % 256) (omega arith)))
      (desked staged₃ (need_field + 1) (x / 256) (omega arith))

  stage_far : (k : ℕ) → routes_field ≤ k → desk_byte (set_desk staged₃ (need_field + 1) (x / 256)) k ≡ desk_byte p k
  stage_far k l =
      desk_desk staged₃ (need_field + 1) (x / 256) k (λ e. omega arith)
      ∙ desk_desk staged₂ need_field (x % 256) k (λ e. omega arith)
      ∙ desk_desk staged₁ owed_field n k (λ e. omega arith)
      ∙ desk_desk p stage_field st k (λ e. omega arith)

  module _ (s : Shaped p) where
    stage_bytes : (k : ℕ) → desk_byte (set_desk staged₃ (need_field + 1) (x / 256)) k ≡ cond (eqb k (need_field + 1)) (x / 256) (cond (eqb k need_field) (x % 256) (cond (eqb k owed_field) n (cond (eqb k stage_field) st (desk_byte p k))))
    stage_bytes k =
        let s₁ = shaped_kept (front_desk p stage_field st) s in
        let s₂ = shaped_kept (front_desk staged₁ owed_field n) s₁ in
        let s₃ = shaped_kept (front_desk staged₂ need_field (x % 256)) s₂ in
        desk_at_lem s₃ (need_field + 1) (x / 256) (omega arith) k
        ∙ ap (cond (eqb k (need_field + 1)) (x / 256))
        (desk_at_lem s₂ need_field (x % 256) (omega arith) k
        ∙ ap (cond (eqb k need_field) (x % 256)) (desk_at_lem s₁ owed_field n (omega arith) k ∙ ap (cond (eqb k owed_field) n) (desk_at_lem s stage_field st (omega arith) k)))

    need_set : need (set_desk staged₃ (need_field + 1) (x / 256)) ≡ x
    unfolding need
    need_set = omega (arith, stage_bytes need_field, stage_bytes (need_field + 1))

    pub desk_stage_lem : desk (set_stage p st n x) ≡ with_stage (desk p) st n x
    unfolding set_stage
    desk_stage_lem =
        let q = set_desk staged₃ (need_field + 1) (x / 256) in
        λ i.
        record {
          clock = record { turn = stage_bytes turn_field i; force = stage_bytes force_field i; phase = stage_bytes phase_field i };
          last_turn = stage_bytes last_turn_field i;
          battle = record { stage = stage_bytes stage_field i; owed = stage_bytes owed_field i; need = need_set i };
          route = fun_ext (λ r. fun_ext (route_from p q (λ k l _. stage_far k l) r)) i;
          player = fun_ext stage_desked.players i;
        }

-- what a write to the routes leaves of the desk
desk_routes : {p q : List ℕ} → Desked p q → (f : ℕ → ℕ → ℕ) → ((k : ℕ) → k < routes_field → desk_byte q k ≡ desk_byte p k) → ((r j : ℕ) → route q r j ≡ f r j) → desk q ≡ with_routes (desk p) f
desk_routes {p} {q} s f h g =
    λ i.
    record {
      clock = record { turn = h turn_field (omega arith) i; force = h force_field (omega arith) i; phase = h phase_field (omega arith) i };
      last_turn = h last_turn_field (omega arith) i;
      battle = record { stage = h stage_field (omega arith) i; owed = h owed_field (omega arith) i; need = need_from p q (h need_field (omega arith)) (h (need_field + 1) (omega arith)) i };
      route = fun_ext (λ r. fun_ext (g r)) i;
      player = fun_ext s.players i;
    }

-- past the fourth number of any route
pub route_wide : (p : List ℕ) (r j : ℕ) → route_hexes ≤ j → route p r j ≡ nowhere
route_wide p r j l = at (dec_lt r route_count)
  where
    at : Dec (r < route_count) → route p r j ≡ nowhere
    at (yes m) = route_over p r j m l
    at (no m) = route_past p r j (omega arith)

-- two numbers of routes that stand at one place are one
one_field : {r j i k : ℕ} → j < route_hexes → k < route_hexes → route_field i k ≡ route_field r j → (i ≡ r) × (k ≡ j)
one_field {r} {j} {i} {k} l m e = let same : i ≡ r = omega arith in (same, omega arith)

-- one number of a route
module _ {p : List ℕ} (s : Shaped p) (r j h : ℕ) (lr : r < route_count) (lj : j < route_hexes) where
  abbrev routed₁ : List ℕ
  routed₁ = set_desk p (route_field r j) (h % 256)

  abbrev routed₂ : List ℕ
  routed₂ = set_desk routed₁ (route_field r j + 1) (h / 256)

  route_hex_desked : Desked p (set_route_hex p r j h)
  unfolding set_route_hex
  route_hex_desked =
      desked_then (desked p (route_field r j) (h % 256) (omega arith)) (desked routed₁ (route_field r j + 1) (h / 256) (omega arith))

  far_byte : (k : ℕ) → (k ≡ route_field r j → ⊥) → (k ≡ route_field r j + 1 → ⊥) → desk_byte routed₂ k ≡ desk_byte p k
  far_byte k m n = desk_desk routed₁ (route_field r j + 1) (h / 256) k n ∙ desk_desk p (route_field r j) (h % 256) k m

  route_hex_near : (k : ℕ) → k < routes_field → desk_byte (set_route_hex p r j h) k ≡ desk_byte p k
  unfolding set_route_hex
  route_hex_near k l = far_byte k (λ e. omega arith) (λ e. omega arith)

  route_hex_here : route (set_route_hex p r j h) r j ≡ h
  unfolding set_route_hex
  route_hex_here =
      let s₁ = shaped_kept (front_desk p (route_field r j) (h % 256)) s in
      let low = desk_desk routed₁ (route_field r j + 1) (h / 256) (route_field r j) (λ e. omega arith) ∙ desk_same p (route_field r j) (h % 256) s (omega arith) in
      let high = desk_same routed₁ (route_field r j + 1) (h / 256) s₁ (omega arith) in
      route_in routed₂ r j lr lj ∙ omega (arith, low, high)

  route_hex_else : (i k : ℕ) → (i ≡ r → k ≡ j → ⊥) → route (set_route_hex p r j h) i k ≡ route p i k
  unfolding set_route_hex
  route_hex_else i k n = at (dec_lt i route_count) (dec_lt k route_hexes)
    where
      other : k < route_hexes → route_field i k ≡ route_field r j → ⊥
      other m e = let same = one_field lj m e in n same.0 same.1

      at : Dec (i < route_count) → Dec (k < route_hexes) → route routed₂ i k ≡ route p i k
      at (yes l) (yes m) =
          route_in routed₂ i k l m
          ∙ ap₂ (λ (a b : ℕ). a + 256 * b)
          (far_byte (route_field i k) (λ e. other m e) (λ e. omega arith))
          (far_byte (route_field i k + 1) (λ e. omega arith) (λ e. other m (omega arith)))
          ∙ sym (route_in p i k l m)
      at (yes l) (no m) = route_wide routed₂ i k (omega arith) ∙ sym (route_wide p i k (omega arith))
      at (no l) m = route_past routed₂ i k (omega arith) ∙ sym (route_past p i k (omega arith))

-- a whole route
module _ {p : List ℕ} (s : Shaped p) (r a b c d : ℕ) (l : r < route_count) where
  abbrev first : List ℕ
  first = set_route_hex p r 0 a

  abbrev second : List ℕ
  second = set_route_hex first r 1 b

  abbrev third : List ℕ
  third = set_route_hex second r 2 c

  abbrev fourth : List ℕ
  fourth = set_route_hex third r 3 d

  desked₁ : Desked p first
  desked₁ = route_hex_desked s r 0 a l (omega arith)

  s₁ : Shaped first
  s₁ = shaped_kept (desked_front desked₁) s

  desked₂ : Desked first second
  desked₂ = route_hex_desked s₁ r 1 b l (omega arith)

  s₂ : Shaped second
  s₂ = shaped_kept (desked_front desked₂) s₁

  desked₃ : Desked second third
  desked₃ = route_hex_desked s₂ r 2 c l (omega arith)

  s₃ : Shaped third
  s₃ = shaped_kept (desked_front desked₃) s₂

  desked₄ : Desked third fourth
  desked₄ = route_hex_desked s₃ r 3 d l (omega arith)

  four_desked : Desked p fourth
  four_desked = desked_then (desked_then (desked_then desked₁ desked₂) desked₃) desked₄

  four_near : (k : ℕ) → k < routes_field → desk_byte fourth k ≡ desk_byte p k
  four_near k m =
      route_hex_near s₃ r 3 d l (omega arith) k m
      ∙ route_hex_near s₂ r 2 c l (omega arith) k m
      ∙ route_hex_near s₁ r 1 b l (omega arith) k m
      ∙ route_hex_near s r 0 a l (omega arith) k m

  -- what the last k writes leave of a number that stands elsewhere
  four_else : (i k : ℕ) → (i ≡ r → ⊥) → route fourth i k ≡ route p i k
  four_else i k n =
      route_hex_else s₃ r 3 d l (omega arith) i k (λ e g. n e)
      ∙ route_hex_else s₂ r 2 c l (omega arith) i k (λ e g. n e)
      ∙ route_hex_else s₁ r 1 b l (omega arith) i k (λ e g. n e)
      ∙ route_hex_else s r 0 a l (omega arith) i k (λ e g. n e)

  four_here : (k : ℕ) → route fourth r k ≡ of_four k a b c d
  four_here zero =
      route_hex_else s₃ r 3 d l (omega arith) r 0 (λ e g. omega arith)
      ∙ route_hex_else s₂ r 2 c l (omega arith) r 0 (λ e g. omega arith)
      ∙ route_hex_else s₁ r 1 b l (omega arith) r 0 (λ e g. omega arith)
      ∙ route_hex_here s r 0 a l (omega arith)
  four_here (suc zero) =
      route_hex_else s₃ r 3 d l (omega arith) r 1 (λ e g. omega arith)
      ∙ route_hex_else s₂ r 2 c l (omega arith) r 1 (λ e g. omega arith)
      ∙ route_hex_here s₁ r 1 b l (omega arith)
  four_here (suc (suc zero)) = route_hex_else s₃ r 3 d l (omega arith) r 2 (λ e g. omega arith) ∙ route_hex_here s₂ r 2 c l (omega arith)
  four_here (suc (suc (suc zero))) = route_hex_here s₃ r 3 d l (omega arith)
  four_here (suc (suc (suc (suc k)))) = route_wide fourth r (suc (suc (suc (suc k)))) (omega arith)

  set_route_in : set_route p r a b c d ≡ fourth
  unfolding set_route
  set_route_in = simp (lt-ltb r route_count l)

  four_routes : (i k : ℕ) → route fourth i k ≡ reroute (route p) r a b c d i k
  unfolding reroute
  four_routes i k = at (ℕ_discrete i r)
    where
      at : Dec (i ≡ r) → route fourth i k ≡ reroute (route p) r a b c d i k
      at (yes e) = ap (λ (x : ℕ). route fourth x k) e ∙ four_here k ∙ simp (lt-ltb r route_count l, eq-eqb i r e)
      at (no n) = four_else i k n ∙ simp (lt-ltb r route_count l, ne_eqb i r n)

module _ {p : List ℕ} (s : Shaped p) (r a b c d : ℕ) where
  pub route_desked : Desked p (set_route p r a b c d)
  unfolding set_route
  route_desked = at (dec_lt r route_count)
    where
      at : Dec (r < route_count) → Desked p (set_route p r a b c d)
      at (yes l) = rw (set_route_in s r a b c d l) (four_desked s r a b c d l)
      at (no n) = simp (le-ltb r route_count (omega arith)) (desked_refl p)

  route_near : (k : ℕ) → k < routes_field → desk_byte (set_route p r a b c d) k ≡ desk_byte p k
  unfolding set_route
  route_near k m = at (dec_lt r route_count)
    where
      at : Dec (r < route_count) → desk_byte (set_route p r a b c d) k ≡ desk_byte p k
      at (yes l) = ap (λ (q : List ℕ). desk_byte q k) (set_route_in s r a b c d l) ∙ four_near s r a b c d l k m
      at (no n) = simp (le-ltb r route_count (omega arith))

  routes_set : (i k : ℕ) → route (set_route p r a b c d) i k ≡ reroute (route p) r a b c d i k
  unfolding set_route reroute
  routes_set i k = at (dec_lt r route_count)
    where
      at : Dec (r < route_count) → route (set_route p r a b c d) i k ≡ reroute (route p) r a b c d i k
      at (yes l) = ap (λ (q : List ℕ). route q i k) (set_route_in s r a b c d l) ∙ four_routes s r a b c d l i k
      at (no n) = simp (le-ltb r route_count (omega arith))

  pub desk_route : desk (set_route p r a b c d) ≡ with_routes (desk p) (reroute (route p) r a b c d)
  desk_route = desk_routes route_desked (reroute (route p) r a b c d) route_near routes_set

-- the routes emptied, one after another
pub cleared_desked : {p : List ℕ} → Shaped p → (n : ℕ) → Desked p (clear_routes p n)
unfolding clear_routes
cleared_desked {p} s zero = desked_refl p
cleared_desked {p} s (suc n) =
    let k = cleared_desked s n in
    desked_then k (route_desked (shaped_kept (desked_front k) s) n nowhere nowhere nowhere nowhere)

cleared_near : {p : List ℕ} → Shaped p → (n k : ℕ) → k < routes_field → desk_byte (clear_routes p n) k ≡ desk_byte p k
unfolding clear_routes
cleared_near s zero k l = refl
cleared_near s (suc n) k l =
    route_near (shaped_kept (desked_front (cleared_desked s n)) s) n nowhere nowhere nowhere nowhere k l ∙ cleared_near s n k l

four_nowhere : (k : ℕ) → of_four k nowhere nowhere nowhere nowhere ≡ nowhere
four_nowhere zero = refl
four_nowhere (suc zero) = refl
four_nowhere (suc (suc zero)) = refl
four_nowhere (suc (suc (suc zero))) = refl
four_nowhere (suc (suc (suc (suc k)))) = refl

cleared_routes : {p : List ℕ} → Shaped p → (n i k : ℕ) → n ≤ route_count → i < n → route (clear_routes p n) i k ≡ nowhere
unfolding clear_routes reroute
cleared_routes s zero i k l m = absurd (omega arith)
cleared_routes {p} s (suc n) i k l m =
    routes_set (shaped_kept (desked_front (cleared_desked s n)) s) n nowhere nowhere nowhere nowhere i k
    ∙ at (λ j. cleared_routes s n i k (omega arith) j) (ℕ_discrete i n)
  where
    at : (i < n → route (clear_routes p n) i k ≡ nowhere) → Dec (i ≡ n) → reroute (route (clear_routes p n)) n nowhere nowhere nowhere nowhere i k ≡ nowhere
    at f (yes e) = simp (lt-ltb n route_count (omega arith), eq-eqb i n e) (four_nowhere k)
    at f (no d) = simp (lt-ltb n route_count (omega arith), ne_eqb i n d) (f (omega arith))

pub desk_cleared : {p : List ℕ} → Shaped p → desk (clear_routes p route_count) ≡ with_routes (desk p) unfilled
unfolding unfilled
desk_cleared {p} s = desk_routes (cleared_desked s route_count) unfilled (cleared_near s route_count) (λ i k. at i k (dec_lt i route_count))
  where
    at : (i k : ℕ) → Dec (i < route_count) → route (clear_routes p route_count) i k ≡ nowhere
    at i k (yes l) = cleared_routes s route_count i k (omega arith) l
    at i k (no n) = route_past (clear_routes p route_count) i k (omega arith)
