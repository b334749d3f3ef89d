-- A series told on the board is a series over what each hex is to the group.
-- Assumes nothing.
use Prim.Native.Nat.{ℕ, suc, ◌≤◌}
use mathlib.Core.Path.{◌≡◌, refl, sym, ap, subst, ◌∙◌}
use mathlib.Core.Bool.{true, false}
use mathlib.Core.List.{List, [], ◌∷◌, ◌++◌}
use native.Mathlib.Omega.{arith}
use borrow.Author.Tests.{ne_eqb}
use Rattle.grid.proofs.Walks.{same_zero}
use Rattle.position.specs.Kind.{supply_kind}
use Rattle.position.specs.Board.{Board, force_of, nowhere}
use Rattle.position.specs.Ground.{next}
use Rattle.position.specs.Crowd.{owes_at}
use Rattle.position.specs.Role as Role
use Rattle.position.proofs.Tallies.{not_both, same_or}
use Rattle.acceptance.specs.Accepted.{UnitsOk}
use Rattle.acceptance.proofs.Carries.{Fixed, kind_by, force_by}
use Rattle.acceptance.proofs.Owings.{owes_hex, owes_role}
use Rattle.acceptance.proofs.Since.{Since}
use Rattle.acceptance.proofs.Stills.{fixed_refl}
use Rattle.field.specs.Listed.{named}
use Rattle.field.specs.Scene.{scene}
use Rattle.field.specs.Zone.{vacant}
use Rattle.field.proofs.Lists.{named_nil}
use Rattle.field.proofs.Named.{named_here}
use Rattle.routes.specs.Bears.{refuge}
use Rattle.chains.specs.declared.Stand.TheVariants.{Free, Loose}
use Rattle.chains.specs.Stand.{stand}
use Rattle.chains.specs.Chain.{Ways, Stands, Chain, most, after}
use Rattle.chains.specs.Series.{Land, land_of, Onto, Series, stay, walk, shove}
use Rattle.shoves.specs.Played.{
  Played,
  Retreats,
  LegalPlayedRight,
  PlayedRight,
  clears_in,
  enters,
  halts,
  once_cleared,
  once_entered,
}
use Rattle.shoves.proofs.KeepChain.{chain_clears, chain_other}
use Rattle.shoves.proofs.KeepSeries.{emptied, pushes_owes}
use Rattle.shoves.proofs.KeepStep.{OwnGroup, stepped, went}
use Rattle.shoves.proofs.PlayedChain.{
  can_loose,
  chain_played,
  free_refuge,
  held_by,
  held_more,
  loose_can,
  played_chain,
  refuge_free,
  refuge_parts,
}

-- the map does not change, so neither does the land
land_same : {o b : Board} → Since o b → (start : ℕ) → land_of b start ≡ land_of o start
unfolding land_of
land_same s start = simp s.fixed.map

-- what is known of a group by one unit of it that is no supply unit
module _ {b : Board} {f a u : ℕ} (units : UnitsOk b) (r : Retreats b f a u) where
  owing : b.units.state.role u ≡ Role.none → ⊥
  owing e = omega (arith, owes_role b u a r.owes)

  real : a ≡ nowhere → ⊥
  real e = ((units.each u r.counted).duty.held owing).mapped (owes_hex b u a r.owes ∙ e)

  mine : OwnGroup b f a
  mine w l e =
      same_or (force_of b u) (force_of b w)
      (λ q. sym q ∙ r.own)
      (λ n.
      absurd
      (((units.pairs u r.counted w l).two n).roles owing (owes_role b w a e ∙ sym (owes_role b u a r.owes))))

  own_held : vacant (scene b) a ≡ false
  own_held = held_by b a u r.counted (owes_hex b u a r.owes)

-- it is known on another board too, if the unit owes there
retreats_by : {b c : Board} {f a x u : ℕ} → Fixed b c → Retreats b f a u → owes_at c x u ≡ true → Retreats c f x u
retreats_by {u = u} k r e =
    record {
      counted = omega (arith, k.count, r.counted);
      owes = e;
      own = force_by k u ∙ r.own;
      kind = λ q. r.kind (sym (ap (λ (g : ℕ → ℕ). g u) (kind_by k)) ∙ q);
    }

-- board c, where the group of unit u has come to hex x, and the hexes are s to it
record Come (o : Board) (f x u : ℕ) (s : Stands) (c : Board) : Type 0 where
  since : Since o c
  retreats : Retreats c f x u
  stands : stand c f x ≡ s

module _ {o b : Board} {f a u : ℕ} (small : o.map.hexes ≤ nowhere) (k : Since o b) (r : Retreats b f a u) (x : ℕ) where
  -- into a vacant hex,
  stepped_in : refuge b f x ≡ true → Come o f x u (stand b f a) (once_entered b a x)
  stepped_in e =
      let q = refuge_parts b f x e in
      let i = real k.units r in
      let m = mine k.units r in
      let c = stepped k small f a x i m q.0 q.1 in
      let y = ne_eqb (b.units.counter.kind u) supply_kind r.kind in
      record {
        since = c.since;
        retreats = retreats_by c.fixed r (went k small f a x i m q.0 q.1 u r.counted r.owes y);
        stands = c.stands;
      }

-- or into one that a chain has cleared
shoved_in :
    {o b : Board} {f a u : ℕ} → o.map.hexes ≤ nowhere → Since o b → Retreats b f a u → (x y : ℕ) (zs ps : List ℕ) → (x ≡ a → ⊥)
    → stand b f a x ≡ Loose → Chain (next b.map) (stand b f a) (a ∷ []) most x zs y
    → Come o f x u (after (stand b f a) x y) (once_entered (once_cleared b x (zs ++ ps)) a x)
shoved_in {o} {b} {f} {a} {u} small k r x y zs ps n e h =
    let q = chain_clears k small f a h (named_here a [] a refl) n e ps in
    let p = q.shifted.pushes in
    let c = once_cleared b x (zs ++ ps) in
    let free : stand c f a x ≡ Free = ap (λ (s : Stands). s x) q.shifted.stands ∙ emptied (stand b f a) x y (chain_other h e) in
    let r' = retreats_by p.fixed r (pushes_owes p a u r.counted ∙ r.owes) in
    let i = stepped_in small p.since r' x (free_refuge c f a x n free) in
    record { since = i.since; retreats = i.retreats; stands = i.stands ∙ q.shifted.stands }

-- the group does not enter the hex that it stands in
not_back : {g : Land} {i a d x : ℕ} → Onto g (suc i) a d x → g.far a ≡ i → x ≡ a → ⊥
not_back {g} t z e = omega (arith, t.away, z, ap g.far e)

module _ {o : Board} (small : o.map.hexes ≤ nowhere) (f start u : ℕ) where
  -- the ways of the land are those of any board since
  ways : {b : Board} → Since o b → (land_of o start).next ≡ next b.map
  unfolding land_of
  ways k = ap next (sym k.fixed.map)

  -- step by step, from the overlay to the board and back
  series_played :
      {b : Board} {s : Stands} {i a : ℕ} {route pushes : List ℕ} → Since o b → Retreats b f a u → (land_of o start).far a ≡ i
      → Series (land_of o start) s i a route pushes → stand b f a ≡ s → Played f start b i a route pushes
  series_played k r z stay e = halts
  series_played {b} {s} {i} {a} k r z (walk {x = x} d t y n) e =
      let v = free_refuge b f a x (not_back t z) (ap (λ (q : Stands). q x) e ∙ y) in
      let c = stepped_in small k r x v in
      enters d (subst (λ (g : Land). Onto g (suc i) a d x) (sym (land_same k start)) t) v
      (series_played {b = once_entered b a x} c.since c.retreats t.away n (c.stands ∙ e))
  series_played {b} {s} {i} {a} k r z (shove {x = x} {y = y} {chain = zs} {pushes = ps} d t l h n) e =
      let here : stand b f a x ≡ Loose = ap (λ (q : Stands). q x) e ∙ l in
      let h₁ = subst (λ (p : Stands). Chain (land_of o start).next p (a ∷ []) most x zs y) (sym e) h in
      let h₂ = subst (λ (p : Ways). Chain p (stand b f a) (a ∷ []) most x zs y) (ways k) h₁ in
      let can = loose_can b f a x (not_back t z) here in
      let c = shoved_in small k r x y zs ps (not_back t z) here h₂ in
      let held = held_more b a [] (λ w q. not_both (named [] w) q (named_nil w)) (own_held k.units r) in
      clears_in d (subst (λ (g : Land). Onto g (suc i) a d x) (sym (land_same k start)) t) can
      (chain_played b f a h₂ (named_here a [] a refl) held (held_by b x can.unit can.counted can.there))
      (series_played {b = once_entered (once_cleared b x (zs ++ ps)) a x} c.since c.retreats t.away n (c.stands ∙ ap (λ (p : Stands). after p x y) e))

  played_series :
      {b : Board} {i a : ℕ} {route pushes : List ℕ} → Since o b → Retreats b f a u → (land_of o start).far a ≡ i
      → Played f start b i a route pushes → Series (land_of o start) (stand b f a) i a route pushes
  played_series k r z halts = stay
  played_series {b} {i} {a} k r z (enters {x = x} {route = route} {pushes = ps} d t v n) =
      let t' = subst (λ (g : Land). Onto g (suc i) a d x) (land_same k start) t in
      let c = stepped_in small k r x v in
      walk d t' (refuge_free b f a x v)
      (subst (λ (s : Stands). Series (land_of o start) s (suc i) x route ps) c.stands
      (played_series c.since c.retreats t'.away n))
  played_series {b} {i} {a} k r z (clears_in {x = x} {y = y} {route = route} {zs = zs} {pushes = ps} d t can h n) =
      let t' = subst (λ (g : Land). Onto g (suc i) a d x) (land_same k start) t in
      let here = can_loose b f a x (not_back t' z) can in
      let h' = played_chain b f a h (named_here a [] a refl) in
      let c = shoved_in small k r x y zs ps (not_back t' z) here h' in
      shove d t' here (subst (λ (p : Ways). Chain p (stand b f a) (a ∷ []) most x zs y) (sym (ways k)) h')
      (subst (λ (s : Stands). Series (land_of o start) s (suc i) x route ps) c.stands
      (played_series c.since c.retreats t'.away n))

-- both directions, from the first board on
pub played_right : PlayedRight
played_right b units routes small f start i a u r z route pushes =
    let k : Since b b = record { fixed = fixed_refl b; clock = refl; units = units; routes = routes } in
    (λ s. series_played small f start u k r z s refl, λ p. played_series small f start u k r z p)

-- and from the start of a retreat
pub legal_played_right : LegalPlayedRight
unfolding land_of
legal_played_right b units routes small f start n u r route pushes =
    let e = played_right b units routes small f start 0 start u r (same_zero b.map.width start) route pushes in
    (λ s. record { long = s.long; played = e.0 s.series }, λ p. record { long = p.long; series = e.1 p.played })
