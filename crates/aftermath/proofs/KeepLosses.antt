-- An accepted position stays accepted after losses.
-- Assumes nothing.
use Prim.Native.Nat.{ℕ, zero, suc, ◌≤◌, ◌<◌}
use mathlib.Core.Path.{◌≡◌, refl, sym, ap, subst, ◌∙◌}
use mathlib.Core.Bool.{Bool, false, true, not}
use mathlib.Core.List.{List, [], ◌∷◌, map}
use native.Mathlib.Omega.{arith}
use native.Mathlib.Numerals.{add-one}
use lib.Dec.{eqb, leb}
use borrow.Author.Tests.{eq-eqb, eqb-true, not-false}
use Rattle.position.specs.Board.{Board, Desk, board, nowhere}
use Rattle.position.specs.Crowd.{holders}
use Rattle.position.specs.Change.{Change}
use Rattle.position.specs.Change.Change.{assigned, destroyed}
use Rattle.position.specs.Effect.{change, changes}
use Rattle.position.specs.Role as Role
use Rattle.position.specs.Stage as Stage
use Rattle.position.proofs.Shapes.{hexes_most}
use Rattle.position.proofs.Tallies.{either, not_both, same_or}
use Rattle.acceptance.specs.Accepted.{Accepted, Lawful, UnitsOk}
use Rattle.acceptance.specs.Asked.{AloneOk}
use Rattle.acceptance.proofs.Asking.{alone_of, roles_of, stacks_of, units_asked}
use Rattle.acceptance.proofs.Carries.{Fixed, changes_then, fixed_change, routes_ok_by}
use Rattle.acceptance.proofs.Fates.{Fated, Same, alone_fated, alone_same, assigned_else, assigned_here, fated_same, roles_passed, same_trans, same_fated, stacks_fewer}
use Rattle.acceptance.proofs.Owings.{holders_none, holders_nought}
use Rattle.acceptance.proofs.Since.{Since}
use Rattle.acceptance.proofs.Stills.{fixed_refl, fixed_trans}
use Rattle.ruling.proofs.Kept.{Kept, kept_along, kept_past, kept_ruled}
use Rattle.field.specs.Listed.{all_there, list_length, named, no_unit, sieve}
use Rattle.field.proofs.Lists.{map_last, sieve_hit, sieve_miss}
use Rattle.aftermath.specs.Losses.{loss, loss_changes, loss_checks, losses, losses_rule, owes, short, spared}
use Rattle.aftermath.specs.Stage.{reassigned, then_on}
use Rattle.aftermath.proofs.KeepStage.{Lessened, all_destroyed, lawful_then_on, lessened_none}
use Rattle.aftermath.proofs.Losing.{survivors}

-- d is c, but the units below n that pass the test have role 2
record Promoted (c d : Board) (t : ℕ → Bool) (n : ℕ) : Type 0 where
  fixed : Fixed c d
  desk : d.desk ≡ c.desk
  hit : (w : ℕ) → w < n → w < c.units.count → t w ≡ true → Fated c.units d.units Role.advances w
  miss : (w : ℕ) → (w < n → t w ≡ true → ⊥) → Same c.units d.units w

module _ {c d : Board} {t : ℕ → Bool} {n : ℕ} (o : Promoted c d t n) where
  promoted_hit : t n ≡ true → Promoted c (change d (assigned n Role.advances)) t (suc n)
  unfolding change
  promoted_hit e =
      record {
        fixed = fixed_trans o.fixed (fixed_change d (assigned n Role.advances));
        desk = o.desk;
        hit =
            λ w l m f.
            same_or w n
            (λ z.
            let k : n < d.units.count = omega (arith, o.fixed.count) in
            rw z (same_fated (o.miss n (λ i. absurd (omega arith))) (assigned_here d n 2 k (λ i. omega arith))))
            (λ z. fated_same (o.hit w (omega arith) m f) (assigned_else d n 2 w z));
        miss =
            λ w f.
            same_trans (o.miss w (λ l. f (omega arith)))
            (assigned_else d n 2 w (λ z. f (omega arith) (ap t z ∙ e)));
      }

  promoted_miss : t n ≡ false → Promoted c d t (suc n)
  promoted_miss e =
      record {
        fixed = o.fixed;
        desk = o.desk;
        hit =
            λ w l m f.
            same_or w n
            (λ z. not_both (t n) (ap t (sym z) ∙ f) e)
            (λ z. o.hit w (omega arith) m f);
        miss = λ w f. o.miss w (λ l. f (omega arith));
      }

module _ (c : Board) (t : ℕ → Bool) where
  abbrev given : ℕ → Board
  given n = changes c (map (λ u. assigned u Role.advances) (sieve t n))

  given_hit : (n : ℕ) → t n ≡ true → given (suc n) ≡ change (given n) (assigned n Role.advances)
  unfolding changes
  given_hit n e =
      let g : ℕ → Change = λ u. assigned u Role.advances in
      ap (λ (k : ℕ). changes c (map g (sieve t k))) (sym (add-one n))
      ∙ ap (λ (l : List ℕ). changes c (map g l)) (sieve_hit t n e)
      ∙ ap (changes c) (map_last g (sieve t n) n)
      ∙ changes_then (map g (sieve t n)) (g n ∷ []) c

  given_miss : (n : ℕ) → t n ≡ false → given (suc n) ≡ given n
  given_miss n e =
      let g : ℕ → Change = λ u. assigned u Role.advances in
      ap (λ (k : ℕ). changes c (map g (sieve t k))) (sym (add-one n))
      ∙ ap (λ (l : List ℕ). changes c (map g l)) (sieve_miss t n e)

  promoted : (n : ℕ) → Promoted c (given n) t n
  unfolding sieve changes
  promoted zero =
      record {
        fixed = fixed_refl c;
        desk = refl;
        hit = λ w l. absurd (omega arith);
        miss = λ w f. record { hex = refl; marks = refl; role = refl };
      }
  promoted (suc n) =
      either (t n)
      (λ e. subst (λ (d : Board). Promoted c d t (suc n)) (sym (given_hit n e)) (promoted_hit (promoted n) e))
      (λ e. subst (λ (d : Board). Promoted c d t (suc n)) (sym (given_miss n e)) (promoted_miss (promoted n) e))

-- all that owed have role 2
module _
    {c d : Board}
    (o : Promoted c d (λ u. eqb (c.units.state.role u) Role.owes) c.units.count)
    (u : UnitsOk c)
    (most : c.map.hexes ≤ nowhere)
    (none : (w : ℕ) → w < c.units.count → c.units.state.role w ≡ Role.advances → ⊥) where
  -- a unit owed, or is as it was
  lot :
      {X : Type 0} (w : ℕ) → w < c.units.count → (c.units.state.role w ≡ Role.owes → Fated c.units d.units Role.advances w → X)
      → ((c.units.state.role w ≡ Role.owes → ⊥) → Same c.units d.units w → X) → X
  lot w l x y =
      same_or (c.units.state.role w) Role.owes
      (λ e. x e (o.hit w l l (eq-eqb (c.units.state.role w) Role.owes e)))
      (λ n. y n (o.miss w (λ _ e. n (eqb-true (c.units.state.role w) Role.owes e))))

  alone : (w : ℕ) → w < d.units.count → AloneOk d w
  alone w m =
      let l : w < c.units.count = omega (arith, o.fixed.count) in
      let was = alone_of u w l in
      lot w l
      (λ e f.
      let h = was.duty.held (λ z. omega arith) in
      alone_fated o.fixed 2 w f (omega arith) (λ _. h.tried) (λ _. h.mapped) was)
      (λ _ f. alone_same o.fixed w f was)

  stays : (w : ℕ) → w < c.units.count → d.units.state.hex w ≡ c.units.state.hex w
  stays w l = lot w l (λ _ f. f.stays (λ z. omega arith)) (λ _ f. f.hex)

  had : (w : ℕ) → w < c.units.count → (d.units.state.role w ≡ Role.none → ⊥) → (d.units.state.role w ≡ Role.advances) × (c.units.state.role w ≡ Role.owes)
  had w l n =
      lot w l (λ e f. (f.role, e))
      (λ e f.
      let k = (alone_of u w l).duty.role in
      let x = none w l in
      absurd (omega (arith, f.role)))

  units_promoted : UnitsOk d
  units_promoted =
      units_asked alone (stacks_fewer o.fixed most (λ w l _. stays w l) (stacks_of u most)) (roles_passed o.fixed had (roles_of u))

  owing_none : holders d Role.owes ≡ 0
  owing_none =
      holders_nought d Role.owes
      (λ w l z. absurd (omega (arith, (had w (omega (arith, o.fixed.count)) (λ n. omega arith)).0)))

  since_promoted : {b : Board} → Since b c → Since b d
  since_promoted s =
      record {
        fixed = fixed_trans s.fixed o.fixed;
        clock = ap (λ (k : Desk). k.clock) o.desk ∙ s.clock;
        units = units_promoted;
        routes = routes_ok_by o.fixed (ap (λ (k : Desk). k.route) o.desk) s.routes;
      }

module _ {b : Board} (l : Lawful b) (most : b.map.hexes ≤ nowhere) (e : b.desk.battle.stage ≡ Stage.losses) (units : List ℕ) where
  abbrev struck : Board
  struck = changes b (map destroyed units)

  less : Lessened b struck
  less = all_destroyed most units (lessened_none l)

  after : changes b (loss_changes b units) ≡ changes struck (reassigned struck Role.owes Role.advances)
  unfolding loss_changes
  after =
      changes_then (map destroyed units) (map (λ u. assigned u Role.advances) (sieve (spared b units) b.units.count)) b
      ∙ ap (changes struck) (sym (survivors b units))

  -- nobody may advance while losses are owed
  none_advances : (w : ℕ) → w < struck.units.count → struck.units.state.role w ≡ Role.advances → ⊥
  none_advances w m z =
      holders_none b Role.advances w (l.stage.during.losses e).advancing (omega (arith, less.since.fixed.count))
      (sym (less.had w (λ n. omega arith)) ∙ z)

  all_promoted :
      Promoted struck (changes struck (reassigned struck Role.owes Role.advances)) (λ u. eqb (struck.units.state.role u) Role.owes) struck.units.count
  unfolding reassigned
  all_promoted = promoted struck (λ u. eqb (struck.units.state.role u) Role.owes) struck.units.count

  few : struck.map.hexes ≤ nowhere
  few = rw less.since.fixed.map most

  -- the survivors owe no more
  pub since_losses : Since b (changes b (loss_changes b units))
  since_losses =
      subst (λ (c : Board). Since b c) (sym after) (since_promoted all_promoted less.since.units few none_advances less.since)

  pub losses_owing : holders (changes b (loss_changes b units)) Role.owes ≡ 0
  losses_owing = ap (λ (c : Board). holders c Role.owes) after ∙ owing_none all_promoted less.since.units few none_advances

  lawful_losses : Lawful (changes b (then_on b (loss_changes b units)))
  lawful_losses =
      lawful_then_on l most (λ z. omega arith) (loss_changes b units) since_losses (λ n. absurd (n losses_owing))

module _ {p : List ℕ} (a : Accepted p) (units : List ℕ) where
  pub losses_keeps : {l : List ℕ} → Kept p l (losses_rule (board p) units)
  unfolding losses_rule loss_checks all_there no_unit losses loss
  losses_keeps =
      let b = board p in
      kept_past a (not (list_length units))
      (λ _.
      kept_along a (λ _. Unit {0}) (λ s x k v _ f. kept_past a (leb b.units.count x) (λ _. f tt)) 0 tt units 1 _
      (λ _ _.
      kept_past a (not (eqb b.desk.battle.stage Stage.losses))
      (λ e.
      kept_along a (λ _. Unit {0})
      (λ s x k v _ f. kept_past a (not (owes b x)) (λ _. kept_past a (named s x) (λ _. f tt)))
      []
      tt
      units
      1
      _
      (λ _ _.
      kept_past a (short b units)
      (λ _.
      kept_ruled a (then_on b (loss_changes b units))
      (lawful_losses a.lawful (omega (arith, hexes_most a.shaped))
      (eqb-true b.desk.battle.stage Stage.losses (not-false (eqb b.desk.battle.stage Stage.losses) e))
      units))))))
