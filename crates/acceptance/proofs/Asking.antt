-- The lines on units as the check asks for them come to the lines of document 01, and follow from them.
-- Assumes nothing.
use Prim.Native.Nat.{ℕ, zero, suc, ◌≤◌, ◌<◌}
use mathlib.Core.Path.{◌≡◌, refl, sym, ◌∙◌}
use mathlib.Core.Bool.{true, false}
use native.Mathlib.Omega.{arith}
use borrow.Author.Tests.{leb-true, eq-eqb, ne_eqb, eqb-true}
use Rattle.position.specs.Kind.{force, may_belong}
use Rattle.position.specs.Board.{Board, nowhere, force_of}
use Rattle.position.specs.Role as Role
use Rattle.position.proofs.Tallies.{not_both, same_or}
use Rattle.acceptance.specs.Accepted.{UnitOk, TwoForcesOk, PairOk, UnitsOk}
use Rattle.acceptance.specs.Asked.{AloneOk, StacksOk, OneForce, RolesOk}
use Rattle.acceptance.proofs.Lawfuls.{standable_on}

-- there are four forces
force_small : (n : ℕ) → n ≤ 4 → force n < 4
unfolding force
force_small n l = same_or n 4 (λ e. simp (eq-eqb n 4 e) (omega arith)) (λ h. simp (ne_eqb n 4 h) (omega arith))

belongs_small : (k n : ℕ) → may_belong k n ≡ true → force n < 4
unfolding may_belong
belongs_small zero n e = force_small n (leb-true n 4 e)
belongs_small (suc zero) n e = force_small n (leb-true n 4 e)
belongs_small (suc (suc zero)) n e = force_small n (leb-true n 4 e)
belongs_small (suc (suc (suc zero))) n e = omega (arith, eqb-true (force n) 3 e)
belongs_small (suc (suc (suc (suc zero)))) n e = force_small n (omega (arith, eqb-true n 2 e))
belongs_small (suc (suc (suc (suc (suc zero))))) n e = force_small n (omega (arith, leb-true n 2 e))
belongs_small (suc (suc (suc (suc (suc (suc k)))))) n e = not_both false e refl

module _ {b : Board} {u : ℕ} (a : AloneOk b u) where
  pub alone_force : force_of b u < 4
  unfolding force_of
  alone_force = belongs_small (b.units.counter.kind u) (b.units.counter.nationality u) a.counter.belongs

  -- a unit stands on a hex of the map, or nowhere
  pub alone_hex : (b.units.state.hex u ≡ nowhere → ⊥) → b.units.state.hex u < b.map.hexes
  alone_hex n = standable_on b (b.units.state.hex u) (a.ground.stands n)

  alone_unit : StacksOk b → u < b.units.count → UnitOk b u
  alone_unit s l =
      record {
        counter = a.counter;
        duty = a.duty;
        stand =
            record {
              destroyed = a.ground.destroyed;
              mapped = λ n. record { stands = a.ground.stands n; room = (s u l (omega arith) (alone_hex n)).room };
            };
      }

module _ {b : Board} where
  -- roles are 1 and 2, where they are not 0
  two_roles : RolesOk b → (u w : ℕ) → u < b.units.count → w < b.units.count → b.units.state.role u ≤ 2 → (b.units.state.role u ≡ Role.none → ⊥)
      → b.units.state.role w ≡ b.units.state.role u → force_of b w ≡ force_of b u
  two_roles r u w l m most some e =
      same_or (b.units.state.role u) Role.owes (λ q. r.owing u l w m q (e ∙ q))
      (λ n. let q : b.units.state.role u ≡ Role.advances = omega arith in r.advancing u l w m q (e ∙ q))

  pair : ((u : ℕ) → u < b.units.count → AloneOk b u) → StacksOk b → RolesOk b
      → (u : ℕ) → u < b.units.count → (w : ℕ) → w < b.units.count → PairOk b u w
  pair a s r u l w m =
      record {
        two =
            λ n.
            record {
              apart = λ k e. n (sym ((s u l (omega arith) (alone_hex (a u l) k)).one w m e));
              roles = λ k e. n (sym (two_roles r u w l m (a u l).duty.role k e));
            };
        one = λ e. record { roles = λ p q. r.apart u l w m p q (sym e) };
      }

  pub units_asked : ((u : ℕ) → u < b.units.count → AloneOk b u) → StacksOk b → RolesOk b → UnitsOk b
  units_asked a s r = record { each = λ u l. alone_unit (a u l) s l; pairs = pair a s r }

  module _ (o : UnitsOk b) where
    pub alone_of : (u : ℕ) → u < b.units.count → AloneOk b u
    alone_of u l =
        let e = o.each u l in
        record {
          counter = e.counter;
          duty = e.duty;
          ground = record { destroyed = e.stand.destroyed; stands = λ n. (e.stand.mapped n).stands };
        }

    -- two units that are not of different forces are of one
    together : (u w : ℕ) → u < b.units.count → w < b.units.count → (TwoForcesOk b u w → ⊥) → force_of b w ≡ force_of b u
    together u w l m f = same_or (force_of b w) (force_of b u) (λ e. e) (λ n. absurd (f ((o.pairs u l w m).two (λ e. n (sym e)))))

    pub stacks_of : b.map.hexes ≤ nowhere → StacksOk b
    stacks_of most u l low high =
        let n : b.units.state.hex u ≡ nowhere → ⊥ = λ e. absurd (omega arith) in
        record { room = ((o.each u l).stand.mapped n).room; one = λ w m e. together u w l m (λ t. t.apart n e) }

    one_force_of : (r : ℕ) → (r ≡ 0 → ⊥) → OneForce b r
    one_force_of r n u l w m p q = together u w l m (λ t. t.roles (λ z. n (sym p ∙ z)) (q ∙ sym p))

    pub roles_of : RolesOk b
    roles_of =
        record {
          owing = one_force_of 1 (λ e. absurd (omega arith));
          advancing = one_force_of 2 (λ e. absurd (omega arith));
          apart = λ u l w m p q e. ((o.pairs u l w m).one (sym e)).roles p q;
        }
