-- The referee that greys out a hopeless attack: where it breaks a promise, and how it tells what lies face down.
-- Assumes nothing.
use Prim.Native.Nat.{ℕ, ◌<◌}
use mathlib.Core.Path.{◌≡◌, refl, sym, ◌∙◌}
use mathlib.Core.Bool.{true, false}
use native.Mathlib.Omega.{arith}
use Rattle.position.specs.Bits.{has, tried}
use Rattle.position.specs.Layout.{count, marks, strength}
use Rattle.acceptance.specs.Alike.{Alike}
use Rattle.acceptance.specs.Broken.{unbroken}
use Rattle.ruling.specs.Values.{fought_with}
use Rattle.ruling.specs.Verdict.Ruling.{refused, accepted}
use Rattle.ruling.specs.Secret.{Sent}
use Rattle.ruling.proofs.Meets.{no_refusal}
use Rattle.rules.specs.Order.{Order, step}
use Rattle.rules.specs.Referee.{Meets}
use Rattle.rules.specs.TrialsOfBattle.{fighting, strong, weak, attacking}
use Rattle.rules.specs.Greying.{hopeless, greys_out, Tells, GreyingOut}
use Rattle.rules.proofs.FaceDown.{strength_else, alike_down}

-- by the rules both attacks are fought in column 1, with D1; against the strong defender it is hopeless, against the weak one not
strong_fought : (step strong attacking).answer ≡ accepted (fought_with 1 1)
unfolding fighting
strong_fought = refl

weak_fought : (step weak attacking).answer ≡ accepted (fought_with 1 1)
unfolding fighting
weak_fought = refl

strong_hopeless : hopeless strong attacking.order ≡ true
unfolding fighting hopeless
strong_hopeless = refl

weak_hopeful : hopeless weak attacking.order ≡ false
unfolding fighting hopeless
weak_hopeful = refl

-- the defender is face down, and all else is the same in both
there : 1 < count strong
unfolding fighting
there = omega arith

face_down : has tried (marks strong 1) ≡ false
unfolding fighting
face_down = refl

apart : strength strong 1 ≡ strength weak 1 → ⊥
unfolding fighting
apart e = omega arith

else_same : (u : ℕ) → (u ≡ 1 → ⊥) → strength strong u ≡ strength weak u
else_same u n = sym (strength_else strong 1 1 u n)

both_alike : Alike strong weak
unfolding fighting
both_alike = alike_down strong 1 1 (unbroken strong refl) face_down (record { low = omega arith; high = omega arith })

-- the referee refuses the one attack, which changes nothing, and lets the other through: so its answers differ
module _ (number place : Sent Order → ℕ) where
  strong_refused : (greys_out number place strong attacking).answer ≡ refused (number attacking) (place attacking)
  unfolding greys_out
  strong_refused = rw (strong_hopeless, strong_fought)

  strong_still : (greys_out number place strong attacking).position ≡ strong
  unfolding greys_out
  strong_still = rw (strong_hopeless, strong_fought)

  weak_let_through : (greys_out number place weak attacking).answer ≡ accepted (fought_with 1 1)
  unfolding greys_out
  weak_let_through = rw weak_hopeful weak_fought

  greying_promises : Meets (greys_out number place) → ⊥
  greying_promises m = no_refusal (sym ((m strong attacking).answers ∙ strong_fought) ∙ strong_refused)

  greying_tells : Tells (greys_out number place)
  greying_tells =
      record {
        first = strong;
        second = weak;
        call = attacking;
        alike = both_alike;
        unit = 1;
        counted = there;
        down = face_down;
        differs = apart;
        others = else_same;
        still = strong_still;
        answers = λ e. no_refusal (sym weak_let_through ∙ (sym e ∙ strong_refused));
      }

pub greying_out : GreyingOut
greying_out = record { promises = greying_promises; tells = greying_tells }
