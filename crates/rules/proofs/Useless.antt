-- The four useless referees: what three of them keep, and where each breaks a promise.
-- Assumes nothing.
use Prim.Native.Nat.{ℕ}
use mathlib.Core.Path.{◌≡◌, refl, sym, ap, ◌∙◌}
use mathlib.Core.List.{List, [], ◌∷◌}
use native.Mathlib.Omega.{arith}
use lib.ListN.{replicate}
use Rattle.position.specs.Layout.{phase, hex}
use Rattle.position.specs.Parts.{but_desk, built, desk_phase}
use Rattle.acceptance.specs.Examples.{roster, roster_parts}
use Rattle.ruling.specs.Values.{accepting}
use Rattle.ruling.proofs.Meets.{no_refusal}
use Rattle.ruling.specs.Verdict.{Ruling, Outcome}
use Rattle.ruling.specs.Verdict.Ruling.{refused, accepted}
use Rattle.ruling.specs.Secret.{Sent}
use Rattle.rules.specs.Order.{Order, step}
use Rattle.rules.specs.Referee.{Meets}
use Rattle.rules.specs.Trials.{playing, ending, sixth, two_owe, one_owes, first_goes, second_goes}
use Rattle.rules.specs.Useless.{
  refuses_all,
  always_rules,
  leaves_untouched,
  strikes_off,
  RefusingAlike,
  SameAlike,
  UntouchedAlike,
  ShutOut,
  FourUseless,
}
use Rattle.rules.proofs.Demands.{secrecy}

-- the three keep two runs alike
refusing_alike : RefusingAlike
unfolding refuses_all
refusing_alike number place p q [] a = tt
refusing_alike number place p q (c ∷ cs) a = (refl, refl, a, refusing_alike number place p q cs a)

same_alike : SameAlike
unfolding always_rules
same_alike r p q [] a = tt
same_alike r p q (c ∷ cs) a = (refl, refl, a, same_alike r p q cs a)

untouched_alike : UntouchedAlike
unfolding leaves_untouched
untouched_alike p q [] a h = tt
untouched_alike p q (c ∷ cs) a h =
    let o = secrecy p q (c ∷ []) a (h.0, tt) in (o.0, o.1, a, untouched_alike p q cs a h.1)

-- on the roster's position the phase ends, and nothing else changes; a sixth nationality is refused
ended : step roster ending ≡ record { answer = accepted accepting; position = built (but_desk roster_parts desk_phase 1); lent = replicate 3 0 }
unfolding playing
ended = refl

sixth_out : (step roster sixth).answer ≡ refused 3 0
unfolding playing
sixth_out = refl

refusing_out : (number place : Sent Order → ℕ) → Meets (refuses_all number place) → ⊥
unfolding refuses_all
refusing_out number place m = no_refusal (sym ((m roster ending).answers ∙ ap (λ (o : Outcome). o.answer) ended))

same_out : (a : Ruling) → Meets (always_rules a) → ⊥
unfolding always_rules
same_out a m =
    no_refusal (sym ((m roster ending).answers ∙ ap (λ (o : Outcome). o.answer) ended) ∙ ((m roster sixth).answers ∙ sixth_out))

untouched_out : Meets leaves_untouched → ⊥
unfolding playing leaves_untouched
untouched_out m =
    let e : ◌≡◌ {A = ℕ} 0 1 = ap (λ (p : List ℕ). phase p) ((m roster ending).leaves ∙ ap (λ (o : Outcome). o.position) ended) in
    omega arith

-- the first stack retreats as the rules say
pub first_as_ruled : strikes_off two_owe first_goes ≡ step two_owe first_goes
unfolding playing strikes_off
first_as_ruled = refl

pub then_one_owes : (step two_owe first_goes).position ≡ one_owes
unfolding playing
then_one_owes = refl

-- the second stands on hex 3 by the rules, with its road written, and is left on hex 2 without one by the referee that strikes it off
pub second_ruled : hex (step one_owes second_goes).position 1 ≡ 3
unfolding playing
second_ruled = refl

pub second_struck : hex (strikes_off one_owes second_goes).position 1 ≡ 2
unfolding playing strikes_off
second_struck = refl

striking_out : Meets strikes_off → ⊥
striking_out m =
    let e : ◌≡◌ {A = ℕ} 2 3 = sym second_struck ∙ (ap (λ (p : List ℕ). hex p 1) (m one_owes second_goes).leaves ∙ second_ruled) in
    omega arith

shut_out : ShutOut
shut_out = record { refusing = refusing_out; same = same_out; untouched = untouched_out; striking = striking_out }

pub four_useless : FourUseless
four_useless = record { refusing = refusing_alike; same = same_alike; untouched = untouched_alike; out = shut_out }
