-- Keeping every promise leaves a referee no freedom.
-- Assumes nothing.
use Prim.Native.Nat.{ℕ}
use mathlib.Core.Path.{◌≡◌, refl, sym, ap, ap₂, ◌∙◌}
use mathlib.Core.List.{List, [], ◌∷◌}
use Rattle.ruling.specs.Verdict.{Ruling, Outcome}
use Rattle.ruling.specs.Secret.{Sent, Referee}
use Rattle.rules.specs.Order.{Order, step}
use Rattle.rules.specs.Referee.{Meets, run_of, Agree}

-- the parts of an outcome make it up
whole : {o o' : Outcome} → o.answer ≡ o'.answer → o.position ≡ o'.position → o.lent ≡ o'.lent → o ≡ o'
whole {o} {o'} a q l =
    ap₂ (λ (x : Ruling) (y : List ℕ). record { answer = x; position = y; lent = o.lent }) a q
    ∙ ap (λ (z : List ℕ). record { answer = o'.answer; position = o'.position; lent = z }) l

-- a referee that keeps every promise is the one that rules by the rules
pub meets_step : (r : Referee Order) → Meets r → (p : List ℕ) (c : Sent Order) → r p c ≡ step p c
meets_step r m p c = let g = m p c in whole g.answers g.leaves g.lends

-- and so are its runs
runs_step : (r : Referee Order) → Meets r → (p : List ℕ) (cs : List (Sent Order)) → run_of r p cs ≡ run_of step p cs
unfolding run_of
runs_step r m p [] = refl
runs_step r m p (c ∷ cs) =
    ap (λ (os : List Outcome). r p c ∷ os) (runs_step r m (r p c).position cs)
    ∙ ap (λ (o : Outcome). o ∷ run_of step o.position cs) (meets_step r m p c)

pub agree : Agree
agree r r' m m' p cs = runs_step r m p cs ∙ sym (runs_step r' m' p cs)
