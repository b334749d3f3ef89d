-- Secrecy over the language, once for all calls: it asks only that what is turned over is equal, at the moment when it is.
-- Assumes nothing.
use Prim.Native.Nat.{ℕ}
use mathlib.Core.Path.{◌≡◌, refl, sym, ap₂, ◌∙◌}
use mathlib.Core.Bool.{Bool, true, false}
use mathlib.Core.List.{List, [], ◌∷◌}
use lib.ListN.{length}
use Rattle.position.specs.Layout.{strength}
use Rattle.position.specs.Board.{Board}
use Rattle.position.specs.Shape.{Shaped}
use Rattle.acceptance.specs.Broken.{broken_false}
use Rattle.position.specs.Change.{turned}
use Rattle.acceptance.specs.Alike.{Same, Alike}
use Rattle.position.proofs.Front.{shaped_kept}
use Rattle.position.proofs.Changes.{turned_made}
use Rattle.acceptance.proofs.Alikes.{front_same, board_alike, same_makes, same_turned}
use Rattle.ruling.specs.Verdict.{Judge, Verdict, after_check, judged, outcome, revealed_by, revealed}
use Rattle.ruling.specs.Verdict.Judge.{reveal, rule}
use Rattle.ruling.specs.Verdict.Verdict.{refuse_if, judge}
use Rattle.ruling.specs.Secret.{Each, OneStrength, SameOutcome, Sent, Rules, verdict_on, after_call, Keeping, SecretRuns}

pub each_by : {P Q : ℕ → Type 0} → ((u : ℕ) → P u → Q u) → (us : List ℕ) → Each P us → Each Q us
each_by f [] h = tt
each_by f (u ∷ us) h = (f u h.0, each_by f us h.1)

-- one judgement of two positions that look the same
secret_judge :
    (j : Judge) (p q : List ℕ) → Shaped p → Same p q → Each (λ u. strength p u ≡ strength q u) (revealed_by p j)
    → SameOutcome (judged p j) (judged q j)
unfolding judged revealed_by
secret_judge (reveal u k) p q a s h =
    let up = turned_made a u in
    let uq = turned_made (shaped_kept (front_same s) a) u in
    rw (sym h.0)
    (secret_judge (k (strength p u)) (turned p u) (turned q u) (shaped_kept up.front a) (same_turned a s u (sym h.0))
    (each_by (λ w e. up.strengths w ∙ e ∙ sym (uq.strengths w)) (revealed_by (turned p u) (k (strength p u))) h.1))
secret_judge (rule vs xs l) p q a s h = record { answers = refl; lent = refl; positions = same_makes a s xs }

-- one verdict
pub secret : (v : Verdict) (p q l : List ℕ) → Shaped p → Same p q → OneStrength p q v → SameOutcome (outcome p l v) (outcome q l v)
unfolding outcome revealed
secret (refuse_if true n k v) p q l a s h = record { answers = refl; lent = refl; positions = s }
secret (refuse_if false n k v) p q l a s h = secret v p q l a s h
secret (judge j) p q l a s h = secret_judge j p q a s h

-- one call, and a run of calls, of any referee
module _ {Order : Type 0} (rules : Rules Order) where
  -- alike positions are ruled on alike
  pub one_verdict : {p q : List ℕ} → Alike p q → (c : Sent Order) → verdict_on rules q c ≡ verdict_on rules p c
  unfolding after_check
  one_verdict l c =
      ap₂ (λ (t : Bool) (b : Board). refuse_if t 1 0 (rules b c.order (length c.lent)))
      (broken_false l.second ∙ sym (broken_false l.first))
      (board_alike l.same)

  secret_call : {p q : List ℕ} (c : Sent Order) → Alike p q → OneStrength p q (verdict_on rules p c) → SameOutcome (after_call rules p c) (after_call rules q c)
  secret_call {p} {q} c l h = rw (one_verdict l c) (secret (verdict_on rules p c) p q c.lent l.first.shaped l.same h)

  -- where calls keep positions accepted
  pub secret_runs : Keeping rules → SecretRuns rules
  secret_runs keeps p q [] l h = tt
  secret_runs keeps p q (c ∷ cs) l h =
      let o = secret_call c l h.0 in
      let next : Alike (after_call rules p c).position (after_call rules q c).position =
      record { first = keeps p c l.first; second = keeps q c l.second; same = o.positions }
      in (o.answers, o.lent, next, secret_runs keeps (after_call rules p c).position (after_call rules q c).position cs next h.1)
