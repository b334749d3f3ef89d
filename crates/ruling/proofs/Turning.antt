-- An accepted position stays accepted when units are turned over, one after another, and along a list whose every place is tested.
-- Assumes nothing.
use Prim.Native.Nat.{ℕ, ◌+◌, ◌<◌}
use mathlib.Core.Path.{◌≡◌, sym, subst}
use mathlib.Core.Bool.{true}
use mathlib.Core.List.{List, [], ◌∷◌, map}
use native.Mathlib.Omega.{arith}
use Rattle.position.specs.Bits.{has, tried}
use Rattle.position.specs.Layout.{strength}
use Rattle.position.specs.Board.{Board, board}
use Rattle.position.specs.Change.{turned}
use Rattle.position.proofs.Changes.{turned_made}
use Rattle.acceptance.specs.Accepted.{Accepted}
use Rattle.acceptance.proofs.Keeps.{accepted_turned}
use Rattle.acceptance.proofs.Stills.{Still, still_refl, still_trans, turned_still, turned_tried, lawful_turned}
use Rattle.ruling.specs.Verdict.{Judge, Verdict, reveal_all, turned_all, along, outcome}
use Rattle.ruling.specs.Verdict.Verdict.{judge}
use Rattle.ruling.specs.Secret.{Each}
use Rattle.ruling.proofs.Meets.{seen_all}
use Rattle.ruling.proofs.Kept.{Kept}

-- the units us of p are turned over in q, which differs in nothing that can be lawful or not
pub record Uncovered (p q us : List ℕ) : Type 0 where
  pub accepted : Accepted q
  pub still : Still (board p) (board q)
  pub seen : Each (λ u. u < (board q).units.count → has tried ((board q).units.state.marks u) ≡ true) us

pub uncovered : {p : List ℕ} → Accepted p → (us : List ℕ) → Uncovered p (turned_all p us) us
unfolding turned_all
uncovered {p} a [] = record { accepted = a; still = still_refl (board p); seen = tt }
uncovered {p} a (u ∷ us) =
    let x = strength p u in
    let m = turned_made a.shaped u in
    let r = uncovered {p = turned p u} (accepted_turned a u (lawful_turned (board p) u x a.lawful)) us in
    let s : Still (board p) (board (turned p u)) = rw m.board (turned_still (board p) u x) in
    let t = still_trans s r.still in
    record {
      accepted = r.accepted;
      still = t;
      seen = (
        λ l.
            let h = turned_tried (board p) u x (omega (arith, t.fixed.count)) in
            r.still.face u (subst (λ (c : Board). has tried (c.units.state.marks u) ≡ true) (sym m.board) h),
        r.seen,
      );
    }

module _ {p l : List ℕ} (a : Accepted p) where
  -- through units that are turned over
  pub kept_seen :
      (us : List ℕ) (k : List ℕ → Judge) → Kept (turned_all p us) l (judge (k (map (strength p) us)))
      → Kept p l (judge (reveal_all us k))
  unfolding outcome
  kept_seen us k h = record { ok = rw (seen_all a.shaped us k) h.ok }

-- what the tests of each place leave is known of all places at the end
pub kept_each :
    {p l : List ℕ} (Q : ℕ → Type 0) {S : Type 0} {test : S → ℕ → ℕ → Verdict → Verdict} (next : S → ℕ → S)
    → ((s : S) (x k : ℕ) (v : Verdict) → (Q x → Kept p l v) → Kept p l (test s x k v))
    → (s : S) (xs : List ℕ) (k : ℕ) (v : S → Verdict) → (Each Q xs → (s : S) → Kept p l (v s))
    → Kept p l (along test next s xs k v)
unfolding along
kept_each Q next f s [] k v g = g tt s
kept_each Q next f s (x ∷ xs) k v g = f s x k _ (λ q. kept_each Q next f (next s x) xs (k + 1) v (λ h. g (q, h)))
