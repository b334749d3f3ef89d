-- What a count over the numbers below n reads: how many of them pass the test, within a limit.
-- Assumes nothing.
use Rattle.std.specs.Prelude.{ℕ, ◌<◌, ◌≡◌, Bool, List, length}
use mathlib.Core.Path.{ap, ◌∙◌}
use native.Mathlib.Omega.{arith}
use denote.Bor.{Bor}
use denote.Param.Members.{Mut}
use Rattle.std.specs.Fn.{CalledAt}
use Rattle.std.specs.Iterator.{Drains}
use Rattle.std.specs.Iterator.Adapters.{filter_source, filter_callee, filter_steps}
use Rattle.std.specs.declared.ops.Range.{Range}
use Rattle.std.specs.declared.iter.Filter.{Filter}
use Rattle.std.proofs.iter.Yields.{nat_range_steps}
use Rattle.position.specs.Laid.{Read}
use Rattle.position.specs.Tally.{tally}
use Rattle.position.proofs.Tallies.{tally_most}
use Rattle.position.proofs.Ranges.{count_over}

pub counted : {F : Type 0} {g : Mut F (Bor ℕ × Unit {0}) Bool} {s : Filter (Range ℕ) F} {f : F} (t : ℕ → Bool) {m n limit r : ℕ} → m ≡ n → n < limit → filter_source s ≡ record { start = 0; end = m } → filter_callee s ≡ f → ((xs : List ℕ) × Drains (filter_steps nat_range_steps g) s xs × (r ≡ length xs)) → ((x : ℕ) (b : Bool) (q : F) → CalledAt g f x b q → (q ≡ f) × (b ≡ t x)) → Read (tally t n) limit r
counted t {m} {n} {limit} {r} e l source callee ran c =
    let z : r ≡ tally t n = count_over t m source callee ran c ∙ ap (tally t) e in
    record { is = z; small = omega (arith, z, tally_most t n) }
