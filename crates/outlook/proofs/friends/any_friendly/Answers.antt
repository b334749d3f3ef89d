-- `friends::any_friendly` meets its contract: what the library's `fold` comes to over the places.
-- Assumes nothing.
use Rattle.std.specs.Prelude.{ℕ, ◌+◌, ◌≡◌, List, [], ◌∷◌, ◌++◌, length}
use mathlib.Core.Bool.{◌||◌}
use mathlib.Core.Path.{sym, ap, ap₂, ◌∙◌}
use native.Mathlib.Numerals.{add-one}
use lib.ListN.{get_or-append, length-append}
use lib.Seq.{get_or-append_seam}
use borrow.Author.Tests.{tests}
use Rattle.std.proofs.Common.{rules}
use Rattle.std.proofs.iter.Yields.{fronts}
use Rattle.std.proofs.lemmas.Fn.{fold_over}
use Rattle.std.proofs.lemmas.Iterator.{YieldsList-from_slice}
use Rattle.position.specs.Tally.{any}
use Rattle.position.proofs.Tallies.{any_same, any_zero}
use Rattle.routes.specs.Outlook.{friendly, friendly_at}
use Rattle.outlook.proofs.friends.any_friendly.Goals as goal

-- one place more
more : (ms : List ℕ) (m : ℕ) → any (friendly_at (ms ++ m ∷ [])) (length (ms ++ m ∷ [])) ≡ (friendly m || any (friendly_at ms) (length ms))
unfolding any friendly_at
more ms m =
    let n : length (ms ++ m ∷ []) ≡ length ms + 1 = length-append ms (m ∷ []) in
    let seam : friendly_at (ms ++ m ∷ []) (length ms) ≡ friendly m = ap friendly (get_or-append_seam ms m [] 0) in
    ap (any (friendly_at (ms ++ m ∷ []))) (n ∙ add-one (length ms)) ∙ ap₂ ◌||◌ seam (any_same (friendly_at (ms ++ m ∷ [])) (friendly_at ms) (length ms) (λ k l. ap friendly (get_or-append ms (m ∷ []) 0 k l)))

pub returns : goal.returns
returns c =
    let ms = c.args.painted.now in
    fold_over fronts (λ m. m.now) _ (λ ms r. r ≡ any (friendly_at ms) (length ms)) _
    (λ ms a x b q j k.
    let e : b ≡ (friendly x.now || a) = search (rules, tests) in
    (e ∙ ap (◌||◌ (friendly x.now)) j ∙ sym (more ms x.now), search (rules, tests)))
    _ ms _ _ (YieldsList-from_slice ms c.iter.ensures.rest).runs (sym (any_zero (friendly_at []))) c.fold.ensures.ran ∙ ap (any (friendly_at ms)) c.requires
