-- `odds::smallest` meets its contract. The loop's invariant: `low` is the smallest of the first unit and of those passed.
-- Assumes nothing.
use Prim.Native.Nat.{ℕ, ◌+◌, ◌-◌, ◌<◌}
use mathlib.Core.List.{List}
use mathlib.Core.Path.{◌≡◌, ap, ◌∙◌, subst, sym}
use native.Mathlib.Omega.{arith}
use lib.ListN.{length, get_or, take, drop}
use Rattle.std.proofs.lemmas.List.{get_or-take}
use Rattle.std.proofs.lemmas.Grind.{get_or_after_one}
use Rattle.position.specs.Board.{board}
use Rattle.odds.proofs.Columns.{lowest_all, lowest_first, lowest_more, smaller_min}
use Rattle.odds.specs.Odds.{crossed}
use Rattle.odds.specs.Adjacent.{Adjacent}
use Rattle.odds.proofs.smallest.Goals as goal

-- the element behind the first is the list's next
next : (us : List ℕ) (i : ℕ) → i + 1 < length us → get_or (take (length us - 1) (drop 1 us)) i 0 ≡ get_or us (i + 1) 0
next us i l = get_or-take (length us - 1) (drop 1 us) i 0 (omega arith) ∙ get_or_after_one us i 0 ∙ ap (λ (k : ℕ). get_or us k 0) (omega arith)

pub crossed-low-requires : goal.crossed-low-requires
crossed-low-requires c = (c.requires.0, c.requires.2 0 (omega (arith, c.requires.1)))

pub loop-u-init : goal.loop-u-init
loop-u-init c = lowest_first c.requires.1 c.crossed-low.ensures.is c.crossed-low.ensures.small

pub crossed-requires : goal.crossed-requires
crossed-requires c =
    let l : c.loop-u.u-index + 1 < length c.args.units.now = omega (arith, c.loop-u-test.true, c.loop-u.auto.u-index-end) in
    (c.requires.0, subst (Adjacent (board c.args.p.now) c.args.target) (sym (next c.args.units.now c.loop-u.u-index l)) (c.requires.2 (c.loop-u.u-index + 1) l))

pub loop-u-preserved : goal.loop-u-preserved
loop-u-preserved c =
    let l : c.loop-u.u-index + 1 < length c.args.units.now = omega (arith, c.loop-u-test.true, c.loop-u.auto.u-index-end) in
    lowest_more c.loop-u.invariant l
    (c.crossed.ensures.is ∙ ap (crossed (board c.args.p.now) c.args.target) (next c.args.units.now c.loop-u.u-index l))
    c.crossed.ensures.small (c.min-low.ensures ∙ smaller_min _ _)

pub returns : goal.returns
returns c = record { is = lowest_all c.loop-u.invariant (omega arith); small = c.loop-u.invariant.small }
