-- `stacks_ok::seat` meets its contract: the unit stands elsewhere, or its hex's half of a byte says whether there is room.
-- Assumes nothing.
use Prim.Native.Nat.{◌<◌}
use native.Mathlib.Omega.{arith}
use Rattle.acceptance.proofs.Seating.{seated_past, seated_of, counts_low, counts_high, refused_low, refused_high}
use Rattle.stacks.proofs.seat.Goals as goal

pub returns-then-h-base : goal.returns-then-h-base
returns-then-h-base c = record { on = λ g. seated_past g (λ k l e. omega (arith, c.hex-h.ensures.is, e)) }

pub returns-then-k-ge-BLOCK : goal.returns-then-k-ge-BLOCK
returns-then-k-ge-BLOCK c = record { on = λ g. seated_past g (λ k l e. omega (arith, c.hex-h.ensures.is, e)) }

pub returns-then-k-lt-TABLE : goal.returns-then-k-lt-TABLE
returns-then-k-lt-TABLE c =
    let f = c.force_of-f.ensures in
    let few : c.force_of-f.result < 4 = omega (arith, f, c.requires.2) in
    seated_of c.adds-low.result
    (λ p. record { on = counts_low _ _ _ _ c.if-k-lt-TABLE.true c.wide-m.ensures.is f few (omega (arith, c.hex-h.ensures.is)) c.adds-low.ensures p })
    (λ z. record { under = λ g o. refused_low _ _ _ _ c.if-k-lt-TABLE.true c.wide-m.ensures.is f few z (omega arith) g o (omega (arith, c.hex-h.ensures.is)) c.adds-low.ensures })

pub returns : goal.returns
returns c =
    let f = c.force_of-f.ensures in
    let few : c.force_of-f.result < 4 = omega (arith, f, c.requires.2) in
    seated_of c.adds-high.result
    (λ p. record { on = counts_high _ _ _ _ (omega arith) c.wide-n.ensures.is f few (omega (arith, c.hex-h.ensures.is)) c.adds-high.ensures p })
    (λ z. record { under = λ g o. refused_high _ _ _ _ (omega arith) c.wide-n.ensures.is f few z (omega arith) g o (omega (arith, c.hex-h.ensures.is)) c.adds-high.ensures })
