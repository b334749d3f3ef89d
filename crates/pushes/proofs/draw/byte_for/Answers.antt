-- `draw::byte_for` meets its contract: the byte is made of the hex that has the place.
-- Assumes nothing.
use Prim.Native.Nat.{ℕ, ◌+◌}
use mathlib.Core.Path.{sym, ap, ap₂, ◌∙◌}
use native.Mathlib.Omega.{arith}
use Rattle.position.specs.Board.{board}
use Rattle.position.proofs.Sides.{on_first, area_view}
use Rattle.grid.proofs.Regions.{place_one}
use Rattle.pushes.specs.Drawn.{stand_number, byte_of}
use Rattle.pushes.proofs.Drawing.{hex_here, hex_nowhere, byte-of}
use Rattle.pushes.proofs.draw.byte_for.Goals as goal

pub hex_of-requires : goal.hex_of-requires
hex_of-requires c = (on_first c.requires.0, c.requires.1, c.requires.2)

pub returns-in_default : goal.returns-in_default
returns-in_default c =
    let view = c.requires.0.view in (
      λ x i e. absurd (rw (view.width, view.height) at (hex_nowhere c.hex_of.ensures c.in_default.is) x i e),
      omega arith,
    )

pub stand_at-requires : goal.stand_at-requires
stand_at-requires c =
    let view = c.requires.0.view in
    let q = hex_here c.hex_of.ensures c.in-Some.is in
    let k = rw (view.width, view.height) at q in
    (c.requires.0, omega (arith, q.0.on.below, area_view view), c.requires.3 _ k.0 k.1)

pub returns : goal.returns
returns c =
    let a = c.args in
    let view = c.requires.0.view in
    let b = board a.p.now in
    let k = rw (view.width, view.height) at (hex_here c.hex_of.ensures c.in-Some.is) in
    let n = c.stand_number.ensures.0 ∙ ap stand_number c.stand_at.ensures in (
      λ y i e.
          ap₂ (λ (m n : ℕ). m + n) c.open_bits.ensures.0 n
          ∙ sym (byte-of b a.f a.start c.in-Some.x)
          ∙ ap (byte_of b a.f a.start) (place_one k.0 i (k.1 ∙ sym e)),
      omega (arith, c.open_bits.ensures.1, c.stand_number.ensures.1),
    )
