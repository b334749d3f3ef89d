-- `codes::upshot` meets its contract: a row of the table for each code.
-- Assumes nothing.
use mathlib.Core.Path.{◌∙◌, sym}
use native.Mathlib.Omega.{arith}
use Rattle.results.proofs.Upshots.{upshot_a, upshot_ae, upshot_ax, upshot_d, upshot_de, upshot_dx}
use Rattle.results.proofs.codes.upshot.Goals as goal

pub returns-then-code-le-D3 : goal.returns-then-code-le-D3
returns-then-code-le-D3 c = c.fate.ensures ∙ sym (upshot_d _ c.if-code-le-D3.true)

pub returns-then-code-le-A3 : goal.returns-then-code-le-A3
returns-then-code-le-A3 c = c.fate-then-code-le-A3.ensures ∙ sym (upshot_a _ (omega arith) c.if-code-le-A3.true)

pub returns-then-code-eq-AE : goal.returns-then-code-eq-AE
returns-then-code-eq-AE c = c.fate-then-code-eq-AE.ensures ∙ sym (upshot_ae _ (omega arith) (omega arith) c.if-code-eq-AE.true)

pub returns-then-code-eq-DE : goal.returns-then-code-eq-DE
returns-then-code-eq-DE c = c.fate-then-code-eq-DE.ensures ∙ sym (upshot_de _ (omega arith) (omega arith) c.if-code-eq-AE.false c.if-code-eq-DE.true)

pub returns-then-code-eq-DX : goal.returns-then-code-eq-DX
returns-then-code-eq-DX c = c.fate-then-code-eq-DX.ensures ∙ sym (upshot_dx _ (omega arith) (omega arith) c.if-code-eq-AE.false c.if-code-eq-DE.false c.if-code-eq-DX.true)

pub returns : goal.returns
returns c = c.fate-2.ensures ∙ sym (upshot_ax _ (omega arith) (omega arith) c.if-code-eq-AE.false c.if-code-eq-DE.false c.if-code-eq-DX.false)
