-- The numbers of a list once each, by first naming: what holds of each, and that none comes twice.
-- Assumes nothing.
use Prim.Native.Nat.{ℕ}
use mathlib.Core.List.{List, [], ◌∷◌, ◌++◌}
use Rattle.position.proofs.Tallies.{either}
use Rattle.ruling.specs.Secret.{Each}
use Rattle.field.specs.Listed.{named}
use Rattle.field.proofs.Named.{each_then, Once, once_last}
use Rattle.results.specs.Results.{add_once, once_each}

module _ (P : ℕ → Type 0) where
  pub once_each_lem : (xs seen : List ℕ) → Each P seen → Each P xs → Each P (once_each seen xs)
  unfolding once_each add_once
  once_each_lem [] seen h g = h
  once_each_lem (x ∷ xs) seen h g =
      either (named seen x) (λ e. simp e (once_each_lem xs seen h g.1))
      (λ e. simp e (once_each_lem xs (seen ++ (x ∷ [])) (each_then P seen (x ∷ []) h (g.0, tt)) g.1))

pub once_once : (xs seen : List ℕ) → Once seen → Once (once_each seen xs)
unfolding once_each add_once
once_once [] seen o = o
once_once (x ∷ xs) seen o =
    either (named seen x) (λ e. simp e (once_once xs seen o))
    (λ e. simp e (once_once xs (seen ++ (x ∷ [])) (once_last seen x o e)))
