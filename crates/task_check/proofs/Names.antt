-- Whether the name at a position is a given one.
use mathlib.Core.Path.{◌≡◌, sym, ◌∙◌}
use mathlib.Core.Bool.{Bool, false, or-false}
use mathlib.Core.List.{List}
use Prim.Native.Nat.{ℕ}
use Rattle.smtlib.specs.Lexicon.{same, is_one}
use Rattle.task.specs.Decode.{got, refuse, name}
use Rattle.task_check.specs.Walk.{named_at}

module _ (s w : List ℕ) (at : ℕ) where
  pub named_none : (k : ℕ) → name s at ≡ refuse k → false ≡ is_one w (named_at s at)
  named_none k e = rw e

  pub named_one : (y : List ℕ) (p : ℕ) (v : Bool) → name s at ≡ got y p → v ≡ same w y → v ≡ is_one w (named_at s at)
  named_one y p v e u = rw e (u ∙ sym (or-false (same w y)))
