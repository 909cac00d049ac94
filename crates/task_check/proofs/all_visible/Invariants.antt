-- all_visible tests every byte: what was seen so far and the bytes from the index on decide it.
use mathlib.Core.Path.{◌≡◌}
use mathlib.Core.Bool.{◌&&◌}
use lib.ListN.{drop}
use Rattle.smtlib.specs.Lexicon.{all, visible}
use Rattle.task_check.proofs.all_visible.Given as goal

abbrev pub invariant-loop-b : goal.invariant-loop-b
invariant-loop-b l = (l.visible && all visible (drop l.b-index l.text)) ≡ all visible l.text
