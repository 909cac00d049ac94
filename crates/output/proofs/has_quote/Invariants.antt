-- `has_quote`: what was found so far, and the bytes behind, decide it.
use mathlib.Core.Path.{◌≡◌}
use mathlib.Core.Bool.{◌||◌}
use lib.ListN.{drop}
use Rattle.smtlib.specs.Lexicon.{any}
use Rattle.smt_text.specs.Table.{is_quote}
use Rattle.output.proofs.has_quote.Given as goal

abbrev pub invariant-loop-b : goal.invariant-loop-b
invariant-loop-b l = (l.found || any is_quote (drop l.b-index l.text)) ≡ any is_quote l.text
