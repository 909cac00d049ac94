-- `in_row`: `chunks_exact` gives the pieces with the byte behind each, and `any` looks at them.
use mathlib.Core.Path.{◌∙◌}
use native.Mathlib.Omega.{arith}
use lib.ListN.{length}
use mathlib.Core.List.{[]}
use Rattle.std.proofs.Common.{rules}
use Rattle.std.proofs.lemmas.Iterator.Search.{any_from_yields_List}
use Rattle.smtlib.proofs.Words.{own_is, begins_one, chunks_yield}
use Rattle.smtlib.proofs.in_row.Goals as goal

pub returns : goal.returns
returns c =
    any_from_yields_List (own_is c.args.word.now) _ _ _ c.any.ensures.ran
    (chunks_yield (length c.args.word.now) _ _ c.chunks_exact.ensures.rest (omega (arith, c.chunks_exact.ensures.size))) (λ x b q k. search rules)
    ∙ begins_one c.args.word.now (length c.args.word.now) [] c.args.row.now (omega arith)
