-- `all_symbol_bytes`: what `all` of a slice's items gives.
use mathlib.Core.Path.{◌∙◌}
use Rattle.std.proofs.Common.{rules}
use Rattle.std.proofs.lemmas.Iterator.{YieldsList-from_slice}
use Rattle.std.proofs.lemmas.Iterator.Search.{all_from_yields_List}
use Rattle.smtlib.specs.Lexicon.{symbol_byte}
use Rattle.smtlib.proofs.Words.{all_listed}
use Rattle.smtlib.proofs.all_symbol_bytes.Goals as goal

pub returns : goal.returns
returns c =
    all_from_yields_List symbol_byte _ _ _ c.all.ensures.ran (YieldsList-from_slice c.args.word.now cc) (λ x b q k. search rules)
    ∙ all_listed symbol_byte c.args.word.now
