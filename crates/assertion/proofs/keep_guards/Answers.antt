-- `keep_guards`: what is left of the text is lent to the writer, and the guards are short.
use native.Mathlib.Omega.{arith}
use mathlib.Core.Path.{◌∙◌}
use Rattle.assertion.specs.Kept.{Counts}
use Rattle.assertion.proofs.Guards.{own_sent, own_counted}
use Rattle.assertion.proofs.Keeping.{stores}
use Rattle.assertion.proofs.Short.{valid_in, guards_fit}
use Rattle.assertion.proofs.keep_guards.Goals as goal

pub returns : goal.returns
unfolding Counts
returns c = record { stores = stores _ _ _ _ _ _ _ _ c.min-start.ensures c.new.ensures (let g = c.well_formed in omega arith) (own_sent _ _ _ _ _ _ _ _ _ c.write_own_guards.ensures) (guards_fit c.args.enc.file.now c.args.enc.bytes c.requires _ (valid_in c.args.enc.file.now c.args.enc.words.now) c.args.at); counts = λ f p e. own_counted _ _ _ _ _ _ _ _ _ c.write_own_guards.ensures f p e ∙ omega arith }
