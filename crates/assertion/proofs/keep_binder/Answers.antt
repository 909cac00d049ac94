-- `keep_binder`: what is left of the text is lent to the writer, and the binder is short.
use native.Mathlib.Omega.{arith}
use Rattle.assertion.proofs.Guards.{binder_runs}
use Rattle.assertion.proofs.Keeping.{stores}
use Rattle.assertion.proofs.Short.{valid_in, vars_fit}
use Rattle.assertion.proofs.keep_binder.Goals as goal

pub returns : goal.returns
returns c = stores _ _ _ _ _ _ _ _ c.min-start.ensures c.new.ensures (let g = c.well_formed in omega arith) (binder_runs _ _ _ _ _ _ c.write_binder-sent.ensures) (vars_fit c.args.enc.file.now c.args.enc.bytes c.requires _ (valid_in c.args.enc.file.now c.args.enc.words.now) c.args.at)
