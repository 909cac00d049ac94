-- what stands behind code 2
use mathlib.Core.Path.{ap}
use lib.ListN.{get_or-eq_default}
use Rattle.smtlib.proofs.Entries.{beyond}
use Rattle.task.specs.Decode.{refusal, thy_funcs}
use Rattle.task.proofs.ThyFuncCoded.behind.Goals as goal

pub returns-in-2 : goal.returns-in-2
unfolding thy_funcs
returns-in-2 c = rw c.in-2.is

pub returns-in-48-to-255 : goal.returns-in-48-to-255
unfolding thy_funcs
returns-in-48-to-255 c = ap (λ d. d c.args.s.now c.args.at) (get_or-eq_default thy_funcs (refusal 2) (beyond 48 _ c.in-48-to-255.in-48-to-255-own.rest))
