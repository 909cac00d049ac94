-- `doubled`: the bytes behind are still to be sent.
use mathlib.Core.Path.{◌≡◌}
use lib.ListN.{drop}
use Rattle.smtlib.specs.Read.{doubled}
use Rattle.output.specs.Emit.{output, emits}
use Rattle.output.proofs.Out.doubled.Given as goal

abbrev pub invariant-loop-b : goal.invariant-loop-b
invariant-loop-b l =
    emits (output l.buf l.sent.len) (doubled (drop l.b-index l.text)) ≡ emits (output l.initial.buf l.initial.sent.len) (doubled l.text)
