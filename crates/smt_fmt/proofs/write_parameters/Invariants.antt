-- `write_parameters`: each turn sends a space and the next parameter.
use Rattle.output.specs.Emit.{output}
use Rattle.smt_fmt.proofs.Decls.{Listing}
use Rattle.smt_fmt.proofs.write_parameters.Given as goal

abbrev pub invariant-loop-i : goal.invariant-loop-i
invariant-loop-i l = Listing l.n l.i (output l.initial.buf l.initial.sent.len) (output l.buf l.sent.len)
