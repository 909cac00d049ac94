-- write_row sends one piece after another.
use Rattle.output.specs.Emit.{output}
use Rattle.smt_word.proofs.Rows.{Rowing}
use Rattle.smt_word.proofs.write_row.Given as goal

abbrev pub invariant-loop : goal.invariant-loop
invariant-loop g l = Rowing (goal.F-post g l.write) l.n l.at (output l.initial.buf l.initial.sent.len) l.counter l.p (output l.buf l.sent.len)
