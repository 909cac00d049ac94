-- `write_each_guard`: each turn sends what one of the ForAlls that are left has.
use Rattle.output.specs.Emit.{output}
use Rattle.smt_sort.specs.Section.{encoder_by}
use Rattle.assertion.proofs.Guards.{guards_steps, Along}
use Rattle.assertion.proofs.write_each_guard.Given as goal

abbrev pub invariant-loop-offset : goal.invariant-loop-offset
invariant-loop-offset l = Along (guards_steps (encoder_by l.enc)) l.enc.file.now l.offset-items (output l.initial.buf l.initial.sent.len) l.offset-index (output l.buf l.sent.len)
