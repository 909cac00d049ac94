-- `write_args`: each turn sends a space and the next name with the next sort.
use Rattle.output.specs.Emit.{output}
use Rattle.smt_sort.specs.Section.{encoder_by}
use Rattle.smt_fmt.proofs.Functions.{Zipping}
use Rattle.smt_fmt.proofs.write_args.Given as goal

abbrev pub invariant-loop : goal.invariant-loop
invariant-loop l = Zipping (encoder_by l.enc) l.enc.file.now l.m l.at l.n l.from (output l.initial.buf l.initial.sent.len) l.counter l.p l.q (output l.buf l.sent.len)
