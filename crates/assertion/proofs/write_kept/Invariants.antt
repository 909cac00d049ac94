-- `write_kept`: each turn lists one of the predicates that are left.
use Prim.Native.Nat.{◌≤◌}
use Rattle.smt_sort.specs.Section.{encoder_by}
use Rattle.assertion.specs.Under.{listing}
use Rattle.assertion.proofs.Guards.{lists_steps, Through}
use Rattle.assertion.proofs.write_kept.Given as goal

abbrev pub invariant-loop : goal.invariant-loop
invariant-loop l =
    Through (lists_steps (encoder_by l.enc)) l.enc.file.now l.n l.at (listing l.initial.buf l.initial.listed.out.len 0) l.counter l.listed.at (listing l.buf l.listed.out.len l.listed.count)
    × (l.listed.count ≤ l.counter)
