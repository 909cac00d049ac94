-- `write_guard`: a predicate that is literally true is passed over.
use native.Mathlib.Omega.{arith}
use Rattle.assertion.proofs.Guards.{true_room, true_listed, guard_other}
use borrow.Author.Rules.{rules}
use Rattle.assertion.proofs.write_guard.Goals as goal

pub overflow_add-result : goal.overflow_add-result
overflow_add-result c = let h = true_room c.args.enc.file.now c.args.from.at _ c.is_literally_true.ensures c.if-is_literally_true.true in search rules

pub returns-then-is_literally_true : goal.returns-then-is_literally_true
returns-then-is_literally_true c = record { runs = true_listed _ _ _ c.is_literally_true.ensures c.if-is_literally_true.true _ _; one_more = omega arith }

pub returns : goal.returns
returns c = record { runs = guard_other _ _ _ c.is_literally_true.ensures _ _ _ _ _ c.if-is_literally_true.false c.byte-spaced.ensures c.write_pred-one.ensures; one_more = omega arith }
