-- `write_parts`: the answer by what was measured, or survey's refusal.
use Rattle.smt_horn.proofs.Entries.{was_refused, answer_refused}
use Rattle.std.proofs.Common.{rules}
use Rattle.assertion.proofs.Short.{are_bytes}
use Rattle.smt_horn.proofs.Entries.{was_given, answer_given}
use Rattle.smt_horn.proofs.write_parts.Goals as goal

pub returns : goal.returns
returns c = answer_given _ (are_bytes c.args.file.now c.shared_slice_known-1.given) _ _ _ _ _ _ _ _ _ c.answer.ensures (was_given _ _ _ _ _ _ _ _ _ c.in_ok-sizes.ensures)

pub returns-in_err-sizes : goal.returns-in_err-sizes
returns-in_err-sizes c = let h = answer_refused c.args.file.now c.args.edition c.args.asked c.args.buf.now c.put_parts.new.buf c.args.lengths.now c.put_parts.new.lengths _ (was_refused c.args.file.now c.args.edition c.args.asked c.args.buf.now c.put_parts.new.buf c.args.lengths.now c.put_parts.new.lengths _ c.in_err-sizes.ensures) in search rules
