-- `write_binders` sends one name with its sort after another.
use Rattle.std.proofs.Common.{rules}
use Rattle.task.specs.Decode.{binder}
use Rattle.smt_word.proofs.Rows.{row_sends}
use Rattle.smt_sort.specs.Section.{binders_text}
use Rattle.smt_sort.proofs.Sorts.{binders_row}
use Rattle.smt_sort.proofs.write_binders.Goals as goal

pub returns : goal.returns
unfolding binders_text
returns c = row_sends (binders_row _) (binder c.args.levels) c.args.enc.file.now _ (λ p b t k w l y. search rules) _ _ _ _ _ c.write_row.ensures
