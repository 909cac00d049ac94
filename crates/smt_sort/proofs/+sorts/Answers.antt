-- `write_applied` sends what is applied, alone or with the sorts; `write_sorts` sends one sort after another.
use Rattle.std.proofs.Common.{rules}
use mathlib.Core.Path.{refl}
use Rattle.task.specs.Decode.{dec_sort}
use Rattle.smt_text.specs.Text.{applied, write_sort_ctor}
use Rattle.output.proofs.Sending.{row_none, row_some}
use Rattle.smt_word.proofs.Rows.{row_sends}
use Rattle.smt_sort.specs.Section.{ctor_of, sorts_text, applied_text}
use Rattle.smt_sort.proofs.Sorts.{sorts_row}
use Rattle.smt_sort.proofs.+sorts.Goals as goal

pub write_applied-returns-then-n-eq0 : goal.write_applied-returns-then-n-eq0
unfolding applied_text
write_applied-returns-then-n-eq0 t c = row_none (sorts_row _) (dec_sort _) c.args.enc.file.now (applied (write_sort_ctor (ctor_of c.args.ctor))) c.args.n c.args.at _ _ _ c.if-n-eq0.true (refl, c.write_sort_ctor-sent.ensures)

pub write_applied-returns : goal.write_applied-returns
unfolding applied_text sorts_text
write_applied-returns t c = row_some (sorts_row _) (dec_sort _) c.args.enc.file.now (applied (write_sort_ctor (ctor_of c.args.ctor))) c.args.n c.args.at _ _ _ _ _ _ _ (λ w ws. refl) c.if-n-eq0.false c.byte-opened.ensures c.write_sort_ctor-made.ensures c.write_sorts-sorts.ensures c.byte-closed.ensures

pub write_sorts-returns : goal.write_sorts-returns
unfolding sorts_text
write_sorts-returns t c = row_sends (sorts_row _) (dec_sort c.args.levels) c.args.enc.file.now _ (λ p b o k w l y. search rules) _ _ _ _ _ c.write_row.ensures
