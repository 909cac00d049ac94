-- `write_binder_list` sends the first name with its sort and then the others.
use mathlib.Core.Path.{refl}
use Rattle.task.specs.Decode.{binder}
use Rattle.smt_text.specs.Text.{sexp_list}
use Rattle.output.proofs.Sending.{row_none, row_list}
use Rattle.smt_sort.specs.Section.{binder_list, binders_text}
use Rattle.smt_sort.proofs.Sorts.{binders_row}
use Rattle.smt_sort.proofs.write_binder_list.Goals as goal

pub returns-then-n-eq0 : goal.returns-then-n-eq0
unfolding binder_list
returns-then-n-eq0 c = row_none (binders_row _) (binder _) c.args.enc.file.now sexp_list c.args.n c.args.at _ _ _ c.if-n-eq0.true c.write_word.ensures

pub returns : goal.returns
unfolding binder_list binders_text
returns c = row_list (binders_row _) (binder _) c.args.enc.file.now sexp_list c.args.n c.args.at _ _ _ _ _ _ _ (λ w ws. refl) c.if-n-eq0.false c.byte-opened.ensures c.write_binder-first.ensures c.write_binders-rest.ensures c.byte-closed.ensures
