-- `write_sort_list` sends the first sort and then the others.
use mathlib.Core.Path.{refl}
use Rattle.task.specs.Decode.{dec_sort}
use Rattle.smt_text.specs.Text.{sexp_list}
use Rattle.output.proofs.Sending.{row_none, row_list}
use Rattle.smt_sort.specs.Section.{sort_list, sorts_text}
use Rattle.smt_sort.proofs.Sorts.{sorts_row}
use Rattle.smt_sort.proofs.write_sort_list.Goals as goal

pub returns-then-n-eq0 : goal.returns-then-n-eq0
unfolding sort_list
returns-then-n-eq0 c = row_none (sorts_row _) (dec_sort _) c.args.enc.file.now sexp_list c.args.n c.args.at _ _ _ c.if-n-eq0.true c.write_word.ensures

pub returns : goal.returns
unfolding sort_list sorts_text
returns c = row_list (sorts_row _) (dec_sort _) c.args.enc.file.now sexp_list c.args.n c.args.at _ _ _ _ _ _ _ (λ w ws. refl) c.if-n-eq0.false c.byte-opened.ensures c.write_sort-first.ensures c.write_sorts-rest.ensures c.byte-closed.ensures
