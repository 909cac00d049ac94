-- `write_datatype_ctors` sends the first constructor and then the others.
use mathlib.Core.Path.{refl}
use Rattle.task.specs.Decode.{data_ctor}
use Rattle.smt_text.specs.Text.{sexp_list}
use Rattle.output.proofs.Sending.{row_none, row_list}
use Rattle.smt_fmt.specs.Items.{ctors_text, ctor_list}
use Rattle.smt_fmt.proofs.Decls.{ctors_row}
use Rattle.smt_fmt.proofs.write_datatype_ctors.Goals as goal

pub returns-then-n-eq0 : goal.returns-then-n-eq0
unfolding ctor_list
returns-then-n-eq0 c = row_none (ctors_row _) data_ctor c.args.enc.file.now sexp_list c.args.n c.args.at _ _ _ c.if-n-eq0.true c.write_word.ensures

pub returns : goal.returns
unfolding ctor_list ctors_text
returns c = row_list (ctors_row _) data_ctor c.args.enc.file.now sexp_list c.args.n c.args.at _ _ _ _ _ _ _ (λ w ws. refl) c.if-n-eq0.false c.byte-opened.ensures c.write_ctor-first.ensures c.write_ctors-rest.ensures c.byte-closed.ensures
