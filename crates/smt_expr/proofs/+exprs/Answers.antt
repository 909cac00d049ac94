-- The cycle of the expression writers meets its contracts; the levels left fall.
use Rattle.std.proofs.Common.{rules}
use mathlib.Core.Path.{refl}
use Rattle.task.specs.Decode.{dec_expr}
use Rattle.smt_text.specs.Text.{write_nary}
use Rattle.output.proofs.Sending.{row_none, row_some}
use Rattle.smt_word.proofs.Rows.{row_sends}
use Rattle.smt_sort.specs.Section.{encoder_in}
use Rattle.smt_expr.specs.Parts.{exprs_text, binary_text, atom_text, nary_text}
use Rattle.smt_expr.proofs.Exprs.{exprs_row, expr_refused, thy_func_arm, rel_is, ends_at}
use Rattle.smt_expr.proofs.+exprs.Goals as goal

pub write_atom-returns-in-Eq : goal.write_atom-returns-in-Eq
unfolding atom_text binary_text
write_atom-returns-in-Eq t c = rel_is _ _ _ _ _ _ _ _ _ c.in-Eq.is c.write_binary.ensures

pub write_atom-returns-in-Ne : goal.write_atom-returns-in-Ne
write_atom-returns-in-Ne t c = rel_is _ _ _ _ _ _ _ _ _ c.in-Ne.is c.write_ne.ensures

pub write_atom-returns-in-Gt : goal.write_atom-returns-in-Gt
unfolding atom_text binary_text
write_atom-returns-in-Gt t c = rel_is _ _ _ _ _ _ _ _ _ c.in-Gt.is c.write_binary-in-Gt.ensures

pub write_atom-returns-in-Ge : goal.write_atom-returns-in-Ge
unfolding atom_text binary_text
write_atom-returns-in-Ge t c = rel_is _ _ _ _ _ _ _ _ _ c.in-Ge.is c.write_binary-in-Ge.ensures

pub write_atom-returns-in-Lt : goal.write_atom-returns-in-Lt
unfolding atom_text binary_text
write_atom-returns-in-Lt t c = rel_is _ _ _ _ _ _ _ _ _ c.in-Lt.is c.write_binary-in-Lt.ensures

pub write_atom-returns-in-Le : goal.write_atom-returns-in-Le
unfolding atom_text binary_text
write_atom-returns-in-Le t c = rel_is _ _ _ _ _ _ _ _ _ c.in-Le.is c.write_binary-in-Le.ensures

pub write_expr-returns-in_default : goal.write_expr-returns-in_default
write_expr-returns-in_default t c = expr_refused _ _ _ _ _ _ _ c.if-levels-eq0.false _ c.in_default.ensures

pub write_expr-returns-in-ThyFunc : goal.write_expr-returns-in-ThyFunc
unfolding encoder_in
write_expr-returns-in-ThyFunc t c = thy_func_arm _ _ _ _ _ _ _ c.if-levels-eq0.false _ _ c.in-Ok.ensures _ c.in-ThyFunc.is c.write_function.ensures

pub write_nary-returns-then-n-eq0 : goal.write_nary-returns-then-n-eq0
unfolding nary_text
write_nary-returns-then-n-eq0 t c = row_none (exprs_row _) (dec_expr c.args.levels) c.args.enc.file.now (λ ws. write_nary c.args.op.now ws c.args.empty.now) c.args.n c.args.from.at _ _ _ c.if-n-eq0.true c.write_word.ensures

pub write_nary-returns : goal.write_nary-returns
unfolding nary_text exprs_text
write_nary-returns t c = ends_at _ _ _ _ _ _ c.close_list.ensures.0 (row_some (exprs_row _) (dec_expr c.args.levels) c.args.enc.file.now (λ ws. write_nary c.args.op.now ws c.args.empty.now) c.args.n c.args.from.at _ _ _ _ _ _ _ (λ w ws. refl) c.if-n-eq0.false c.byte-opened.ensures c.bytes-named.ensures c.write_exprs-members.ensures c.close_list.ensures.1)

pub write_exprs-returns : goal.write_exprs-returns
unfolding exprs_text
write_exprs-returns t c = row_sends (exprs_row _) (dec_expr c.args.levels) c.args.enc.file.now _ (λ p b o k w l y. search rules) _ _ _ _ _ c.write_row.ensures
