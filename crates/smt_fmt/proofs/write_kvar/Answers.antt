-- `write_kvar` sends a name, alone or with arguments.
use mathlib.Core.Path.{refl}
use Rattle.task.specs.Decode.{dec_expr}
use Rattle.smt_text.specs.Text.{applied, write_name}
use Rattle.output.proofs.Sending.{row_none, row_some}
use Rattle.smt_expr.specs.Parts.{exprs_text}
use Rattle.smt_expr.proofs.Exprs.{exprs_row}
use Rattle.smt_fmt.specs.Items.{kvar_text}
use Rattle.smt_fmt.proofs.write_kvar.Goals as goal

pub returns-then-n-eq0 : goal.returns-then-n-eq0
unfolding write_name kvar_text
returns-then-n-eq0 c = row_none (exprs_row _) (dec_expr _) c.args.enc.file.now (applied c.args.x.now) c.args.n c.args.at _ _ _ c.if-n-eq0.true (refl, c.bytes-named.ensures)

pub returns : goal.returns
unfolding write_name kvar_text exprs_text
returns c = row_some (exprs_row _) (dec_expr _) c.args.enc.file.now (applied c.args.x.now) c.args.n c.args.at _ _ _ _ _ _ _ (λ w ws. refl) c.if-n-eq0.false c.byte-opened.ensures c.bytes-named-2.ensures c.write_exprs-args.ensures c.byte-closed.ensures
