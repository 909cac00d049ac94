-- `write_ctors` sends one constructor after another.
use Rattle.std.proofs.Common.{rules}
use Rattle.task.specs.Decode.{data_ctor}
use Rattle.smt_word.proofs.Rows.{row_sends}
use Rattle.smt_fmt.specs.Items.{ctors_text}
use Rattle.smt_fmt.proofs.Decls.{ctors_row}
use Rattle.smt_fmt.proofs.write_ctors.Goals as goal

pub returns : goal.returns
unfolding ctors_text
returns c = row_sends (ctors_row _) data_ctor c.args.enc.file.now _ (λ p b t k w l y. search rules) _ _ _ _ _ c.write_row.ensures
