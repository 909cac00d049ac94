-- `print_task`: a part is too long, or all are written out.
use mathlib.Core.Path.{◌∙◌}
use Rattle.console.proofs.Filling.{print_long, print_short, print_done}
use Rattle.console.proofs.print_task.Goals as goal

pub returns-then-sizes-gt65536 : goal.returns-then-sizes-gt65536
returns-then-sizes-gt65536 c = c.print_refusal.ensures ∙ print_long _ c.args.enc.bytes _ _ c.requires.0 c.requires.1 _ _ _ c.measure-sizes.ensures c.if-sizes-gt65536.true

pub print_turns-requires : goal.print_turns-requires
print_turns-requires c = record { accepted = c.requires; short = print_short _ c.args.enc.bytes _ _ c.requires.0 c.requires.1 _ _ _ c.measure-sizes.ensures c.if-sizes-gt65536.false }

pub returns : goal.returns
returns c = print_done _ c.args.enc.bytes _ _ c.requires.0 c.requires.1 _ _ _ c.measure-sizes.ensures c.if-sizes-gt65536.false _ c.print_turns.ensures
