-- `push_kvar`: there is no KVar, none with its name and the name is pushed, or one with its name.
use Rattle.names.proofs.Sames.{same_table}
use Rattle.declared.proofs.Collecting.{ready}
use Rattle.declared.proofs.Arities.{kvar_none, kvar_there, kvar_added}
use Rattle.declared.proofs.push_kvar.Goals as goal

pub returns-in_default-check_item : goal.returns-in_default-check_item
returns-in_default-check_item c = (kvar_none _ _ _ (ready c.args.table.now) _ _ c.in_default-check_item.ensures, same_table _)

pub returns-then-is_none : goal.returns-then-is_none
returns-then-is_none c = (kvar_added _ _ _ (ready c.args.table.now) _ _ c.in-Ok.ensures _ _ c.in-Ok-check_item.ensures _ c.find.ensures _ c.if-is_none.ensures c.push.ensures.0, c.push.ensures.1)

pub returns-else-is_none : goal.returns-else-is_none
returns-else-is_none c = (kvar_there _ _ _ (ready c.args.table.now) _ _ c.in-Ok.ensures _ _ c.in-Ok-check_item.ensures _ c.find.ensures c.if-is_none.ensures, same_table _)
