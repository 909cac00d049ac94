-- `put_task`: the parts are measured, and written if they fit.
use Rattle.smt_horn.proofs.Entries.{put_none, put_done}
use mathlib.Core.Path.{refl}
use Rattle.smt_horn.proofs.put_task.Goals as goal

pub returns-in_default : goal.returns-in_default
returns-in_default c = put_none _ _ _ c.requires.0 c.requires.1 _ _ c.range-range.ensures _ _ _ refl c.measure-sizes.ensures _ _ _ c.answer.ensures _ c.in_default.is

pub returns : goal.returns
returns c = put_done _ _ _ c.requires.0 c.requires.1 _ _ c.range-range.ensures _ _ _ refl c.measure-sizes.ensures _ _ _ c.answer.ensures _ _ _ _ c.in-Ok.is c.write_smt_horn.ensures
