-- `push_item`: a datatype or a constant.
use Rattle.declared.proofs.Gathering.{datatypes_item, constants_item}
use Rattle.declared.proofs.push_item.Goals as goal

pub returns-in-Datatypes : goal.returns-in-Datatypes
returns-in-Datatypes c = (datatypes_item c.args.section _ _ _ _ _ c.in-Datatypes.is c.push_datatype.ensures.0, c.push_datatype.ensures.1)

pub returns-in-Constants : goal.returns-in-Constants
returns-in-Constants c = (constants_item c.args.section _ _ _ _ _ c.in-Constants.is c.push_binder.ensures.0, c.push_binder.ensures.1)
