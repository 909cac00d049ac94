-- What the item walkers answer.
use Rattle.std.specs.Prelude.{ℕ, false, List}
use Rattle.task.specs.declared.Fault.{Fault}
use Rattle.task.specs.Ast.{Sorts, FunDef}
use Rattle.task.specs.Decode.{Res, Decoder, give, ◌▹◌, counted, dec_sort, deepest, flag, body, comment, datatype, constant, function, kvar}
use Rattle.task.specs.Fault.{lower, text_fault, datatype_fault, binder_fault, sort_fault, sorts_fault, sorts_number, body_fault, function_fault, kvar_fault}
use Rattle.task_check.specs.Walk.{walked}
use Rattle.item_check.specs.declared.Section.{Section}
use Rattle.item_check.specs.declared.Section.TheVariants.{Comments, Datatypes, Constants, Functions, KVars}

-- what stands behind a function's name and its number of parameters
abbrev pub signature : List ℕ → ℕ → Decoder FunDef
signature n params =
    counted Sorts.none Sorts.more (dec_sort deepest) ▹ λ ins. dec_sort deepest ▹ λ out.
    flag ▹ λ b. body b ▹ λ o. give (record { name = n; params = params; inputs = ins; output = out; body = o })

-- a function's fault without that of its name
abbrev pub signature_fault : FunDef → Fault
signature_fault f = lower (sorts_fault f.inputs) (lower (sort_fault false f.output) (body_fault (sorts_number f.inputs) f.body))

-- an item of a section
unfoldable pub item_walk : Section → List ℕ → ℕ → Res Fault
item_walk Comments s at = walked text_fault (comment s at)
item_walk Datatypes s at = walked datatype_fault (datatype s at)
item_walk Constants s at = walked binder_fault (constant s at)
item_walk Functions s at = walked function_fault (function s at)
item_walk KVars s at = walked kvar_fault (kvar s at)
