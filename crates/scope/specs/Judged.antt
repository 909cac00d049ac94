-- What the walk over the functions and over the whole file tells. Only contracts of inner functions and of `inspect` speak of it.
use Rattle.std.specs.Prelude.{ℕ, ◌≡◌, true, List, ◌++◌, map, length, take}
use Rattle.task.specs.declared.Fault.{Fault}
use Rattle.task.specs.declared.Fault.TheVariants.{Sound}
use Rattle.task.specs.Ast.{FunDef, Task}
use Rattle.task.specs.Decode.{got, function, section}
use Rattle.task.specs.Fault.{each, function_fault, task_fault}
use Rattle.task.specs.Scope.{functions_scope, names_fault}
use Rattle.task.specs.Task.{framed, decoded}
use Rattle.trailer.specs.declared.Bounds.{Bounds}
use Rattle.trailer.specs.Bounds.{bounds_of}
use Rattle.names.specs.Table.{entries, Chained}
use Rattle.declared.specs.Symbols.{together, function_symbols, symbols_of}
use Rattle.scope.specs.Known.{ctors_in, vars_in}

-- t became u, which can be searched. Where a section of functions without fault was decoded, the answer is the fault of the names in their bodies, and the
-- functions were added.
pub record FunctionsJudged (file : List ℕ) (at end : ℕ) (t : List ℕ) (r : Fault) (u : List ℕ) : Type 0 where
  pub chained : Chained file u
  pub words : length u ≡ length t
  pub are : (fs : List FunDef) (q : ℕ) → section function (take end file) at ≡ got fs q → each function_fault fs ≡ Sound
      → (r ≡ functions_scope (ctors_in file t) (vars_in file t) fs) × (entries file u ≡ entries file t ++ together (map function_symbols fs))

-- a file whose task has no fault but perhaps in its names, with the sections at the given bounds
pub record Sectioned (file : List ℕ) (b : Bounds) : Type 0 where
  pub task : Task
  pub end : ℕ
  pub framed : framed file ≡ true
  pub decoded : decoded file ≡ got task end
  pub bounds : b ≡ bounds_of file
  pub sound : task_fault task ≡ Sound

-- The table can be searched. The answer is the fault of the names of the file's task, and the entries are the names that it declares.
pub record NamesJudged (file : List ℕ) (r : Fault) (u : List ℕ) : Type 0 where
  pub chained : Chained file u
  pub are : (t : Task) (end : ℕ) → decoded file ≡ got t end → (r ≡ names_fault t) × (entries file u ≡ symbols_of t)
