-- How many sorts the KVars in a table have.
use Rattle.std.specs.Prelude.{List, ℕ, Option as Found, Some, None}
use Rattle.std.proofs.Math.Option.{Option, none, some}
use Rattle.task.specs.Decode.{Res, got, refuse, ◌▹◌, number, name}
use Rattle.names.specs.declared.Kind.TheVariants.{KVar}
use Rattle.names.specs.Table.{number_of, offset_of, entries, last_of, fits}

-- what was decoded, if something was
abbrev pub value_of : {A : Type 0} → Res A → Option A
value_of (got a p) = some a
value_of (refuse k) = none

-- the number that stands behind the name at a place
unfoldable pub size_at : List ℕ → ℕ → Option ℕ
size_at s at = value_of ((name ▹ λ x. number 2) s at)

-- of the entry that a search found
abbrev pub size_found : List ℕ → List ℕ → Found ℕ → Option ℕ
size_found s t (Some k) = size_at s (offset_of t k)
size_found s t None = none

-- the number of sorts of the KVar with the name, if there is one: it stands behind the KVar's name
unfoldable pub arity_in : List ℕ → List ℕ → List ℕ → Option ℕ
arity_in s t x = size_found s t (last_of (fits x (number_of KVar) (number_of KVar)) (entries s t))
