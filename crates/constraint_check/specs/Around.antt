-- The ForAlls around a constraint, by a path of offsets.
use Rattle.std.specs.Prelude.{ℕ, Bool, ◌&&◌, List, [], ◌∷◌, ltb, eqb, length, get_or}
use Rattle.task.specs.declared.Fault.{Fault}
use Rattle.task.specs.Ast.{Binder, Pred, Constraint}
use Rattle.task.specs.Decode.{Decoder, give, ◌▹◌, counted, name, binder, dec_sort, dec_pred, dec_constraint}
use Rattle.task.specs.Fault.{lower, each, binder_fault, pred_fault}
use Rattle.task_check.specs.Walk.{named}

-- the names that stand at offsets: an offset is where a ForAll's name stands, directly behind its code
abbrev pub names_on : List ℕ → List ℕ → List (List ℕ)
names_on s [] = []
names_on s (o ∷ rest) = named (name s o) (names_on s rest)

-- a head stands there, and a level is left for it
abbrev pub is_head : ℕ → List ℕ → ℕ → Bool
is_head levels s at = ltb 0 levels && ltb at (length s) && eqb (get_or s at 0) 0

-- what a ForAll has before its body
pub record Header : Type 0 where
  pub binder : Binder
  pub preds : List Pred

-- its fault, whatever is around
abbrev pub header_fault : Header → Fault
header_fault h = lower (binder_fault h.binder) (each pred_fault h.preds)

-- it stands behind a ForAll's code
abbrev pub header : ℕ → Decoder Header
header l = binder l ▹ λ b. counted [] ◌∷◌ (dec_pred l) ▹ λ ps. give (record { binder = b; preds = ps })

-- what stands behind a ForAll's code
abbrev pub for_all : ℕ → Decoder Constraint
for_all l = name ▹ λ x. dec_sort l ▹ λ b. counted [] ◌∷◌ (dec_pred l) ▹ λ ps. dec_constraint l ▹ λ c. give (Constraint.for_all x b ps c)
