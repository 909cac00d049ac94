-- W-208. "For each accepted file and each interpretation, the tree holds if and only if every assertion holds." Each statement is proved in proofs/ under
-- the name that stands behind it.
use Rattle.std.specs.Prelude.{ℕ, ◌≡◌, true, false, List}
use Rattle.smtlib.specs.Lexicon.{is_one}
use Rattle.task.specs.Ast.{Pred, Constraint, Constraints, Task}
use Rattle.task.specs.Decode.{got}
use Rattle.task.specs.Names.{for_all_names, Each}
use Rattle.task.specs.Task.{task_of}
use Rattle.smt_text.specs.Editions.{NameTable}
use Rattle.horn_text.specs.Clauses.{clauses_of}
use Rattle.horn_text.specs.Script.{encoder_of}
use Rattle.meaning.specs.Interpretation.{is_free, Assignment, Interpretation, Lawful}
use Rattle.meaning.specs.Holds.{tree_holds, assertions_hold}

-- WHAT IT RESTS ON

-- no name free in the predicate is the binder of a ForAll in the constraint
abbrev pub Unbound : Constraint → Pred → Type 0
Unbound c p = (x : List ℕ) → is_free x p ≡ true → is_one x (for_all_names c) ≡ false

-- no name free in a predicate of a ForAll is the binder of a ForAll inside that one
unfoldable mutual
  pub Uncaptured : Constraint → Type 0
  Uncaptured (Constraint.pred p) = Unit
  Uncaptured (Constraint.conj cs) = AllUncaptured cs
  Uncaptured (Constraint.for_all x b ps c) = Each (Unbound c) ps × Uncaptured c

  -- in constraints in a row
  pub AllUncaptured : Constraints → Type 0
  AllUncaptured Constraints.none = Unit
  AllUncaptured (Constraints.more c cs) = Uncaptured c × AllUncaptured cs

-- So it is in every accepted task, by refusals 7, 15 and 10. (proofs/Captures.antt: no_captures)
abbrev pub NoCaptures : Type 0
NoCaptures = (file : List ℕ) (t : Task) (end : ℕ) → task_of file ≡ got t end → Uncaptured t.constraint

-- THE THEOREM

-- Whatever the values, the interpretation and the assignment to begin with, the tree holds exactly if every assertion does. Both are Booleans, so this is an equation.
abbrev pub SameMeaning : NameTable → Task → Type 1
SameMeaning names t =
    (Value : Type 0) (i : Interpretation Value) → Lawful i → (a : Assignment Value)
    → tree_holds i (encoder_of names t) t.constraint a ≡ assertions_hold i (encoder_of names t) (clauses_of t) a

-- So it is in every task in which nothing is captured, whatever else is at fault in it. (proofs/Meaning.antt: uncaptured_meaning)
abbrev pub UncapturedMeaning : Type 1
UncapturedMeaning = (names : NameTable) (t : Task) → Uncaptured t.constraint → SameMeaning names t

-- And so it is in every accepted task, whatever the table of names. (proofs/Meaning.antt: flattening)
abbrev pub Flattening : Type 1
Flattening = (names : NameTable) (file : List ℕ) (t : Task) (end : ℕ) → task_of file ≡ got t end → SameMeaning names t
