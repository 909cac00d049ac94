-- W-208. When a tree holds, and when an assertion does. Of the writer only `write_sort` with its encoder is needed.
use Rattle.std.specs.Prelude.{Bool, true, false, not, ◌&&◌, ◌||◌, List, [], ◌∷◌}
use Rattle.task.specs.Ast.{Binder, Pred, Constraint, Constraints}
use Rattle.task.specs.Returns.{every}
use Rattle.smt_text.specs.Encoder.{Encoder}
use Rattle.smt_text.specs.Text.{write_sort}
use Rattle.horn_text.specs.Clauses.{HornClause}
use Rattle.meaning.specs.Interpretation.{Assignment, assign, Interpretation}

-- the first implies the second
abbrev pub implies : Bool → Bool → Bool
implies p q = not p || q

module _ {Value : Type 0} (i : Interpretation Value) where
  -- all predicates are true
  abbrev pub all_true : List Pred → Assignment Value → Bool
  all_true ps a = every (λ p. i.truth p a) ps

  -- The guards imply a KVar head; with the negation of an expression head they imply false. "An expression head's negation is the opposite truth."
  abbrev pub implication : List Pred → Pred → Assignment Value → Bool
  implication gs (Pred.kvar k es) a = implies (all_true gs a) (i.truth (Pred.kvar k es) a)
  implication gs (Pred.expr e) a = implies (all_true gs a && not (i.truth (Pred.expr e) a)) false

  module _ (enc : Encoder) where
    -- THE TREE

    unfoldable mutual
      pub tree_holds : Constraint → Assignment Value → Bool
      -- a Pred holds if its predicate is true
      tree_holds (Constraint.pred p) a = i.truth p a
      -- a Conj if each member holds
      tree_holds (Constraint.conj cs) a = trees_hold cs a
      -- a ForAll if for each value of its sort, with the binder set to it, its predicates imply its body
      tree_holds (Constraint.for_all x b ps c) a =
          every (λ v. implies (all_true ps (assign a x v)) (tree_holds c (assign a x v))) (i.values (write_sort enc b))

      -- constraints in a row
      pub trees_hold : Constraints → Assignment Value → Bool
      trees_hold Constraints.none a = true
      trees_hold (Constraints.more c cs) a = tree_holds c a && trees_hold cs a

    -- AN ASSERTION

    -- it holds for all values of the binders, the outermost set first
    abbrev pub for_all_values : List Binder → (Assignment Value → Bool) → Assignment Value → Bool
    for_all_values [] holds a = holds a
    for_all_values (b ∷ bs) holds a = every (λ v. for_all_values bs holds (assign a b.name v)) (i.values (write_sort enc b.sort))

    -- an assertion, from its clause as demand 3 matches it: how names are spelled plays no part
    unfoldable pub assertion_holds : HornClause → Assignment Value → Bool
    assertion_holds c a = for_all_values c.vars (implication c.guards c.head) a

    -- every one of several
    unfoldable pub assertions_hold : List HornClause → Assignment Value → Bool
    assertions_hold cs a = every (λ c. assertion_holds c a) cs
