-- The assertions of a task before they are text: `flatten_constraint` of `smt_horn.rs`, and what it comes to.
use Rattle.std.specs.Prelude.{cond, List, [], ◌∷◌, ◌++◌, map}
use Rattle.task.specs.Ast.{Binder, Pred, Constraint, Constraints, Task}
use Rattle.task.specs.Task.{literally_true}

-- `HornClause`: what an assertion is made of
pub record HornClause : Type 0 where
  pub vars : List Binder
  pub guards : List Pred
  pub head : Pred

-- the predicates that are not literally true
abbrev pub kept : List Pred → List Pred
kept [] = []
kept (p ∷ ps) = cond (literally_true p) (kept ps) (p ∷ kept ps)

-- `flatten_constraint`: the walk with the binders and the guards of the path. A ForAll's are there for its body only.
unfoldable mutual
  pub flatten_constraint : Constraint → List Binder → List Pred → List HornClause
  flatten_constraint (Constraint.pred p) vars guards = cond (literally_true p) [] (record { vars = vars; guards = guards; head = p } ∷ [])
  flatten_constraint (Constraint.conj cs) vars guards = flatten_constraints cs vars guards
  flatten_constraint (Constraint.for_all x b ps c) vars guards =
      flatten_constraint c (vars ++ record { name = x; sort = b } ∷ []) (guards ++ kept ps)

  pub flatten_constraints : Constraints → List Binder → List Pred → List HornClause
  flatten_constraints Constraints.none vars guards = []
  flatten_constraints (Constraints.more c cs) vars guards = flatten_constraint c vars guards ++ flatten_constraints cs vars guards

-- the clauses of a task: the path is empty at first
abbrev pub clauses_of : Task → List HornClause
clauses_of t = flatten_constraint t.constraint [] []

-- THE SAME WITHOUT A WALK

-- what a ForAll brings
pub record ForAll : Type 0 where
  pub binder : Binder
  pub preds : List Pred

-- a head, with the ForAlls that hold it, the outermost first
pub record Place : Type 0 where
  pub around : List ForAll
  pub head : Pred

-- a place in the body of a ForAll is held by that too
abbrev pub held : ForAll → Place → Place
held f h = record { around = f ∷ h.around; head = h.head }

-- the heads of a constraint, literally true or not, in the order of the file
unfoldable mutual
  pub places_of : Constraint → List Place
  places_of (Constraint.pred p) = record { around = []; head = p } ∷ []
  places_of (Constraint.conj cs) = places_in cs
  places_of (Constraint.for_all x b ps c) = map (held (record { binder = record { name = x; sort = b }; preds = ps })) (places_of c)

  pub places_in : Constraints → List Place
  places_in Constraints.none = []
  places_in (Constraints.more c cs) = places_of c ++ places_in cs

-- the binders of ForAlls
abbrev pub binders_of : List ForAll → List Binder
binders_of [] = []
binders_of (f ∷ fs) = f.binder ∷ binders_of fs

-- their predicates that are not literally true
abbrev pub guards_of : List ForAll → List Pred
guards_of [] = []
guards_of (f ∷ fs) = kept f.preds ++ guards_of fs

-- the clause of a head: exactly the binders of the ForAlls that hold it, and exactly their predicates that are not literally true
abbrev pub clause_of : Place → HornClause
clause_of h = record { vars = binders_of h.around; guards = guards_of h.around; head = h.head }

-- one clause for each head that is not literally true, none for the others
abbrev pub clauses_at : List Place → List HornClause
clauses_at [] = []
clauses_at (h ∷ hs) = cond (literally_true h.head) (clauses_at hs) (clause_of h ∷ clauses_at hs)
