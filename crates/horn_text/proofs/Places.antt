-- The clauses of a task are those of its heads: `clauses_placed`; and how many clauses and parts there are.
use mathlib.Core.Path.{◌≡◌, refl, ap, ◌∙◌}
use mathlib.Core.Bool.{Bool, true, false, cond}
use mathlib.Core.List.{List, [], ◌∷◌, ◌++◌, map, append-nil, append_assoc, map-append}
use native.Mathlib.Omega.{arith}
use lib.ListN.{length, length-append, length-map}
use lib.Seq.{append_snoc}
use Rattle.task.specs.Ast.{Binder, Pred, Constraint, Constraints}
use Rattle.task.specs.Task.{literally_true, pred_heads, heads_of, heads_in}
use Rattle.horn_text.specs.Clauses.{ForAll, Place, kept, flatten_constraint, flatten_constraints, places_of, places_in, binders_of, guards_of, held, clauses_at}
use Rattle.horn_text.specs.Theorems.{ClausesPlaced, ClausesNumber, PartsNumber}

-- one more ForAll inside the others adds its binder behind theirs
pub binders_snoc : (fs : List ForAll) (f : ForAll) → binders_of (fs ++ f ∷ []) ≡ binders_of fs ++ f.binder ∷ []
binders_snoc [] f = refl
binders_snoc (g ∷ fs) f = rw (binders_snoc fs f)

-- and its guards behind theirs
pub guards_snoc : (fs : List ForAll) (f : ForAll) → guards_of (fs ++ f ∷ []) ≡ guards_of fs ++ kept f.preds
guards_snoc [] f = append-nil (kept f.preds)
guards_snoc (g ∷ fs) f = rw (guards_snoc fs f, append_assoc)

-- a place with these ForAlls around
abbrev under : List ForAll → Place → Place
under fs h = record { around = fs ++ h.around; head = h.head }

-- none around change nothing
under_none : (hs : List Place) → map (under []) hs ≡ hs
under_none [] = refl
under_none (h ∷ hs) = rw (under_none hs)

-- the places of the body of a ForAll that stands under others
under_held : (fs : List ForAll) (f : ForAll) (hs : List Place) → map (under fs) (map (held f) hs) ≡ map (under (fs ++ f ∷ [])) hs
under_held fs f [] = refl
under_held fs f (h ∷ hs) = rw (append_snoc, under_held fs f hs)

-- what a test adds in front is the same with more behind
cond-append : {A : Type 0} (t : Bool) (x : A) (xs ys : List A) → cond t (xs ++ ys) (x ∷ xs ++ ys) ≡ cond t xs (x ∷ xs) ++ ys
cond-append true x xs ys = refl
cond-append false x xs ys = refl

-- the clauses of places and more places
clauses_append : (hs ks : List Place) → clauses_at (hs ++ ks) ≡ clauses_at hs ++ clauses_at ks
clauses_append [] ks = refl
clauses_append (h ∷ hs) ks = rw (clauses_append hs ks) (cond-append (literally_true h.head) _ (clauses_at hs) (clauses_at ks))

mutual
  unfolding flatten_constraint places_of

  -- the walk with the binders and guards of some ForAlls gives the clauses of the places, with these around
  placed : (c : Constraint) (fs : List ForAll)
      → flatten_constraint c (binders_of fs) (guards_of fs) ≡ clauses_at (map (under fs) (places_of c))
  placed (Constraint.pred p) fs = rw (append-nil fs)
  placed (Constraint.conj cs) fs = placed_in cs fs
  placed (Constraint.for_all x b ps c) fs =
      let f : ForAll = record { binder = record { name = x; sort = b }; preds = ps } in
      rw (← binders_snoc fs f, ← guards_snoc fs f, placed c (fs ++ f ∷ []), under_held fs f)

  -- so for constraints in a row
  placed_in : (cs : Constraints) (fs : List ForAll)
      → flatten_constraints cs (binders_of fs) (guards_of fs) ≡ clauses_at (map (under fs) (places_in cs))
  placed_in Constraints.none fs = refl
  placed_in (Constraints.more c cs) fs = rw (placed c fs, placed_in cs fs, map-append, clauses_append)

pub clauses_placed : ClausesPlaced
clauses_placed t = placed t.constraint [] ∙ ap clauses_at (under_none (places_of t.constraint))

-- a test leaves none or one
cond-length : {A : Type 0} (t : Bool) (x : A) → length (cond t [] (x ∷ [])) ≡ cond t 0 1
cond-length true x = refl
cond-length false x = refl

mutual
  unfolding flatten_constraint heads_of pred_heads

  -- each head that is not literally true gives a clause, whatever the path
  heads_number : (c : Constraint) (vars : List Binder) (guards : List Pred) → length (flatten_constraint c vars guards) ≡ heads_of c
  heads_number (Constraint.pred p) vars guards = cond-length (literally_true p) _
  heads_number (Constraint.conj cs) vars guards = heads_in_lem cs vars guards
  heads_number (Constraint.for_all x b ps c) vars guards = heads_number c _ _

  -- so for constraints in a row
  heads_in_lem : (cs : Constraints) (vars : List Binder) (guards : List Pred) → length (flatten_constraints cs vars guards) ≡ heads_in cs
  heads_in_lem Constraints.none vars guards = refl
  heads_in_lem (Constraints.more c cs) vars guards = rw (length-append, heads_number c vars guards, heads_in_lem cs vars guards)

pub clauses_number : ClausesNumber
clauses_number t = heads_number t.constraint [] []

pub parts_number : PartsNumber
parts_number names t = simp (length-append, length-map) (omega (arith, clauses_number t))
