-- The whole file: document 01's trailer and sections, and what survey refuses, in the order of judging.
use Rattle.std.specs.Prelude.{ℕ, ◌+◌, ◌-◌, ◌*◌, Bool, false, cond, ◌&&◌, List, leb, ltb, eqb, length, take, drop}
use Rattle.smtlib.specs.Lexicon.{bytes, same}
use Rattle.task.specs.Ast.{Constant, Expr, Pred, Constraint, Constraints, Task}
use Rattle.task.specs.Decode.{Res, got, refuse, bind, Decoder, little, comment, datatype, constant, function, kvar, dec_constraint, deepest, section}
use Rattle.task.specs.declared.Fault.{Fault}
use Rattle.task.specs.Fault.{refusal_of, task_fault}
use Rattle.task.specs.Scope.{names_fault}

-- where the trailer begins
abbrev pub trailer_at : List ℕ → ℕ
trailer_at file = length file - 28

-- the number in four bytes of the file
abbrev pub offset_at : List ℕ → ℕ → ℕ
offset_at file at = little (take 4 (drop at file))

-- where section i begins: 0 comments, 1 datatypes, 2 constants, 3 functions, 4 KVars, 5 the constraint; and 6 the trailer
unfoldable pub bound : List ℕ → ℕ → ℕ
bound file i = cond (ltb i 6) (offset_at file (trailer_at file + 4 * i)) (trailer_at file)

-- section i does not end before it begins
abbrev pub in_order : List ℕ → ℕ → Bool
in_order file i = leb (bound file i) (bound file (i + 1))

-- what a file ends in
abbrev pub mark : List ℕ
mark = bytes "HORN"

-- 1: the length, the mark and the offsets
unfoldable pub framed : List ℕ → Bool
framed file =
    leb 28 (length file) && leb (length file) 60000 && same (drop (length file - 4) file) mark && eqb (bound file 0) 0
    && in_order file 0 && in_order file 1 && in_order file 2 && in_order file 3 && in_order file 4 && in_order file 5

-- a section is read up to where the next begins
abbrev pub within : {A : Type 0} → List ℕ → ℕ → Decoder A → Res A
within file i d = d (take (bound file (i + 1)) file) (bound file i)

-- 2 and 3: the sections front to back, and no bytes left behind the constraint
unfoldable pub decoded : List ℕ → Res Task
decoded file =
    bind (within file 0 (section comment)) (λ comments _.
    bind (within file 1 (section datatype)) (λ datatypes _.
    bind (within file 2 (section constant)) (λ constants _.
    bind (within file 3 (section function)) (λ functions _.
    bind (within file 4 (section kvar)) (λ kvars _.
    bind (within file 5 (dec_constraint deepest)) (λ constraint end.
    cond (eqb end (bound file 6))
    (got (record { comments = comments; datatypes = datatypes; constants = constants; functions = functions; kvars = kvars; constraint = constraint }) end)
    (refuse 2)))))))

-- a task without fault, or the number of its fault
abbrev pub judged_by : (Task → Fault) → Task → ℕ → Res Task
judged_by fault t end = cond (eqb (refusal_of (fault t)) 0) (got t end) (refuse (refusal_of (fault t)))

-- the fault that is judged first: that of a piece, and where there is none that of a name (W-207, W-201)
unfoldable pub first_fault : Task → Fault
first_fault t = cond (eqb (refusal_of (task_fault t)) 0) (names_fault t) (task_fault t)

-- from 4 on: the fault that is judged first, if there is one
unfoldable pub judged : Task → ℕ → Res Task
judged t end = judged_by first_fault t end

-- the task that a file holds, or the number of its refusal
unfoldable pub task_of : List ℕ → Res Task
task_of file = cond (framed file) (bind (decoded file) judged) (refuse 1)

-- a constant is Boolean true
abbrev pub constant_is_true : Constant → Bool
constant_is_true (Constant.numeral n) = false
constant_is_true (Constant.real n) = false
constant_is_true (Constant.boolean b) = b
constant_is_true (Constant.string t) = false
constant_is_true (Constant.bit_vec n w) = false

-- an expression is Boolean true
abbrev pub is_true : Expr → Bool
is_true (Expr.constant c) = constant_is_true c
is_true (Expr.var x) = false
is_true (Expr.app h es o) = false
is_true (Expr.neg e) = false
is_true (Expr.binary_op o a b) = false
is_true (Expr.if_then_else c a b) = false
is_true (Expr.and es) = false
is_true (Expr.or es) = false
is_true (Expr.not e) = false
is_true (Expr.imp a b) = false
is_true (Expr.iff a b) = false
is_true (Expr.atom r a b) = false
is_true (Expr.let_in x a b) = false
is_true (Expr.thy_func f) = false
is_true (Expr.is_ctor x e) = false
is_true (Expr.quantifier q bs e) = false
is_true Expr.wk_var = false

-- a predicate is literally true; an empty And is not
unfoldable pub literally_true : Pred → Bool
literally_true (Pred.kvar k es) = false
literally_true (Pred.expr e) = is_true e

-- the number of heads that are not literally true: in a head
unfoldable pub pred_heads : Pred → ℕ
pred_heads p = cond (literally_true p) 0 1

-- in a constraint
unfoldable mutual
  pub heads_of : Constraint → ℕ
  heads_of (Constraint.pred p) = pred_heads p
  heads_of (Constraint.conj cs) = heads_in cs
  heads_of (Constraint.for_all x b ps c) = heads_of c

  pub heads_in : Constraints → ℕ
  heads_in Constraints.none = 0
  heads_in (Constraints.more c cs) = heads_of c + heads_in cs

-- the number of declarations
abbrev pub declarations : Task → ℕ
declarations t = length t.datatypes + length t.constants + length t.functions + length t.kvars
