-- The task that a file holds, in the shapes of the source's constraint.rs and lib.rs. A name, a string and a comment are their bytes.
use Rattle.std.specs.Prelude.{ℕ, Bool, List}
use Rattle.std.proofs.Math.Option.{Option}
use Rattle.task.specs.declared.BinOp.{BinOp}
use Rattle.task.specs.declared.BinRel.{BinRel}
use Rattle.task.specs.declared.Quantifier.{Quantifier}
use Rattle.task.specs.declared.ThyFunc.{ThyFunc}

-- what an applied sort is made by: a set, a map, or a datatype's name
pub data SortCtor : Type 0 where
  set map : SortCtor
  named : List ℕ → SortCtor

mutual
  -- a sort; Var and Abs have the number of a variable and of variables
  pub data Sort : Type 0 where
    int bool real str : Sort
    bit_vec : Sort → Sort
    bv_size : ℕ → Sort
    var : ℕ → Sort
    func : Sort → Sort → Sort
    abs : ℕ → Sort → Sort
    app : SortCtor → Sorts → Sort

  -- sorts in a row
  pub data Sorts : Type 0 where
    none : Sorts
    more : Sort → Sorts → Sorts

-- a name with its sort: what a Quantifier binds, a constructor's field, a constant
pub record Binder : Type 0 where
  pub name : List ℕ
  pub sort : Sort

-- a constant; a BitVec has its value and its width
pub data Constant : Type 0 where
  numeral : ℕ → Constant
  real : ℕ → Constant
  boolean : Bool → Constant
  string : List ℕ → Constant
  bit_vec : ℕ → ℕ → Constant

mutual
  -- an application has its head, its arguments and, if given, its output sort
  pub data Expr : Type 0 where
    constant : Constant → Expr
    var : List ℕ → Expr
    app : Expr → Exprs → Option Sort → Expr
    neg : Expr → Expr
    binary_op : BinOp → Expr → Expr → Expr
    if_then_else : Expr → Expr → Expr → Expr
    and : Exprs → Expr
    or : Exprs → Expr
    not : Expr → Expr
    imp : Expr → Expr → Expr
    iff : Expr → Expr → Expr
    atom : BinRel → Expr → Expr → Expr
    let_in : List ℕ → Expr → Expr → Expr
    thy_func : ThyFunc → Expr
    is_ctor : List ℕ → Expr → Expr
    quantifier : Quantifier → List Binder → Expr → Expr
    wk_var : Expr

  -- expressions in a row
  pub data Exprs : Type 0 where
    none : Exprs
    more : Expr → Exprs → Exprs

-- a KVar with its arguments, or an expression
pub data Pred : Type 0 where
  kvar : List ℕ → Exprs → Pred
  expr : Expr → Pred

mutual
  -- a ForAll has its name, its sort, its predicates and its body
  pub data Constraint : Type 0 where
    pred : Pred → Constraint
    conj : Constraints → Constraint
    for_all : List ℕ → Sort → List Pred → Constraint → Constraint

  -- constraints in a row
  pub data Constraints : Type 0 where
    none : Constraints
    more : Constraint → Constraints → Constraints

-- a constructor of a datatype
pub record DataCtor : Type 0 where
  pub name : List ℕ
  pub fields : List Binder

-- a datatype with its number of parameters
pub record DataDecl : Type 0 where
  pub name : List ℕ
  pub vars : ℕ
  pub ctors : List DataCtor

-- what a function is defined as
pub record FunBody : Type 0 where
  pub args : List (List ℕ)
  pub expr : Expr

-- a function with its number of parameters; the source keeps those, the inputs and the output in a FunSort
pub record FunDef : Type 0 where
  pub name : List ℕ
  pub params : ℕ
  pub inputs : Sorts
  pub output : Sort
  pub body : Option FunBody

-- a KVar with the sorts of its arguments
pub record KVarDecl : Type 0 where
  pub kvid : List ℕ
  pub sorts : Sorts

-- the sections of a file, in their order
pub record Task : Type 0 where
  pub comments : List (List ℕ)
  pub datatypes : List DataDecl
  pub constants : List Binder
  pub functions : List FunDef
  pub kvars : List KVarDecl
  pub constraint : Constraint
