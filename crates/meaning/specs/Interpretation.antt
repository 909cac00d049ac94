-- W-208. What an interpretation is: values for sorts, and truths of predicates.
use Rattle.std.specs.Prelude.{ℕ, ◌≡◌, Bool, true, cond, ◌||◌, List}
use Rattle.std.proofs.Math.Option.{Option, some}
use Rattle.smtlib.specs.Lexicon.{same}
use Rattle.task.specs.Ast.{Constant, Expr, Pred}
use Rattle.task.specs.Names.{free_in, free_among, tested_in, tested_among}

-- A name is free in a predicate: some Var has it, and no Let and no Quantifier around that Var binds it. The name of a KVar counts too, and that of a constructor which is
-- tested for: more names to depend on are more interpretations.
abbrev pub is_free : List ℕ → Pred → Bool
is_free x (Pred.kvar k es) = same x k || (free_among x es || tested_among x es)
is_free x (Pred.expr e) = free_in x e || tested_in x e

-- a value for each name, or none
abbrev pub Assignment : Type 0 → Type 0
Assignment Value = List ℕ → Option Value

-- the same with one name set to a value
abbrev pub assign : {Value : Type 0} → Assignment Value → List ℕ → Value → Assignment Value
assign a x v y = cond (same y x) (some v) (a y)

-- two assignments agree on the names free in a predicate
abbrev pub Agree : {Value : Type 0} → Pred → Assignment Value → Assignment Value → Type 0
Agree p a b = (x : List ℕ) → is_free x p ≡ true → a x ≡ b x

-- "An interpretation gives each sort, as the script writes it, a finite list of values and gives each expression or KVar predicate a truth"
pub record Interpretation (Value : Type 0) : Type 0 where
  -- of the text of a sort; there may be none
  pub values : List ℕ → List Value
  -- of a predicate, where the names have the assigned values
  pub truth : Pred → Assignment Value → Bool

-- "a truth that depends only on the names free in it"
abbrev pub ByFreeNames : {Value : Type 0} → Interpretation Value → Type 0
ByFreeNames {Value} i = (p : Pred) (a b : Assignment Value) → Agree p a b → i.truth p a ≡ i.truth p b

-- "with Boolean true true"
abbrev pub TrueIsTrue : {Value : Type 0} → Interpretation Value → Type 0
TrueIsTrue {Value} i = (a : Assignment Value) → i.truth (Pred.expr (Expr.constant (Constant.boolean true))) a ≡ true

-- both
pub record Lawful {Value : Type 0} (i : Interpretation Value) : Type 0 where
  pub free_names : ByFreeNames i
  pub boolean_true : TrueIsTrue i
