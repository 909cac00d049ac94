-- Whether an application's head is written with the output sort is told by its node.
use Rattle.std.specs.Prelude.{Ok, Err}
use mathlib.Core.Path.{◌≡◌, refl, sym, ap, ◌∙◌}
use mathlib.Core.Bool.{Bool, false}
use mathlib.Core.List.{List, [], ◌∷◌}
use Prim.Native.Nat.{ℕ, zero, suc}
use Rattle.smtlib.specs.Lexicon.{is_one}
use Rattle.task.specs.declared.Refusal.{Refusal}
use Rattle.task.specs.declared.ThyFunc.{ThyFunc}
use Rattle.task.specs.declared.ExprNode.{ExprNode}
use Rattle.task.specs.declared.ExprNode.TheVariants as expr_node
use Rattle.task.specs.Ast.{Expr, Exprs}
use Rattle.task.specs.Decode.{Res, got, refuse, bind, Decoder, many, counted, binder, given, dec_expr}
use Rattle.task.specs.Fault.{needs_sort}
use Rattle.task.specs.Node.{Answered, Bytes, expr_of, ExprAt}
use Rattle.task.proofs.Reading.{got_refuse}
use Rattle.task_check.proofs.Preds.{behind as behind_all}
use Rattle.smt_text.specs.Encoder.{Encoder, is_qualified}
use Rattle.names.specs.declared.Kind.TheVariants.{Constructor}
use Rattle.smt_sort.specs.Section.{declared_in, encoder_in}
use Rattle.smt_expr.specs.Parts.{TellsQualified}

-- whether an expression was decoded that is
abbrev qualified_in : Encoder → Res Expr → Bool
qualified_in enc (got h p) = is_qualified enc.declares h
qualified_in enc (refuse k) = false

module _ (enc : Encoder) where
  behind : {A : Type 0} (x : Res A) (k : A → ℕ → Res Expr) → ((a : A) (q : ℕ) → qualified_in enc (k a q) ≡ false) → qualified_in enc (bind x k) ≡ false
  behind = behind_all (qualified_in enc) (λ j. refl)

  module _ (s : List ℕ) (l : ℕ) (expr : Decoder Expr) where
    unqualified : (n : ExprNode) (p : ℕ) → ((x : Bytes) → n ≡ expr_node.Var x → ⊥) → ((f : ThyFunc) → n ≡ expr_node.ThyFunc f → ⊥) → qualified_in enc (expr_of s l expr (Ok (n, p))) ≡ false
    unfolding expr_of
    unqualified (expr_node.Numeral lo hi) p v f = refl
    unqualified (expr_node.Boolean b) p v f = refl
    unqualified (expr_node.Real n) p v f = refl
    unqualified (expr_node.String x) p v f = refl
    unqualified (expr_node.BitVec lo hi w) p v f = refl
    unqualified (expr_node.Var x) p v f = absurd (v x refl)
    unqualified expr_node.WKVar p v f = refl
    unqualified expr_node.Neg p v f = behind (expr s p) _ (λ e q. refl)
    unqualified expr_node.Not p v f = behind (expr s p) _ (λ e q. refl)
    unqualified (expr_node.BinaryOp o) p v f = behind (expr s p) _ (λ a q. behind (expr s q) _ (λ b r. refl))
    unqualified (expr_node.Atom r) p v f = behind (expr s p) _ (λ a q. behind (expr s q) _ (λ b r. refl))
    unqualified expr_node.Imp p v f = behind (expr s p) _ (λ a q. behind (expr s q) _ (λ b r. refl))
    unqualified expr_node.Iff p v f = behind (expr s p) _ (λ a q. behind (expr s q) _ (λ b r. refl))
    unqualified (expr_node.And n) p v f = behind (many Exprs.none Exprs.more expr n s p) _ (λ es q. refl)
    unqualified (expr_node.Or n) p v f = behind (many Exprs.none Exprs.more expr n s p) _ (λ es q. refl)
    unqualified expr_node.IfThenElse p v f = behind (expr s p) _ (λ a q. behind (expr s q) _ (λ b r. behind (expr s r) _ (λ c t. refl)))
    unqualified (expr_node.Let x) p v f = behind (expr s p) _ (λ a q. behind (expr s q) _ (λ b r. refl))
    unqualified (expr_node.App b) p v f =
        behind (given l b s p) _ (λ o q. behind (expr s q) _ (λ h r. behind (counted Exprs.none Exprs.more expr s r) _ (λ es t. refl)))
    unqualified (expr_node.ThyFunc f) p v g = absurd (g f refl)
    unqualified (expr_node.IsCtor x) p v f = behind (expr s p) _ (λ e q. refl)
    unqualified (expr_node.Quantifier q n) p v f = behind (many [] ◌∷◌ (binder l) n s p) _ (λ bs q. behind (expr s q) _ (λ e r. refl))

  -- what the node tells at every level is told of the expression
  told : (s : List ℕ) (at : ℕ) (n : Answered ExprNode) (t : Bool) → ExprAt s at n → ((l : ℕ) (h : Expr) (p : ℕ) → expr_of s l (dec_expr l) n ≡ got h p → t ≡ is_qualified enc.declares h)
      → TellsQualified enc s at t
  unfolding TellsQualified dec_expr
  told s at n t e f zero h p g = got_refuse (sym g)
  told s at n t e f (suc l) h p g = f l h p (sym (e.is l (dec_expr l)) ∙ g)

  pub tells_none : (s : List ℕ) (at : ℕ) (k : Refusal) (t : Bool) → ExprAt s at (Err k) → TellsQualified enc s at t
  unfolding expr_of
  tells_none s at k t e = told s at (Err k) t e (λ l h p g. got_refuse (sym g))

  module _ (s : List ℕ) (at : ℕ) (n : ExprNode) (q : ℕ) (e : ExprAt s at (Ok (n, q))) where
    pub tells_other : ((x : Bytes) → n ≡ expr_node.Var x → ⊥) → ((f : ThyFunc) → n ≡ expr_node.ThyFunc f → ⊥) → TellsQualified enc s at false
    tells_other v f = told s at (Ok (n, q)) false e (λ l h p g. sym (unqualified s l (dec_expr l) n q v f) ∙ ap (qualified_in enc) g)

    pub tells_func : (f : ThyFunc) (t : Bool) → n ≡ expr_node.ThyFunc f → t ≡ needs_sort f → TellsQualified enc s at t
    unfolding expr_of
    tells_func f t e' k = told s at (Ok (n, q)) t e (λ l h p g. k ∙ ap (qualified_in enc) (sym (ap (λ (n : ExprNode). expr_of s l (dec_expr l) (Ok (n, q))) e') ∙ g))

pub tells_var : (s enc : List ℕ) (at : ℕ) (n : ExprNode) (q : ℕ) (x : Bytes) (t : Bool) → ExprAt s at (Ok (n, q)) → n ≡ expr_node.Var x
    → t ≡ is_one x.now (declared_in s enc Constructor) → TellsQualified (encoder_in s enc) s at t
unfolding expr_of encoder_in declared_in
tells_var s enc at n q x t e e' k =
    told (encoder_in s enc) s at (Ok (n, q)) t e
    (λ l h p g. k ∙ ap (qualified_in (encoder_in s enc)) (sym (ap (λ (n : ExprNode). expr_of s l (dec_expr l) (Ok (n, q))) e') ∙ g))
