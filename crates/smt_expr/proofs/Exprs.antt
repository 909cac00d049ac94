-- What the steps of the expression writers add up to.
use Rattle.std.specs.Prelude.{Ok, Err}
use mathlib.Core.Path.{◌≡◌, refl, sym, ap, ◌∙◌}
use mathlib.Core.Bool.{Bool, true, false, cond}
use mathlib.Core.List.{List, [], ◌∷◌}
use mathlib.Core.Option.{Option, none, some}
use Prim.Native.Nat.{ℕ, ◌+◌, ◌-◌, ◌*◌, ◌^◌}
use Rattle.smtlib.specs.Lexicon.{bytes}
use Rattle.smtlib.specs.Compose.{decimal}
use Rattle.task.specs.declared.BinOp.{BinOp}
use Rattle.task.specs.declared.BinRel.{BinRel}
use Rattle.task.specs.declared.BinRel.TheVariants as rel
use Rattle.task.specs.declared.Fault.{Fault}
use Rattle.task.specs.declared.Quantifier.{Quantifier}
use Rattle.task.specs.declared.Refusal.{Refusal}
use Rattle.task.specs.declared.ThyFunc.{ThyFunc}
use Rattle.task.specs.declared.ExprNode.{ExprNode}
use Rattle.task.specs.declared.ExprNode.TheVariants as expr_node
use Rattle.task.specs.Ast.{Sort, Constant, Expr, Exprs}
use Rattle.task.specs.Decode.{Res, got, refuse, bind, number, many, binder, given, dec_sort, dec_expr}
use Rattle.task.specs.Fault.{given_fault, expr_fault}
use Rattle.task.specs.Node.{Bytes, expr_of, ExprAt}
use Rattle.task.specs.Refusals.{number_of}
use Rattle.task.proofs.Reading.{bind_got}
use Rattle.task.proofs.Nodes.{expr_at}
use Rattle.task_check.specs.Walk.{walked}
use Rattle.task_check.proofs.Rows.{next_is, refused_is}
use Rattle.smt_text.specs.Encoder.{Encoder, is_qualified}
use Rattle.smt_text.specs.Text.{applied, write_name, write_string, write_boolean, write_constant, write_bin_op, write_quantifier, write_as, write_thy_func, write_application_head, write_sort, write_expr, write_exprs}
use Rattle.output.specs.Emit.{Output, emit, emits, Sends}
use Rattle.output.proofs.Sent.{emits_append}
use Rattle.output.proofs.Sending.{sends_refused, sends_end, sends_then, sends_map, Row, row_none, row_some}
use Rattle.smt_sort.specs.Section.{binder_list}
use Rattle.smt_expr.specs.Parts.{two, exprs_text, unary_text, binary_text, atom_text, nary_text, TellsQualified, HeadSends}

pub exprs_row : (enc : Encoder) → Row Exprs.none Exprs.more (write_expr enc) (write_exprs enc)
unfolding write_expr write_exprs
exprs_row enc = record { none = refl; step = λ e es. refl }

-- the same position under another name
pub ends_at : {A : Type 0} (text : A → List ℕ) (d : Res A) (o o' : Output) (r q : ℕ) → r ≡ q → Sends text d o o' q → Sends text d o o' r
ends_at text d o o' r q e w = rw e w

-- two operands one by one, and as a pair
pairs : {A B C : Type 0} (k : A → B → C) (x : Res A) (f : ℕ → Res B)
    → bind x (λ a q. bind (f q) (λ b r. got (k a b) r)) ≡ bind {A = A × B} (bind x (λ a q. bind (f q) (λ b r. got (a, b) r))) (λ ab r. got (k ab.0 ab.1) r)
pairs k (refuse j) f = refl
pairs {A} {B} k (got a q) f = go (f q)
  where
    go : (y : Res B) → bind y (λ b r. got (k a b) r) ≡ bind {A = A × B} (bind {B = A × B} y (λ b r. got (a, b) r)) (λ ab r. got (k ab.0 ab.1) r)
    go (got b r) = refl
    go (refuse j) = refl

pub pair_of : (k : Expr → Expr → Expr) (l : ℕ) (s : List ℕ) (p : ℕ)
    → bind (dec_expr l s p) (λ a q. bind (dec_expr l s q) (λ b r. got (k a b) r)) ≡ bind (two l s p) (λ ab r. got (k ab.0 ab.1) r)
pair_of k l s p = pairs k (dec_expr l s p) (dec_expr l s)

-- an expression by its node
module _ (enc : Encoder) (l : ℕ) (s : List ℕ) (at : ℕ) (o o' : Output) (r : ℕ) where
  pub expr_none : l ≡ 0 → Sends (write_expr enc) (dec_expr l s at) o o' r
  unfolding dec_expr
  expr_none e = rw e (sends_refused (write_expr enc) o o' r 3)

  module _ (z : l ≡ 0 → ⊥) where
    pub expr_refused : (k : Refusal) → ExprAt s at (Err k) → Sends (write_expr enc) (dec_expr l s at) o o' r
    unfolding expr_of
    expr_refused k h = rw (expr_at l s at (Err k) (Err k) z h refl) (sends_refused (write_expr enc) o o' r (number_of k))

    module _ (node : ExprNode) (p : ℕ) (h : ExprAt s at (Ok (node, p))) where
      pub expr_arm : (node' : ExprNode) → node ≡ node' → Sends (write_expr enc) (expr_of s (l - 1) (dec_expr (l - 1)) (Ok (node', p))) o o' r
          → Sends (write_expr enc) (dec_expr l s at) o o' r
      expr_arm node' e w = rw (expr_at l s at (Ok (node, p)) (Ok (node', p)) z h (ap (λ (n : ExprNode). Ok (n, p)) e)) w

      -- a node that is the whole expression
      leaf : (node' : ExprNode) (a : Expr) → node ≡ node' → expr_of s (l - 1) (dec_expr (l - 1)) (Ok (node', p)) ≡ got a p → (r ≡ p) × (o' ≡ emits o (write_expr enc a))
          → Sends (write_expr enc) (dec_expr l s at) o o' r
      leaf node' a e u v = expr_arm node' e (rw u (sends_end (write_expr enc) o o' r a p v.0 v.1))

      pub numeral_arm : (lo hi : ℕ) → node ≡ expr_node.Numeral lo hi → (r ≡ p) × (o' ≡ emits o (decimal (lo + 2 ^ 64 * hi))) → Sends (write_expr enc) (dec_expr l s at) o o' r
      unfolding expr_of write_expr
      numeral_arm lo hi e v = leaf _ (Expr.constant (Constant.numeral (lo + 2 ^ 64 * hi))) e refl v

      pub boolean_arm : (b : Bool) → node ≡ expr_node.Boolean b → (r ≡ p) × (o' ≡ emits o (write_boolean b)) → Sends (write_expr enc) (dec_expr l s at) o o' r
      unfolding expr_of write_expr
      boolean_arm b e v = leaf _ (Expr.constant (Constant.boolean b)) e refl v

      pub real_arm : (n : ℕ) → node ≡ expr_node.Real n → (r ≡ p) × (o' ≡ emits o (decimal n)) → Sends (write_expr enc) (dec_expr l s at) o o' r
      unfolding expr_of write_expr
      real_arm n e v = leaf _ (Expr.constant (Constant.real n)) e refl v

      pub string_arm : (x : Bytes) → node ≡ expr_node.String x → (r ≡ p) × (o' ≡ emits o (write_string x.now)) → Sends (write_expr enc) (dec_expr l s at) o o' r
      unfolding expr_of write_expr
      string_arm x e v = leaf _ (Expr.constant (Constant.string x.now)) e refl v

      pub bit_vec_arm : (lo hi w : ℕ) → node ≡ expr_node.BitVec lo hi w → (r ≡ p) × (o' ≡ emits o (write_constant (Constant.bit_vec (lo + 2 ^ 64 * hi) w))) → Sends (write_expr enc) (dec_expr l s at) o o' r
      unfolding expr_of write_expr
      bit_vec_arm lo hi w e v = leaf _ (Expr.constant (Constant.bit_vec (lo + 2 ^ 64 * hi) w)) e refl v

      pub var_arm : (x : Bytes) → node ≡ expr_node.Var x → (r ≡ p) × (o' ≡ emits o (write_name x.now)) → Sends (write_expr enc) (dec_expr l s at) o o' r
      unfolding expr_of write_expr
      var_arm x e v = leaf _ (Expr.var x.now) e refl v

      pub wk_var_arm : node ≡ expr_node.WKVar → r ≡ p → o' ≡ o → Sends (write_expr enc) (dec_expr l s at) o o' r
      unfolding expr_of write_expr emits
      wk_var_arm e u v = leaf _ Expr.wk_var e refl (u, v)

      pub thy_func_arm : (f : ThyFunc) → node ≡ expr_node.ThyFunc f → (r ≡ p) × (o' ≡ emits o (write_thy_func enc.names f)) → Sends (write_expr enc) (dec_expr l s at) o o' r
      unfolding expr_of write_expr
      thy_func_arm f e v = leaf _ (Expr.thy_func f) e refl v

      -- a node whose parts are written by another function
      parts : {A : Type 0} (text : A → List ℕ) (k : A → Expr) (x : Res A) (node' : ExprNode) → node ≡ node'
          → expr_of s (l - 1) (dec_expr (l - 1)) (Ok (node', p)) ≡ bind x (λ a q. got (k a) q) → ((a : A) → write_expr enc (k a) ≡ text a) → Sends text x o o' r
          → Sends (write_expr enc) (dec_expr l s at) o o' r
      parts text k x node' e u t w =
          expr_arm node' e
          (rw u (sends_then (write_expr enc) o o' r text x _ o o' r w (λ a e' v. sends_end (write_expr enc) o o' r (k a) r refl (v ∙ ap (emits o) (sym (t a))))))

      pub neg_arm : node ≡ expr_node.Neg → Sends (unary_text enc (bytes "-")) (dec_expr (l - 1) s p) o o' r → Sends (write_expr enc) (dec_expr l s at) o o' r
      unfolding expr_of write_expr unary_text
      neg_arm e w = parts _ Expr.neg _ _ e refl (λ a. refl) w

      pub not_arm : node ≡ expr_node.Not → Sends (unary_text enc (bytes "not")) (dec_expr (l - 1) s p) o o' r → Sends (write_expr enc) (dec_expr l s at) o o' r
      unfolding expr_of write_expr unary_text
      not_arm e w = parts _ Expr.not _ _ e refl (λ a. refl) w

      pub binary_op_arm : (k : BinOp) → node ≡ expr_node.BinaryOp k → Sends (binary_text enc (write_bin_op k)) (two (l - 1) s p) o o' r → Sends (write_expr enc) (dec_expr l s at) o o' r
      unfolding expr_of write_expr binary_text
      binary_op_arm k e w = parts _ (λ ab. Expr.binary_op k ab.0 ab.1) _ _ e (pair_of (Expr.binary_op k) _ _ _) (λ ab. refl) w

      pub atom_arm : (k : BinRel) → node ≡ expr_node.Atom k → Sends (atom_text enc k) (two (l - 1) s p) o o' r → Sends (write_expr enc) (dec_expr l s at) o o' r
      unfolding expr_of write_expr atom_text
      atom_arm k e w = parts _ (λ ab. Expr.atom k ab.0 ab.1) _ _ e (pair_of (Expr.atom k) _ _ _) (λ ab. refl) w

      pub imp_arm : node ≡ expr_node.Imp → Sends (binary_text enc (bytes "=>")) (two (l - 1) s p) o o' r → Sends (write_expr enc) (dec_expr l s at) o o' r
      unfolding expr_of write_expr binary_text
      imp_arm e w = parts _ (λ ab. Expr.imp ab.0 ab.1) _ _ e (pair_of (Expr.imp) _ _ _) (λ ab. refl) w

      pub iff_arm : node ≡ expr_node.Iff → Sends (binary_text enc (bytes "=")) (two (l - 1) s p) o o' r → Sends (write_expr enc) (dec_expr l s at) o o' r
      unfolding expr_of write_expr binary_text
      iff_arm e w = parts _ (λ ab. Expr.iff ab.0 ab.1) _ _ e (pair_of (Expr.iff) _ _ _) (λ ab. refl) w

      pub and_arm : (n : ℕ) → node ≡ expr_node.And n → Sends (nary_text enc (bytes "and") (bytes "true")) (many Exprs.none Exprs.more (dec_expr (l - 1)) n s p) o o' r
          → Sends (write_expr enc) (dec_expr l s at) o o' r
      unfolding expr_of write_expr nary_text
      and_arm n e w = parts _ Expr.and _ _ e refl (λ es. refl) w

      pub or_arm : (n : ℕ) → node ≡ expr_node.Or n → Sends (nary_text enc (bytes "or") (bytes "false")) (many Exprs.none Exprs.more (dec_expr (l - 1)) n s p) o o' r
          → Sends (write_expr enc) (dec_expr l s at) o o' r
      unfolding expr_of write_expr nary_text
      or_arm n e w = parts _ Expr.or _ _ e refl (λ es. refl) w

module _ (enc : Encoder) (s : List ℕ) (l p : ℕ) (o : Output) where
  pub unary_sends : (op : List ℕ) (o1 o2 o3 o4 o5 : Output) (q : ℕ) → o1 ≡ emit o 40 → o2 ≡ emits o1 op → o3 ≡ emit o2 32
      → Sends (write_expr enc) (dec_expr l s p) o3 o4 q → o5 ≡ emit o4 41 → Sends (unary_text enc op) (dec_expr l s p) o o5 q
  unfolding unary_text Sends emits
  unary_sends op o1 o2 o3 o4 o5 q e1 e2 e3 w e5 a u e =
      let v = w a u e in
      (v.0, rw (e5, v.1, e3, e2, e1) (simp emits_append))

  pub binary_sends : (op : List ℕ) (o1 o2 o3 o4 o5 o6 o7 : Output) (q r : ℕ) → o1 ≡ emit o 40 → o2 ≡ emits o1 op → o3 ≡ emit o2 32
      → Sends (write_expr enc) (dec_expr l s p) o3 o4 q → o5 ≡ emit o4 32 → Sends (write_expr enc) (dec_expr l s q) o5 o6 r → o7 ≡ emit o6 41
      → Sends (binary_text enc op) (two l s p) o o7 r
  unfolding binary_text emits
  binary_sends op o1 o2 o3 o4 o5 o6 o7 q r e1 e2 e3 w e5 w' e7 =
      sends_then (binary_text enc op) o o7 r (write_expr enc) (dec_expr l s p) _ o3 o4 q w (λ a e v.
      sends_then (binary_text enc op) o o7 r (write_expr enc) (dec_expr l s q) _ o5 o6 r w' (λ b e' v'.
      sends_end (binary_text enc op) o o7 r (a, b) r refl (rw (e7, v', e5, v, e3, e2, e1) (simp emits_append))))

  -- a relation by its code
  pub rel_is : (k k' : BinRel) (o' : Output) (r : ℕ) → k ≡ k' → Sends (atom_text enc k') (two l s p) o o' r → Sends (atom_text enc k) (two l s p) o o' r
  rel_is k k' o' r e w = rw e w

  pub ne_sends : (o1 o2 o3 : Output) (q : ℕ) → o1 ≡ emits o (bytes "(not ") → Sends (binary_text enc (bytes "=")) (two l s p) o1 o2 q → o3 ≡ emit o2 41
      → Sends (atom_text enc rel.Ne) (two l s p) o o3 q
  unfolding atom_text binary_text Sends emits
  ne_sends o1 o2 o3 q e1 w e3 a u e =
      let v = w a u e in
      (v.0, rw (e3, v.1, e1) (simp emits_append))

  pub ite_sends : (o1 o2 o3 o4 o5 o6 o7 : Output) (q r t : ℕ) → o1 ≡ emits o (bytes "(ite ") → Sends (write_expr enc) (dec_expr l s p) o1 o2 q → o3 ≡ emit o2 32
      → Sends (write_expr enc) (dec_expr l s q) o3 o4 r → o5 ≡ emit o4 32 → Sends (write_expr enc) (dec_expr l s r) o5 o6 t → o7 ≡ emit o6 41
      → Sends (write_expr enc) (expr_of s l (dec_expr l) (Ok (expr_node.IfThenElse, p))) o o7 t
  unfolding expr_of write_expr emits
  ite_sends o1 o2 o3 o4 o5 o6 o7 q r t e1 w e3 w' e5 w'' e7 =
      sends_then (write_expr enc) o o7 t (write_expr enc) (dec_expr l s p) _ o1 o2 q w (λ a e v.
      sends_then (write_expr enc) o o7 t (write_expr enc) (dec_expr l s q) _ o3 o4 r w' (λ b e' v'.
      sends_then (write_expr enc) o o7 t (write_expr enc) (dec_expr l s r) _ o5 o6 t w'' (λ c e'' v''.
      sends_end (write_expr enc) o o7 t (Expr.if_then_else a b c) t refl (rw (e7, v'', e5, v', e3, v, e1) (simp emits_append)))))

  pub let_sends : (x : Bytes) (o1 o2 o3 o4 o5 o6 o7 : Output) (q r : ℕ) → o1 ≡ emits o (bytes "(let ((") → o2 ≡ emits o1 x.now → o3 ≡ emit o2 32
      → Sends (write_expr enc) (dec_expr l s p) o3 o4 q → o5 ≡ emits o4 (bytes ")) ") → Sends (write_expr enc) (dec_expr l s q) o5 o6 r → o7 ≡ emit o6 41
      → Sends (write_expr enc) (expr_of s l (dec_expr l) (Ok (expr_node.Let x, p))) o o7 r
  unfolding expr_of write_name write_expr emits
  let_sends x o1 o2 o3 o4 o5 o6 o7 q r e1 e2 e3 w e5 w' e7 =
      sends_then (write_expr enc) o o7 r (write_expr enc) (dec_expr l s p) _ o3 o4 q w (λ a e v.
      sends_then (write_expr enc) o o7 r (write_expr enc) (dec_expr l s q) _ o5 o6 r w' (λ b e' v'.
      sends_end (write_expr enc) o o7 r (Expr.let_in x.now a b) r refl (rw (e7, v', e5, v, e3, e2, e1) (simp emits_append))))

  pub is_ctor_sends : (x : Bytes) (o1 o2 o3 o4 o5 : Output) (q : ℕ) → o1 ≡ emits o (bytes "((_ is ") → o2 ≡ emits o1 x.now → o3 ≡ emits o2 (bytes ") ")
      → Sends (write_expr enc) (dec_expr l s p) o3 o4 q → o5 ≡ emit o4 41 → Sends (write_expr enc) (expr_of s l (dec_expr l) (Ok (expr_node.IsCtor x, p))) o o5 q
  unfolding expr_of write_name write_expr emits
  is_ctor_sends x o1 o2 o3 o4 o5 q e1 e2 e3 w e5 =
      sends_then (write_expr enc) o o5 q (write_expr enc) (dec_expr l s p) _ o3 o4 q w (λ a e v.
      sends_end (write_expr enc) o o5 q (Expr.is_ctor x.now a) q refl (rw (e5, v, e3, e2, e1) (simp emits_append)))

  pub quantifier_sends : (k : Quantifier) (n : ℕ) (o1 o2 o3 o4 o5 o6 : Output) (q r : ℕ) → o1 ≡ emits o (40 ∷ write_quantifier k) → o2 ≡ emit o1 32
      → Sends (binder_list enc) (many [] ◌∷◌ (binder l) n s p) o2 o3 q → o4 ≡ emit o3 32 → Sends (write_expr enc) (dec_expr l s q) o4 o5 r → o6 ≡ emit o5 41
      → Sends (write_expr enc) (expr_of s l (dec_expr l) (Ok (expr_node.Quantifier k n, p))) o o6 r
  unfolding expr_of write_expr binder_list emits
  quantifier_sends k n o1 o2 o3 o4 o5 o6 q r e1 e2 w e4 w' e6 =
      sends_then (write_expr enc) o o6 r (binder_list enc) (many [] ◌∷◌ (binder l) n s p) _ o2 o3 q w (λ bs e v.
      sends_then (write_expr enc) o o6 r (write_expr enc) (dec_expr l s q) _ o4 o5 r w' (λ a e' v'.
      sends_end (write_expr enc) o o6 r (Expr.quantifier k bs a) r refl (rw (e6, v', e4, v, e2, e1) (simp emits_append))))

-- an application's head: with the output sort, and without
module _ (enc : Encoder) (s : List ℕ) (l from at : ℕ) (has : Bool) (o : Output) where
  pub as_sends : (t : Bool) (o1 o2 o3 o4 o5 : Output) (q r : ℕ) → has ≡ true → TellsQualified enc s at t → t ≡ true → o1 ≡ emits o (bytes "(as ")
      → Sends (write_expr enc) (dec_expr l s at) o1 o2 q → o3 ≡ emit o2 32 → Sends (write_sort enc) (dec_sort l s from) o3 o4 r → o5 ≡ emit o4 41
      → HeadSends enc (given l has s from) (dec_expr l s at) o o5 q
  unfolding HeadSends TellsQualified write_application_head Sends emits
  as_sends t o1 o2 o3 o4 o5 q r e k e' e1 w e3 w' e5 b u eb h p eh =
      let i = bind_got (dec_sort l s from) (λ c v. got (some c) v) b u (rw e at eb) in
      let v = w h p eh in
      let v' = w' i.value i.next i.first in
      let eq : is_qualified enc.declares h ≡ true = sym (k l h p eh) ∙ e' in
      let es : b ≡ some i.value = let z = i.then in cc in
      (v.0, rw (eq, es, e5, v'.1, e3, v.1, e1) (simp emits_append))

  pub plain_sends : (o' : Output) (q : ℕ) → ((h : Expr) (b : Option Sort) (p u : ℕ) → dec_expr l s at ≡ got h p → given l has s from ≡ got b u → write_application_head enc h (write_expr enc h) b ≡ write_expr enc h)
      → Sends (write_expr enc) (dec_expr l s at) o o' q → HeadSends enc (given l has s from) (dec_expr l s at) o o' q
  unfolding HeadSends Sends
  plain_sends o' q f w b u eb h p eh =
      let v = w h p eh in
      (v.0, v.1 ∙ ap (emits o) (sym (f h b p u eh eb)))

  pub unqualified_sends : (t : Bool) (o' : Output) (q : ℕ) → TellsQualified enc s at t → t ≡ false → Sends (write_expr enc) (dec_expr l s at) o o' q
      → HeadSends enc (given l has s from) (dec_expr l s at) o o' q
  unfolding TellsQualified write_application_head
  unqualified_sends t o' q k e w = plain_sends o' q (λ h b p u eh eb. let eq : is_qualified enc.declares h ≡ false = sym (k l h p eh) ∙ e in rw eq) w

  pub unsorted_sends : (o' : Output) (q : ℕ) → has ≡ false → Sends (write_expr enc) (dec_expr l s at) o o' q
      → HeadSends enc (given l has s from) (dec_expr l s at) o o' q
  unfolding write_application_head
  unsorted_sends o' q e w = plain_sends o' q (λ h b p u eh eb. bare h b u (rw e at eb)) w
    where
      same : {A : Type 0} (t : Bool) (w : A) → cond t w w ≡ w
      same true w = refl
      same false w = refl

      bare : (h : Expr) (b : Option Sort) (u : ℕ) → got none from ≡ got b u → cond (is_qualified enc.declares h) (write_as enc (write_expr enc h) b) (write_expr enc h) ≡ write_expr enc h
      bare h b u eb = let es : b ≡ none = cc in rw es (same (is_qualified enc.declares h) (write_expr enc h))

-- an application: what its parts come to
module _ (enc : Encoder) (s : List ℕ) (l : ℕ) (has : Bool) (p : ℕ) (o : Output) where
  pub no_sort : (k : ℕ) (o' : Output) (r : ℕ) → refuse k ≡ walked given_fault (given l has s p) → Sends (write_expr enc) (expr_of s l (dec_expr l) (Ok (expr_node.App has, p))) o o' r
  unfolding expr_of
  no_sort k o' r h = rw (refused_is given_fault (given l has s p) k h) (sends_refused (write_expr enc) o o' r k)

  module _ (q : ℕ) (f : Fault) (hf : got f q ≡ walked given_fault (given l has s p)) where
    pub no_head : (k : ℕ) (o' : Output) (r : ℕ) → refuse k ≡ walked (expr_fault has) (dec_expr l s q) → Sends (write_expr enc) (expr_of s l (dec_expr l) (Ok (expr_node.App has, p))) o o' r
    unfolding expr_of
    no_head k o' r h =
        let y = next_is given_fault (given l has s p) q f hf in
        rw (y.is, refused_is (expr_fault has) (dec_expr l s q) k h) (sends_refused (write_expr enc) o o' r k)

    module _ (t : ℕ) (g : Fault) (hg : got g t ≡ walked (expr_fault has) (dec_expr l s q)) where
      pub no_count : (k : ℕ) (o' : Output) (r : ℕ) → number 2 s t ≡ refuse k → Sends (write_expr enc) (expr_of s l (dec_expr l) (Ok (expr_node.App has, p))) o o' r
      unfolding expr_of
      no_count k o' r h =
          let y = next_is given_fault (given l has s p) q f hf in
          let z = next_is (expr_fault has) (dec_expr l s q) t g hg in
          rw (y.is, z.is, h) (sends_refused (write_expr enc) o o' r k)

      module _ (n u : ℕ) (hn : number 2 s t ≡ got n u) where
        -- its arguments, by the head's text
        by_args : (o' : Output) (r : ℕ)
            → ((b : Option Sort) (h : Expr) → given l has s p ≡ got b q → dec_expr l s q ≡ got h t
            → Sends (λ es. applied (write_application_head enc h (write_expr enc h) b) (write_exprs enc es)) (many Exprs.none Exprs.more (dec_expr l) n s u) o o' r)
            → Sends (write_expr enc) (expr_of s l (dec_expr l) (Ok (expr_node.App has, p))) o o' r
        unfolding expr_of write_expr
        by_args o' r k =
            let y = next_is given_fault (given l has s p) q f hf in
            let z = next_is (expr_fault has) (dec_expr l s q) t g hg in
            rw (y.is, z.is, hn)
            (sends_map (write_expr enc) (λ es. Expr.app z.value es y.value) (many Exprs.none Exprs.more (dec_expr l) n s u) o o' r
            (k y.value z.value y.is z.is))

        pub bare_sends : (o' : Output) (r : ℕ) → n ≡ 0 → HeadSends enc (given l has s p) (dec_expr l s q) o o' r
            → Sends (write_expr enc) (expr_of s l (dec_expr l) (Ok (expr_node.App has, p))) o o' u
        unfolding HeadSends Sends
        bare_sends o' r e k =
            by_args o' u (λ b h eb eh.
            row_none (exprs_row enc) (dec_expr l) s (applied (write_application_head enc h (write_expr enc h) b)) n u o o' u e (refl, (k b q eb h t eh).1))

        pub app_sends : (o1 o2 o3 o4 : Output) (r r' z : ℕ) → (n ≡ 0 → ⊥) → o1 ≡ emit o 40 → HeadSends enc (given l has s p) (dec_expr l s q) o1 o2 r
            → Sends (exprs_text enc) (many Exprs.none Exprs.more (dec_expr l) n s u) o2 o3 r' → (z ≡ r') × (o4 ≡ emit o3 41)
            → Sends (write_expr enc) (expr_of s l (dec_expr l) (Ok (expr_node.App has, p))) o o4 z
        unfolding HeadSends Sends exprs_text emits
        app_sends o1 o2 o3 o4 r r' z e e1 k w' e4 =
            by_args o4 z (λ b h eb eh.
            ends_at (λ es. applied (write_application_head enc h (write_expr enc h) b) (write_exprs enc es)) (many Exprs.none Exprs.more (dec_expr l) n s u) o o4 z r' e4.0
            (row_some (exprs_row enc) (dec_expr l) s (applied (write_application_head enc h (write_expr enc h) b)) n u (write_application_head enc h (write_expr enc h) b)
            o o1 o2 o3 o4 r' (λ w ws. refl) e e1 (k b q eb h t eh).1 w' e4.1))
