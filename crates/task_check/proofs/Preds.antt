-- What the steps of the predicate walker add up to, and whether a predicate is literally true.
use Rattle.std.specs.Prelude.{Ok, Err}
use mathlib.Core.Path.{◌≡◌, refl, sym, ap, ◌∙◌}
use mathlib.Core.Bool.{Bool, true, false, ◌&&◌}
use mathlib.Core.List.{List, [], ◌∷◌}
use mathlib.Core.Logic.{⊎_elim}
use Prim.Native.Nat.{ℕ, zero, suc, ◌+◌, ◌-◌, ◌≤◌, ◌<◌}
use native.Mathlib.Omega.{arith}
use lib.Dec.{eqb, leb}
use lib.ListN.{length, get_or, drop}
use borrow.Author.Tests.{le-leb, lt-leb, ne_eqb, eqb-true, eqb-false}
use Rattle.task.specs.declared.Fault.{Fault}
use Rattle.task.specs.declared.Fault.TheVariants.{Sound}
use Rattle.task.specs.declared.PredNode.{PredNode}
use Rattle.task.specs.declared.PredNode.TheVariants as pred_node
use Rattle.task.specs.Ast.{Constant, Expr, Exprs, Pred}
use Rattle.task.specs.Decode.{Res, got, refuse, bind, Decoder, refusal, number, name, text, many, counted, coded, bin_ops, bin_rels, thy_funcs, quantifiers, flags, flag, given, binder, expr_forms, pred_forms, dec_expr, dec_pred}
use Rattle.task.specs.Fault.{name_fault, expr_fault, exprs_fault, pred_fault}
use Rattle.task.specs.Task.{is_true, literally_true}
use Rattle.task.specs.declared.Refusal.{Refusal}
use Rattle.task.specs.Node.{Answered, Bytes, pred_of, PredAt}
use Rattle.task.specs.Refusals.{number_of}
use Rattle.task.proofs.Judging.{sound_lower}
use Rattle.task.proofs.Nodes.{pred_at}
use Rattle.task.proofs.Reading.{le_or_lt, coded_short, coded_at}
use Rattle.task_check.specs.Walk.{walked, after, read_true}
use Rattle.task_check.proofs.Exprs.{lasts}

-- a predicate by its node
module _ (l : ℕ) (s : List ℕ) (at : ℕ) where
  pub pred_none : l ≡ 0 → refuse 3 ≡ walked pred_fault (dec_pred l s at)
  unfolding dec_pred
  pred_none e = rw e

  module _ (z : l ≡ 0 → ⊥) where
    by_node : (n : Answered PredNode) → PredAt s at n → dec_pred l s at ≡ pred_of s (dec_expr (l - 1)) n
    by_node n h = pred_at l s at n n z h refl

    pub pred_refused : (r : Refusal) → PredAt s at (Err r) → refuse (number_of r) ≡ walked pred_fault (dec_pred l s at)
    unfolding pred_of
    pred_refused r h = rw (by_node (Err r) h)

    module _ (node : PredNode) (p : ℕ) (h : PredAt s at (Ok (node, p))) where
      pub kvar_walks : (x : Bytes) (n : ℕ) (f : Fault) (v w : Res Fault) → node ≡ pred_node.KVar x n → f ≡ name_fault x.now
          → v ≡ walked exprs_fault (many Exprs.none Exprs.more (dec_expr (l - 1)) n s p) → w ≡ after f v → w ≡ walked pred_fault (dec_pred l s at)
      unfolding pred_of pred_fault
      kvar_walks x n f v w e u i i' =
          rw (by_node (Ok (node, p)) h, e)
          (i' ∙ ap (after f) i ∙ lasts exprs_fault pred_fault (many Exprs.none Exprs.more (dec_expr (l - 1)) n s p) (Pred.kvar x.now) f (λ es. rw u))

      pub expr_walks : (v w : Res Fault) → node ≡ pred_node.Expr → v ≡ walked (expr_fault false) (dec_expr (l - 1) s p)
          → w ≡ after Sound v → w ≡ walked pred_fault (dec_pred l s at)
      unfolding pred_of pred_fault
      expr_walks v w e i i' =
          rw (by_node (Ok (node, p)) h, e)
          (i' ∙ ap (after Sound) i
          ∙ lasts (expr_fault false) pred_fault (dec_expr (l - 1) s p) Pred.expr Sound (λ a. sym (sound_lower (expr_fault false a))))

-- WHETHER A PREDICATE IS LITERALLY TRUE

-- decoders of which no answer passes a test
module _ {A : Type 0} (test : Res A → Bool) (none : (k : ℕ) → test (refuse k) ≡ false) where
  abbrev Fails : Decoder A → Type 0
  Fails d = (s : List ℕ) (at : ℕ) → test (d s at) ≡ false

  abbrev AllFail : List (Decoder A) → Type 0
  AllFail [] = Unit
  AllFail (d ∷ ds) = Fails d × AllFail ds

  at_fails : (ds : List (Decoder A)) → AllFail ds → (k : ℕ) → Fails (get_or ds k (refusal 2))
  at_fails [] t k = λ s at. none 2
  at_fails (d ∷ ds) t zero = t.0
  at_fails (d ∷ ds) t (suc k) = at_fails ds t.1 k

  pub behind : {B : Type 0} (x : Res B) (k : B → ℕ → Res A) → ((b : B) (q : ℕ) → test (k b q) ≡ false) → test (bind x k) ≡ false
  behind (got b q) k h = h b q
  behind (refuse j) k h = none j

-- an expression was decoded, and it is Boolean true
abbrev expr_true : Res Expr → Bool
expr_true (got e q) = is_true e
expr_true (refuse k) = false

never : {B : Type 0} (x : Res B) (k : B → ℕ → Res Expr) → ((b : B) (q : ℕ) → expr_true (k b q) ≡ false) → expr_true (bind x k) ≡ false
never = behind expr_true (λ j. refl)

-- no code but 1 is that of a Boolean
other_forms : (l : ℕ) (expr : Decoder Expr) (k : ℕ) → (k ≡ 1 → ⊥) → Fails expr_true (λ j. refl) (get_or (expr_forms l expr) k (refusal 2))
unfolding expr_forms
other_forms l expr zero z = λ s p. never (number 16 s p) _ (λ n q. refl)
other_forms l expr (suc zero) z = absurd (z refl)
other_forms l expr (suc (suc k)) z =
    let rest : AllFail expr_true (λ j. refl) (drop 2 (expr_forms l expr)) = (
      (λ s p. never (number 4 s p) _ (λ n q. refl)),
      (
        (λ s p. never (text s p) _ (λ t q. refl)),
        (
          (λ s p. never (number 16 s p) _ (λ n q. never (number 4 s q) _ (λ w r. refl))),
          (
            (λ s p. never (name s p) _ (λ x q. refl)),
            (
              (λ s p. refl),
              (
                (λ s p. never (expr s p) _ (λ e q. refl)),
                (
                  (λ s p. never (expr s p) _ (λ e q. refl)),
                  (
                    (λ s p. never (coded bin_ops s p) _ (λ o q. never (expr s q) _ (λ a r. never (expr s r) _ (λ b t. refl)))),
                    (
                      (λ s p. never (coded bin_rels s p) _ (λ o q. never (expr s q) _ (λ a r. never (expr s r) _ (λ b t. refl)))),
                      (
                        (λ s p. never (expr s p) _ (λ a q. never (expr s q) _ (λ b r. refl))),
                        (
                          (λ s p. never (expr s p) _ (λ a q. never (expr s q) _ (λ b r. refl))),
                          (
                            (λ s p. never (counted Exprs.none Exprs.more expr s p) _ (λ es q. refl)),
                            (
                              (λ s p. never (counted Exprs.none Exprs.more expr s p) _ (λ es q. refl)),
                              (
                                (λ s p. never (expr s p) _ (λ c q. never (expr s q) _ (λ a r. never (expr s r) _ (λ b t. refl)))),
                                (
                                  (λ s p. never (name s p) _ (λ x q. never (expr s q) _ (λ a r. never (expr s r) _ (λ b t. refl)))),
                                  (
                                    (λ s p. never (flag s p) _ (λ b q. never (given l b s q) _ (λ o r. never (expr s r) _ (λ h t. never (counted Exprs.none Exprs.more expr s t) _ (λ es u. refl))))),
                                    (
                                      (λ s p. never (coded thy_funcs s p) _ (λ f q. refl)),
                                      (
                                        (λ s p. never (name s p) _ (λ x q. never (expr s q) _ (λ e r. refl))),
                                        ((λ s p. never (coded quantifiers s p) _ (λ k q. never (counted [] ◌∷◌ (binder l) s q) _ (λ bs r. never (expr s r) _ (λ e t. refl)))), tt),
                                      ),
                                    ),
                                  ),
                                ),
                              ),
                            ),
                          ),
                        ),
                      ),
                    ),
                  ),
                ),
              ),
            ),
          ),
        ),
      ),
    ) in
    at_fails expr_true (λ j. refl) (drop 2 (expr_forms l expr)) rest k

kvar_fails : (expr : Decoder Expr) → Fails read_true (λ j. refl) (get_or (pred_forms expr) 0 (refusal 2))
unfolding literally_true
kvar_fails expr s p = behind read_true (λ j. refl) (name s p) _ (λ x q. behind read_true (λ j. refl) (counted Exprs.none Exprs.more expr s q) _ (λ es r. refl))

-- no code but 1 is that of an expression
other_preds : (expr : Decoder Expr) (k : ℕ) → (k ≡ 1 → ⊥) → Fails read_true (λ j. refl) (get_or (pred_forms expr) k (refusal 2))
other_preds expr zero z = kvar_fails expr
other_preds expr (suc zero) z = absurd (z refl)
other_preds expr (suc (suc k)) z = at_fails read_true (λ j. refl) [] tt k

true_in_pred : (x : Res Expr) → read_true (bind x (λ e q. got (Pred.expr e) q)) ≡ expr_true x
unfolding literally_true
true_in_pred (got e q) = refl
true_in_pred (refuse k) = refl

-- the three bytes of Boolean true as a predicate
abbrev pub true_at : List ℕ → ℕ → Bool
true_at s at = leb (at + 3) (length s) && eqb (get_or s at 0) 1 && eqb (get_or s (at + 1) 0) 1 && eqb (get_or s (at + 2) 0) 1

-- the test of them, as the code goes through it
module _ (s : List ℕ) (at : ℕ) where
  pub true_short : length s < at + 3 → false ≡ true_at s at
  true_short h = rw (lt-leb (at + 3) (length s) h)

  module _ (h : at + 3 ≤ length s) where
    pub true_first : (get_or s at 0 ≡ 1 → ⊥) → false ≡ true_at s at
    true_first n = rw (le-leb (at + 3) (length s) h, ne_eqb (get_or s at 0) 1 n)

    module _ (e : get_or s at 0 ≡ 1) where
      pub true_second : (get_or s (at + 1) 0 ≡ 1 → ⊥) → false ≡ true_at s at
      true_second n = rw (le-leb (at + 3) (length s) h, e, ne_eqb (get_or s (at + 1) 0) 1 n)

      pub true_third : get_or s (at + 1) 0 ≡ 1 → eqb (get_or s (at + 2) 0) 1 ≡ true_at s at
      true_third e' = rw (le-leb (at + 3) (length s) h, e, e')

  not_first : (get_or s at 0 ≡ 1 → ⊥) → false ≡ true_at s at
  not_first n = ⊎_elim (λ h. true_first h n) true_short (le_or_lt (at + 3) (length s))

  not_second : get_or s at 0 ≡ 1 → (get_or s (at + 1) 0 ≡ 1 → ⊥) → false ≡ true_at s at
  not_second e n = ⊎_elim (λ h. true_second h e n) true_short (le_or_lt (at + 3) (length s))

-- the flag of a Boolean
flag_true : (k : ℕ) (s : List ℕ) (p : ℕ) → expr_true (bind (get_or flags k (refusal 2) s p) (λ b q. got (Expr.constant (Constant.boolean b)) q)) ≡ eqb k 1
flag_true zero s p = refl
flag_true (suc zero) s p = refl
flag_true (suc (suc k)) s p = sym (ne_eqb (suc (suc k)) 1 (λ e. absurd (omega arith)))

-- a predicate is literally true where they stand, and nowhere else
module _ (m : ℕ) (s : List ℕ) (at : ℕ) where
  by_pred : (k : ℕ) → at < length s → get_or s at 0 ≡ k → read_true (dec_pred (suc (suc m)) s at) ≡ read_true (get_or (pred_forms (dec_expr (suc m))) k (refusal 2) s (at + 1))
  unfolding dec_pred
  by_pred k h e = ap read_true (coded_at (pred_forms (dec_expr (suc m))) s at k h e)

  by_expr : at < length s → get_or s at 0 ≡ 1 → read_true (dec_pred (suc (suc m)) s at) ≡ expr_true (dec_expr (suc m) s (at + 1))
  by_expr h e = by_pred 1 h e ∙ true_in_pred (dec_expr (suc m) s (at + 1))

  by_form : (k : ℕ) → at + 1 < length s → get_or s at 0 ≡ 1 → get_or s (at + 1) 0 ≡ k
      → read_true (dec_pred (suc (suc m)) s at) ≡ expr_true (get_or (expr_forms m (dec_expr m)) k (refusal 2) s (at + 1 + 1))
  unfolding dec_expr
  by_form k h e e' = by_expr (omega arith) e ∙ ap expr_true (coded_at (expr_forms m (dec_expr m)) s (at + 1) k h e')

  by_flag : at + 1 < length s → get_or s at 0 ≡ 1 → get_or s (at + 1) 0 ≡ 1 → read_true (dec_pred (suc (suc m)) s at) ≡ true_at s at
  unfolding expr_forms
  by_flag h e e' =
      let j : at + 1 + 1 ≡ at + 2 = omega arith in
      by_form 1 h e e'
      ∙ ⊎_elim
      (λ (g : length s ≤ at + 2). rw (j, coded_short flags s (at + 2) g) (true_short s at (omega arith)))
      (λ (g : at + 2 < length s). rw (j, coded_at flags s (at + 2) (get_or s (at + 2) 0) g refl) (flag_true (get_or s (at + 2) 0) s (at + 2 + 1) ∙ true_third s at (omega arith) e e'))
      (le_or_lt (length s) (at + 2))

  by_second : at < length s → get_or s at 0 ≡ 1 → read_true (dec_pred (suc (suc m)) s at) ≡ true_at s at
  unfolding dec_expr
  by_second h e =
      ⊎_elim
      (λ (g : length s ≤ at + 1). by_expr h e ∙ ap expr_true (coded_short (expr_forms m (dec_expr m)) s (at + 1) g) ∙ true_short s at (omega arith))
      (λ (g : at + 1 < length s). go (eqb (get_or s (at + 1) 0) 1) refl g)
      (le_or_lt (length s) (at + 1))
    where
      go : (v : Bool) → eqb (get_or s (at + 1) 0) 1 ≡ v → at + 1 < length s → read_true (dec_pred (suc (suc m)) s at) ≡ true_at s at
      go true u g = by_flag g e (eqb-true (get_or s (at + 1) 0) 1 u)
      go false u g =
          let n = eqb-false (get_or s (at + 1) 0) 1 u in
          by_form (get_or s (at + 1) 0) g e refl ∙ other_forms m (dec_expr m) (get_or s (at + 1) 0) n s (at + 1 + 1) ∙ not_second s at e n

  pub true_is : read_true (dec_pred (suc (suc m)) s at) ≡ true_at s at
  unfolding dec_pred
  true_is =
      ⊎_elim
      (λ (h : length s ≤ at). ap read_true (coded_short (pred_forms (dec_expr (suc m))) s at h) ∙ true_short s at (omega arith))
      (λ (h : at < length s). go (eqb (get_or s at 0) 1) refl h)
      (le_or_lt (length s) at)
    where
      go : (v : Bool) → eqb (get_or s at 0) 1 ≡ v → at < length s → read_true (dec_pred (suc (suc m)) s at) ≡ true_at s at
      go true u h = by_second h (eqb-true (get_or s at 0) 1 u)
      go false u h =
          let n = eqb-false (get_or s at 0) 1 u in
          by_pred (get_or s at 0) h refl ∙ other_preds (dec_expr (suc m)) (get_or s at 0) n s (at + 1) ∙ not_first s at n

-- `is_literally_true`, test by test
pub true_none : (l : ℕ) (s : List ℕ) (at : ℕ) → l < 2 → false ≡ read_true (dec_pred l s at)
unfolding dec_pred dec_expr
true_none zero s at h = refl
true_none (suc zero) s at h = sym (behind read_true (λ j. refl) (number 1 s at) _ (λ k q. at_fails read_true (λ j. refl) (pred_forms (dec_expr 0)) (kvar_fails (dec_expr 0), ((λ t p. refl), tt)) k s q))
true_none (suc (suc l)) s at h = absurd (omega arith)

pub true_at_lem : (l : ℕ) (s : List ℕ) (at : ℕ) → 2 ≤ l → read_true (dec_pred l s at) ≡ true_at s at
true_at_lem l s at h = let e : l ≡ suc (suc (l - 2)) = omega arith in rw e (true_is (l - 2) s at)
