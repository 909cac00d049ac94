-- What the loops over a path and over predicates add up to: binders that are sent, guards that are sent and counted.
use mathlib.Core.Path.{◌≡◌, refl, sym, ap, ◌∙◌, subst}
use mathlib.Core.Bool.{Bool, true, false, cond, ◌&&◌}
use mathlib.Core.List.{List, [], ◌∷◌, ◌++◌, append-nil, append_assoc}
use Prim.Native.Nat.{ℕ, suc, ◌+◌, ◌-◌, ◌<◌, ◌≤◌}
use native.Mathlib.Numerals.{add-one}
use native.Mathlib.Omega.{arith}
use lib.Dec.{leb, eqb}
use lib.ListN.{length, drop, get_or, drop_of_length-le}
use lib.Seq.{drop-cons}
use borrow.Author.Tests.{leb-true, eqb-true}
use Rattle.task.specs.declared.Fault.{Fault}
use Rattle.task.specs.Ast.{Constant, Expr, Pred}
use Rattle.task.specs.Decode.{Res, got, refuse, number, many, counted, binder, dec_pred, deepest, flags, expr_forms, dec_expr, pred_forms}
use Rattle.task.specs.Fault.{binder_fault}
use Rattle.task.specs.Task.{literally_true}
use Rattle.smtlib.proofs.Bools.{clash}
use Rattle.task.proofs.Reading.{bind_got, got_refuse, coded_at}
use Rattle.task_check.specs.Walk.{walked, read_true}
use Rattle.task_check.proofs.Preds.{true_at, true_at_lem}
use Rattle.task_check.proofs.Rows.{refused_is}
use Rattle.smt_text.specs.Encoder.{Encoder}
use Rattle.smt_text.specs.Text.{spaced, write_binder, write_pred}
use Rattle.horn_text.specs.Clauses.{ForAll, kept, guards_of}
use Rattle.horn_text.specs.Script.{write_preds}
use Rattle.task.specs.Run.{Runs}
use Rattle.task.proofs.Running.{runs_end, Steps, Owing, owing_start, owing_more, owing_end}
use Rattle.output.specs.Emit.{Output, output, emit, emits, Sends}
use Rattle.output.proofs.Sent.{emits_append}
use Rattle.assertion.specs.Under.{for_all_at, on_path, vars_text, kept_text, guards_text, Listing, listing, lists}

-- PATHS

module _ {W : Type 0} {one : W → ForAll → W} {all : W → List ForAll → W} (steps : Steps [] ◌∷◌ one all) (s a : List ℕ) (first : W) where
  -- the loop over the offsets of a path: those from i on are left
  pub Along : ℕ → W → Type 0
  Along i w = Owing steps (on_path s a) first (on_path s (drop i a)) w

  pub along_start : Along 0 first
  unfolding Along
  along_start = owing_start steps (on_path s a) first

  pub along_more : (i : ℕ) (w w' : W) → i < length a → Along i w → Runs one (for_all_at s (get_or a i 0)) w w' 0 → Along (i + 1) w'
  unfolding Along on_path
  along_more i w w' g l u =
      let e : drop i a ≡ get_or a i 0 ∷ drop (i + 1) a = rw (add-one i) (drop-cons a i 0 g) in
      owing_more steps (on_path s a) first (for_all_at s (get_or a i 0)) (λ p. on_path s (drop (i + 1) a)) w w' 0 (subst (λ (os : List ℕ). Owing steps (on_path s a) first (on_path s os) w) e l) u

  pub along_end : (i : ℕ) (w : W) → length a ≤ i → Along i w → Runs all (on_path s a) first w 0
  unfolding Along on_path
  along_end i w g l =
      let e : drop i a ≡ [] = drop_of_length-le a {i = i} g in
      owing_end steps (on_path s a) first 0 w (subst (λ (os : List ℕ). Owing steps (on_path s a) first (on_path s os) w) e l)

-- ROWS OF PREDICATES

module _ {W : Type 0} {one : W → Pred → W} {all : W → List Pred → W} (steps : Steps [] ◌∷◌ one all) (s : List ℕ) (m at : ℕ) (first : W) where
  -- the loop over m predicates: i were gone through, and the others stand from p on
  pub Through : ℕ → ℕ → W → Type 0
  Through i p w = Owing steps (many [] ◌∷◌ (dec_pred deepest) m s at) first (many [] ◌∷◌ (dec_pred deepest) (m - i) s p) w

  pub through_start : Through 0 at first
  unfolding Through
  through_start = let e : m - 0 ≡ m = omega arith in rw e (owing_start steps (many [] ◌∷◌ (dec_pred deepest) m s at) first)

  module _ (i p : ℕ) (w : W) (h : Through i p w) where
    pub through_more : (w' : W) (q : ℕ) → i < m → Runs one (dec_pred deepest s p) w w' q → Through (i + 1) q w'
    unfolding Through
    through_more w' q l u =
        let e : m - i ≡ suc (m - (i + 1)) = omega arith in
        owing_more steps (many [] ◌∷◌ (dec_pred deepest) m s at) first (dec_pred deepest s p) (many [] ◌∷◌ (dec_pred deepest) (m - (i + 1)) s) w w' q (rw e at h) u

    pub through_end : m ≤ i → Runs all (many [] ◌∷◌ (dec_pred deepest) m s at) first w p
    unfolding Through
    through_end l =
        let e : m - i ≡ 0 = omega arith in
        owing_end steps (many [] ◌∷◌ (dec_pred deepest) m s at) first p w (rw e at h)

-- LISTS

same_listing : {o o' : Output} {n n' : ℕ} → o ≡ o' → n ≡ n' → ◌≡◌ {A = Listing} (record { out = o; count = n }) (record { out = o'; count = n' })
same_listing p q = λ i. record { out = p i; count = q i }

-- a predicate that is literally true adds nothing to a list, another itself
lists_one : (enc : Encoder) (w : Listing) (p : Pred) (t : Bool) → literally_true p ≡ t
    → lists enc w (p ∷ []) ≡ cond t w (record { out = emits (emit w.out 32) (write_pred enc p); count = w.count + 1 })
unfolding lists kept_text emits
lists_one enc w p true e = rw e (same_listing refl (omega arith))
lists_one enc w p false e = rw (e, emits_append) refl

-- BOOLEAN TRUE

-- its three bytes are decoded to it
true_decoded : (s : List ℕ) (at : ℕ) (a b c d : Bool) → leb (at + 3) (length s) ≡ a → eqb (get_or s at 0) 1 ≡ b → eqb (get_or s (at + 1) 0) 1 ≡ c → eqb (get_or s (at + 2) 0) 1 ≡ d
    → (a && b && c && d) ≡ true → dec_pred deepest s at ≡ got (Pred.expr (Expr.constant (Constant.boolean true))) (at + 3)
unfolding dec_pred dec_expr expr_forms
true_decoded s at true true true true ea eb ec ed t =
    let l : at + 3 ≤ length s = leb-true (at + 3) (length s) ea in
    let i : at + 1 + 1 ≡ at + 2 = omega arith in
    let j : at + 2 + 1 ≡ at + 3 = omega arith in
    rw (
      coded_at (pred_forms (dec_expr 255)) s at 1 (omega arith) (eqb-true (get_or s at 0) 1 eb),
      coded_at (expr_forms 254 (dec_expr 254)) s (at + 1) 1 (omega arith) (eqb-true (get_or s (at + 1) 0) 1 ec),
      i,
      coded_at flags s (at + 2) 1 (omega arith) (eqb-true (get_or s (at + 2) 0) 1 ed),
      j,
    )
true_decoded s at false b c d ea eb ec ed t = clash (cc)
true_decoded s at true false c d ea eb ec ed t = clash (cc)
true_decoded s at true true false d ea eb ec ed t = clash (cc)
true_decoded s at true true true false ea eb ec ed t = clash (cc)

-- they lie in the section
in_section : (a b : Bool) → (a && b) ≡ true → a ≡ true
in_section true b h = refl
in_section false b h = h

module _ (s : List ℕ) (at : ℕ) (t : Bool) (e : t ≡ read_true (dec_pred deepest s at)) (h : t ≡ true) where
  there : true_at s at ≡ true
  there = sym (true_at_lem deepest s at (omega arith)) ∙ sym e ∙ h

  pub true_room : at + 3 ≤ length s
  true_room = leb-true (at + 3) (length s) (in_section _ _ (in_section _ _ (in_section _ _ there)))

  stands : dec_pred deepest s at ≡ got (Pred.expr (Expr.constant (Constant.boolean true))) (at + 3)
  stands = true_decoded s at _ _ _ _ refl refl refl refl there

  -- so it is passed over: nothing is sent for it, and it is not counted
  pub true_listed : (enc : Encoder) (w : Listing) → Runs (λ v p. lists enc v (p ∷ [])) (dec_pred deepest s at) w w (at + 3)
  unfolding literally_true
  true_listed enc w =
      let p = Pred.expr (Expr.constant (Constant.boolean true)) in
      rw stands (runs_end (λ v q. lists enc v (q ∷ [])) w w (at + 3) p (at + 3) refl (sym (lists_one enc w p true refl)))

-- A PREDICATE

module _ (enc : Encoder) (x : Res Pred) (t : Bool) (e : t ≡ read_true x) where
  tested : (p : Pred) (q : ℕ) → x ≡ got p q → literally_true p ≡ t
  tested p q e' = sym (e ∙ ap read_true e')

  pub guard_other : (o o1 o2 : Output) (n q : ℕ) → t ≡ false → o1 ≡ emit o 32 → Sends (write_pred enc) x o1 o2 q
      → Runs (λ v p. lists enc v (p ∷ [])) x (record { out = o; count = n }) (record { out = o2; count = n + 1 }) q
  unfolding Sends
  guard_other o o1 o2 n q f e1 w p z e' =
      let v = w p z e' in
      (v.0, rw (v.1, e1) (sym (lists_one enc (record { out = o; count = n }) p false (tested p z e' ∙ f))))

-- SENT ONE BY ONE

pub spaced_append : (us vs : List (List ℕ)) → spaced (us ++ vs) ≡ spaced us ++ spaced vs
spaced_append [] vs = refl
spaced_append (u ∷ us) vs = ap (λ (w : List ℕ). 32 ∷ w) (ap (λ (w : List ℕ). u ++ w) (spaced_append us vs) ∙ sym (append_assoc u (spaced us) (spaced vs)))

pub preds_append : (enc : Encoder) (ps qs : List Pred) → write_preds enc (ps ++ qs) ≡ write_preds enc ps ++ write_preds enc qs
preds_append enc [] qs = refl
preds_append enc (p ∷ ps) qs = ap (λ (ws : List (List ℕ)). write_pred enc p ∷ ws) (preds_append enc ps qs)

module _ (enc : Encoder) where
  pub lists_steps : Steps [] ◌∷◌ (λ (w : Listing) (p : Pred). lists enc w (p ∷ [])) (lists enc)
  unfolding emits lists kept_text
  lists_steps = record { none = λ w. same_listing refl (omega arith); step = λ w p ps. step w p ps (literally_true p) refl }
    where
      step : (w : Listing) (p : Pred) (ps : List Pred) (t : Bool) → literally_true p ≡ t → lists enc w (p ∷ ps) ≡ lists enc (lists enc w (p ∷ [])) ps
      step w p ps true e = rw e (same_listing refl (omega arith))
      step w p ps false e = rw e (same_listing (simp emits_append) (omega arith))

  pub vars_steps : Steps [] ◌∷◌ (λ (o : Output) (f : ForAll). emits o (vars_text enc (f ∷ []))) (λ o fs. emits o (vars_text enc fs))
  unfolding emits vars_text
  vars_steps = record { none = λ o. refl; step = λ o f fs. rw (append-nil (write_binder enc f.binder)) (emits_append o (write_binder enc f.binder) _) }

  pub guards_steps : Steps [] ◌∷◌ (λ (o : Output) (f : ForAll). emits o (guards_text enc (f ∷ []))) (λ o fs. emits o (guards_text enc fs))
  unfolding emits guards_text
  guards_steps = record {
    none = λ o. refl;
    step = λ o f fs. rw (append-nil (kept f.preds), preds_append, spaced_append) (emits_append o (spaced (write_preds enc (kept f.preds))) (spaced (write_preds enc (guards_of fs))));
  }

-- AT AN OFFSET

-- a ForAll part by part: its binder, the number of its predicates, and these
pub record Parts (s : List ℕ) (o : ℕ) (f : ForAll) (z : ℕ) : Type 0 where
  pub p : ℕ
  pub n : ℕ
  pub q : ℕ
  pub r : ℕ
  pub binds : binder deepest s o ≡ got f.binder p
  pub counted_by : number 2 s p ≡ got n q
  pub holds : many [] ◌∷◌ (dec_pred deepest) n s q ≡ got f.preds r
  pub zero_is : z ≡ 0

pub parts : (s : List ℕ) (o : ℕ) (f : ForAll) (z : ℕ) → for_all_at s o ≡ got f z → Parts s o f z
unfolding for_all_at
parts s o f z e =
    let i = bind_got (binder deepest s o) _ f z e in
    let j = bind_got (counted [] ◌∷◌ (dec_pred deepest) s i.next) _ f z i.then in
    let k = bind_got (number 2 s i.next) (λ n p. many [] ◌∷◌ (dec_pred deepest) n s p) j.value j.next j.first in
    let g : ForAll = record { binder = i.value; preds = j.value } in
    let h : g ≡ f = cc in
    record {
      p = i.next;
      n = k.value;
      q = k.next;
      r = j.next;
      binds = i.first ∙ ap (λ (x : ForAll). got x.binder i.next) h;
      counted_by = k.first;
      holds = k.then ∙ ap (λ (x : ForAll). got x.preds j.next) h;
      zero_is = cc;
    }

-- its binder is sent
pub binder_runs : (enc : Encoder) (s : List ℕ) (o : ℕ) (w w' : Output) (q : ℕ) → Sends (write_binder enc) (binder deepest s o) w w' q
    → Sends (λ f. vars_text enc (f ∷ [])) (for_all_at s o) w w' 0
unfolding Sends vars_text
binder_runs enc s o w w' q u f z e =
    let i = parts s o f z e in
    (sym i.zero_is, (u f.binder i.p i.binds).1 ∙ rw (append-nil (write_binder enc f.binder)))

-- its predicates are run: behind the binder stands their number
module _ {W : Type 0} (all : W → List Pred → W) (s : List ℕ) (o : ℕ) (w w' : W) where
  pub own_unbound : (k : ℕ) → refuse k ≡ walked binder_fault (binder deepest s o) → Runs (λ z f. all z f.preds) (for_all_at s o) w w' 0
  own_unbound k e f z g =
      let i = parts s o f z g in
      got_refuse (sym i.binds ∙ refused_is binder_fault (binder deepest s o) k e)

  module _ (p : ℕ) (h : Fault) (e : got h p ≡ walked binder_fault (binder deepest s o)) where
    behind : (f : ForAll) (z : ℕ) (g : for_all_at s o ≡ got f z) → (parts s o f z g).p ≡ p
    behind f z g =
        let i = parts s o f z g in
        let x : got h p ≡ got (binder_fault f.binder) i.p = e ∙ ap (walked binder_fault) i.binds in
        cc

    pub own_uncounted : (k : ℕ) → number 2 s p ≡ refuse k → Runs (λ z f. all z f.preds) (for_all_at s o) w w' 0
    own_uncounted k u f z g =
        let i = parts s o f z g in
        got_refuse (sym i.counted_by ∙ ap (number 2 s) (behind f z g) ∙ u)

    pub own_runs : (n q : ℕ) → number 2 s p ≡ got n q → ((ps : List Pred) (r : ℕ) → many [] ◌∷◌ (dec_pred deepest) n s q ≡ got ps r → w' ≡ all w ps)
        → Runs (λ z f. all z f.preds) (for_all_at s o) w w' 0
    own_runs n q u k f z g =
        let i = parts s o f z g in
        let x : got n q ≡ got i.n i.q = sym u ∙ ap (number 2 s) (sym (behind f z g)) ∙ i.counted_by in
        let en : n ≡ i.n = cc in
        let eq : q ≡ i.q = cc in
        (sym i.zero_is, k f.preds i.r (rw (en, eq) i.holds))

-- what its guards were sent and counted as
module _ (enc : Encoder) (d : Res ForAll) (b b' : List ℕ) (n n' k k' r : ℕ) (u : Runs (λ v f. lists enc v f.preds) d (listing b n k) (listing b' n' k') r) where
  pub own_sent : Sends (λ f. guards_text enc (f ∷ [])) d (output b n) (output b' n') r
  unfolding Sends guards_text kept_text lists
  own_sent f p e = let v = u f p e in (v.0, ap (λ (w : Listing). w.out) v.1 ∙ rw (append-nil (kept f.preds)))

  pub own_counted : (f : ForAll) (p : ℕ) → d ≡ got f p → k' ≡ k + length (guards_of (f ∷ []))
  unfolding lists
  own_counted f p e = ap (λ (w : Listing). w.count) (u f p e).1 ∙ rw (append-nil (kept f.preds))
