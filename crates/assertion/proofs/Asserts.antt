-- What the writers of an assertion send adds up to its text.
use mathlib.Core.Path.{◌≡◌, refl, sym, ap, ◌∙◌}
use mathlib.Core.Bool.{Bool, true, false, not, ◌&&◌}
use mathlib.Core.List.{List, [], ◌∷◌, ◌++◌, append-nil}
use Prim.Native.Nat.{ℕ, zero, suc, ◌+◌, ◌-◌, ◌/◌, ◌≤◌, min}
use native.Mathlib.Omega.{arith}
use lib.Dec.{leb, ltb, eqb}
use lib.ListN.{length, take, drop, get_or, length-take, length-drop}
use lib.Seq.{take-take}
use borrow.Author.Tests.{leb-true, lt-ltb, ltb-true, ltb-false, eqb-true, eqb-false, ne_eqb}
use Rattle.smtlib.specs.Lexicon.{bytes}
use Rattle.smtlib.specs.Compose.{paren}
use Rattle.smtlib.proofs.Bools.{clash}
use Rattle.task.specs.Ast.{Exprs, Pred}
use Rattle.task.specs.Decode.{Res, got, counted, name, pred_forms, dec_expr, dec_pred}
use Rattle.task.proofs.Reading.{bind_got, got_refuse, coded_short, coded_at, coded_beyond}
use Rattle.smt_text.specs.Encoder.{Encoder}
use Rattle.smt_text.specs.Text.{spaced, sexp_list, write_unary, write_binary, write_binder, write_expr, write_pred}
use Rattle.horn_text.specs.Clauses.{ForAll, guards_of}
use Rattle.horn_text.specs.Script.{write_preds, write_guard_conjunction, write_implication, write_assert}
use Rattle.output.specs.Emit.{Output, output, most, emits, Sends}
use Rattle.output.proofs.Sent.{emits_append, emits_sets, sent_out}
use Rattle.assertion.specs.declared.Form.{Form}
use Rattle.assertion.specs.declared.Kept as code
use Rattle.assertion.specs.Under.{for_all_at, on_path, vars_text, guards_text, kvar_at, form_of, opening_text, implies_text, group_text, ungroup_text, before_text, behind_text, end_text, head_text, assert_text, HeadSends}
use Rattle.assertion.specs.Kept.{fits, guards_in, Numbers, MeasuredSends, KeptSends}
use Rattle.assertion.proofs.Guards.{spaced_append}

-- THE TEXT, PIECE BY PIECE

-- whether a predicate is a KVar, and whether there are ForAlls
abbrev is_kvar : Pred → Bool
is_kvar (Pred.kvar k es) = true
is_kvar (Pred.expr e) = false

abbrev some : List ForAll → Bool
some [] = false
some (f ∷ fs) = true

-- guards with what stands round them
abbrev grouped : Encoder → Bool → ℕ → List Pred → List ℕ
grouped enc kvar n gs = group_text kvar n ++ (spaced (write_preds enc gs) ++ ungroup_text kvar n)

-- sent one after the other
pub grouped_by : (kvar : Bool) (c : ℕ) (g : List ℕ) (o o1 o2 o3 : Output) → o1 ≡ emits o (group_text kvar c) → o2 ≡ emits o1 g → o3 ≡ emits o2 (ungroup_text kvar c)
    → o3 ≡ emits o (group_text kvar c ++ (g ++ ungroup_text kvar c))
grouped_by kvar c g o o1 o2 o3 e1 e2 e3 = rw (e3, e2, e1) (simp emits_append)

-- the bytes of the guards in the text
pub guards_between : (text : List ℕ) (k : code.Kept) (o o' : Output) → o' ≡ emits o (take (length text / 2 + k.guards - length text / 2) (drop (length text / 2) text)) → o' ≡ emits o (guards_in text k)
guards_between text k o o' w = let e : length text / 2 + k.guards - length text / 2 ≡ k.guards = omega arith in rw e at w

-- those of a KVar head
group_kvar : (enc : Encoder) (gs : List Pred) (n : ℕ) → n ≡ length gs → 32 ∷ write_guard_conjunction enc gs ≡ grouped enc true n gs
unfolding group_text ungroup_text
group_kvar enc [] n h = rw h
group_kvar enc (g ∷ []) n h = rw (h, append-nil (write_pred enc g ++ [])) (ap (λ (w : List ℕ). 32 ∷ w) (sym (append-nil (write_pred enc g))))
group_kvar enc (g ∷ k ∷ gs) n h = rw (ne_eqb n 0 (λ y. absurd (omega arith)), ne_eqb n 1 (λ y. absurd (omega arith)), lt-ltb 1 n (omega arith))

-- those of an expression head with its negation
negation_text : (o : Output) (ws : List (List ℕ)) (x : List ℕ) → emits o (32 ∷ sexp_list (bytes "and" ∷ (ws ++ write_unary (bytes "not") x ∷ [])))
    ≡ emits (emits (emits (emits (emits o (bytes " (and")) (spaced ws)) (bytes " (not ")) x) (bytes "))")
unfolding emits
negation_text o ws x =
    ap (λ (z : List ℕ). emits o (32 ∷ 40 ∷ (bytes "and" ++ z) ++ 41 ∷ [])) (spaced_append ws (write_unary (bytes "not") x ∷ []))
    ∙ simp emits_append

-- false from something
implied_false : (o : Output) (w : List ℕ) → emits o (write_binary (bytes "=>") w (bytes "false")) ≡ emits (emits (emits o (bytes "(=>")) (32 ∷ w)) (bytes " false)")
unfolding emits
implied_false o w = simp emits_append

-- the form of an assertion
abbrev form : Bool → Bool → ℕ → Form
form kvar bound n = record { kvar = kvar; bound = bound; count = n }

-- an implication, with what closes the assertion behind it
implies_head : (enc : Encoder) (n : ℕ) (o : Output) (bound : Bool) (gs : List Pred) (p : Pred) → n ≡ length gs
    → emits (emits o (write_implication enc gs p)) (end_text bound)
    ≡ emits (emits (emits o (bytes "(=>")) (grouped enc (is_kvar p) n gs)) (head_text enc (form (is_kvar p) bound n) p)
unfolding emits write_implication group_text ungroup_text head_text before_text behind_text write_pred
implies_head enc n o bound gs (Pred.kvar k es) h = rw (← group_kvar enc gs n h) (simp emits_append)
implies_head enc n o bound [] (Pred.expr e) h = rw h (simp emits_append)
implies_head enc n o bound (g ∷ gs) (Pred.expr e) h =
    let z : eqb n 0 ≡ false = ne_eqb n 0 (λ y. absurd (omega arith)) in
    let ws = write_preds enc (g ∷ gs) in
    let x = write_expr enc e in
    ap (λ (u : Output). emits u (end_text bound)) (implied_false o (sexp_list (bytes "and" ∷ (ws ++ write_unary (bytes "not") x ∷ []))))
    ∙ rw (negation_text (emits o (bytes "(=>")) ws x, z, append-nil (spaced ws)) (simp emits_append)

-- a text with others behind it
sent_on : (o : Output) (w u v : List ℕ) → emits o (((w ++ []) ++ u) ++ v) ≡ emits (emits (emits o w) u) v
sent_on o w u v = rw (append-nil w) (simp emits_append)

-- binders before an implication
bound_text : (o : Output) (v w : List ℕ) → emits o (sexp_list (bytes "forall" ∷ paren v ∷ w ∷ [])) ≡ emits (emits (emits (emits (emits o (bytes "(forall (")) v) (bytes ") ")) w) (bytes ")")
unfolding emits
bound_text o v w = simp emits_append

-- an assertion: without binders, and with
whole : (enc : Encoder) (n : ℕ) (o : Output) (fs : List ForAll) (p : Pred) → n ≡ length (guards_of fs)
    → emits o (assert_text enc fs p)
    ≡ emits (emits (emits (emits (emits o (opening_text (some fs))) (vars_text enc fs)) (implies_text (some fs))) (grouped enc (is_kvar p) n (guards_of fs))) (head_text enc (form (is_kvar p) (some fs) n) p)
unfolding assert_text write_assert vars_text opening_text implies_text end_text emits
whole enc n o [] p h = sent_on (emits o (bytes "(assert ")) (write_implication enc [] p) (bytes ")") (bytes "\n") ∙ implies_head enc n (emits o (bytes "(assert ")) false [] p h
whole enc n o (f ∷ fs) p h =
    let gs = guards_of (f ∷ fs) in
    let v = vars_text enc (f ∷ fs) in
    let i = write_implication enc gs p in
    let o1 = emits o (bytes "(assert ") in
    sent_on o1 (sexp_list (bytes "forall" ∷ paren v ∷ i ∷ [])) (bytes ")") (bytes "\n") ∙ ap (λ (z : Output). emits (emits z (bytes ")")) (bytes "\n")) (bound_text o1 v i)
    ∙ implies_head enc n (emits (emits (emits o1 (bytes "(forall (")) v) (bytes ") ")) true gs p h

-- a head, and what stands round it
pub head_sends : (enc : Encoder) (f : Form) (r : ℕ) (d : Res Pred) (o o1 o2 o3 o4 : Output) → o1 ≡ emits o (before_text f.kvar) → Sends (write_pred enc) d o1 o2 r
    → o3 ≡ emits o2 (behind_text f.kvar f.count) → o4 ≡ emits o3 (end_text f.bound) → Sends (head_text enc f) d o o4 r
unfolding Sends head_text
head_sends enc f r d o o1 o2 o3 o4 e1 w e3 e4 a p h =
    let v = w a p h in
    (v.0, rw (e4, e3, v.1, e1) (simp emits_append))

-- WHAT A HEAD IS

-- a predicate whose code is 0 is a KVar
kvar_is : (l : ℕ) (s : List ℕ) (at : ℕ) (p : Pred) (q : ℕ) → dec_pred l s at ≡ got p q → kvar_at s at ≡ is_kvar p
unfolding dec_pred
kvar_is zero s at p q e = got_refuse (sym e)
kvar_is (suc l) s at p q e = by (ltb at (length s)) (eqb (get_or s at 0) 0) (eqb (get_or s at 0) 1) refl refl refl
  where
    by : (a b c : Bool) → ltb at (length s) ≡ a → eqb (get_or s at 0) 0 ≡ b → eqb (get_or s at 0) 1 ≡ c → (a && b) ≡ is_kvar p
    by false b c ea eb ec = got_refuse (sym e ∙ coded_short (pred_forms (dec_expr l)) s at (ltb-false at (length s) ea))
    by true true c ea eb ec =
        let f = sym (coded_at (pred_forms (dec_expr l)) s at 0 (ltb-true at (length s) ea) (eqb-true (get_or s at 0) 0 eb)) ∙ e in
        let i = bind_got (name s (at + 1)) _ p q f in
        let j = bind_got (counted Exprs.none Exprs.more (dec_expr l) s i.next) _ p q i.then in
        let y : Pred.kvar i.value j.value ≡ p = cc in
        ap is_kvar y
    by true false true ea eb ec =
        let f = sym (coded_at (pred_forms (dec_expr l)) s at 1 (ltb-true at (length s) ea) (eqb-true (get_or s at 0) 1 ec)) ∙ e in
        let i = bind_got (dec_expr l s (at + 1)) _ p q f in
        let y : Pred.expr i.value ≡ p = cc in
        ap is_kvar y
    by true false false ea eb ec =
        let n0 = eqb-false (get_or s at 0) 0 eb in
        let n1 = eqb-false (get_or s at 0) 1 ec in
        got_refuse (sym e ∙ coded_beyond (pred_forms (dec_expr l)) s at (ltb-true at (length s) ea) (omega arith))

-- there are ForAlls where there is text of their binders
vars_some : (enc : Encoder) (fs : List ForAll) (v : ℕ) → v ≡ length (vars_text enc fs) → ltb 0 v ≡ some fs
unfolding vars_text write_binder
vars_some enc [] v e = rw e
vars_some enc (f ∷ fs) v e = lt-ltb 0 v (omega arith)

-- and where there are offsets
path_some : (s os : List ℕ) (fs : List ForAll) (q : ℕ) → on_path s os ≡ got fs q → ltb 0 (length os) ≡ some fs
unfolding on_path
path_some s [] fs q e = let y : [] ≡ fs = cc in ap some y
path_some s (o ∷ os) fs q e =
    let i = bind_got (for_all_at s o) _ fs q e in
    let j = bind_got (on_path s os) _ fs q i.then in
    let y : i.value ∷ j.value ≡ fs = cc in
    lt-ltb 0 (suc (length os)) (omega arith) ∙ ap some y

-- TESTS

pub not_set : (b : Bool) → not b ≡ true → b ≡ false
not_set true e = clash (cc)
not_set false e = refl

-- a list without places
pub empty : (xs : List ℕ) → length xs ≤ 0 → xs ≡ []
empty [] h = refl
empty (x ∷ xs) h = absurd (omega arith)

pub both : (a b : Bool) → (a && b) ≡ true → (a ≡ true) × (b ≡ true)
both true b e = (refl, e)
both false b e = clash (cc)

-- the tests of `fits`
pub fits_both : (size : ℕ) (k : code.Kept) → fits size k ≡ true → (k.vars ≤ size / 2) × (k.guards ≤ size - size / 2)
fits_both size k e =
    let h = both (leb k.vars (size / 2)) (leb k.guards (size - size / 2)) e in
    (leb-true k.vars (size / 2) h.0, leb-true k.guards (size - size / 2) h.1)

-- ASSERTIONS

module _ (s : List ℕ) (enc : Encoder) (l at r : ℕ) (n c : ℕ) (f : Form) (ef : f ≡ form_of s at n c) (o o1 o2 o3 o4 o5 : Output)
    (e1 : o1 ≡ emits o (opening_text f.bound)) (e3 : o3 ≡ emits o2 (implies_text f.bound))
    (w : Sends (head_text enc f) (dec_pred l s at) o4 o5 r) where
  -- given what stands round the head
  around : (fs : List ForAll) → ltb 0 n ≡ some fs → c ≡ length (guards_of fs) → o2 ≡ emits o1 (vars_text enc fs)
      → o4 ≡ emits o3 (group_text f.kvar c ++ (guards_text enc fs ++ ungroup_text f.kvar c))
      → Sends (assert_text enc fs) (dec_pred l s at) o o5 r
  unfolding Sends guards_text
  around fs eb ec e2 e4 p q h =
      let v = w p q h in
      let k : f ≡ form (is_kvar p) (some fs) c = ef ∙ rw (eb, kvar_is l s at p q h) in
      (v.0, v.1 ∙ rw (e4, e3, e2, e1, k) (sym (whole enc c o fs p ec)))

  -- from the text that is kept
  pub kept_asserts : (text : List ℕ) (k : code.Kept) → fits (length text) k ≡ true → n ≡ k.vars → c ≡ k.count → o2 ≡ emits o1 (take k.vars text)
      → o4 ≡ emits o3 (group_text f.kvar k.count ++ (guards_in text k ++ ungroup_text f.kvar k.count))
      → KeptSends enc text k (dec_pred l s at) o o5 r
  unfolding KeptSends
  kept_asserts text k h en ec e2 e4 fs g =
      let v = ap (λ (z : code.Kept). z.vars) g.measures in
      let u = ap (λ (z : code.Kept). z.guards) g.measures in
      let room = fits_both (length text) k h in
      let a : take k.vars text ≡ vars_text enc fs =
      sym (take-take k.vars (length text / 2) text room.0) ∙ rw v (g.vars (rw length-take (omega (arith, room.0)))) in
      let b : guards_in text k ≡ guards_text enc fs = rw u (g.guards (rw length-drop (omega (arith, room.1)))) in
      around fs (rw en (vars_some enc fs k.vars v)) (ec ∙ ap (λ (z : code.Kept). z.count) g.measures) (e2 ∙ ap (emits o1) a)
      (e4 ∙ rw (b, ec))

  -- from a path
  pub long_asserts : (os : List ℕ) (o6 o7 : Output) → n ≡ length os → Numbers s os c
      → Sends (vars_text enc) (on_path s os) o1 o2 0 → o6 ≡ emits o3 (group_text f.kvar c) → Sends (guards_text enc) (on_path s os) o6 o7 0
      → o4 ≡ emits o7 (ungroup_text f.kvar c) → HeadSends (assert_text enc) (on_path s os) (dec_pred l s at) o o5 r
  unfolding HeadSends Sends Numbers
  long_asserts os o6 o7 en k u e6 w7 e4 fs q g =
      around fs (rw en (path_some s os fs q g)) (k fs q g) (u fs q g).1 (rw (e4, (w7 fs q g).1, e6) (simp emits_append))

-- a count that sending has led to
sent_most : (t b b' : List ℕ) (n m : ℕ) → length b ≤ most → n ≤ most → output b' m ≡ emits (output b n) t → m ≤ most
sent_most t b b' n m h g e = let l = ap (λ (x : Output). x.len) (e ∙ emits_sets t b n h g) in omega arith

-- from the numbers that are kept: an empty buffer has no room, so of binders and guards their lengths alone matter
pub measured_asserts : (s : List ℕ) (enc : Encoder) (l at r : ℕ) (k : code.Kept) (f : Form) → f ≡ form_of s at k.vars k.count
    → (b b1 b2 b3 b4 b5 : List ℕ) (n n1 n2 n3 n4 n5 n6 n7 : ℕ) → n ≡ 0 → length b ≤ 0 → length b1 ≤ 0 → length b2 ≤ 0 → length b3 ≤ 0 → length b5 ≤ 0
    → output b1 n1 ≡ emits (output b n) (opening_text f.bound) → n2 ≡ min (n1 + k.vars) most
    → output b2 n3 ≡ emits (output b1 n2) (implies_text f.bound) → output b3 n4 ≡ emits (output b2 n3) (group_text f.kvar f.count)
    → n5 ≡ min (n4 + k.guards) most → output b4 n6 ≡ emits (output b3 n5) (ungroup_text f.kvar f.count)
    → Sends (head_text enc f) (dec_pred l s at) (output b4 n6) (output b5 n7) r → MeasuredSends enc k (dec_pred l s at) n7 r
unfolding MeasuredSends
measured_asserts s enc l at r k f ef b b1 b2 b3 b4 b5 n n1 n2 n3 n4 n5 n6 n7 z h h1 h2 h3 h5 e1 e2 e3 e4 e5 e6 w fs m =
    let v = vars_text enc fs in
    let g = guards_text enc fs in
    let ev : k.vars ≡ length v = ap (λ (x : code.Kept). x.vars) m in
    let eg : k.guards ≡ length g = ap (λ (x : code.Kept). x.guards) m in
    let ec : f.count ≡ k.count = ap (λ (x : Form). x.count) ef in
    let m1 = sent_most (opening_text f.bound) b b1 n n1 (omega arith) (omega arith) e1 in
    let m3 = sent_most (implies_text f.bound) b1 b2 n2 n3 (omega arith) (omega arith) e3 in
    let m4 = sent_most (group_text f.kvar f.count) b2 b3 n3 n4 (omega arith) m3 e4 in
    let u2 : output b1 n2 ≡ emits (output b1 n1) v = sent_out v b1 n1 n2 (omega arith) m1 (e2 ∙ ap (λ (x : ℕ). min (n1 + x) most) ev) in
    let u5 : output b3 n5 ≡ emits (output b3 n4) g = sent_out g b3 n4 n5 (omega arith) m4 (e5 ∙ ap (λ (x : ℕ). min (n4 + x) most) eg) in
    let u = around s enc l at r k.vars k.count f ef (output b n) (output b1 n1) (output b1 n2) (output b2 n3) (output b4 n6) (output b5 n7) e1 e3 w fs
    (vars_some enc fs k.vars ev) (ap (λ (x : code.Kept). x.count) m) u2 (rw (e6, u5, e4, ec) (simp emits_append)) in
    rw (empty b h, empty b5 h5, z) at u
