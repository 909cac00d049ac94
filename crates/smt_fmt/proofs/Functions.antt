-- What the steps of the writer of functions add up to: the argument names and the inputs stand at two positions.
use mathlib.Core.Path.{◌≡◌, refl, sym, ap, ◌∙◌}
use mathlib.Core.Bool.{Bool, true, false}
use mathlib.Core.List.{List, [], ◌∷◌, ◌++◌}
use mathlib.Core.Option.{Option, none, some}
use Prim.Native.Nat.{ℕ, zero, suc, ◌+◌, ◌-◌, ◌<◌, ◌≤◌, min}
use native.Mathlib.Omega.{arith}
use Rattle.smtlib.specs.Lexicon.{bytes}
use Rattle.smtlib.specs.Compose.{paren}
use Rattle.task.specs.declared.Fault.{Fault}
use Rattle.task.specs.Ast.{Sort, Sorts, Binder, FunBody, FunDef}
use Rattle.task.specs.Decode.{got, refuse, bind, number, many, name, flag, dec_sort, dec_expr, body, function, deepest}
use Rattle.task.specs.Fault.{each, name_fault, sort_fault, sorts_fault}
use Rattle.task.specs.Node.{Bytes}
use Rattle.task.proofs.Reading.{bind_got, got_refuse}
use Rattle.task_check.specs.Walk.{walked}
use Rattle.task_check.proofs.Rows.{next_is, refused_is}
use Rattle.smt_text.specs.Encoder.{Encoder, zip}
use Rattle.smt_text.specs.Text.{spaced, sexp_list, write_name, write_sort, write_binder, write_binders, write_expr, write_fun_body, write_fun_def}
use Rattle.output.specs.Emit.{Output, emit, emits, Sends}
use Rattle.output.proofs.Sent.{emits_append}
use Rattle.output.proofs.Sending.{sends_refused, sends_end}
use Rattle.smt_fmt.specs.Items.{signed, ArgSends, ZipSends, SignatureSends, DefinedSends, BodySends}

-- an argument: a name with the sort at another position
module _ (enc : Encoder) (s : List ℕ) (at from : ℕ) (o : Output) where
  pub arg_unnamed : (k : ℕ) (o' : Output) (r r' : ℕ) → name s at ≡ refuse k → ArgSends enc (name s at) (dec_sort deepest s from) o o' r r'
  unfolding ArgSends
  arg_unnamed k o' r r' h y p c q ey ec = got_refuse (sym ey ∙ h)

  pub arg_sends : (x : Bytes) (p : ℕ) (o1 o2 o3 o4 o5 : Output) (q : ℕ) → name s at ≡ got x.now p → o1 ≡ emit o 40 → o2 ≡ emits o1 x.now
      → o3 ≡ emit o2 32 → Sends (write_sort enc) (dec_sort deepest s from) o3 o4 q → o5 ≡ emit o4 41
      → ArgSends enc (name s at) (dec_sort deepest s from) o o5 p q
  unfolding ArgSends Sends write_name write_binder emits
  arg_sends x p o1 o2 o3 o4 o5 q h e1 e2 e3 w e5 y p' c q' ey ec =
      let u = w c q' ec in
      let en : got x.now p ≡ got y p' = sym h ∙ ey in
      let ex : x.now ≡ y = cc in
      (cc, u.0, rw (e5, u.1, e3, e2, e1, ex) (simp emits_append))

-- names and sorts that are decoded, by the first of each
record Pairs (s : List ℕ) (m p n q : ℕ) (ys : List (List ℕ)) (p' : ℕ) (cs : Sorts) (q' : ℕ) : Type 0 where
  y : List ℕ
  yn : ℕ
  yrest : List (List ℕ)
  c : Sort
  cn : ℕ
  crest : Sorts
  first : name s p ≡ got y yn
  second : dec_sort deepest s q ≡ got c cn
  names : many [] ◌∷◌ name (m - 1) s yn ≡ got yrest p'
  sorts : many Sorts.none Sorts.more (dec_sort deepest) (n - 1) s cn ≡ got crest q'
  zipped : zip ys cs ≡ record { name = y; sort = c } ∷ zip yrest crest

by_firsts : (s : List ℕ) (m p n q : ℕ) (ys : List (List ℕ)) (p' : ℕ) (cs : Sorts) (q' : ℕ) → 0 < m → 0 < n → many [] ◌∷◌ name m s p ≡ got ys p'
    → many Sorts.none Sorts.more (dec_sort deepest) n s q ≡ got cs q' → Pairs s m p n q ys p' cs q'
by_firsts s zero p n q ys p' cs q' h h' e e' = absurd (omega arith)
by_firsts s (suc m) p zero q ys p' cs q' h h' e e' = absurd (omega arith)
by_firsts s (suc m) p (suc n) q ys p' cs q' h h' e e' =
    let i = bind_got (name s p) (λ a p1. bind (many [] ◌∷◌ name m s p1) (λ b p2. got (a ∷ b) p2)) ys p' e in
    let j = bind_got (many [] ◌∷◌ name m s i.next) (λ b p2. got (i.value ∷ b) p2) ys p' i.then in
    let i' = bind_got (dec_sort deepest s q) (λ a p1. bind (many Sorts.none Sorts.more (dec_sort deepest) n s p1) (λ b p2. got (Sorts.more a b) p2)) cs q' e' in
    let j' = bind_got (many Sorts.none Sorts.more (dec_sort deepest) n s i'.next) (λ b p2. got (Sorts.more i'.value b) p2) cs q' i'.then in
    let u : i.value ∷ j.value ≡ ys = let z = j.then in cc in
    let u' : Sorts.more i'.value j'.value ≡ cs = let z = j'.then in cc in
    let v : j.next ≡ p' = let z = j.then in cc in
    let v' : j'.next ≡ q' = let z = j'.then in cc in
    let k : suc m - 1 ≡ m = omega arith in
    let k' : suc n - 1 ≡ n = omega arith in
    record {
      y = i.value;
      yn = i.next;
      yrest = j.value;
      c = i'.value;
      cn = i'.next;
      crest = j'.value;
      first = i.first;
      second = i'.first;
      names = rw k (j.first ∙ ap (got j.value) v);
      sorts = rw k' (j'.first ∙ ap (got j'.value) v');
      zipped = ap (λ (l : List (List ℕ)). zip l cs) (sym u) ∙ ap (zip (i.value ∷ j.value)) (sym u');
    }

-- no pairs
zip_none : (ys : List (List ℕ)) → zip ys Sorts.none ≡ []
zip_none [] = refl
zip_none (y ∷ ys) = refl

no_pairs : (s : List ℕ) (m p n q : ℕ) (ys : List (List ℕ)) (p' : ℕ) (cs : Sorts) (q' : ℕ) → min m n ≤ 0 → many [] ◌∷◌ name m s p ≡ got ys p'
    → many Sorts.none Sorts.more (dec_sort deepest) n s q ≡ got cs q' → zip ys cs ≡ []
no_pairs s zero p n q ys p' cs q' h e e' = let z : ys ≡ [] = cc in rw z
no_pairs s (suc m) p zero q ys p' cs q' h e e' = let z : cs ≡ Sorts.none = cc in rw z (zip_none ys)
no_pairs s (suc m) p (suc n) q ys p' cs q' h e e' = absurd (omega arith)

-- two texts in parentheses
in_parens : (o : Output) (u v : List ℕ) → emit (emits (emits (emit o 40) u) v) 41 ≡ emits o (paren (u ++ v))
unfolding emits
in_parens o u v = simp emits_append

-- a binder is sent, and then the others
module _ (enc : Encoder) (b : Binder) (bs zs : List Binder) (z : zs ≡ b ∷ bs) (o o1 o2 : Output) where
  one_sent : (whole : Output) → o1 ≡ emit o 32 → o2 ≡ emits o1 (write_binder enc b) → emits o (spaced (write_binders enc zs)) ≡ whole
      → emits o2 (spaced (write_binders enc bs)) ≡ whole
  unfolding emits
  one_sent whole e1 e2 h = rw (e2, e1) (sym (emits_append (emit o 32) (write_binder enc b) (spaced (write_binders enc bs))) ∙ rw z at h)

  all_sent : (o3 o4 : Output) → o1 ≡ emit o 40 → o2 ≡ emits o1 (write_binder enc b) → o3 ≡ emits o2 (spaced (write_binders enc bs)) → o4 ≡ emit o3 41
      → o4 ≡ emits o (sexp_list (write_binders enc zs))
  all_sent o3 o4 e1 e2 e3 e4 = rw (z, e4, e3, e2, e1) (in_parens o (write_binder enc b) (spaced (write_binders enc bs)))

-- The loop: what is left of M names and N sorts behind i rounds, from p and q on, has the text that is left of the whole.
module _ (enc : Encoder) (s : List ℕ) where
  record Remains (m p n q : ℕ) (o whole : Output) (p' q' : ℕ) : Type 0 where
    ys : List (List ℕ)
    cs : Sorts
    names : many [] ◌∷◌ name m s p ≡ got ys p'
    sorts : many Sorts.none Sorts.more (dec_sort deepest) n s q ≡ got cs q'
    same : emits o (spaced (write_binders enc (zip ys cs))) ≡ whole

  pub Zipping : ℕ → ℕ → ℕ → ℕ → Output → ℕ → ℕ → ℕ → Output → Type 0
  Zipping M P N Q first i p q o =
      (ys : List (List ℕ)) (p' : ℕ) (cs : Sorts) (q' : ℕ) → many [] ◌∷◌ name M s P ≡ got ys p' → many Sorts.none Sorts.more (dec_sort deepest) N s Q ≡ got cs q'
      → Remains (M - i) p (N - i) q o (emits first (spaced (write_binders enc (zip ys cs)))) p' q'

  module _ (M P N Q : ℕ) (first : Output) where
    pub zip_start : Zipping M P N Q first 0 P Q first
    unfolding Zipping
    zip_start ys p' cs q' e e' =
        let k : M - 0 ≡ M = omega arith in
        let k' : N - 0 ≡ N = omega arith in
        record { ys = ys; cs = cs; names = rw k e; sorts = rw k' e'; same = refl }

    pub zip_more : (i p q : ℕ) (o o1 o2 : Output) (r r' : ℕ) → i < min M N → Zipping M P N Q first i p q o → o1 ≡ emit o 32
        → ArgSends enc (name s p) (dec_sort deepest s q) o1 o2 r r' → Zipping M P N Q first (i + 1) r r' o2
    unfolding Zipping ArgSends emits
    zip_more i p q o o1 o2 r r' h z e1 w ys p' cs q' e e' =
        let l = z ys p' cs q' e e' in
        let f = by_firsts s (M - i) p (N - i) q l.ys p' l.cs q' (omega arith) (omega arith) l.names l.sorts in
        let u = w f.y f.yn f.c f.cn f.first f.second in
        let k : M - (i + 1) ≡ M - i - 1 = omega arith in
        let k' : N - (i + 1) ≡ N - i - 1 = omega arith in
        record {
          ys = f.yrest;
          cs = f.crest;
          names = rw (k, u.0) f.names;
          sorts = rw (k', u.1) f.sorts;
          same = one_sent enc (record { name = f.y; sort = f.c }) (zip f.yrest f.crest) (zip l.ys l.cs) f.zipped o o1 o2 (emits first (spaced (write_binders enc (zip ys cs)))) e1 u.2 l.same;
        }

    pub zip_end : (i p q : ℕ) (o : Output) → min M N ≤ i → Zipping M P N Q first i p q o
        → ZipSends spaced enc (many [] ◌∷◌ name M s P) (many Sorts.none Sorts.more (dec_sort deepest) N s Q) first o
    unfolding Zipping ZipSends emits
    zip_end i p q o h z ys p' cs q' e e' =
        let l = z ys p' cs q' e e' in
        let t : zip l.ys l.cs ≡ [] = no_pairs s (M - i) p (N - i) q l.ys p' l.cs q' (omega arith) l.names l.sorts in
        rw t at l.same

    -- in parentheses: none, or the first and the others
    pub zip_none_list : (o' : Output) → min M N ≤ 0 → o' ≡ emits first (bytes "()")
        → ZipSends sexp_list enc (many [] ◌∷◌ name M s P) (many Sorts.none Sorts.more (dec_sort deepest) N s Q) first o'
    unfolding ZipSends
    zip_none_list o' h e1 ys p' cs q' e e' = rw (no_pairs s M P N Q ys p' cs q' h e e') e1

    pub zip_list : (o1 o2 o3 o4 : Output) (r r' : ℕ) → (M ≡ 0 → ⊥) → (N ≡ 0 → ⊥) → o1 ≡ emit first 40 → ArgSends enc (name s P) (dec_sort deepest s Q) o1 o2 r r'
        → ZipSends spaced enc (many [] ◌∷◌ name (M - 1) s r) (many Sorts.none Sorts.more (dec_sort deepest) (N - 1) s r') o2 o3 → o4 ≡ emit o3 41
        → ZipSends sexp_list enc (many [] ◌∷◌ name M s P) (many Sorts.none Sorts.more (dec_sort deepest) N s Q) first o4
    unfolding ZipSends ArgSends emits
    zip_list o1 o2 o3 o4 r r' h h' e1 w w' e4 ys p' cs q' e e' =
        let f = by_firsts s M P N Q ys p' cs q' (omega arith) (omega arith) e e' in
        let u = w f.y f.yn f.c f.cn f.first f.second in
        let v = w' f.yrest p' f.crest q' (rw u.0 f.names) (rw u.1 f.sorts) in
        all_sent enc (record { name = f.y; sort = f.c }) (zip f.yrest f.crest) (zip ys cs) f.zipped first o1 o2 o3 o4 e1 u.2 v e4

-- the sort and the expression of a definition
pub defined_sends : (enc : Encoder) (s : List ℕ) (from at : ℕ) (o o1 o2 o3 o4 o5 : Output) (q r : ℕ) → o1 ≡ emit o 32 → Sends (write_sort enc) (dec_sort deepest s from) o1 o2 q
    → o3 ≡ emit o2 32 → Sends (write_expr enc) (dec_expr deepest s at) o3 o4 r → o5 ≡ emits o4 (bytes ")\n")
    → DefinedSends enc (dec_sort deepest s from) (dec_expr deepest s at) o o5 r
unfolding DefinedSends Sends emits
defined_sends enc s from at o o1 o2 o3 o4 o5 q r e1 w e3 w' e5 b p a u eb ea =
    let v = w b p eb in
    let v' = w' a u ea in
    (v'.0, rw (e5, v'.1, e3, v.1, e1) (simp emits_append))

-- a definition
module _ (enc : Encoder) (s : List ℕ) (x : List ℕ) (n at from inner : ℕ) (o : Output) where
  pub body_uncounted : (k : ℕ) (o' : Output) (r : ℕ) → number 2 s inner ≡ refuse k
      → BodySends enc x (many Sorts.none Sorts.more (dec_sort deepest) n s at) (dec_sort deepest s from) (body true s inner) o o' r
  unfolding BodySends
  body_uncounted k o' r h bs p b q f t eb ec ef =
      let g : refuse k ≡ got f t = rw h at ef in
      got_refuse (sym g)

  module _ (m p : ℕ) (h : number 2 s inner ≡ got m p) where
    pub body_unnamed : (k : ℕ) (o' : Output) (r : ℕ) → refuse k ≡ walked (each name_fault) (many [] ◌∷◌ name m s p)
        → BodySends enc x (many Sorts.none Sorts.more (dec_sort deepest) n s at) (dec_sort deepest s from) (body true s inner) o o' r
    unfolding BodySends
    body_unnamed k o' r h' bs p' b q f t eb ec ef =
        let g : refuse k ≡ got f t = rw (h, refused_is (each name_fault) (many [] ◌∷◌ name m s p) k h') at ef in
        got_refuse (sym g)

    pub body_sends : (q : ℕ) (f : Fault) (o1 o2 o3 o4 o5 : Output) (r : ℕ) → got f q ≡ walked (each name_fault) (many [] ◌∷◌ name m s p) → o1 ≡ emits o (bytes "(define-fun ")
        → o2 ≡ emits o1 x → o3 ≡ emit o2 32 → ZipSends sexp_list enc (many [] ◌∷◌ name m s p) (many Sorts.none Sorts.more (dec_sort deepest) n s at) o3 o4
        → DefinedSends enc (dec_sort deepest s from) (dec_expr deepest s q) o4 o5 r
        → BodySends enc x (many Sorts.none Sorts.more (dec_sort deepest) n s at) (dec_sort deepest s from) (body true s inner) o o5 r
    unfolding BodySends ZipSends DefinedSends write_name emits
    body_sends q f o1 o2 o3 o4 o5 r h' e1 e2 e3 w w' bs p' b q' g t eb ec eg =
        let y = next_is (each name_fault) (many [] ◌∷◌ name m s p) q f h' in
        let u : bind (dec_expr deepest s q) (λ a z. got (some (record { args = y.value; expr = a })) z) ≡ got g t = rw (h, y.is) at eg in
        let i = bind_got (dec_expr deepest s q) (λ a z. got (some (record { args = y.value; expr = a })) z) g t u in
        let v' = w y.value q bs p' y.is eb in
        let v'' = w' b q' i.value i.next ec i.first in
        let et : g ≡ some (record { args = y.value; expr = i.value }) = let z = i.then in cc in
        let en : i.next ≡ t = let z = i.then in cc in
        (v''.0 ∙ en, rw (et, v''.1, v', e3, e2, e1) (simp emits_append))

-- a function by its inputs, its output and its flag
module _ (enc : Encoder) (s : List ℕ) (x : List ℕ) (n at : ℕ) (o : Output) where
  pub no_inputs : (k : ℕ) (o' : Output) (r : ℕ) → refuse k ≡ walked sorts_fault (many Sorts.none Sorts.more (dec_sort deepest) n s at)
      → Sends (write_fun_def enc) (signed x 0 n s at) o o' r
  no_inputs k o' r h = rw (refused_is sorts_fault (many Sorts.none Sorts.more (dec_sort deepest) n s at) k h) (sends_refused (write_fun_def enc) o o' r k)

  module _ (from : ℕ) (f : Fault) (hf : got f from ≡ walked sorts_fault (many Sorts.none Sorts.more (dec_sort deepest) n s at)) where
    pub no_output : (k : ℕ) (o' : Output) (r : ℕ) → refuse k ≡ walked (sort_fault false) (dec_sort deepest s from) → Sends (write_fun_def enc) (signed x 0 n s at) o o' r
    no_output k o' r h =
        let y = next_is sorts_fault (many Sorts.none Sorts.more (dec_sort deepest) n s at) from f hf in
        rw (y.is, refused_is (sort_fault false) (dec_sort deepest s from) k h) (sends_refused (write_fun_def enc) o o' r k)

    module _ (p : ℕ) (g : Fault) (hg : got g p ≡ walked (sort_fault false) (dec_sort deepest s from)) where
      pub no_flag : (k : ℕ) (o' : Output) (r : ℕ) → flag s p ≡ refuse k → Sends (write_fun_def enc) (signed x 0 n s at) o o' r
      no_flag k o' r h =
          let y = next_is sorts_fault (many Sorts.none Sorts.more (dec_sort deepest) n s at) from f hf in
          let z = next_is (sort_fault false) (dec_sort deepest s from) p g hg in
          rw (y.is, z.is, h) (sends_refused (write_fun_def enc) o o' r k)

      module _ (has : Bool) (q : ℕ) (h : flag s p ≡ got has q) where
        pub defined : (o' : Output) (r : ℕ) → has ≡ true
            → BodySends enc x (many Sorts.none Sorts.more (dec_sort deepest) n s at) (dec_sort deepest s from) (body true s q) o o' r
            → Sends (write_fun_def enc) (signed x 0 n s at) o o' r
        unfolding BodySends Sends write_fun_def
        defined o' r e k =
            let y = next_is sorts_fault (many Sorts.none Sorts.more (dec_sort deepest) n s at) from f hf in
            let z = next_is (sort_fault false) (dec_sort deepest s from) p g hg in
            rw (y.is, z.is, h, e) (λ a t et.
            let i = bind_got (body true s q) (λ b u. got (record { name = x; params = 0; inputs = y.value; output = z.value; body = b }) u) a t et in
            let m = k y.value from z.value p i.value i.next y.is z.is i.first in
            let ea : record { name = x; params = 0; inputs = y.value; output = z.value; body = i.value } ≡ a = let j = i.then in cc in
            let en : i.next ≡ t = let j = i.then in cc in
            (m.0 ∙ en, m.1 ∙ ap (λ (d : FunDef). emits o (write_fun_body enc d d.body)) ea))

        pub declared : (o' : Output) → has ≡ false → SignatureSends enc x (many Sorts.none Sorts.more (dec_sort deepest) n s at) (dec_sort deepest s from) o o'
            → Sends (write_fun_def enc) (signed x 0 n s at) o o' q
        unfolding SignatureSends write_fun_def
        declared o' e k =
            let y = next_is sorts_fault (many Sorts.none Sorts.more (dec_sort deepest) n s at) from f hf in
            let z = next_is (sort_fault false) (dec_sort deepest s from) p g hg in
            rw (y.is, z.is, h, e)
            (sends_end (write_fun_def enc) o o' q (record { name = x; params = 0; inputs = y.value; output = z.value; body = none }) q refl
            (k y.value from z.value p y.is z.is))

-- the number of parameters is not written
same_text : (enc : Encoder) (x : List ℕ) (params : ℕ) (ins : Sorts) (out : Sort) (f : Option FunBody)
    → write_fun_body enc (record { name = x; params = 0; inputs = ins; output = out; body = f }) f
    ≡ write_fun_body enc (record { name = x; params = params; inputs = ins; output = out; body = f }) f
same_text enc x params ins out none = refl
same_text enc x params ins out (some b) = refl

signed_got : (s x : List ℕ) (params n at : ℕ) (ins : Sorts) (out : Sort) (b : Bool) (f : Option FunBody) (p q t u : ℕ)
    → many Sorts.none Sorts.more (dec_sort deepest) n s at ≡ got ins p → dec_sort deepest s p ≡ got out q → flag s q ≡ got b t → body b s t ≡ got f u
    → signed x params n s at ≡ got (record { name = x; params = params; inputs = ins; output = out; body = f }) u
signed_got s x params n at ins out b f p q t u e1 e2 e3 e4 = rw (e1, e2, e3, e4)

any_params : (enc : Encoder) (s : List ℕ) (x : List ℕ) (params n at : ℕ) (o o' : Output) (r : ℕ) → Sends (write_fun_def enc) (signed x 0 n s at) o o' r
    → Sends (write_fun_def enc) (signed x params n s at) o o' r
unfolding Sends write_fun_def
any_params enc s x params n at o o' r w a p e =
    let i = bind_got (many Sorts.none Sorts.more (dec_sort deepest) n s at) _ a p e in
    let j = bind_got (dec_sort deepest s i.next) _ a p i.then in
    let l = bind_got (flag s j.next) _ a p j.then in
    let m = bind_got (body l.value s l.next) (λ f q. got (record { name = x; params = params; inputs = i.value; output = j.value; body = f }) q) a p l.then in
    let ea : record { name = x; params = params; inputs = i.value; output = j.value; body = m.value } ≡ a = let z = m.then in cc in
    let ep : m.next ≡ p = let z = m.then in cc in
    let v = w (record { name = x; params = 0; inputs = i.value; output = j.value; body = m.value }) p
    (signed_got s x 0 n at i.value j.value l.value m.value i.next j.next l.next p i.first j.first l.first (m.first ∙ ap (got m.value) ep)) in
    (v.0, v.1 ∙ ap (emits o) (same_text enc x params i.value j.value m.value) ∙ ap (λ (d : FunDef). emits o (write_fun_body enc d d.body)) ea)

-- a function by its name and numbers
pub function_sends : (enc : Encoder) (s : List ℕ) (at : ℕ) (o : Output) (x : Bytes) (p params q n t : ℕ) (o' : Output) (r : ℕ) → name s at ≡ got x.now p → number 2 s p ≡ got params q
    → number 2 s q ≡ got n t → Sends (write_fun_def enc) (signed x.now 0 n s t) o o' r → Sends (write_fun_def enc) (function s at) o o' r
function_sends enc s at o x p params q n t o' r h h' h'' w = rw (h, h', h'') (any_params enc s x.now params n t o o' r w)
