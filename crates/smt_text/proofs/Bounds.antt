-- A piece's text is at most 130 times as long as what it is decoded from: `bounds`. Each byte read pays for 130 bytes of text; a sort or an
-- expression, in a row with others, is given 4 bytes more than its text, for what stands around it. A set function has two bytes, and a name of at
-- most 255.
use Prim.Native.Nat.{ℕ, zero, suc, ◌+◌, ◌-◌, ◌*◌, ◌^◌, ◌≤◌, ◌<◌, ◌/◌}
use mathlib.Core.Path.{◌≡◌, sym, subst}
use mathlib.Core.Bool.{Bool, true, false, cond}
use mathlib.Core.List.{List, [], ◌∷◌}
use mathlib.Core.Option.{Option, none, some}
use native.Mathlib.Nat.{pow-succ', lt_of_lt_of_le}
use native.Mathlib.Omega.{arith}
use lib.Dec.{T, leb, ltb, eqb, lit≤}
use lib.ListN.{length, take, drop, get_or, length-append, length-take}
use lib.Seq.{get_or-drop}
use Rattle.smtlib.specs.Lexicon.{bytes}
use Rattle.smtlib.specs.Read.{doubled}
use Rattle.smtlib.specs.Compose.{digits, decimal}
use Rattle.smtlib.proofs.Decimal.{decimal_digits}
use Rattle.task.specs.declared.BinRel.{BinRel}
use Rattle.task.specs.declared.BinRel.TheVariants as rel
use Rattle.task.specs.Ast.{SortCtor, Sort, Sorts, Binder, Expr, Exprs, DataCtor, DataDecl, FunBody, FunDef}
use Rattle.task.specs.Decode.{got, Decoder, give, refusal, ◌▹◌, raw, little, number, many, counted, coded, name, text, flag, sort_forms, dec_sort, binder, bin_ops, bin_rels, quantifiers, thy_funcs, given, expr_forms, dec_expr, dec_pred, deepest, data_ctor, datatype, constant, body, function, kvar}
use Rattle.task.proofs.Reading.{bind_got, got_refuse, raw_got, number_got}
use Rattle.smt_text.specs.Editions.{SetFunction, Valid}
use Rattle.smt_text.specs.Encoder.{Encoder, is_opaque, is_qualified, zip}
use Rattle.smt_text.specs.Theory.{thy_func_name}
use Rattle.smt_text.specs.Text.{spaced, separated, applied, write_name, write_string, write_thy_func, write_sort_ctor, write_sort, write_sorts, write_binder, write_binders, write_boolean, write_nary, write_bin_op, write_atom, write_quantifier, write_as, write_application_head, write_expr, write_exprs, write_pred, write_ctor, write_ctors, write_parameters, write_datatype_body, write_datatype_decl, write_const_decl, write_fun_body, write_fun_def, write_kvar_decl}
use Rattle.smt_text.specs.Theorems.{Bounded, ValidBounds, parameters}

-- 130 for each byte read, and c besides, pay for the size of what is decoded
pub record Costs {A : Type 0} (c : ℕ) (size : A → ℕ) (d : Decoder A) : Type 0 where
  pub costs : (s : List ℕ) → ((i : ℕ) → get_or s i 0 < 256) → (at : ℕ) (a : A) (p : ℕ) → d s at ≡ got a p → 130 * at + size a ≤ 130 * p + c

module _ {A : Type 0} {c : ℕ} {size : A → ℕ} where
  pub refused : {n : ℕ} → Costs c size (refusal n)
  refused = record { costs = λ s b at a p e. got_refuse (sym e) }

  pub free : {a : A} → size a ≤ c → Costs c size (give a)
  free {a} h = record {
    costs = λ s b at a' p e.
        let l : a ≡ a' = cc in
        let z : at ≡ p = cc in
        subst (λ (x : A). 130 * at + size x ≤ 130 * p + c) l (omega arith);
  }

  -- where the size is a known number
  fixed : {a : A} → T (leb (size a) c) → Costs c size (give a)
  fixed h = free (lit≤ h)

  either_way : (t : Bool) {d e : Decoder A} → Costs c size d → Costs c size e → Costs c size (cond t d e)
  either_way true f g = f
  either_way false f g = g

infixr 2 ◌⟫◌
-- what the first piece has paid for is there for what follows it
pub ◌⟫◌ : {A B : Type 0} {c : ℕ} {size' : A → ℕ} {size : B → ℕ} {d : Decoder A} {k : A → Decoder B}
    → Costs 0 size' d → ((a : A) → Costs (c + size' a) size (k a)) → Costs c size (d ▹ k)
◌⟫◌ {d = d} {k = k} f g = record {
  costs = λ s b at a q e.
      let x = bind_got (d s at) (λ y p. k y s p) a q e in
      let u = f.costs s b at x.value x.next x.first in
      let v = (g x.value).costs s b x.next a q x.then in
      omega arith;
}

raws : {c : ℕ} (n : ℕ) → Costs c (λ w. c + 2 * length w) (raw n)
raws {c} n = record {
  costs = λ s b at w p e.
      let f = raw_got n s at w p e in
      let l : p ≡ at + n = f.end in
      rw (f.are, length-take) (omega arith);
}

-- NUMBERS

-- a number of n bytes
below : (w : List ℕ) → ((i : ℕ) → get_or w i 0 < 256) → (n : ℕ) → little (take n w) < 256 ^ n
below w h zero = omega arith
below [] h (suc n) = let z = below [] h n in rw (pow-succ' 256 n) (omega arith)
below (b ∷ w) h (suc n) = let z = below w (λ i. h (suc i)) n in rw (pow-succ' 256 n) (omega (arith, h 0))

-- a size that the bytes of any such number pay for
numbers : {c : ℕ} {size : ℕ → ℕ} (k : ℕ) → ((n : ℕ) → n < 256 ^ k → size n ≤ 130 * k + c) → Costs c size (number k)
numbers {c} {size} k h = record {
  costs = λ s b at n p e.
      let f = number_got k s at n p e in
      let l : p ≡ at + k = f.end in
      let z = h n (rw f.value (below (drop at s) (λ i. rw (get_or-drop at s i 0) (b (at + i))) k)) in
      omega arith;
}

cond-length : (t : Bool) (u v : List ℕ) (n : ℕ) → length u ≤ n → length v ≤ n → length (cond t u v) ≤ n
cond-length true u v n h g = h
cond-length false u v n h g = g

digits_length : (f n : ℕ) → length (digits f n) ≤ f
digits_length zero n = omega arith
digits_length (suc f) n =
    let h = digits_length f (n / 10) in
    cond-length (ltb n 10) _ _ (suc f) (omega arith) (simp length-append (omega arith))

decimal_length : (f n : ℕ) → n < 10 ^ suc f → length (decimal n) ≤ suc f
decimal_length f n h = rw (decimal_digits f n h) (digits_length (suc f) n)

-- numbers of k bytes that are written with at most f + 1 digits
decimals : (k f : ℕ) → T (leb (256 ^ k) (10 ^ suc f)) → T (leb (suc f) (130 * k)) → Costs 0 (λ n. length (decimal n)) (number k)
decimals k f h g = numbers k (λ n l. let z = decimal_length f n (lt_of_lt_of_le l (lit≤ h)) in let y : suc f ≤ 130 * k = lit≤ g in omega arith)

-- numbers that are not written
any_number : (k : ℕ) → Costs 0 (λ n. 130 * k) (number k)
any_number k = numbers k (λ n l. omega arith)

-- NAMES, STRINGS, ROWS

pub names : Costs 0 (λ x. 130 + 2 * length x) name
names = any_number 1 ⟫ λ n. either_way (eqb n 0) refused (raws n)

pub texts : Costs 0 (λ t. 260 + 2 * length t) text
texts = any_number 2 ⟫ λ n. raws n

-- a byte of a string gives at most two
doubled_length : (t : List ℕ) → length (doubled t) ≤ 2 * length t
doubled_length [] = omega arith
doubled_length (b ∷ t) =
    let h = doubled_length t in
    let l = cond-length (eqb b 34) (b ∷ []) [] 1 (omega arith) (omega arith) in
    simp length-append (omega arith)

module _ {A B : Type 0} {size' : A → ℕ} {d : Decoder A} (size : B → ℕ) (end : B) (more : A → B → B) where
  -- a count and a row, to whose size each piece adds no more than its own
  pub rows : size end ≤ 0 → ((a : A) (b : B) → size (more a b) ≤ size' a + size b) → Costs 0 size' d
      → Costs 0 (λ b. 260 + size b) (counted end more d)
  rows h g f = any_number 2 ⟫ λ n. go n
    where
      go : {c : ℕ} (n : ℕ) → Costs c (λ b. c + size b) (many end more d n)
      go zero = free (omega arith)
      go (suc n) = f ⟫ λ a. go {c = 0} n ⟫ λ b. free (omega (arith, g a b))

-- each of the decoders listed
pub data CostAll {A : Type 0} (c : ℕ) (size : A → ℕ) : List (Decoder A) → Type 0 where
  end : CostAll c size []
  more : {d : Decoder A} {ds : List (Decoder A)} → Costs c size d → CostAll c size ds → CostAll c size (d ∷ ds)

infixr 5 ◌∣◌
pub ◌∣◌ : {A : Type 0} {c : ℕ} {size : A → ℕ} {d : Decoder A} {ds : List (Decoder A)}
    → Costs c size d → CostAll c size ds → CostAll c size (d ∷ ds)
◌∣◌ f fs = CostAll.more f fs

cost_at : {A : Type 0} {c : ℕ} {size : A → ℕ} {ds : List (Decoder A)} (k : ℕ) → CostAll c size ds → Costs c size (get_or ds k (refusal 2))
cost_at k CostAll.end = refused
cost_at zero (CostAll.more f fs) = f
cost_at (suc k) (CostAll.more f fs) = cost_at k fs

-- the code's byte is there for each form
pub codes : {A : Type 0} {size : A → ℕ} {ds : List (Decoder A)} → CostAll 130 size ds → Costs 0 size (coded ds)
codes fs = any_number 1 ⟫ λ k. cost_at k fs

-- FIXED WORDS

flags : Costs 0 (λ b. length (write_boolean b)) flag
flags = codes (fixed tt ∣ fixed tt ∣ end)

bin_ops_lem : Costs 0 (λ o. length (write_bin_op o)) (coded bin_ops)
unfolding bin_ops
bin_ops_lem = codes (fixed tt ∣ fixed tt ∣ fixed tt ∣ fixed tt ∣ fixed tt ∣ end)

bin_rels_lem : Costs 0 (λ r. length (write_atom r [] [])) (coded bin_rels)
unfolding bin_rels
bin_rels_lem = codes (fixed tt ∣ fixed tt ∣ fixed tt ∣ fixed tt ∣ fixed tt ∣ fixed tt ∣ end)

quantifiers_cost : Costs 0 (λ q. length (write_quantifier q)) (coded quantifiers)
unfolding quantifiers
quantifiers_cost = codes (fixed tt ∣ fixed tt ∣ end)

-- LENGTHS OF ROWS

-- a piece and 4 bytes more, and pieces in a row
abbrev pub wide : List ℕ → ℕ
wide w = 4 + length w

abbrev pub wides : List (List ℕ) → ℕ
wides [] = 0
wides (w ∷ ws) = wide w + wides ws

pub spaced_length : (ws : List (List ℕ)) → length (spaced ws) ≤ wides ws
spaced_length [] = omega arith
spaced_length (w ∷ ws) = let h = spaced_length ws in simp length-append (omega arith)

separated_spaced : (ws : List (List ℕ)) → length (separated ws) ≤ length (spaced ws)
separated_spaced [] = omega arith
separated_spaced (w ∷ ws) = omega arith

separated_length : (ws : List (List ℕ)) → length (separated ws) ≤ wides ws
separated_length ws = omega (arith, separated_spaced ws, spaced_length ws)

applied_length : (f : List ℕ) (ws : List (List ℕ)) → length (applied f ws) ≤ 2 + length f + wides ws
applied_length f [] = omega arith
applied_length f (w ∷ ws) = simp length-append (omega (arith, spaced_length ws))

nary_length : (f : List ℕ) (ws : List (List ℕ)) (e : List ℕ) → length (write_nary f ws e) ≤ 2 + length f + length e + wides ws
nary_length f [] e = omega arith
nary_length f (w ∷ ws) e = simp length-append (omega (arith, spaced_length ws))

-- parameters below 100000, 7 bytes for each
parameters_length : (i n : ℕ) → i + n ≤ 100000 → length (spaced (write_parameters i n)) ≤ 7 * n
parameters_length i zero h = omega arith
parameters_length i (suc n) h =
    let l : length (decimal i) ≤ 5 = decimal_length 4 i (omega arith) in
    let k = parameters_length (suc i) n (omega arith) in
    simp length-append (omega arith)

-- the number of parameters, with what the parameters take beside these; it is a number of two bytes
vars_cost : Costs 0 (λ n. 130 + length (decimal n) + (length (separated (write_parameters 0 n)) - 7 * n) + 7 * (n - 65535)) (number 2)
vars_cost =
    numbers 2 (λ n h.
    let l : length (decimal n) ≤ 5 = decimal_length 4 n (omega arith) in
    omega (arith, separated_spaced (write_parameters 0 n), parameters_length 0 n (omega arith)))

module _ (enc : Encoder) (v : Valid enc.names) where
  -- SORTS

  abbrev wide_sort : Sort → ℕ
  wide_sort b = wide (write_sort enc b)

  abbrev wide_sorts : Sorts → ℕ
  wide_sorts bs = wides (write_sorts enc bs)

  app_length : (c : SortCtor) (bs : Sorts) → length (write_sort enc (Sort.app c bs)) ≤ 3 + length (write_sort_ctor c) + wide_sorts bs
  unfolding write_sort
  app_length c bs =
      let h = applied_length (write_sort_ctor c) (write_sorts enc bs) in
      cond-length (is_opaque enc.declares c) _ (applied (write_sort_ctor c) (write_sorts enc bs)) _ (omega arith) (omega arith)

  sort_rows : {d : Decoder Sort} → Costs 0 wide_sort d → Costs 0 (λ bs. 260 + wide_sorts bs) (counted Sorts.none Sorts.more d)
  unfolding write_sort
  sort_rows f = rows wide_sorts Sorts.none Sorts.more (omega arith) (λ a b. omega arith) f

  sort_forms_lem : {sort : Decoder Sort} → Costs 0 wide_sort sort → CostAll 130 wide_sort (sort_forms sort)
  unfolding sort_forms write_sort write_name
  sort_forms_lem c =
      fixed tt ∣ fixed tt ∣ fixed tt ∣ fixed tt ∣
      (c ⟫ λ b. free (simp length-append (omega arith))) ∣
      (decimals 4 9 tt tt ⟫ λ n. free (omega arith)) ∣
      (decimals 2 4 tt tt ⟫ λ n. free (omega arith)) ∣
      (c ⟫ λ a. c ⟫ λ b. free (simp length-append (omega arith))) ∣
      (any_number 2 ⟫ λ n. c ⟫ λ b. free (omega arith)) ∣
      (sort_rows c ⟫ λ bs. free (omega (arith, app_length SortCtor.set bs))) ∣
      (sort_rows c ⟫ λ bs. free (omega (arith, app_length SortCtor.map bs))) ∣
      (names ⟫ λ x. sort_rows c ⟫ λ bs. free (omega (arith, app_length (SortCtor.named x) bs))) ∣
      end

  pub sorts : (l : ℕ) → Costs 0 wide_sort (dec_sort l)
  unfolding dec_sort
  sorts zero = refused
  sorts (suc l) = codes (sort_forms_lem (sorts l))

  abbrev wide_binders : List Binder → ℕ
  wide_binders bs = wides (write_binders enc bs)

  pub binders : (l : ℕ) → Costs 0 (λ b. wide (write_binder enc b)) (binder l)
  unfolding write_binder write_name
  binders l = names ⟫ λ x. sorts l ⟫ λ b. free (simp length-append (omega arith))

  binder_rows : (l : ℕ) → Costs 0 (λ bs. 260 + wide_binders bs) (counted [] ◌∷◌ (binder l))
  binder_rows l = rows wide_binders [] ◌∷◌ (omega arith) (λ a b. omega arith) (binders l)

  -- EXPRESSIONS

  abbrev wide_given : Option Sort → ℕ
  wide_given none = 0
  wide_given (some b) = wide_sort b

  givens : (l : ℕ) (b : Bool) → Costs 0 wide_given (given l b)
  givens l false = fixed tt
  givens l true = sorts l ⟫ λ b. free (omega arith)

  as_length : (w : List ℕ) (o : Option Sort) → length (write_as enc w o) ≤ 2 + length w + wide_given o
  as_length w none = omega arith
  as_length w (some b) = simp length-append (omega arith)

  head_length : (h : Expr) (w : List ℕ) (o : Option Sort) → length (write_application_head enc h w o) ≤ 2 + length w + wide_given o
  unfolding write_application_head
  head_length h w o = cond-length (is_qualified enc.declares h) (write_as enc w o) w _ (as_length w o) (omega arith)

  abbrev wide_expr : Expr → ℕ
  wide_expr e = wide (write_expr enc e)

  abbrev wide_exprs : Exprs → ℕ
  wide_exprs es = wides (write_exprs enc es)

  expr_rows : {d : Decoder Expr} → Costs 0 wide_expr d → Costs 0 (λ es. 260 + wide_exprs es) (counted Exprs.none Exprs.more d)
  unfolding write_expr
  expr_rows f = rows wide_exprs Exprs.none Exprs.more (omega arith) (λ a b. omega arith) f

  atom_length : (r : BinRel) (u v : List ℕ) → length (write_atom r u v) ≡ length (write_atom r [] []) + length u + length v
  atom_length rel.Eq u v = simp length-append (omega arith)
  atom_length rel.Ne u v = simp length-append (omega arith)
  atom_length rel.Gt u v = simp length-append (omega arith)
  atom_length rel.Ge u v = simp length-append (omega arith)
  atom_length rel.Lt u v = simp length-append (omega arith)
  atom_length rel.Le u v = simp length-append (omega arith)

  -- THEORY FUNCTIONS

  -- a name in a valid table has at most 255 bytes
  set-length : (f : SetFunction) → wide (enc.names f) - 130 ≤ 130
  set-length f = omega (arith, (v f).longest)

  -- a theory function: the expression's code pays for 130 bytes of it, its own code for the rest
  thys : Costs 0 (λ f. wide (write_thy_func enc.names f) - 130) (coded thy_funcs)
  unfolding thy_funcs write_thy_func thy_func_name decimal
  thys =
      codes (
      fixed tt ∣ fixed tt ∣ fixed tt ∣ fixed tt ∣ fixed tt ∣
      (decimals 1 2 tt tt ⟫ λ w. free (simp length-append (omega arith))) ∣
      (decimals 1 2 tt tt ⟫ λ w. free (simp length-append (omega arith))) ∣
      fixed tt ∣ fixed tt ∣ fixed tt ∣ fixed tt ∣ fixed tt ∣ fixed tt ∣ fixed tt ∣ fixed tt ∣ fixed tt ∣ fixed tt ∣ fixed tt ∣ fixed tt ∣
      fixed tt ∣ fixed tt ∣ fixed tt ∣ fixed tt ∣ fixed tt ∣ fixed tt ∣ fixed tt ∣ fixed tt ∣ fixed tt ∣ fixed tt ∣ fixed tt ∣ fixed tt ∣
      fixed tt ∣ fixed tt ∣ fixed tt ∣ fixed tt ∣ fixed tt ∣ fixed tt ∣ fixed tt ∣
      free (set-length SetFunction.empty) ∣ free (set-length SetFunction.singleton) ∣ free (set-length SetFunction.union) ∣
      free (set-length SetFunction.intersection) ∣ free (set-length SetFunction.difference) ∣ free (set-length SetFunction.subset) ∣
      free (set-length SetFunction.member) ∣
      fixed tt ∣ fixed tt ∣ fixed tt ∣ end)

  expr_forms_lem : (l : ℕ) {expr : Decoder Expr} → Costs 0 wide_expr expr → CostAll 130 wide_expr (expr_forms l expr)
  unfolding expr_forms write_expr write_name write_string
  expr_forms_lem l c =
      (decimals 16 38 tt tt ⟫ λ n. free (omega arith)) ∣
      (flags ⟫ λ b. free (omega arith)) ∣
      (decimals 4 9 tt tt ⟫ λ n. free (omega arith)) ∣
      (texts ⟫ λ t. free (simp length-append (omega (arith, doubled_length t)))) ∣
      (decimals 16 38 tt tt ⟫ λ n. decimals 4 9 tt tt ⟫ λ w. free (simp length-append (omega arith))) ∣
      (names ⟫ λ x. free (omega arith)) ∣
      fixed tt ∣
      (c ⟫ λ e. free (simp length-append (omega arith))) ∣
      (c ⟫ λ e. free (simp length-append (omega arith))) ∣
      (bin_ops_lem ⟫ λ o. c ⟫ λ a. c ⟫ λ b. free (simp length-append (omega arith))) ∣
      (bin_rels_lem ⟫ λ r. c ⟫ λ a. c ⟫ λ b. free (omega (arith, atom_length r (write_expr enc a) (write_expr enc b)))) ∣
      (c ⟫ λ a. c ⟫ λ b. free (simp length-append (omega arith))) ∣
      (c ⟫ λ a. c ⟫ λ b. free (simp length-append (omega arith))) ∣
      (expr_rows c ⟫ λ es. free (omega (arith, nary_length (bytes "and") (write_exprs enc es) (bytes "true")))) ∣
      (expr_rows c ⟫ λ es. free (omega (arith, nary_length (bytes "or") (write_exprs enc es) (bytes "false")))) ∣
      (c ⟫ λ a. c ⟫ λ b. c ⟫ λ d. free (simp length-append (omega arith))) ∣
      (names ⟫ λ x. c ⟫ λ a. c ⟫ λ b. free (simp length-append (omega arith))) ∣
      (flags ⟫ λ b. givens l b ⟫ λ o. c ⟫ λ h. expr_rows c ⟫ λ es.
      let w = write_application_head enc h (write_expr enc h) o in
      free (omega (arith, head_length h (write_expr enc h) o, applied_length w (write_exprs enc es)))) ∣
      (thys ⟫ λ f. free (omega arith)) ∣
      (names ⟫ λ x. c ⟫ λ e. free (simp length-append (omega arith))) ∣
      (quantifiers_cost ⟫ λ q. binder_rows l ⟫ λ bs. c ⟫ λ e.
      free (simp length-append (omega (arith, separated_length (write_binders enc bs))))) ∣
      end

  exprs : (l : ℕ) → Costs 0 wide_expr (dec_expr l)
  unfolding dec_expr
  exprs zero = refused
  exprs (suc l) = codes (expr_forms_lem l (exprs l))

  pub preds : (l : ℕ) → Costs 0 (λ p. wide (write_pred enc p)) (dec_pred l)
  unfolding dec_pred write_pred write_name
  preds zero = refused
  preds (suc l) =
      codes ((names ⟫ λ k. expr_rows (exprs l) ⟫ λ es. free (omega (arith, applied_length k (write_exprs enc es)))) ∣
      (exprs l ⟫ λ e. free (omega arith)) ∣ end)

  -- DECLARATIONS

  ctors : Costs 0 (λ c. wide (write_ctor enc c)) data_ctor
  unfolding write_ctor write_name
  ctors = names ⟫ λ x. binder_rows deepest ⟫ λ fs. free (simp length-append (omega (arith, spaced_length (write_binders enc fs))))

  abbrev wide_ctors : List DataCtor → ℕ
  wide_ctors cs = wides (write_ctors enc cs)

  ctor_rows : Costs 0 (λ cs. 260 + wide_ctors cs) (counted [] ◌∷◌ data_ctor)
  ctor_rows = rows wide_ctors [] ◌∷◌ (omega arith) (λ a b. omega arith) ctors

  datatype_length : (d : DataDecl) → length (write_datatype_decl enc d)
      ≤ 60 + length d.name + length (decimal d.vars) + length (separated (write_parameters 0 d.vars)) + wide_ctors d.ctors
  unfolding write_datatype_decl write_name
  datatype_length d =
      let h = separated_length (write_ctors enc d.ctors) in
      let l : length (write_datatype_body enc d) ≤ 12 + length (separated (write_parameters 0 d.vars)) + wide_ctors d.ctors =
      cond-length (eqb d.vars 0) _ _ _ (simp length-append (omega arith)) (simp length-append (omega arith)) in
      simp length-append (omega arith)

  pub datatypes : Costs 0 (λ d. (length (write_datatype_decl enc d) - parameters d) + 7 * (d.vars - 65535)) datatype
  datatypes =
      names ⟫ λ x. vars_cost ⟫ λ n. ctor_rows ⟫ λ cs.
      free (omega (arith, datatype_length (record { name = x; vars = n; ctors = cs })))

  constants : Costs 0 (λ b. length (write_const_decl enc b)) constant
  unfolding write_const_decl write_name
  constants = names ⟫ λ x. sorts deepest ⟫ λ b. free (simp length-append (omega arith))

  -- a function's arguments with their sorts
  zip_length : (xs : List (List ℕ)) (bs : Sorts) → length (spaced (write_binders enc (zip xs bs))) ≤ wides xs + wide_sorts bs
  unfolding write_binder write_sort write_name
  zip_length [] bs = omega arith
  zip_length (x ∷ xs) Sorts.none = omega arith
  zip_length (x ∷ xs) (Sorts.more b bs) = let h = zip_length xs bs in simp length-append (omega arith)

  abbrev wide_body : Option FunBody → ℕ
  wide_body none = 0
  wide_body (some b) = wides b.args + wide_expr b.expr

  bodies : (b : Bool) → Costs 0 wide_body (body b)
  bodies false = fixed tt
  bodies true = rows wides [] ◌∷◌ (omega arith) (λ a b. omega arith) names ⟫ λ xs. exprs deepest ⟫ λ e. free (omega arith)

  function_length : (f : FunDef) (o : Option FunBody)
      → length (write_fun_body enc f o) ≤ 24 + length f.name + wide_sorts f.inputs + wide_sort f.output + wide_body o
  unfolding write_name
  function_length f none = simp length-append (omega (arith, separated_length (write_sorts enc f.inputs)))
  function_length f (some b) =
      let h = separated_spaced (write_binders enc (zip b.args f.inputs)) in
      simp length-append (omega (arith, zip_length b.args f.inputs))

  functions : Costs 0 (λ f. length (write_fun_def enc f)) function
  unfolding write_fun_def
  functions =
      names ⟫ λ x. any_number 2 ⟫ λ n. sort_rows (sorts deepest) ⟫ λ ins. sorts deepest ⟫ λ out. flags ⟫ λ b. bodies b ⟫ λ o.
      free (omega (arith, function_length (record { name = x; params = n; inputs = ins; output = out; body = o }) o))

  kvars : Costs 0 (λ k. length (write_kvar_decl enc k)) kvar
  unfolding write_kvar_decl write_name
  kvars = names ⟫ λ x. sort_rows (sorts deepest) ⟫ λ bs. free (simp length-append (omega (arith, separated_length (write_sorts enc bs))))

-- a text that the size and what is apart have room for
within : {A : Type 0} {apart size : A → ℕ} {text : A → List ℕ} {d : Decoder A}
    → ((a : A) → length (text a) ≤ size a + apart a) → Costs 0 size d → Bounded apart text d
within h c = record { bounded = λ s b at a p e. omega (arith, h a, c.costs s b at a p e) }

pub bounds : ValidBounds
bounds enc v = record {
  sorts = λ l. within (λ a. omega arith) (sorts enc v l);
  exprs = λ l. within (λ a. omega arith) (exprs enc v l);
  preds = λ l. within (λ a. omega arith) (preds enc v l);
  datatypes = within (λ a. omega arith) (datatypes enc v);
  constants = within (λ a. omega arith) (constants enc v);
  functions = within (λ a. omega arith) (functions enc v);
  kvars = within (λ a. omega arith) (kvars enc v);
}
