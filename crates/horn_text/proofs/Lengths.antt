-- With a valid table of names the script of a file of bytes is shorter than 2^40 bytes, and its longest part shorter than 2^32: `script_short`. An
-- item takes at most 500000 bytes of text for each byte it is decoded from. There are no more assertions than bytes, and an assertion is at most
-- 8000000 bytes long.
use Prim.Native.Nat.{ℕ, zero, suc, ◌+◌, ◌-◌, ◌*◌, ◌^◌, ◌≤◌, ◌<◌}
use mathlib.Core.Path.{◌≡◌, refl}
use mathlib.Core.Bool.{Bool, true, false, cond}
use mathlib.Core.List.{List, [], ◌∷◌, ◌++◌, map, map-append}
use native.Mathlib.Nat.{le_trans, lt_of_le_of_lt, max-le, le-max_left, le-max_right}
use native.Mathlib.Omega.{arith}
use lib.Dec.{leb, lit≤, lit<}
use lib.ListN.{length, take, get_or, length-append, length-take}
use Rattle.smtlib.specs.Lexicon.{bytes}
use Rattle.smtlib.specs.Compose.{line}
use Rattle.task.specs.Ast.{Binder, Pred, Constraint, Constraints}
use Rattle.task.specs.Decode.{got, bind, Decoder, items, dec_constraint, comment, datatype, deepest, section}
use Rattle.task.specs.Task.{literally_true, pred_heads, heads_of, heads_in, bound, within}
use Rattle.task.specs.Covers.{CoversSome}
use Rattle.task.proofs.Reading.{bind_got}
use Rattle.task.proofs.Pieces.{each_covers}
use Rattle.smt_text.specs.Editions.{Valid}
use Rattle.smt_text.specs.Encoder.{Encoder}
use Rattle.smt_text.specs.Text.{write_name, write_binder, write_binders, write_unary, write_expr, write_pred, write_datatype_decl}
use Rattle.smt_text.specs.Theorems.{Bounded, none}
use Rattle.smt_text.proofs.Bounds.{Costs, refused, free, ◌⟫◌, names, texts, rows, end, ◌∣◌, codes, wide, wides, spaced_length, sorts, preds, datatypes, bounds}
use Rattle.horn_text.specs.Clauses.{HornClause, kept, flatten_constraint, flatten_constraints}
use Rattle.horn_text.specs.Script.{join, write_preds, write_guard_conjunction, write_negation, write_implication, write_forall, write_assert, write_asserts, write_comment, opening, closing, encoder_of, longest}
use Rattle.horn_text.specs.Theorems.{ScriptShort}
use Rattle.task.proofs.Opened.{opened}

-- TEXTS IN A ROW

-- a size that is the sum over the pieces of a list
sums : {A : Type 0} (one : A → ℕ) (size : List A → ℕ) → size [] ≡ 0 → ((x : A) (xs : List A) → size (x ∷ xs) ≡ one x + size xs)
    → (xs ys : List A) → size (xs ++ ys) ≡ size xs + size ys
sums one size h g [] ys = omega arith
sums one size h g (x ∷ xs) ys = omega (arith, g x xs, g x (xs ++ ys), sums one size h g xs ys)

-- texts behind others
joined : (us vs : List (List ℕ)) → length (join (us ++ vs)) ≡ length (join us) + length (join vs)
joined us vs = sums length (λ ws. length (join ws)) refl (λ w ws. length-append w (join ws)) us vs

-- texts without a space between them
join_length : (ws : List (List ℕ)) → length (join ws) ≤ wides ws
join_length [] = omega arith
join_length (w ∷ ws) = simp length-append (omega (arith, join_length ws))

-- the longest of texts and of more texts
longest_more : {m : ℕ} (us vs : List (List ℕ)) → longest us ≤ m → longest vs ≤ m → longest (us ++ vs) ≤ m
longest_more [] vs h k = k
longest_more (u ∷ us) vs h k =
    let l = le_trans (le-max_left (length u) (longest us)) h in
    max-le l (longest_more us vs (le_trans (le-max_right (length u) (longest us)) h) k)

-- SECTIONS

-- A text has 130 bytes for each byte that its piece is decoded from, and may have a datatype's parameters besides.
abbrev Paid : {A : Type 0} → (A → List ℕ) → Decoder A → Type 0
Paid text d = Bounded (λ a. 7 * 65535) text d

-- what has nothing apart
paid : {A : Type 0} {text : A → List ℕ} {d : Decoder A} → Bounded none text d → Paid text d
paid f = record { bounded = λ s b at a p e. omega (arith, f.bounded s b at a p e) }

-- a datatype has at most 65535 parameters
datatypes_paid : (enc : Encoder) → Valid enc.names → Paid (write_datatype_decl enc) datatype
datatypes_paid enc v = record { bounded = λ s b at a p e. omega (arith, (datatypes enc v).costs s b at a p e) }

-- a comment's line has 4 bytes more than the comment, which has 2 bytes for its length
comments_paid : Bounded none write_comment comment
comments_paid = record { bounded = λ s b at a p e. simp length-append (omega (arith, texts.costs s b at a p e)) }

-- The items of a section, where w tells how many bytes of text the bytes in front of a position pay for, and m how many a text may have.
module _ {A : Type 0} (text : A → List ℕ) {d : Decoder A} (c : CoversSome d) (s : List ℕ) (w : ℕ → ℕ) (m : ℕ)
    (rises : (a b : ℕ) → a ≤ b → w a ≤ w b)
    (f : (at : ℕ) (a : A) (p : ℕ) → d s at ≡ got a p → at < p → p ≤ length s → (w at + length (text a) ≤ w p) × (length (text a) ≤ m)) where
  items_short : (n at : ℕ) (xs : List A) (q : ℕ) → items n d s at ≡ got xs q
      → (length (join (map text xs)) ≤ w (length s) - w at) × (longest (map text xs) ≤ m)
  unfolding items
  items_short zero at xs q e = let z : [] ≡ xs = cc in rw (← z) (omega arith, omega arith)
  items_short (suc n) at xs q e = go (leb (length s) at) e (λ p ys r h. items_short n p ys r h)
    where
      go : (t : Bool) → cond t (got [] at) (bind (d s at) (λ a p. bind (items n d s p) (λ b r. got (a ∷ b) r))) ≡ got xs q
          → ((p : ℕ) (ys : List A) (r : ℕ) → items n d s p ≡ got ys r
          → (length (join (map text ys)) ≤ w (length s) - w p) × (longest (map text ys) ≤ m))
          → (length (join (map text xs)) ≤ w (length s) - w at) × (longest (map text xs) ≤ m)
      go true e rec = let z : [] ≡ xs = cc in rw (← z) (omega arith, omega arith)
      go false e rec =
          let x = bind_got (d s at) (λ a p. bind (items n d s p) (λ b r. got (a ∷ b) r)) xs q e in
          let y = bind_got (items n d s x.next) (λ b r. got (x.value ∷ b) r) xs q x.then in
          let u = c.covered s at x.value x.next x.first in
          let i = u.inside (omega (arith, u.room)) in
          let l : at < x.next = omega (arith, u.room, u.end) in
          let g : x.next ≤ length s = omega (arith, u.room, u.end) in
          let h = f at x.value x.next x.first l g in
          let k = rec x.next y.value y.next y.first in
          let r = rises x.next (length s) g in
          let z : x.value ∷ y.value ≡ xs = cc in
          rw (← z, length-append) (omega (arith, h.0, k.0), max-le h.1 k.1)

-- ASSERTIONS

module _ (enc : Encoder) (v : Valid enc.names) where
  -- the binders around a text
  forall_length : (bs : List Binder) (w : List ℕ) → length (write_forall enc bs w) ≤ 12 + wides (write_binders enc bs) + length w
  forall_length [] w = omega arith
  forall_length (b ∷ bs) w = simp length-append (omega (arith, join_length (write_binders enc bs)))

  -- the guards before a KVar head
  guards_length : (gs : List Pred) → length (write_guard_conjunction enc gs) ≤ 5 + wides (write_preds enc gs)
  guards_length [] = omega arith
  guards_length (g ∷ []) = omega arith
  guards_length (g ∷ h ∷ gs) = simp length-append (omega (arith, spaced_length (write_preds enc gs)))

  -- the guards and the negation of an expression head
  negation_length : (gs : List Pred) (n : List ℕ) → length (write_negation enc gs n) ≤ 9 + wides (write_preds enc gs) + length n
  negation_length [] n = omega arith
  negation_length (g ∷ gs) n =
      let h = spaced_length (write_preds enc gs ++ n ∷ []) in
      let k = sums wide wides refl (λ w ws. refl) (write_preds enc gs) (n ∷ []) in
      simp length-append (omega arith)

  -- the guards and the head
  implication_length : (gs : List Pred) (p : Pred)
      → length (write_implication enc gs p) ≤ 26 + wides (write_preds enc gs) + length (write_pred enc p)
  unfolding write_implication write_pred
  implication_length gs (Pred.kvar k es) = simp length-append (omega (arith, guards_length gs))
  implication_length gs (Pred.expr e) =
      let n = write_unary (bytes "not") (write_expr enc e) in
      let k : length n ≤ 6 + length (write_pred enc (Pred.expr e)) = simp length-append (omega arith) in
      simp length-append (omega (arith, negation_length gs n))

  -- the binders and the guards that an assertion is given
  abbrev path : List Binder → List Pred → ℕ
  path bs gs = wides (write_binders enc bs) + wides (write_preds enc gs)

  -- an assertion is 64 bytes longer at most than what it is made of
  assert_length : (c : HornClause) → length (write_assert enc c) ≤ 64 + path c.vars c.guards + length (write_pred enc c.head)
  unfolding write_assert
  assert_length c =
      let h = forall_length c.vars (write_implication enc c.guards c.head) in
      let k = implication_length c.guards c.head in
      simp length-append (omega arith)

  -- the predicates that are not literally true are no more than all of them
  pub kept_less : (ps : List Pred) → wides (write_preds enc (kept ps)) ≤ wides (write_preds enc ps)
  kept_less [] = omega arith
  kept_less (p ∷ ps) = go (literally_true p) (kept_less ps)
    where
      go : (t : Bool) → wides (write_preds enc (kept ps)) ≤ wides (write_preds enc ps)
          → wides (write_preds enc (cond t (kept ps) (p ∷ kept ps))) ≤ wides (write_preds enc (p ∷ ps))
      go true h = omega arith
      go false h = omega arith

  -- the text of the binders and predicates of a constraint, each of them once
  mutual
    weight : Constraint → ℕ
    weight (Constraint.pred p) = wide (write_pred enc p)
    weight (Constraint.conj cs) = weights cs
    weight (Constraint.for_all x b ps c) = wide (write_binder enc (record { name = x; sort = b })) + wides (write_preds enc ps) + weight c

    weights : Constraints → ℕ
    weights Constraints.none = 0
    weights (Constraints.more c cs) = weight c + weights cs

  -- 130 bytes for each byte that a constraint is decoded from pay for that
  weighed : (l : ℕ) → Costs 0 weight (dec_constraint l)
  unfolding dec_constraint weight write_binder write_name
  weighed zero = refused
  weighed (suc l) =
      codes (
      (preds enc v l ⟫ λ p. free (omega arith)) ∣
      (rows weights Constraints.none Constraints.more (omega arith) (λ a b. omega arith) (weighed l) ⟫ λ cs. free (omega arith)) ∣
      (names ⟫ λ x. sorts enc v l ⟫ λ b. rows (λ ps. wides (write_preds enc ps)) [] ◌∷◌ (omega arith) (λ a b. omega arith) (preds enc v l) ⟫ λ ps.
      weighed l ⟫ λ c. free (simp length-append (omega arith))) ∣
      end)

  -- a head gives one assertion, or none if it is literally true
  one_clause : (t : Bool) (c : HornClause) → length (write_assert enc c) ≤ 8000000
      → (length (join (write_asserts enc (cond t [] (c ∷ [])))) ≤ 8000000 * cond t 0 1) × (longest (write_asserts enc (cond t [] (c ∷ []))) ≤ 8000000)
  one_clause true c h = (omega arith, omega arith)
  one_clause false c h = (simp length-append (omega arith), max-le h (omega arith))

  -- The path to a head holds each binder and each predicate of the constraint at most once, so none of the assertions is longer than that.
  mutual
    unfolding flatten_constraint heads_of pred_heads weight

    clauses_short : (c : Constraint) (bs : List Binder) (gs : List Pred) → 64 + path bs gs + weight c ≤ 8000000
        → (length (join (write_asserts enc (flatten_constraint c bs gs))) ≤ 8000000 * heads_of c) × (longest (write_asserts enc (flatten_constraint c bs gs)) ≤ 8000000)
    clauses_short (Constraint.pred p) bs gs h =
        let c : HornClause = record { vars = bs; guards = gs; head = p } in
        one_clause (literally_true p) c (omega (arith, assert_length c))
    clauses_short (Constraint.conj cs) bs gs h = all_short cs bs gs h
    clauses_short (Constraint.for_all x b ps c) bs gs h =
        let y : Binder = record { name = x; sort = b } in
        let i = sums (λ v. wide (write_binder enc v)) (λ vs. wides (write_binders enc vs)) refl (λ v vs. refl) bs (y ∷ []) in
        let j = sums (λ p. wide (write_pred enc p)) (λ qs. wides (write_preds enc qs)) refl (λ q qs. refl) gs (kept ps) in
        clauses_short c (bs ++ y ∷ []) (gs ++ kept ps) (omega (arith, kept_less ps))

    all_short : (cs : Constraints) (bs : List Binder) (gs : List Pred) → 64 + path bs gs + weights cs ≤ 8000000
        → (length (join (write_asserts enc (flatten_constraints cs bs gs))) ≤ 8000000 * heads_in cs) × (longest (write_asserts enc (flatten_constraints cs bs gs)) ≤ 8000000)
    all_short Constraints.none bs gs h = (omega arith, omega arith)
    all_short (Constraints.more c cs) bs gs h =
        let i = clauses_short c bs gs (omega arith) in
        let j = all_short cs bs gs (omega arith) in
        let xs = flatten_constraint c bs gs in
        let ys = flatten_constraints cs bs gs in
        rw (map-append (write_assert enc) xs ys) (
          omega (arith, i.0, j.0, joined (write_asserts enc xs) (write_asserts enc ys)),
          longest_more (write_asserts enc xs) (write_asserts enc ys) i.1 j.1,
        )

-- THE WHOLE

-- texts that are short enough together and each
record Short (most : ℕ) (ws : List (List ℕ)) : Type 0 where
  total : length (join ws) ≤ most
  each : longest ws ≤ 9000000

-- the opening is 19 bytes longer at most than the comments' lines
opening_length : (cs : List (List ℕ)) → length (opening cs) ≤ 19 + length (join (map write_comment cs))
unfolding opening
opening_length [] = omega arith
opening_length (c ∷ cs) = omega (arith, length-append (join (map write_comment (c ∷ cs))) (line []))

-- the parts together
parts_short : {ds bs fs ks xs : List (List ℕ)} (cs : List (List ℕ)) → length (join (map write_comment cs)) ≤ 7800000
    → Short 30000000000 ds → Short 30000000000 bs → Short 30000000000 fs → Short 30000000000 ks → Short 480000000000 xs
    → (length (join (opening cs ∷ ((ds ++ (bs ++ (fs ++ ks))) ++ line [] ∷ (xs ++ closing ∷ [])))) < 2 ^ 40)
    × (longest (opening cs ∷ ((ds ++ (bs ++ (fs ++ ks))) ++ line [] ∷ (xs ++ closing ∷ []))) < 2 ^ 32)
unfolding closing
parts_short {ds} {bs} {fs} {ks} {xs} cs c d b f k a = (
  rw (length-append, joined (ds ++ (bs ++ (fs ++ ks))) (line [] ∷ (xs ++ closing ∷ [])), joined ds (bs ++ (fs ++ ks)), joined bs (fs ++ ks), joined fs ks)
      (simp length-append (omega (arith, joined xs (closing ∷ []), opening_length cs, d.total, b.total, f.total, k.total, a.total))),
  lt_of_le_of_lt
      (max-le (omega (arith, opening_length cs))
      (longest_more (ds ++ (bs ++ (fs ++ ks))) (line [] ∷ (xs ++ closing ∷ []))
      (longest_more ds (bs ++ (fs ++ ks)) d.each (longest_more bs (fs ++ ks) b.each (longest_more fs ks f.each k.each)))
      (max-le (lit≤ tt) (longest_more xs (closing ∷ []) a.each (lit≤ tt)))))
      (lit< tt),
)

-- a part of a file of bytes
taken : (n : ℕ) (s : List ℕ) → ((i : ℕ) → get_or s i 0 < 256) → (i : ℕ) → get_or (take n s) i 0 < 256
taken zero s h i = omega arith
taken (suc n) [] h i = h i
taken (suc n) (x ∷ s) h zero = h 0
taken (suc n) (x ∷ s) h (suc i) = taken n s (λ j. h (suc j)) i

module _ (file : List ℕ) (b : (i : ℕ) → get_or file i 0 < 256) (l : length file ≤ 60000) where
  -- a section of a file of at most 60000 bytes: an item takes a byte at least, so no byte pays for the parameters of two
  section_short : {A : Type 0} {text : A → List ℕ} {d : Decoder A} → CoversSome d → Paid text d
      → (i : ℕ) {xs : List A} {q : ℕ} → within file i (section d) ≡ got xs q → Short 30000000000 (map text xs)
  section_short {text = text} c f i {xs} {q} e =
      let n = bound file (i + 1) in
      let s = take n file in
      let k = length-take n file in
      let x = items_short text c s (λ p. 500000 * p) 9000000 (λ p r h. omega arith)
      (λ at a p g h j. let z = f.bounded s (taken n file b) at a p g in (omega arith, omega arith)) (length s) (bound file i) xs q e in
      record { total = omega (arith, x.0); each = x.1 }

  -- the comments' lines together
  comments_short : {xs : List (List ℕ)} {q : ℕ} → within file 0 (section comment) ≡ got xs q → length (join (map write_comment xs)) ≤ 7800000
  comments_short {xs} {q} e =
      let n = bound file 1 in
      let s = take n file in
      let k = length-take n file in
      let x = items_short write_comment each_covers.comments s (λ p. 130 * p) 7800000 (λ p r h. omega arith)
      (λ at a p g h j. let z = comments_paid.bounded s (taken n file b) at a p g in (omega arith, omega arith)) (length s) (bound file 0) xs q e in
      omega (arith, x.0)

  -- the constraint of such a file
  constraint_short : (enc : Encoder) → Valid enc.names → (c : Constraint) (q : ℕ) → within file 5 (dec_constraint deepest) ≡ got c q
      → Short 480000000000 (write_asserts enc (flatten_constraint c [] []))
  constraint_short enc v c q e =
      let n = bound file 6 in
      let at = bound file 5 in
      let s = take n file in
      let w = (weighed enc v deepest).costs s (taken n file b) at c q e in
      let x = (each_covers.constraints deepest).covered s at c q e in
      let y = (each_covers.heads deepest).covered s at c q e in
      let i = x.inside (omega (arith, x.room)) in
      let m = length-take n file in
      let h = clauses_short enc v c [] [] (omega arith) in
      record { total = omega (arith, h.0, y.room, y.end); each = omega (arith, h.1) }

pub script_short : ScriptShort
script_short names v file t q b e =
    let o = opened file t q e in
    let enc = encoder_of names t in
    let l = o.most in
    parts_short t.comments
    (comments_short file b l o.comments)
    (section_short file b l each_covers.datatypes (datatypes_paid enc v) 1 o.datatypes)
    (section_short file b l each_covers.constants (paid (bounds enc v).constants) 2 o.constants)
    (section_short file b l each_covers.functions (paid (bounds enc v).functions) 3 o.functions)
    (section_short file b l each_covers.kvars (paid (bounds enc v).kvars) 4 o.kvars)
    (constraint_short file b l enc v t.constraint (bound file 6) o.constraint)
