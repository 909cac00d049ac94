-- At least three bytes belong to each name that a task declares: `symbols_few`, `kvars_few`. So a table with as many words for entries as the
-- file has bytes has room for all.
use mathlib.Core.Path.{◌≡◌, sym, ap, ◌∙◌}
use mathlib.Core.Bool.{Bool, true, false, cond}
use mathlib.Core.List.{List, [], ◌∷◌, ◌++◌, append-nil, append_assoc}
use Prim.Native.Nat.{ℕ, zero, suc, ◌+◌, ◌-◌, ◌*◌, ◌≤◌, ◌<◌}
use native.Mathlib.Omega.{arith}
use lib.Dec.{leb}
use lib.ListN.{length, take, length-append, length-take}
use borrow.Author.Tests.{lt-ltb, le-leb}
use Rattle.task.specs.Ast.{FunDef, KVarDecl}
use Rattle.task.specs.Covers.{Covers}
use Rattle.task.specs.Decode.{Decoder, got, bind, give, ◌▹◌, number, many, counted, name, dec_sort, binder, data_ctor, datatype, constant, kvar, items, section, deepest, function}
use Rattle.task.proofs.Reading.{bind_got}
use Rattle.task.proofs.Covering.{covers_refusal, covers_give, covers_bind, covers_many, covers_number}
use Rattle.task.proofs.Pieces.{each_covers, wide_names, wide_counted, wide_kvars, wide_functions}
use Rattle.item_check.specs.declared.Section.{Section}
use Rattle.item_check.specs.declared.Section.TheVariants.{Comments, Datatypes, Constants, Functions, KVars}
use Rattle.names.specs.declared.Kind.TheVariants.{Constant}
use Rattle.names.specs.Table.{Symbol, room_for, add}
use Rattle.declared.specs.Symbols.{together, named, field_symbols, ctor_symbols, ctors_symbols, datatype_symbols}
use Rattle.declared.specs.Gather.{adds, item_symbols}

-- BYTES FOR SYMBOLS

-- three for each
abbrev owed : List Symbol → ℕ
owed es = 3 * length es

pub binders_wide : (l : ℕ) → Covers (λ b. 3) (binder l)
binders_wide l =
    covers_bind (λ b. 3) (λ x. 2) name _ wide_names (λ x. covers_bind (λ b. 1) (λ b. 1) (dec_sort l) _ (each_covers.sorts l) (λ b. covers_give (λ a. 0) _ (omega arith)))

fields_wide : (n : ℕ) → Covers (λ fs. owed (field_symbols fs)) (many [] ◌∷◌ (binder deepest) n)
fields_wide n = covers_many (λ fs. owed (field_symbols fs)) (λ b. 3) [] ◌∷◌ (binder deepest) (omega arith) (λ b fs. omega arith) (binders_wide deepest) n

ctors_wide : Covers (λ c. owed (ctor_symbols c)) data_ctor
ctors_wide =
    covers_bind (λ c. owed (ctor_symbols c)) (λ x. 2) name _ wide_names (λ x.
    covers_bind (λ c. owed (ctor_symbols c) - 2) (λ fs. 2 + owed (field_symbols fs)) (counted [] ◌∷◌ (binder deepest)) _ (wide_counted (λ fs. owed (field_symbols fs)) [] ◌∷◌ _ fields_wide) (λ fs.
    covers_give (λ c. owed (ctor_symbols c) - 2 - (2 + owed (field_symbols fs))) _ (omega arith)))

rows_wide : (n : ℕ) → Covers (λ cs. owed (ctors_symbols cs)) (many [] ◌∷◌ data_ctor n)
rows_wide n =
    covers_many (λ cs. owed (ctors_symbols cs)) (λ c. owed (ctor_symbols c)) [] ◌∷◌ data_ctor (omega arith) (λ c cs. omega (arith, length-append (ctor_symbols c) (ctors_symbols cs))) ctors_wide n

datatypes_wide : Covers (λ d. owed (datatype_symbols d)) datatype
datatypes_wide =
    covers_bind (λ d. owed (datatype_symbols d)) (λ x. 2) name _ wide_names (λ x.
    covers_bind (λ d. owed (datatype_symbols d) - 2) (λ v. 2) (number 2) _ (covers_number 2) (λ v.
    covers_bind (λ d. owed (datatype_symbols d) - 2 - 2) (λ cs. 2 + owed (ctors_symbols cs)) (counted [] ◌∷◌ data_ctor) _ (wide_counted (λ cs. owed (ctors_symbols cs)) [] ◌∷◌ _ rows_wide) (λ cs.
    covers_give (λ d. owed (datatype_symbols d) - 2 - 2 - (2 + owed (ctors_symbols cs))) _ (omega arith))))

-- symbols taken of a piece
taken_wide : {A : Type 0} (symbols : A → List Symbol) (d : Decoder A) → Covers (λ a. owed (symbols a)) d → Covers owed (d ▹ λ a. give (symbols a))
taken_wide symbols d c = covers_bind owed (λ a. owed (symbols a)) d (λ a. give (symbols a)) c (λ a. covers_give (λ es. owed es - owed (symbols a)) (symbols a) (omega arith))

items_wide : (i : Section) → Covers owed (item_symbols i)
unfolding item_symbols
items_wide Comments = covers_refusal owed 2
items_wide Datatypes = taken_wide datatype_symbols datatype datatypes_wide
items_wide Constants = taken_wide (named Constant) constant (binders_wide deepest)
items_wide Functions = covers_refusal owed 2
items_wide KVars = covers_refusal owed 2

-- the items of a section, where one more adds no more than its size
module _ {A : Type 0} (size : A → ℕ) (total : List A → ℕ) (none : total [] ≤ 0) (more : (a : A) (xs : List A) → total (a ∷ xs) ≤ size a + total xs) (d : Decoder A) (wide : Covers size d) where
  section_owed : (s : List ℕ) (n at : ℕ) (xs : List A) (q : ℕ) → at ≤ length s → items n d s at ≡ got xs q → total xs ≤ length s - at
  unfolding items
  section_owed s zero at xs q h e = let z : [] ≡ xs = cc in rw (← z) (omega arith)
  section_owed s (suc n) at xs q h e = go (leb (length s) at) e (λ p ys r l g. section_owed s n p ys r l g)
    where
      go : (t : Bool) → cond t (got [] at) (bind (d s at) (λ a p. bind (items n d s p) (λ b r. got (a ∷ b) r))) ≡ got xs q
          → ((p : ℕ) (ys : List A) (r : ℕ) → p ≤ length s → items n d s p ≡ got ys r → total ys ≤ length s - p)
          → total xs ≤ length s - at
      go true e rec = let z : [] ≡ xs = cc in rw (← z) (omega arith)
      go false e rec =
          let x = bind_got (d s at) (λ a p. bind (items n d s p) (λ b r. got (a ∷ b) r)) xs q e in
          let y = bind_got (items n d s x.next) (λ b r. got (x.value ∷ b) r) xs q x.then in
          let u = wide.covered s at x.value x.next x.first in
          let b = inside at x.next u.n h u.end u.inside in
          let k = rec x.next y.value y.next b y.first in
          let z : x.value ∷ y.value ≡ xs = cc in
          rw (← z) (omega (arith, more x.value y.value, u.room, u.end))
        where
          inside : (at p n : ℕ) → at ≤ length s → p ≡ at + n → (0 < n → p ≤ length s) → p ≤ length s
          inside at p zero h e f = omega arith
          inside at p (suc n) h e f = f (omega arith)

  -- a section of the file
  section_few : (file : List ℕ) (at end : ℕ) (xs : List A) (q : ℕ) → at ≤ end → end ≤ length file → section d (take end file) at ≡ got xs q → total xs ≤ end - at
  section_few file at end xs q h l e =
      let k = length-take end file in
      omega (arith, section_owed (take end file) (length (take end file)) at xs q (omega arith) e)

-- the symbols of a section, and its KVars
pub symbols_few : (i : Section) (file : List ℕ) (at end : ℕ) (xs : List (List Symbol)) (q : ℕ) → at ≤ end → end ≤ length file → section (item_symbols i) (take end file) at ≡ got xs q
    → 3 * length (together xs) ≤ end - at
symbols_few i = section_few owed (λ xs. owed (together xs)) (omega arith) (λ es xs. omega (arith, length-append es (together xs))) (item_symbols i) (items_wide i)

pub kvars_few : (file : List ℕ) (at end : ℕ) (ks : List KVarDecl) (q : ℕ) → at ≤ end → end ≤ length file → section kvar (take end file) at ≡ got ks q → 3 * length ks ≤ end - at
kvars_few = section_few (λ k. 3) (λ ks. 3 * length ks) (omega arith) (λ k ks. omega arith) kvar wide_kvars

pub functions_few : (file : List ℕ) (at end : ℕ) (fs : List FunDef) (q : ℕ) → at ≤ end → end ≤ length file → section function (take end file) at ≡ got fs q → 3 * length fs ≤ end - at
functions_few = section_few (λ f. 3) (λ fs. 3 * length fs) (omega arith) (λ f fs. omega arith) function wide_functions

-- ROOM

-- where there is room for all, all are added
pub adds_all : (n : ℕ) (es fs : List Symbol) → length es + length fs ≤ 65535 → 1026 + 3 * (length es + length fs) ≤ n → adds n es fs ≡ es ++ fs
unfolding adds add room_for
adds_all n es [] h g = sym (append-nil es)
adds_all n es (f ∷ fs) h g =
    let k = length-append es (f ∷ []) in
    ap (λ (gs : List Symbol). adds n gs fs) (simp (lt-ltb (length es) 65535 (omega arith), le-leb (1026 + 3 * length es + 3) n (omega arith)))
    ∙ adds_all n (es ++ (f ∷ [])) fs (omega arith) (omega arith)
    ∙ append_assoc es (f ∷ []) fs
