-- Every part ends in a line feed: `parts_lined`. So there are no more parts than bytes: `parts_few`.
use Prim.Native.Nat.{ℕ, zero, suc, ◌≤◌, ◌<◌}
use Prim.Native.Char.{code}
use mathlib.Core.Path.{◌≡◌, refl, ap}
use mathlib.Core.List.{List, [], ◌∷◌, ◌++◌, map}
use mathlib.Core.Option.{Option, none, some}
use native.Mathlib.Omega.{arith}
use lib.ListN.{length, get_or, length-append}
use Rattle.smtlib.proofs.Bools.{clash}
use Rattle.task.specs.Ast.{FunBody, FunDef, Task}
use Rattle.smt_text.specs.Editions.{NameTable}
use Rattle.smt_text.specs.Encoder.{Encoder}
use Rattle.smt_text.specs.Text.{write_datatype_decl, write_const_decl, write_fun_body, write_fun_def, write_kvar_decl}
use Rattle.horn_text.specs.Clauses.{clauses_of}
use Rattle.horn_text.specs.Script.{join, write_assert, write_comment, opening, closing, encoder_of, parts_of}
use Rattle.horn_text.specs.Theorems.{Lined, PartsLined, PartsFew}

-- TEXTS

-- the one number, or the other where it is missing
abbrev else : Option ℕ → ℕ → ℕ
else none b = b
else (some c) b = c

-- the last byte of a text
abbrev final : List ℕ → Option ℕ
final [] = none
final (b ∷ w) = some (else (final w) b)

-- it is the byte behind the others
final_snoc : (w : List ℕ) (b : ℕ) → final (w ++ b ∷ []) ≡ some b
final_snoc [] b = refl
final_snoc (c ∷ w) b = rw (final_snoc w b)

-- a text whose last byte is a line feed
lined : (w : List ℕ) → final w ≡ some (code "\n") → Lined w
lined [] e = clash (cc)
lined (b ∷ []) e = record { before = []; is = cc }
lined (b ∷ c ∷ w) e = let h = lined (c ∷ w) e in record { before = b ∷ h.before; is = ap (λ v. b ∷ v) h.is }

-- every text ends in a line feed
data AllLined : List (List ℕ) → Type 0 where
  end : AllLined []
  more : {w : List ℕ} {ws : List (List ℕ)} → Lined w → AllLined ws → AllLined (w ∷ ws)

infixr 2 ◌then◌
-- texts and texts behind them
◌then◌ : {us vs : List (List ℕ)} → AllLined us → AllLined vs → AllLined (us ++ vs)
◌then◌ end g = g
◌then◌ (more f h) g = more f (h then g)

-- the texts of some pieces
each : {A : Type 0} (text : A → List ℕ) → ((x : A) → Lined (text x)) → (xs : List A) → AllLined (map text xs)
each text f [] = end
each text f (x ∷ xs) = more (f x) (each text f xs)

-- one of the texts
one : {ws : List (List ℕ)} → AllLined ws → (i : ℕ) → i < length ws → Lined (get_or ws i [])
one end i l = absurd (omega arith)
one (more f h) zero l = f
one (more f h) (suc i) l = one h i (omega arith)

-- each text has a byte at least
few : {ws : List (List ℕ)} → AllLined ws → length ws ≤ length (join ws)
few end = omega arith
few (more f h) = rw (length-append, f.is, length-append) (omega (arith, few h))

-- PARTS

-- the opening, with comments or without
opening_lined : (cs : List (List ℕ)) → Lined (opening cs)
unfolding opening
opening_lined [] = lined _ refl
opening_lined (c ∷ cs) = lined _ (rw (final_snoc (join (map write_comment (c ∷ cs))) (code "\n")))

-- a function, with a body or without
function_lined : (enc : Encoder) (f : FunDef) (b : Option FunBody) → Lined (write_fun_body enc f b)
function_lined enc f none = lined _ (simp final_snoc)
function_lined enc f (some b) = lined _ (simp final_snoc)

-- all parts
all_lined : (names : NameTable) (t : Task) → AllLined (parts_of names t)
unfolding write_datatype_decl write_const_decl write_fun_def write_kvar_decl write_assert closing
all_lined names t =
    let enc = encoder_of names t in
    more (opening_lined t.comments) (
    (each (write_datatype_decl enc) (λ d. lined _ (simp final_snoc)) t.datatypes
    then each (write_const_decl enc) (λ b. lined _ (simp final_snoc)) t.constants
    then each (write_fun_def enc) (λ f. function_lined enc f f.body) t.functions
    then each (write_kvar_decl enc) (λ k. lined _ (simp final_snoc)) t.kvars)
    then more (lined _ refl) (each (write_assert enc) (λ c. lined _ (simp final_snoc)) (clauses_of t) then more (lined _ refl) end))

pub parts_lined : PartsLined
parts_lined names t = one (all_lined names t)

pub parts_few : PartsFew
parts_few names t = few (all_lined names t)
