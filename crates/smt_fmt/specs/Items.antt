-- What the writers of predicates and declarations send: the texts of parts, and of pieces that are read at several positions.
use Rattle.std.specs.Prelude.{ℕ, ◌≡◌, cond, List, [], ◌∷◌, ◌++◌, eqb}
use Prim.Native.Char.{code}
use Rattle.std.proofs.Math.Option.{Option}
use Rattle.smtlib.specs.Lexicon.{bytes}
use Rattle.smtlib.specs.Compose.{decimal}
use Rattle.task.specs.Ast.{Sort, Sorts, Expr, Exprs, DataCtor, FunBody, FunDef}
use Rattle.task.specs.Decode.{Res, got, Decoder, give, ◌▹◌, many, flag, dec_sort, body, deepest}
use Rattle.smt_text.specs.Encoder.{Encoder, zip}
use Rattle.smt_text.specs.Text.{spaced, sexp_list, applied, write_name, write_sort, write_sorts, write_binder, write_binders, write_expr, write_exprs, write_ctors, write_parameters, write_fun_signature, write_fun_body}
use Rattle.output.specs.Emit.{Output, emits}

-- a KVar of arguments
unfoldable pub kvar_text : Encoder → List ℕ → Exprs → List ℕ
kvar_text enc k es = applied (write_name k) (write_exprs enc es)

-- constructors, a space before each
unfoldable pub ctors_text : Encoder → List DataCtor → List ℕ
ctors_text enc cs = spaced (write_ctors enc cs)

-- constructors in parentheses: `write_datatype_ctors`
unfoldable pub ctor_list : Encoder → List DataCtor → List ℕ
ctor_list enc cs = sexp_list (write_ctors enc cs)

-- the constructors, behind the parameters if there are any
unfoldable pub body_text : Encoder → ℕ → List DataCtor → List ℕ
body_text enc vars cs =
    cond (eqb vars 0) (ctor_list enc cs) (sexp_list (bytes "par" ∷ sexp_list (write_parameters 0 vars) ∷ ctor_list enc cs ∷ []))

-- a datatype's opening up to its body
unfoldable pub open_text : List ℕ → ℕ → List ℕ
open_text x vars = bytes "(declare-datatypes ((" ++ (write_name x ++ (code " " ∷ decimal vars ++ bytes ")) ("))

-- a declaration's opening up to its own sort
unfoldable pub opening_text : Encoder → List ℕ → Sorts → List ℕ
opening_text enc x bs = bytes "(declare-fun " ++ (write_name x ++ (code " " ∷ sexp_list (write_sorts enc bs) ++ (code " " ∷ [])))

-- what stands behind a function's count of inputs
abbrev pub signed : List ℕ → ℕ → ℕ → Decoder FunDef
signed x params n =
    many Sorts.none Sorts.more (dec_sort deepest) n ▹ λ ins. dec_sort deepest ▹ λ out. flag ▹ λ b. body b ▹ λ o.
    give (record { name = x; params = params; inputs = ins; output = out; body = o })

-- Where a name and a sort were decoded, the writer ended behind each and the name with its sort was sent.
unfoldable pub ArgSends : Encoder → Res (List ℕ) → Res Sort → Output → Output → ℕ → ℕ → Type 0
ArgSends enc x b o o' at from =
    (y : List ℕ) (p : ℕ) (c : Sort) (q : ℕ) → x ≡ got y p → b ≡ got c q
    → (at ≡ p) × (from ≡ q) × (o' ≡ emits o (write_binder enc (record { name = y; sort = c })))

-- Where names and sorts were decoded, each name was sent with the sort at its place: a text of them.
unfoldable pub ZipSends : (List (List ℕ) → List ℕ) → Encoder → Res (List (List ℕ)) → Res Sorts → Output → Output → Type 0
ZipSends text enc xs bs o o' =
    (ys : List (List ℕ)) (p : ℕ) (cs : Sorts) (q : ℕ) → xs ≡ got ys p → bs ≡ got cs q → o' ≡ emits o (text (write_binders enc (zip ys cs)))

-- Where the inputs and the output of a function were decoded, its declaration was sent.
unfoldable pub SignatureSends : Encoder → List ℕ → Res Sorts → Res Sort → Output → Output → Type 0
SignatureSends enc x ins out o o' =
    (bs : Sorts) (p : ℕ) (b : Sort) (q : ℕ) → ins ≡ got bs p → out ≡ got b q → o' ≡ emits o (write_fun_signature x (write_sorts enc bs) (write_sort enc b))

-- Where a function's own sort and its body's expression were decoded, they were sent up to the definition's end.
unfoldable pub DefinedSends : Encoder → Res Sort → Res Expr → Output → Output → ℕ → Type 0
DefinedSends enc out expr o o' at =
    (b : Sort) (p : ℕ) (e : Expr) (q : ℕ) → out ≡ got b p → expr ≡ got e q
    → (at ≡ q) × (o' ≡ emits o (code " " ∷ write_sort enc b ++ (code " " ∷ write_expr enc e ++ bytes ")\n")))

-- Where the inputs, the output and the body of a function were decoded, the writer ended behind the body and the definition was sent.
unfoldable pub BodySends : Encoder → List ℕ → Res Sorts → Res Sort → Res (Option FunBody) → Output → Output → ℕ → Type 0
BodySends enc x ins out inner o o' at =
    (bs : Sorts) (p : ℕ) (b : Sort) (q : ℕ) (f : Option FunBody) (r : ℕ) → ins ≡ got bs p → out ≡ got b q → inner ≡ got f r
    → (at ≡ r) × (o' ≡ emits o (write_fun_body enc (record { name = x; params = 0; inputs = bs; output = b; body = f }) f))
