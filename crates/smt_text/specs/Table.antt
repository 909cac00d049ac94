-- Texts that are said apart from what the definitions share. The theory functions, as `write_thy_func` and `write_application_head` of the source
-- have them: what is written and what is called for share their names. Strings (W-203): what is written and what is read share the doubling.
use Rattle.std.specs.Prelude.{ℕ, zero, suc, ◌≡◌, Bool, false, List, [], ◌∷◌, ◌++◌, map, eqb, drop, replicate}
use Prim.Native.Char.{code}
use Prim.Native.String.{String}
use Rattle.std.proofs.Math.Option.{some}
use Rattle.smtlib.specs.Lexicon.{bytes, any}
use Rattle.smtlib.specs.Compose.{quotes, decimal}
use Rattle.task.specs.declared.ThyFunc.{ThyFunc}
use Rattle.task.specs.declared.ThyFunc.TheVariants.{BvZeroExtend, BvSignExtend, SetEmpty, MapDefault}
use Rattle.task.specs.Ast.{Sort, Expr, Exprs}
use Rattle.task.specs.Decode.{Res, got, refuse, coded, thy_funcs}
use Rattle.smt_text.specs.declared.Edition.{Edition}
use Rattle.smt_text.specs.declared.Edition.TheVariants.{Z3, Cvc5}
use Rattle.smt_text.specs.Editions.{NameTable, Valid, names_of}
use Rattle.smt_text.specs.Encoder.{Declared, Encoder, encoder}
use Rattle.smt_text.specs.Text.{write_string, write_thy_func, write_sort, write_expr}

-- In the order of declaration, which is that of the codes 0 to 47. The two extend functions stand here with the width 24, and SetEmpty and
-- MapDefault with the names that they have as heads.
abbrev pub source_texts : List String
source_texts =
    "str.len" ∷ "str.++" ∷ "str.prefixof" ∷ "str.suffixof" ∷ "str.contains" ∷
    "(_ zero_extend 24)" ∷ "(_ sign_extend 24)" ∷
    "(_ int2bv 8)" ∷ "bv2int" ∷ "(_ int2bv 32)" ∷ "bv2int" ∷
    "(_ int2bv 64)" ∷ "bv2int" ∷ "(_ int2bv 128)" ∷ "bv2int" ∷
    "bvule" ∷ "bvsle" ∷ "bvuge" ∷ "bvsge" ∷
    "bvudiv" ∷ "bvsdiv" ∷ "bvsrem" ∷ "bvurem" ∷ "bvlshr" ∷ "bvashr" ∷
    "bvand" ∷ "bvor" ∷ "bvxor" ∷ "bvnot" ∷ "bvadd" ∷ "bvneg" ∷ "bvsub" ∷ "bvmul" ∷ "bvshl" ∷
    "bvugt" ∷ "bvsgt" ∷ "bvult" ∷ "bvslt" ∷
    "emptyset" ∷ "singleton" ∷ "union" ∷ "intersection" ∷ "setminus" ∷ "subset" ∷ "member" ∷
    "const" ∷ "select" ∷ "store" ∷
    []

-- the text of a function that was decoded
abbrev pub text_of : NameTable → Res ThyFunc → List ℕ
text_of names (got f end) = write_thy_func names f
text_of names (refuse n) = []

-- the texts of n codes from c on, each with the byte 24 behind it
abbrev pub texts_from : NameTable → ℕ → ℕ → List (List ℕ)
texts_from names c zero = []
texts_from names c (suc n) = text_of names (coded thy_funcs (c ∷ 24 ∷ []) 0) ∷ texts_from names (suc c) n

-- the application of a theory function to nothing, with an output sort
abbrev pub qualified : ThyFunc → Sort → Expr
qualified f b = Expr.app (Expr.thy_func f) Exprs.none (some b)

-- With the table of Z3 what is written for the theory functions is what the source writes. (proofs/Texts.antt: thy_func_texts)
pub record ThyFuncTexts : Type 0 where
  -- each code's
  pub texts : texts_from (names_of Z3) 0 48 ≡ map bytes source_texts
  -- the extend functions, for every width
  pub zero_extend : (names : NameTable) (w : ℕ) → write_thy_func names (BvZeroExtend w) ≡ bytes "(_ zero_extend " ++ (decimal w ++ bytes ")")
  pub sign_extend : (names : NameTable) (w : ℕ) → write_thy_func names (BvSignExtend w) ≡ bytes "(_ sign_extend " ++ (decimal w ++ bytes ")")
  -- SetEmpty and MapDefault as heads, for every output sort
  pub set_empty : (env : Declared) (b : Sort)
      → write_expr (encoder (names_of Z3) env) (qualified SetEmpty b) ≡ bytes "(as emptyset " ++ (write_sort (encoder (names_of Z3) env) b ++ bytes ")")
  pub map_default : (enc : Encoder) (b : Sort) → write_expr enc (qualified MapDefault b) ≡ bytes "(as const " ++ (write_sort enc b ++ bytes ")")

-- W-205. The seven texts of cvc5 by their codes; and which tables are valid: the names of the seven may have 1 to 255 bytes, and none may be reserved.
-- (proofs/Texts.antt: tables)
pub record Tables : Type 0 where
  pub cvc5 : texts_from (names_of Cvc5) 38 7
      ≡ map bytes ("set.empty" ∷ "set.singleton" ∷ "set.union" ∷ "set.inter" ∷ "set.minus" ∷ "set.subset" ∷ "set.member" ∷ [])
  -- no table changes the others: the codes before the seven and behind them
  pub before : (names names' : NameTable) → texts_from names 0 38 ≡ texts_from names' 0 38
  pub behind : (names names' : NameTable) → texts_from names 45 3 ≡ texts_from names' 45 3
  -- the tables of both editions are valid
  pub editions : (e : Edition) → Valid (names_of e)
  -- 1 and 255 bytes; no byte and 256
  pub shortest : Valid (λ f. bytes "a")
  pub longest : Valid (λ f. replicate 255 (code "a"))
  pub empty : Valid (λ f. []) → ⊥
  pub too_long : Valid (λ f. replicate 256 (code "a")) → ⊥
  -- a reserved word, a numeral, a space
  pub reserved : Valid (λ f. bytes "as") → ⊥
  pub numeral : Valid (λ f. bytes "1") → ⊥
  pub blank : Valid (λ f. bytes "a b") → ⊥

-- a quotation mark
abbrev pub is_quote : ℕ → Bool
is_quote b = eqb b (code "\"")

-- What is written for strings. The first two fix it for each. (proofs/Texts.antt: string_texts)
pub record StringTexts : Type 0 where
  -- without a quotation mark: as the source writes every string
  pub plain : (t : List ℕ) → any is_quote t ≡ false → write_string t ≡ quotes t
  -- with one: up to the first as it is, this one twice, and what is behind it as it would be written behind an opening quotation mark
  pub quoted : (t u : List ℕ) → any is_quote t ≡ false → write_string (t ++ (bytes "\"" ++ u)) ≡ bytes "\"" ++ (t ++ (bytes "\"\"" ++ drop 1 (write_string u)))
  -- a quotation mark alone; two
  pub alone : write_string (bytes "\"") ≡ bytes "\"\"\"\""
  pub two : write_string (bytes "\"\"") ≡ bytes "\"\"\"\"\"\""
  -- one between two bytes; one at each end
  pub middle : write_string (bytes "a\"b") ≡ bytes "\"a\"\"b\""
  pub ends : write_string (bytes "\"a\"") ≡ bytes "\"\"\"a\"\"\""
