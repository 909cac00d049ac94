-- The theorems about what is written. Each is proved in proofs/ under the name that stands behind it.
use Rattle.std.specs.Prelude.{ℕ, ◌+◌, ◌*◌, ◌≤◌, ◌<◌, ◌≡◌, false, List, [], ◌∷◌, map, length, get_or}
use Rattle.smtlib.specs.Compose.{Says, Writes}
use Rattle.task.specs.declared.Fault.TheVariants.{Sound}
use Rattle.task.specs.declared.ThyFunc.{ThyFunc}
use Rattle.task.specs.Ast.{Sort, Binder, Expr, Pred, DataDecl, FunDef, KVarDecl}
use Rattle.task.specs.Decode.{Decoder, got, dec_sort, dec_expr, dec_pred, datatype, constant, function, kvar}
use Rattle.task.specs.Fault.{name_fault, text_fault, sort_fault, expr_fault, pred_fault, datatype_fault, binder_fault, function_fault, kvar_fault}
use Rattle.smt_text.specs.Editions.{NameTable, Valid}
use Rattle.smt_text.specs.Encoder.{Declared, Encoder, encoder}
use Rattle.smt_text.specs.Template.{Template, fill, sets_in, sets_in_all, Filled}
use Rattle.smt_text.specs.Text.{write_name, write_string, write_thy_func, write_sort, write_expr, write_pred, write_datatype_decl, write_const_decl, write_fun_def, write_kvar_decl}
use Rattle.smt_text.specs.Sexp.{name_sexp, string_sexp, thy_func_sexp, sort_sexp, expr_sexp, pred_sexp, datatype_command, constant_command, function_command, kvar_command}

-- For every valid table the text of a piece spells its template filled in from the table. All its texts are one list of pieces, in which the set
-- functions are, one to one and in order, those of the template.
pub record Spelled (text : NameTable → List ℕ) (x : Template) : Type 0 where
  pub says : (names : NameTable) → Valid names → Says (text names) (fill names x)
  pub pieces : Filled text (sets_in x)

-- So does the text of a declaration with its commands.
pub record Written (text : NameTable → List ℕ) (xs : List Template) : Type 0 where
  pub writes : (names : NameTable) → Valid names → Writes (text names) (map (fill names) xs)
  pub pieces : Filled text (sets_in_all xs)

-- The texts of a piece without fault spell what is called for; those of a declaration are its command. (proofs/Spelling.antt: spelling)
pub record Spelling (env : Declared) : Type 0 where
  pub names : (x : List ℕ) → name_fault x ≡ Sound → Spelled (λ n. write_name x) (name_sexp x)
  pub strings : (t : List ℕ) → text_fault t ≡ Sound → Spelled (λ n. write_string t) (string_sexp t)
  pub thy_funcs : (f : ThyFunc) → Spelled (λ n. write_thy_func n f) (thy_func_sexp f)
  pub sorts : (b : Sort) → sort_fault false b ≡ Sound → Spelled (λ n. write_sort (encoder n env) b) (sort_sexp env b)
  pub exprs : (e : Expr) → expr_fault false e ≡ Sound → Spelled (λ n. write_expr (encoder n env) e) (expr_sexp env e)
  pub preds : (p : Pred) → pred_fault p ≡ Sound → Spelled (λ n. write_pred (encoder n env) p) (pred_sexp env p)
  pub datatypes : (d : DataDecl) → datatype_fault d ≡ Sound → Written (λ n. write_datatype_decl (encoder n env) d) (datatype_command env d ∷ [])
  pub constants : (b : Binder) → binder_fault b ≡ Sound → Written (λ n. write_const_decl (encoder n env) b) (constant_command env b ∷ [])
  pub functions : (f : FunDef) → function_fault f ≡ Sound → Written (λ n. write_fun_def (encoder n env) f) (function_command env f ∷ [])
  pub kvars : (k : KVarDecl) → kvar_fault k ≡ Sound → Written (λ n. write_kvar_decl (encoder n env) k) (kvar_command env k ∷ [])

-- A piece has at most 130 times as many bytes of text as it was decoded from, beside what it has apart. What it is decoded from are bytes.
pub record Bounded {A : Type 0} (apart : A → ℕ) (text : A → List ℕ) (d : Decoder A) : Type 0 where
  pub bounded : (s : List ℕ) → ((i : ℕ) → get_or s i 0 < 256) → (at : ℕ) (a : A) (p : ℕ) → d s at ≡ got a p
      → 130 * at + length (text a) ≤ 130 * p + apart a

-- nothing
abbrev pub none : {A : Type 0} → A → ℕ
none a = 0

-- a datatype's parameters: a parameter and a space are at most 7 bytes
abbrev pub parameters : DataDecl → ℕ
parameters d = 7 * d.vars

-- of each kind of piece
pub record Bounds (enc : Encoder) : Type 0 where
  pub sorts : (l : ℕ) → Bounded none (write_sort enc) (dec_sort l)
  pub exprs : (l : ℕ) → Bounded none (write_expr enc) (dec_expr l)
  pub preds : (l : ℕ) → Bounded none (write_pred enc) (dec_pred l)
  pub datatypes : Bounded parameters (write_datatype_decl enc) datatype
  pub constants : Bounded none (write_const_decl enc) constant
  pub functions : Bounded none (write_fun_def enc) function
  pub kvars : Bounded none (write_kvar_decl enc) kvar

-- So it is with every valid table. (proofs/Bounds.antt: bounds)
abbrev pub ValidBounds : Type 0
ValidBounds = (enc : Encoder) → Valid enc.names → Bounds enc
