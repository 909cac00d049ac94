-- Which texts are at fault; what the writers need of faults and sections; and that faults cover what the source panics on.
use Rattle.std.specs.Prelude.{ℕ, zero, suc, ◌<◌, ◌≤◌, ◌≡◌, false, List, [], ◌∷◌, ◌++◌, T, length, get_or, replicate}
use Rattle.task.specs.declared.Fault.{Fault}
use Rattle.task.specs.declared.Fault.TheVariants.{Text, Sound}
use Rattle.task.specs.Ast.{Sort, Binder, Expr, Pred, DataDecl, FunDef, KVarDecl}
use Rattle.task.specs.Decode.{got, Decoder, ◌▹◌, many, binder, dec_pred, section}
use Rattle.task.specs.Fault.{lower, text_fault, sort_fault, binder_fault, expr_fault, pred_fault, datatype_fault, function_fault, kvar_fault}
use Rattle.task.specs.Returns.{write_sort_returns, write_expr_returns, write_pred_returns, write_datatype_decl_returns, write_const_decl_returns, write_fun_def_returns, write_kvar_decl_returns}
use Rattle.task.specs.Covers.{CoversSome}

-- the faults of n texts of one byte, from the byte b on
abbrev pub faults_from : ℕ → ℕ → List Fault
faults_from b zero = []
faults_from b (suc n) = text_fault (b ∷ []) ∷ faults_from (suc b) n

-- Which comments and strings are at fault, said without the test of a byte. It is fixed so for all that are made of bytes. (proofs/Texts.antt: text_faults)
pub record TextFaults : Type 0 where
  -- of one byte: with 0 to 31 they are, with 32 to 126 not, with 127 to 255 they are
  pub alone : faults_from 0 256 ≡ replicate 32 Text ++ (replicate 95 Sound ++ replicate 129 Text)
  -- of none: not
  pub empty : text_fault [] ≡ Sound
  -- of two parts: if one of them is
  pub joined : (t u : List ℕ) → text_fault (t ++ u) ≡ lower (text_fault t) (text_fault u)

-- A piece's fault is put together by `lower`; there is none exactly if there is none in its parts.
pub record SoundParts : Type 0 where
  pub none_left : (f g : Fault) → lower f g ≡ Sound → f ≡ Sound
  pub none_right : (f g : Fault) → lower f g ≡ Sound → g ≡ Sound
  pub none_both : (f g : Fault) → f ≡ Sound → g ≡ Sound → lower f g ≡ Sound

-- the item behind n others
abbrev pub item_at : {A : Type 0} → ℕ → Decoder A → Decoder A
item_at zero d = d
item_at (suc n) d = d ▹ λ a. item_at n d

-- What a section holds: the walk over n items comes to the item number n, and the walk over all of them to the section's end.
pub record Walks {A : Type 0} (d : Decoder A) (s : List ℕ) (at : ℕ) (xs : List A) (q : ℕ) : Type 0 where
  pub next : ℕ → ℕ
  pub nth : (n : ℕ) (default : A) → n < length xs → item_at n d s at ≡ got (get_or xs n default) (next n)
  pub end : q ≡ length s

-- so is every section that decodes
pub record SectionWalks : Type 1 where
  pub walks : {A : Type 0} (d : Decoder A) (s : List ℕ) (at : ℕ) (xs : List A) (q : ℕ) → CoversSome d → at ≤ length s → section d s at ≡ got xs q → Walks d s at xs q

-- where one decoder gets something the other gets the same
pub record Agrees {A : Type 0} (d e : Decoder A) : Type 0 where
  pub agrees : (s : List ℕ) (at : ℕ) (a : A) (p : ℕ) → d s at ≡ got a p → e s at ≡ got a p

-- What a ForAll has decodes alike with more levels left. (proofs/Levels.antt: deeper)
pub record Deeper : Type 0 where
  pub binders : (l m : ℕ) → l ≤ m → Agrees (binder l) (binder m)
  pub preds : (l m : ℕ) → l ≤ m → (n : ℕ) → Agrees (many [] ◌∷◌ (dec_pred l) n) (many [] ◌∷◌ (dec_pred m) n)

-- Where a piece is without fault the source's writer returns, whatever datatypes are declared: what it panics on is refused.
-- (proofs/Returning.antt: returning)
pub record Returning (ds : List DataDecl) : Type 0 where
  pub sorts : (b : Sort) → sort_fault false b ≡ Sound → T (write_sort_returns ds b)
  pub exprs : (e : Expr) → expr_fault false e ≡ Sound → T (write_expr_returns ds e)
  pub preds : (p : Pred) → pred_fault p ≡ Sound → T (write_pred_returns ds p)
  pub datatypes : (d : DataDecl) → datatype_fault d ≡ Sound → T (write_datatype_decl_returns ds d)
  pub constants : (b : Binder) → binder_fault b ≡ Sound → T (write_const_decl_returns ds b)
  pub functions : (f : FunDef) → function_fault f ≡ Sound → T (write_fun_def_returns ds f)
  pub kvars : (k : KVarDecl) → kvar_fault k ≡ Sound → T (write_kvar_decl_returns ds k)
