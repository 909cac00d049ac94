-- What the writers of expressions send: the texts of parts that several forms have.
use Rattle.std.specs.Prelude.{ℕ, ◌≡◌, Bool, List}
use Rattle.std.proofs.Math.Option.{Option}
use Rattle.task.specs.declared.BinRel.{BinRel}
use Rattle.task.specs.Ast.{Sort, Expr, Exprs}
use Rattle.task.specs.Decode.{Res, got, Decoder, give, ◌▹◌, dec_expr}
use Rattle.smt_text.specs.Encoder.{Encoder, is_qualified}
use Rattle.smt_text.specs.Text.{spaced, write_unary, write_binary, write_nary, write_atom, write_application_head, write_expr, write_exprs}
use Rattle.output.specs.Emit.{Output, Sends}

-- two operands
abbrev pub two : ℕ → Decoder (Expr × Expr)
two l = dec_expr l ▹ λ a. dec_expr l ▹ λ b. give (a, b)

-- expressions, a space before each
unfoldable pub exprs_text : Encoder → Exprs → List ℕ
exprs_text enc es = spaced (write_exprs enc es)

-- an operation of one operand
unfoldable pub unary_text : Encoder → List ℕ → Expr → List ℕ
unary_text enc op e = write_unary op (write_expr enc e)

-- an operation of two operands
unfoldable pub binary_text : Encoder → List ℕ → Expr × Expr → List ℕ
binary_text enc op ab = write_binary op (write_expr enc ab.0) (write_expr enc ab.1)

-- a relation of two operands
unfoldable pub atom_text : Encoder → BinRel → Expr × Expr → List ℕ
atom_text enc r ab = write_atom r (write_expr enc ab.0) (write_expr enc ab.1)

-- a connective
unfoldable pub nary_text : Encoder → List ℕ → List ℕ → Exprs → List ℕ
nary_text enc op empty es = write_nary op (write_exprs enc es) empty

-- Where an expression was decoded, the answer tells whether it is written with the output sort as an application's head.
unfoldable pub TellsQualified : Encoder → List ℕ → ℕ → Bool → Type 0
TellsQualified enc s at r = (l : ℕ) (h : Expr) (p : ℕ) → dec_expr l s at ≡ got h p → r ≡ is_qualified enc.declares h

-- Where the output sort was decoded, the head's text is sent by it.
unfoldable pub HeadSends : Encoder → Res (Option Sort) → Res Expr → Output → Output → ℕ → Type 0
HeadSends enc sort head o o' at =
    (b : Option Sort) (q : ℕ) → sort ≡ got b q → Sends (λ h. write_application_head enc h (write_expr enc h) b) head o o' at
