-- What stands at the offsets of a path, and what the writers of an assertion send for it.
use Rattle.std.specs.Prelude.{ℕ, ◌+◌, Bool, cond, ◌&&◌, List, [], ◌∷◌, ◌++◌, ◌≡◌, ltb, eqb, length, get_or}
use Rattle.task.specs.Ast.{Pred}
use Rattle.task.specs.Decode.{Res, got, bind, counted, binder, dec_pred, deepest}
use Rattle.smtlib.specs.Lexicon.{bytes}
use Rattle.smt_text.specs.Encoder.{Encoder}
use Rattle.smt_text.specs.Text.{spaced, write_binders, write_pred}
use Rattle.horn_text.specs.Clauses.{ForAll, kept, binders_of, guards_of, clause_of}
use Rattle.horn_text.specs.Script.{join, write_preds, write_assert}
use Rattle.assertion.specs.declared.Form.{Form}
use Rattle.output.specs.Emit.{Output, output, emits, Sends}

-- the ForAll whose name stands at an offset; where it ends does not matter
unfoldable pub for_all_at : List ℕ → ℕ → Res ForAll
for_all_at s o =
    bind (binder deepest s o) (λ b p. bind (counted [] ◌∷◌ (dec_pred deepest) s p) (λ ps q. got (record { binder = b; preds = ps }) 0))

-- the ForAlls of a path
unfoldable pub on_path : List ℕ → List ℕ → Res (List ForAll)
on_path s [] = got [] 0
on_path s (o ∷ os) = bind (for_all_at s o) (λ f p. bind (on_path s os) (λ fs q. got (f ∷ fs) q))

-- their binders without a space between two
unfoldable pub vars_text : Encoder → List ForAll → List ℕ
vars_text enc fs = join (write_binders enc (binders_of fs))

-- predicates that are not literally true, a space before each
unfoldable pub kept_text : Encoder → List Pred → List ℕ
kept_text enc ps = spaced (write_preds enc (kept ps))

-- those of ForAlls
unfoldable pub guards_text : Encoder → List ForAll → List ℕ
guards_text enc fs = spaced (write_preds enc (guards_of fs))

-- what was sent, and how many guards were sent
pub record Listing : Type 0 where
  pub out : Output
  pub count : ℕ

abbrev pub listing : List ℕ → ℕ → ℕ → Listing
listing b n k = record { out = output b n; count = k }

-- the guards among predicates are sent, a space before each, and counted
unfoldable pub lists : Encoder → Listing → List Pred → Listing
lists enc w ps = record { out = emits w.out (kept_text enc ps); count = w.count + length (kept ps) }

-- AN ASSERTION, ROUND ITS BINDERS AND GUARDS

-- a KVar stands there
abbrev pub kvar_at : List ℕ → ℕ → Bool
kvar_at s at = ltb at (length s) && eqb (get_or s at 0) 0

-- the form of an assertion; there are no binders where their number or length is 0
abbrev pub form_of : List ℕ → ℕ → ℕ → ℕ → Form
form_of s at binders n = record { kvar = kvar_at s at; bound = ltb 0 binders; count = n }

-- what stands before the binders
unfoldable pub opening_text : Bool → List ℕ
opening_text bound = cond bound (bytes "(assert (forall (") (bytes "(assert ")

-- what stands between the binders and what the guards need
unfoldable pub implies_text : Bool → List ℕ
implies_text bound = cond bound (bytes ") (=>") (bytes "(=>")

-- before the guards of a KVar head: `true` for none, nothing before one alone, `and` before more; of an expression head: `and` before any
unfoldable pub group_text : Bool → ℕ → List ℕ
group_text kvar n = cond (eqb n 0) (cond kvar (bytes " true") []) (cond (kvar && eqb n 1) [] (bytes " (and"))

-- behind the guards of a KVar head, if `and` stands before them
unfoldable pub ungroup_text : Bool → ℕ → List ℕ
ungroup_text kvar n = cond (kvar && ltb 1 n) (bytes ")") []

-- before the head: an expression is negated
unfoldable pub before_text : Bool → List ℕ
before_text kvar = cond kvar (bytes " ") (bytes " (not ")

-- behind it: false is implied by the negation of an expression, with guards under one `and`
unfoldable pub behind_text : Bool → ℕ → List ℕ
behind_text kvar n = cond kvar (bytes ")") (cond (eqb n 0) (bytes ") false)") (bytes ")) false)"))

-- what closes an assertion
unfoldable pub end_text : Bool → List ℕ
end_text bound = cond bound (bytes "))\n") (bytes ")\n")

-- from the head on
unfoldable pub head_text : Encoder → Form → Pred → List ℕ
head_text enc f p = before_text f.kvar ++ (write_pred enc p ++ (behind_text f.kvar f.count ++ end_text f.bound))

-- the assertion of a head
unfoldable pub assert_text : Encoder → List ForAll → Pred → List ℕ
assert_text enc fs p = write_assert enc (clause_of (record { around = fs; head = p }))

-- Where the ForAlls of a path stand at its offsets, the text of a head under them was sent.
unfoldable pub HeadSends : {A : Type 0} → (List ForAll → A → List ℕ) → Res (List ForAll) → Res A → Output → Output → ℕ → Type 0
HeadSends text path d o o' at = (fs : List ForAll) (q : ℕ) → path ≡ got fs q → Sends (text fs) d o o' at
