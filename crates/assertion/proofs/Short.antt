-- What the ForAlls of a file of bytes have is short: a file has less than 65536 bytes and a byte pays for 130 bytes of text, so a ForAll's binder
-- and its guards have no more than 130 * 65536 bytes each.
use Prim.Native.Nat.{ℕ, ◌*◌, ◌≤◌, ◌<◌}
use mathlib.Core.Path.{◌≡◌, ap}
use mathlib.Core.List.{List, [], ◌∷◌, append-nil}
use native.Mathlib.Omega.{arith}
use mir.Val.{Fits}
use mir.Syntax.{w8}
use lib.ListN.{length, get_or}
use Rattle.task.specs.Ast.{Pred}
use Rattle.task.specs.Decode.{got, counted, dec_pred, deepest}
use Rattle.task.proofs.Reading.{bind_got}
use Rattle.task.proofs.Pieces.{any, any_many, wide_counted, each_covers}
use Rattle.smt_text.specs.Editions.{Valid}
use Rattle.smt_text.specs.Encoder.{Encoder}
use Rattle.smt_text.specs.Text.{write_binder}
use Rattle.smt_text.proofs.Texts.{tables}
use Rattle.smt_text.proofs.Bounds.{rows, wides, spaced_length, binders, preds}
use Rattle.horn_text.specs.Clauses.{ForAll, kept, guards_of}
use Rattle.horn_text.specs.Script.{write_preds}
use Rattle.horn_text.proofs.Lengths.{kept_less}
use Rattle.smt_sort.specs.Section.{edition_in, encoder_in}
use Rattle.output.specs.Emit.{most}
use Rattle.assertion.specs.declared.Kept as code
use Rattle.assertion.specs.Under.{for_all_at, on_path, vars_text, guards_text}
use Rattle.assertion.proofs.Guards.{parts}
use Rattle.assertion.proofs.Keeping.{measured_append}

-- each predicate has a byte at least
some_bytes : (enc : Encoder) (ps : List Pred) → length ps ≤ wides (write_preds enc ps)
some_bytes enc [] = omega arith
some_bytes enc (p ∷ ps) = omega (arith, some_bytes enc ps)

-- no ForAlls have nothing
nothing : (enc : Encoder) → (length (vars_text enc []) ≤ 0) × (length (guards_text enc []) ≤ 0) × (0 ≤ 0)
unfolding vars_text guards_text
nothing enc = (omega arith, omega arith, omega arith)

-- the elements of a slice of bytes are bytes
pub are_bytes : (s : List ℕ) → ((i : ℕ) → Fits w8 (get_or s i 0)) → (i : ℕ) → get_or s i 0 < 256
are_bytes s h i = (h i).fits

-- the tables of both editions are valid
pub valid_in : (s t : List ℕ) → Valid (encoder_in s t).names
unfolding encoder_in
valid_in s t = tables.editions (edition_in t)

module _ (s : List ℕ) (b : (i : ℕ) → get_or s i 0 < 256) (h : length s < 65536) (enc : Encoder) (v : Valid enc.names) where
  -- what a ForAll has
  pub own_short : (o : ℕ) (f : ForAll) (z : ℕ) → for_all_at s o ≡ got f z
      → (length (vars_text enc (f ∷ [])) ≤ 130 * 65536) × (length (guards_text enc (f ∷ [])) ≤ 130 * 65536) × (length (guards_of (f ∷ [])) ≤ 130 * 65536)
  unfolding vars_text guards_text
  own_short o f z e =
      let i = parts s o f z e in
      let all : counted [] ◌∷◌ (dec_pred deepest) s i.p ≡ got f.preds i.r = rw (i.counted_by, i.holds) in
      let x = (binders enc v deepest).costs s b o f.binder i.p i.binds in
      let y = (rows (λ ps. wides (write_preds enc ps)) [] ◌∷◌ (omega arith) (λ p ps. omega arith) (preds enc v deepest)).costs s b i.p f.preds i.r all in
      let k = (each_covers.binders deepest).covered s o f.binder i.p i.binds in
      let l = (wide_counted (λ ps. 0) [] ◌∷◌ _ (any_many [] ◌∷◌ (any (each_covers.preds deepest)))).covered s i.p f.preds i.r all in
      let m = k.inside (omega (arith, k.room)) in
      let n = l.inside (omega (arith, l.room)) in
      let ws = spaced_length (write_preds enc (kept f.preds)) in
      let ks = kept_less enc v f.preds in
      let ns = some_bytes enc (kept f.preds) in
      rw (append-nil (kept f.preds), append-nil (write_binder enc f.binder)) (omega arith, omega arith, omega arith)

  pub vars_fit : (o : ℕ) (f : ForAll) (z : ℕ) → for_all_at s o ≡ got f z → length (vars_text enc (f ∷ [])) ≤ most
  vars_fit o f z e = let l = (own_short o f z e).0 in omega arith

  pub guards_fit : (o : ℕ) (f : ForAll) (z : ℕ) → for_all_at s o ≡ got f z → length (guards_text enc (f ∷ [])) ≤ most
  guards_fit o f z e = let l = (own_short o f z e).1 in omega arith

  -- what the ForAlls of a path have
  pub path_short : (os : List ℕ) (fs : List ForAll) (q : ℕ) → on_path s os ≡ got fs q
      → (length (vars_text enc fs) ≤ 130 * 65536 * length os) × (length (guards_text enc fs) ≤ 130 * 65536 * length os) × (length (guards_of fs) ≤ 130 * 65536 * length os)
  unfolding on_path
  path_short [] fs q e = let n : [] ≡ fs = cc in rw (← n) (nothing enc)
  path_short (o ∷ os) fs q e =
      let i = bind_got (for_all_at s o) _ fs q e in
      let j = bind_got (on_path s os) _ fs q i.then in
      let n : i.value ∷ j.value ≡ fs = cc in
      let one = own_short o i.value i.next i.first in
      let rest = path_short os j.value j.next j.first in
      let all = measured_append enc (i.value ∷ []) j.value in
      rw (← n) (
        omega (arith, ap (λ (k : code.Kept). k.vars) all, one.0, rest.0),
        omega (arith, ap (λ (k : code.Kept). k.guards) all, one.1, rest.1),
        omega (arith, ap (λ (k : code.Kept). k.count) all, one.2, rest.2),
      )
