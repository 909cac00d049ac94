-- What is read ends no earlier than it begins.
use mathlib.Core.Path.{◌≡◌}
use mathlib.Core.Bool.{Bool}
use mathlib.Core.List.{List}
use Prim.Native.Nat.{ℕ, ◌+◌, ◌≤◌}
use Rattle.task.specs.declared.BinOp.{BinOp}
use Rattle.task.specs.declared.BinRel.{BinRel}
use Rattle.task.specs.declared.ThyFunc.{ThyFunc}
use Rattle.task.specs.declared.Quantifier.{Quantifier}
use Rattle.task.specs.Decode.{got, number, name, text, coded, flags, bin_ops, bin_rels, thy_funcs, quantifiers}
use Rattle.task.proofs.Reading.{number_got}
use Rattle.task.proofs.Covering.{covers_number, forward}
use Rattle.task.proofs.Pieces.{each_covers, flags_cover, ops, rels, quants, thys}

module _ (s : List ℕ) (at : ℕ) where
  pub number_behind : (k n p : ℕ) → number k s at ≡ got n p → at ≤ p
  number_behind k n p e = forward (number k) (covers_number k) s at n p e

  pub byte_behind : (n p : ℕ) → number 1 s at ≡ got n p → p ≡ at + 1
  byte_behind n p e = (number_got 1 s at n p e).end

  pub name_behind : (x : List ℕ) (p : ℕ) → name s at ≡ got x p → at ≤ p
  name_behind x p e = forward name each_covers.names s at x p e

  pub text_behind : (x : List ℕ) (p : ℕ) → text s at ≡ got x p → at ≤ p
  text_behind x p e = forward text each_covers.texts s at x p e

  pub flag_behind : (b : Bool) (p : ℕ) → coded flags s at ≡ got b p → at ≤ p
  flag_behind b p e = forward (coded flags) flags_cover s at b p e

  pub op_behind : (o : BinOp) (p : ℕ) → coded bin_ops s at ≡ got o p → at ≤ p
  op_behind o p e = forward (coded bin_ops) ops s at o p e

  pub rel_behind : (o : BinRel) (p : ℕ) → coded bin_rels s at ≡ got o p → at ≤ p
  rel_behind o p e = forward (coded bin_rels) rels s at o p e

  pub func_behind : (f : ThyFunc) (p : ℕ) → coded thy_funcs s at ≡ got f p → at ≤ p
  func_behind f p e = forward (coded thy_funcs) thys s at f p e

  pub quantifier_behind : (q : Quantifier) (p : ℕ) → coded quantifiers s at ≡ got q p → at ≤ p
  quantifier_behind q p e = forward (coded quantifiers) quants s at q p e
