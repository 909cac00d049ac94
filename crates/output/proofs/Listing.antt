-- Each name stands at its place among the names: one computed test over the whole table.
use mathlib.Core.Path.{◌≡◌, refl, sym, ap}
use mathlib.Core.Bool.{Bool, ◌&&◌}
use Prim.Native.Nat.{ℕ, ◌+◌, ◌-◌, ◌<◌, ◌≤◌}
use native.Mathlib.Nat.{add-sub_cancel_left}
use lib.Dec.{T, leb, leb→le}
use lib.ListN.{take, drop, get_or, get_or-eq_default}
use Rattle.smtlib.specs.Lexicon.{bytes, same}
use Rattle.smtlib.specs.Compose.{decimal}
use Rattle.smtlib.specs.Table.{values}
use Rattle.smtlib.proofs.Bools.{and_left, and_right, same→eq}
use Rattle.smtlib.proofs.Entries.{below, at_below, value_at}
use Rattle.task.specs.declared.ThyFunc.{ThyFunc}
use Rattle.task.specs.declared.ThyFunc.TheVariants.{StrLen, StrConcat, StrPrefixOf, StrSuffixOf, StrContains, BvZeroExtend, BvSignExtend, IntToBv8, Bv8ToInt, IntToBv32, Bv32ToInt, IntToBv64, Bv64ToInt, IntToBv128, Bv128ToInt, BvUle, BvSle, BvUge, BvSge, BvUdiv, BvSdiv, BvSrem, BvUrem, BvLshr, BvAshr, BvAnd, BvOr, BvXor, BvNot, BvAdd, BvNeg, BvSub, BvMul, BvShl, BvUgt, BvSgt, BvUlt, BvSlt, SetEmpty, SetSng, SetCup, SetCap, SetDif, SetSub, SetMem, MapDefault, MapSelect, MapStore}
use Rattle.smt_text.specs.declared.Edition.{Edition}
use Rattle.smt_text.specs.declared.Edition.TheVariants.{Z3, Cvc5}
use Rattle.smt_text.specs.Editions.{names_of}
use Rattle.smt_text.specs.Theory.{thy_func_name}
use Rattle.smt_text.specs.Text.{write_thy_func}
use Rattle.output.specs.Emit.{Output, emits}
use Rattle.output.specs.Names.{names, name_at, all_names, place_of, length_of, in_edition, entry_text, entry_of}

-- the rule of name i
listed : ℕ → Bool
listed i = leb (place_of i + length_of i) 378 && same (take (length_of i) (drop (place_of i) all_names)) (name_at i)

all_listed : T (below 55 listed)
unfolding listed names all_names place_of length_of
all_listed = tt

pub inside : (i : ℕ) → i < 55 → place_of i + length_of i ≤ 378
unfolding listed
inside i h = leb→le _ _ (and_left (leb (place_of i + length_of i) 378) _ (at_below 55 listed all_listed i h))

pub stands : (i p n : ℕ) → i < 55 → p ≡ place_of i → n ≡ length_of i → take (p + n - p) (drop p all_names) ≡ name_at i
unfolding listed
stands i p n h e f =
    rw (add-sub_cancel_left p n, e, f)
    (same→eq _ _ (and_right (leb (place_of i + length_of i) 378) _ (at_below 55 listed all_listed i h)))

-- the two tables list the places and the lengths
pub placed : (i : ℕ) → i < 55 → get_or (values place_of 0 55) i 0 ≡ place_of i
placed i h = value_at place_of 55 i h

pub measured : (i : ℕ) → i < 55 → get_or (values length_of 0 55) i 0 ≡ length_of i
measured i h = value_at length_of 55 i h

-- behind the last name there is none
pub unlisted : (o : Output) (i : ℕ) → 55 ≤ i → o ≡ emits o (name_at i)
unfolding names emits
unlisted o i h = sym (ap (λ w. emits o (bytes w)) (get_or-eq_default names "" h))

-- a function's entry stands for its text
pub entry_text_lem : (e : Edition) (f : ThyFunc) → entry_text e (entry_of f) ≡ write_thy_func (names_of e) f
unfolding names in_edition names_of thy_func_name write_thy_func decimal
entry_text_lem e StrLen = refl
entry_text_lem e StrConcat = refl
entry_text_lem e StrPrefixOf = refl
entry_text_lem e StrSuffixOf = refl
entry_text_lem e StrContains = refl
entry_text_lem e (BvZeroExtend w) = refl
entry_text_lem e (BvSignExtend w) = refl
entry_text_lem e IntToBv8 = refl
entry_text_lem e Bv8ToInt = refl
entry_text_lem e IntToBv32 = refl
entry_text_lem e Bv32ToInt = refl
entry_text_lem e IntToBv64 = refl
entry_text_lem e Bv64ToInt = refl
entry_text_lem e IntToBv128 = refl
entry_text_lem e Bv128ToInt = refl
entry_text_lem e BvUle = refl
entry_text_lem e BvSle = refl
entry_text_lem e BvUge = refl
entry_text_lem e BvSge = refl
entry_text_lem e BvUdiv = refl
entry_text_lem e BvSdiv = refl
entry_text_lem e BvSrem = refl
entry_text_lem e BvUrem = refl
entry_text_lem e BvLshr = refl
entry_text_lem e BvAshr = refl
entry_text_lem e BvAnd = refl
entry_text_lem e BvOr = refl
entry_text_lem e BvXor = refl
entry_text_lem e BvNot = refl
entry_text_lem e BvAdd = refl
entry_text_lem e BvNeg = refl
entry_text_lem e BvSub = refl
entry_text_lem e BvMul = refl
entry_text_lem e BvShl = refl
entry_text_lem e BvUgt = refl
entry_text_lem e BvSgt = refl
entry_text_lem e BvUlt = refl
entry_text_lem e BvSlt = refl
entry_text_lem Z3 SetEmpty = refl
entry_text_lem Cvc5 SetEmpty = refl
entry_text_lem Z3 SetSng = refl
entry_text_lem Cvc5 SetSng = refl
entry_text_lem Z3 SetCup = refl
entry_text_lem Cvc5 SetCup = refl
entry_text_lem Z3 SetCap = refl
entry_text_lem Cvc5 SetCap = refl
entry_text_lem Z3 SetDif = refl
entry_text_lem Cvc5 SetDif = refl
entry_text_lem Z3 SetSub = refl
entry_text_lem Cvc5 SetSub = refl
entry_text_lem Z3 SetMem = refl
entry_text_lem Cvc5 SetMem = refl
entry_text_lem e MapDefault = refl
entry_text_lem e MapSelect = refl
entry_text_lem e MapStore = refl
