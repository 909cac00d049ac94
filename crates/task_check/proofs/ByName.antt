-- All theory functions but two are written by a name alone.
use mathlib.Core.Path.{◌≡◌, refl}
use mathlib.Core.Bool.{false}
use Rattle.task.specs.declared.ThyFunc.{ThyFunc}
use Rattle.task.specs.declared.ThyFunc.TheVariants.{StrLen, StrConcat, StrPrefixOf, StrSuffixOf, StrContains, BvZeroExtend, BvSignExtend, IntToBv8, Bv8ToInt, IntToBv32, Bv32ToInt, IntToBv64, Bv64ToInt, IntToBv128, Bv128ToInt, BvUle, BvSle, BvUge, BvSge, BvUdiv, BvSdiv, BvSrem, BvUrem, BvLshr, BvAshr, BvAnd, BvOr, BvXor, BvNot, BvAdd, BvNeg, BvSub, BvMul, BvShl, BvUgt, BvSgt, BvUlt, BvSlt, SetEmpty, SetSng, SetCup, SetCap, SetDif, SetSub, SetMem, MapDefault, MapSelect, MapStore}
use Rattle.task.specs.Fault.{needs_sort}

pub by_name : (f : ThyFunc) → (f ≡ SetEmpty → ⊥) → (f ≡ MapDefault → ⊥) → false ≡ needs_sort f
unfolding needs_sort
by_name StrLen n m = refl
by_name StrConcat n m = refl
by_name StrPrefixOf n m = refl
by_name StrSuffixOf n m = refl
by_name StrContains n m = refl
by_name (BvZeroExtend w) n m = refl
by_name (BvSignExtend w) n m = refl
by_name IntToBv8 n m = refl
by_name Bv8ToInt n m = refl
by_name IntToBv32 n m = refl
by_name Bv32ToInt n m = refl
by_name IntToBv64 n m = refl
by_name Bv64ToInt n m = refl
by_name IntToBv128 n m = refl
by_name Bv128ToInt n m = refl
by_name BvUle n m = refl
by_name BvSle n m = refl
by_name BvUge n m = refl
by_name BvSge n m = refl
by_name BvUdiv n m = refl
by_name BvSdiv n m = refl
by_name BvSrem n m = refl
by_name BvUrem n m = refl
by_name BvLshr n m = refl
by_name BvAshr n m = refl
by_name BvAnd n m = refl
by_name BvOr n m = refl
by_name BvXor n m = refl
by_name BvNot n m = refl
by_name BvAdd n m = refl
by_name BvNeg n m = refl
by_name BvSub n m = refl
by_name BvMul n m = refl
by_name BvShl n m = refl
by_name BvUgt n m = refl
by_name BvSgt n m = refl
by_name BvUlt n m = refl
by_name BvSlt n m = refl
by_name SetEmpty n m = absurd (n refl)
by_name SetSng n m = refl
by_name SetCup n m = refl
by_name SetCap n m = refl
by_name SetDif n m = refl
by_name SetSub n m = refl
by_name SetMem n m = refl
by_name MapDefault n m = absurd (m refl)
by_name MapSelect n m = refl
by_name MapStore n m = refl
