-- The names of the theory functions: `write_thy_func`'s table. A table of names has those of the seven set functions.
use Rattle.std.specs.Prelude.{ℕ}
use Prim.Native.String.{String}
use Rattle.task.specs.declared.ThyFunc.{ThyFunc}
use Rattle.task.specs.declared.ThyFunc.TheVariants.{StrLen, StrConcat, StrPrefixOf, StrSuffixOf, StrContains, BvZeroExtend, BvSignExtend, IntToBv8, Bv8ToInt, IntToBv32, Bv32ToInt, IntToBv64, Bv64ToInt, IntToBv128, Bv128ToInt, BvUle, BvSle, BvUge, BvSge, BvUdiv, BvSdiv, BvSrem, BvUrem, BvLshr, BvAshr, BvAnd, BvOr, BvXor, BvNot, BvAdd, BvNeg, BvSub, BvMul, BvShl, BvUgt, BvSgt, BvUlt, BvSlt, SetEmpty, SetSng, SetCup, SetCap, SetDif, SetSub, SetMem, MapDefault, MapSelect, MapStore}
use Rattle.smt_text.specs.Editions.{SetFunction}

-- a symbol, or a symbol with an index: `f`, `(_ f n)`; or a set function
pub data Identifier : Type 0 where
  plain : String → Identifier
  indexed : String → ℕ → Identifier
  set : SetFunction → Identifier

-- what a theory function is called
unfoldable pub thy_func_name : ThyFunc → Identifier
thy_func_name StrLen = Identifier.plain "str.len"
thy_func_name StrConcat = Identifier.plain "str.++"
thy_func_name StrPrefixOf = Identifier.plain "str.prefixof"
thy_func_name StrSuffixOf = Identifier.plain "str.suffixof"
thy_func_name StrContains = Identifier.plain "str.contains"
thy_func_name (BvZeroExtend w) = Identifier.indexed "zero_extend" w
thy_func_name (BvSignExtend w) = Identifier.indexed "sign_extend" w
thy_func_name IntToBv8 = Identifier.indexed "int2bv" 8
thy_func_name Bv8ToInt = Identifier.plain "bv2int"
thy_func_name IntToBv32 = Identifier.indexed "int2bv" 32
thy_func_name Bv32ToInt = Identifier.plain "bv2int"
thy_func_name IntToBv64 = Identifier.indexed "int2bv" 64
thy_func_name Bv64ToInt = Identifier.plain "bv2int"
thy_func_name IntToBv128 = Identifier.indexed "int2bv" 128
thy_func_name Bv128ToInt = Identifier.plain "bv2int"
thy_func_name BvUle = Identifier.plain "bvule"
thy_func_name BvSle = Identifier.plain "bvsle"
thy_func_name BvUge = Identifier.plain "bvuge"
thy_func_name BvSge = Identifier.plain "bvsge"
thy_func_name BvUdiv = Identifier.plain "bvudiv"
thy_func_name BvSdiv = Identifier.plain "bvsdiv"
thy_func_name BvSrem = Identifier.plain "bvsrem"
thy_func_name BvUrem = Identifier.plain "bvurem"
thy_func_name BvLshr = Identifier.plain "bvlshr"
thy_func_name BvAshr = Identifier.plain "bvashr"
thy_func_name BvAnd = Identifier.plain "bvand"
thy_func_name BvOr = Identifier.plain "bvor"
thy_func_name BvXor = Identifier.plain "bvxor"
thy_func_name BvNot = Identifier.plain "bvnot"
thy_func_name BvAdd = Identifier.plain "bvadd"
thy_func_name BvNeg = Identifier.plain "bvneg"
thy_func_name BvSub = Identifier.plain "bvsub"
thy_func_name BvMul = Identifier.plain "bvmul"
thy_func_name BvShl = Identifier.plain "bvshl"
thy_func_name BvUgt = Identifier.plain "bvugt"
thy_func_name BvSgt = Identifier.plain "bvsgt"
thy_func_name BvUlt = Identifier.plain "bvult"
thy_func_name BvSlt = Identifier.plain "bvslt"
thy_func_name SetEmpty = Identifier.set SetFunction.empty
thy_func_name SetSng = Identifier.set SetFunction.singleton
thy_func_name SetCup = Identifier.set SetFunction.union
thy_func_name SetCap = Identifier.set SetFunction.intersection
thy_func_name SetDif = Identifier.set SetFunction.difference
thy_func_name SetSub = Identifier.set SetFunction.subset
thy_func_name SetMem = Identifier.set SetFunction.member
thy_func_name MapDefault = Identifier.plain "const"
thy_func_name MapSelect = Identifier.plain "select"
thy_func_name MapStore = Identifier.plain "store"
