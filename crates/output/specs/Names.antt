-- How the code lays out the names of the theory functions: one behind the other, in the order of the codes, with the names of Z3; behind them those
-- that the set functions have in cvc5, in the same order. Contracts of inner functions cite this, and no claim about what is written rests on it.
use Rattle.std.specs.Prelude.{ℕ, zero, suc, ◌+◌, cond, ◌&&◌, List, [], ◌∷◌, ◌++◌, leb, ltb, length, get_or}
use Prim.Native.String.{String}
use Rattle.smtlib.specs.Lexicon.{bytes}
use Rattle.smtlib.specs.Compose.{decimal}
use Rattle.task.specs.declared.ThyFunc.{ThyFunc}
use Rattle.task.specs.declared.ThyFunc.TheVariants.{StrLen, StrConcat, StrPrefixOf, StrSuffixOf, StrContains, BvZeroExtend, BvSignExtend, IntToBv8, Bv8ToInt, IntToBv32, Bv32ToInt, IntToBv64, Bv64ToInt, IntToBv128, Bv128ToInt, BvUle, BvSle, BvUge, BvSge, BvUdiv, BvSdiv, BvSrem, BvUrem, BvLshr, BvAshr, BvAnd, BvOr, BvXor, BvNot, BvAdd, BvNeg, BvSub, BvMul, BvShl, BvUgt, BvSgt, BvUlt, BvSlt, SetEmpty, SetSng, SetCup, SetCap, SetDif, SetSub, SetMem, MapDefault, MapSelect, MapStore}
use Rattle.smt_text.specs.declared.Edition.{Edition}
use Rattle.smt_text.specs.declared.Edition.TheVariants.{Z3, Cvc5}
use Rattle.smt_text.specs.Text.{sexp_list}
use Rattle.output.specs.declared.Entry.{Entry}
use Rattle.output.specs.declared.Entry.TheVariants as entry

unfoldable pub names : List String
names =
    "str.len" ∷ "str.++" ∷ "str.prefixof" ∷ "str.suffixof" ∷ "str.contains" ∷ "zero_extend" ∷ "sign_extend" ∷ "int2bv" ∷ "bv2int" ∷
    "int2bv" ∷ "bv2int" ∷ "int2bv" ∷ "bv2int" ∷ "int2bv" ∷ "bv2int" ∷ "bvule" ∷ "bvsle" ∷ "bvuge" ∷ "bvsge" ∷ "bvudiv" ∷ "bvsdiv" ∷
    "bvsrem" ∷ "bvurem" ∷ "bvlshr" ∷ "bvashr" ∷ "bvand" ∷ "bvor" ∷ "bvxor" ∷ "bvnot" ∷ "bvadd" ∷ "bvneg" ∷ "bvsub" ∷ "bvmul" ∷
    "bvshl" ∷ "bvugt" ∷ "bvsgt" ∷ "bvult" ∷ "bvslt" ∷ "emptyset" ∷ "singleton" ∷ "union" ∷ "intersection" ∷ "setminus" ∷ "subset" ∷
    "member" ∷ "const" ∷ "select" ∷ "store" ∷
    "set.empty" ∷ "set.singleton" ∷ "set.union" ∷ "set.inter" ∷ "set.minus" ∷ "set.subset" ∷ "set.member" ∷
    []

-- name i; none behind the last
abbrev pub name_at : ℕ → List ℕ
name_at i = bytes (get_or names i "")

-- names one behind the other
abbrev pub joined : List String → List ℕ
joined [] = []
joined (w ∷ ws) = bytes w ++ joined ws

-- how many bytes stand before name i
abbrev pub before : List String → ℕ → ℕ
before [] i = 0
before (w ∷ ws) zero = 0
before (w ∷ ws) (suc i) = length (bytes w) + before ws i

-- all names
unfoldable pub all_names : List ℕ
unfolding names
all_names = joined names

-- the place of name i
unfoldable pub place_of : ℕ → ℕ
place_of i = before names i

-- the length of name i
unfoldable pub length_of : ℕ → ℕ
length_of i = length (name_at i)

-- how far behind the names of Z3 those of an edition stand
abbrev pub behind_of : Edition → ℕ
behind_of Z3 = 0
behind_of Cvc5 = 10

-- where the name of number i stands in an edition: 38 to 44 are the set functions
unfoldable pub in_edition : Edition → ℕ → ℕ
in_edition e i = cond (leb 38 i && ltb i 45) (i + behind_of e) i

-- a name with an index
abbrev pub indexed_text : ℕ → ℕ → List ℕ
indexed_text i n = sexp_list (bytes "_" ∷ name_at i ∷ decimal n ∷ [])

-- what an entry stands for in an edition
abbrev pub entry_text : Edition → Entry → List ℕ
entry_text e (entry.Plain i) = name_at (in_edition e i)
entry_text e (entry.Indexed i n) = indexed_text i n

-- the entry of a theory function
abbrev pub entry_of : ThyFunc → Entry
entry_of StrLen = entry.Plain 0
entry_of StrConcat = entry.Plain 1
entry_of StrPrefixOf = entry.Plain 2
entry_of StrSuffixOf = entry.Plain 3
entry_of StrContains = entry.Plain 4
entry_of (BvZeroExtend w) = entry.Indexed 5 w
entry_of (BvSignExtend w) = entry.Indexed 6 w
entry_of IntToBv8 = entry.Indexed 7 8
entry_of Bv8ToInt = entry.Plain 8
entry_of IntToBv32 = entry.Indexed 9 32
entry_of Bv32ToInt = entry.Plain 10
entry_of IntToBv64 = entry.Indexed 11 64
entry_of Bv64ToInt = entry.Plain 12
entry_of IntToBv128 = entry.Indexed 13 128
entry_of Bv128ToInt = entry.Plain 14
entry_of BvUle = entry.Plain 15
entry_of BvSle = entry.Plain 16
entry_of BvUge = entry.Plain 17
entry_of BvSge = entry.Plain 18
entry_of BvUdiv = entry.Plain 19
entry_of BvSdiv = entry.Plain 20
entry_of BvSrem = entry.Plain 21
entry_of BvUrem = entry.Plain 22
entry_of BvLshr = entry.Plain 23
entry_of BvAshr = entry.Plain 24
entry_of BvAnd = entry.Plain 25
entry_of BvOr = entry.Plain 26
entry_of BvXor = entry.Plain 27
entry_of BvNot = entry.Plain 28
entry_of BvAdd = entry.Plain 29
entry_of BvNeg = entry.Plain 30
entry_of BvSub = entry.Plain 31
entry_of BvMul = entry.Plain 32
entry_of BvShl = entry.Plain 33
entry_of BvUgt = entry.Plain 34
entry_of BvSgt = entry.Plain 35
entry_of BvUlt = entry.Plain 36
entry_of BvSlt = entry.Plain 37
entry_of SetEmpty = entry.Plain 38
entry_of SetSng = entry.Plain 39
entry_of SetCup = entry.Plain 40
entry_of SetCap = entry.Plain 41
entry_of SetDif = entry.Plain 42
entry_of SetSub = entry.Plain 43
entry_of SetMem = entry.Plain 44
entry_of MapDefault = entry.Plain 45
entry_of MapSelect = entry.Plain 46
entry_of MapStore = entry.Plain 47
