-- The number of each refusal: what callers outside see of it, and what the customers' promises speak of.
use Rattle.std.specs.Prelude.{ℕ}
use Rattle.task.specs.declared.Refusal.{Refusal}
use Rattle.task.specs.declared.Refusal.TheVariants.{Trailer, Piece, Level, Text, NoConstructors, Arity, Shadowed, Part, Room, Unknown, Arguments, BitVecWidth, Unqualified, WKVar, Clash}

-- the number
abbrev pub number_of : Refusal → ℕ
number_of Trailer = 1
number_of Piece = 2
number_of Level = 3
number_of Text = 4
number_of NoConstructors = 5
number_of Arity = 6
number_of Shadowed = 7
number_of Part = 8
number_of Room = 9
number_of Unknown = 10
number_of Arguments = 11
number_of BitVecWidth = 12
number_of Unqualified = 13
number_of WKVar = 14
number_of Clash = 15
