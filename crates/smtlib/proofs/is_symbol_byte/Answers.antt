-- `is_symbol_byte`: a place below 128 holds a space exactly if its byte is no symbol byte.
use mathlib.Core.Path.{refl}
use native.Mathlib.Omega.{arith}
use Rattle.smtlib.specs.Table.{symbol_places}
use Rattle.smtlib.proofs.Words.{byte_low}
use Rattle.smtlib.proofs.is_symbol_byte.Goals as goal

pub returns-then-b-lt128 : goal.returns-then-b-lt128
unfolding symbol_places
returns-then-b-lt128 c = byte_low _ c.args.b refl (omega arith)
