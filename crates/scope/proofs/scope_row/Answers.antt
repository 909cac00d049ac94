-- scope_row judges one piece after another.
use Rattle.std.proofs.Common.{rules}
use mathlib.Core.Path.{refl}
use Rattle.scope.proofs.Tables.{along_starts, along_goes, along_stops, along_ends}
use Rattle.scope.proofs.scope_row.Goals as goal

pub loop-init : goal.loop-init
loop-init g c = along_starts _ _ _ _ c.requires.space (search rules)

pub loop-preserved : goal.loop-preserved
loop-preserved g c = along_goes _ _ _ _ _ c.requires.judges _ _ _ _ c.loop.invariant _ _ c.in_ok-f.ensures c.loop-test.true _ _ _ refl (search rules) c.lower-fault.ensures

pub returns-in_err-f : goal.returns-in_err-f
returns-in_err-f g c = let h = along_stops _ _ _ _ _ c.requires.judges _ _ _ _ c.loop.invariant _ _ c.in_err-f.ensures c.loop-test.true _ refl in search rules

pub returns : goal.returns
returns g c = along_ends _ _ _ _ _ _ _ _ c.loop.invariant c.loop-test.false
