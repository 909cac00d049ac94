-- `single_symbols` finds at most as many bytes as it tries.
use Rattle.std.proofs.Common.{◌≤◌}
use Rattle.symbols.proofs.single_symbols.Given as goal

abbrev pub invariant-loop-b : goal.invariant-loop-b
invariant-loop-b l = l.found ≤ l.b
