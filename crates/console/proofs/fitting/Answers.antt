-- `fitting`: each turn takes one length more, or ends.
use Rattle.console.proofs.Filling.{fitting_start, fitting_more, fitting_full, fitting_end}
use mathlib.Core.Path.{◌≡◌, refl, ◌∙◌}
use lib.ListN.{length}
use native.Mathlib.Omega.{arith}
use Rattle.console.proofs.fitting.Goals as goal

pub loop-i-init : goal.loop-i-init
loop-i-init c = fitting_start _ _

pub returns-then-left-n : goal.returns-then-left-n
returns-then-left-n c = fitting_full _ _ _ _ c.loop-i.invariant c.loop-i-test.true _ refl c.if-left-n.true

pub loop-i-preserved : goal.loop-i-preserved
loop-i-preserved c = fitting_more _ _ _ _ c.loop-i.invariant c.loop-i-test.true _ refl c.if-left-n.false

pub returns : goal.returns
returns c = let e : length c.args.lengths.now ≡ c.loop-i.i = omega arith in e ∙ fitting_end _ _ _ _ c.loop-i.invariant c.loop-i-test.false
