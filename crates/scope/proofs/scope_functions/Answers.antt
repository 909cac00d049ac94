-- scope_functions judges one function after another, and pushes its name behind it.
use native.Mathlib.Omega.{arith}
use Rattle.names.proofs.Sames.{same_both}
use Rattle.scope.proofs.Sections.{judging_less, judging_more, judging_stuck}
use Rattle.scope.proofs.scope_functions.Goals as goal

pub scope_function-requires : goal.scope_function-requires
scope_function-requires c = rw c.loop-p.invariant.1.file c.loop-p.invariant.0.space

pub returns-in_default : goal.returns-in_default
returns-in_default c =
    let i = c.loop-p.invariant in
    (judging_stuck _ _ _ _ c.requires.1 _ _ _ i.0 c.loop-p-test.true _ _ (rw i.1.file at c.in_default.ensures.0), same_both _ _ _ i.1 c.in_default.ensures.1)

pub loop-p-smaller : goal.loop-p-smaller
loop-p-smaller c =
    let i = c.loop-p.invariant in
    let e = same_both _ _ _ i.1 c.in-Ok.ensures.1 in
    let z = judging_less _ _ _ _ c.requires.1 _ _ _ i.0 c.loop-p-test.true _ _ _ (rw i.1.file at c.in-Ok.ensures.0) _ _ (rw e.file at c.push.ensures.0) c.lower-fault.ensures in
    let y = c.loop-p-test.true in
    omega arith

pub loop-p-preserved : goal.loop-p-preserved
loop-p-preserved c =
    let i = c.loop-p.invariant in
    let e = same_both _ _ _ i.1 c.in-Ok.ensures.1 in
    (judging_more _ _ _ _ c.requires.1 _ _ _ i.0 c.loop-p-test.true _ _ _ (rw i.1.file at c.in-Ok.ensures.0) _ _ (rw e.file at c.push.ensures.0) c.lower-fault.ensures, same_both _ _ _ e c.push.ensures.1)
