-- `push_kvars`: each turn adds one of the KVars that are left.
use Rattle.names.proofs.Sames.{same_table, same_both}
use Rattle.declared.proofs.Collecting.{ready}
use Rattle.declared.proofs.Gathering.{sweep_start, sweep_more, sweep_stuck, sweep_end}
use Rattle.declared.proofs.push_kvars.Goals as goal

pub loop-p-init : goal.loop-p-init
loop-p-init c = (sweep_start _ _ _ _ _ _ _ _ (ready c.args.table.now), same_table _)

pub returns-then-next-p : goal.returns-then-next-p
returns-then-next-p c =
    let i = c.loop-p.invariant in
    let y = rw i.1.file at c.push_kvar-next.ensures.0 in
    (sweep_stuck _ _ _ _ _ _ _ _ c.requires _ _ _ _ i.0 c.loop-p-test.true y.chained y.words y.runs c.if-next-p.true, same_both _ _ _ i.1 c.push_kvar-next.ensures.1)

pub loop-p-preserved : goal.loop-p-preserved
loop-p-preserved c =
    let i = c.loop-p.invariant in
    let y = rw i.1.file at c.push_kvar-next.ensures.0 in
    (sweep_more _ _ _ _ _ _ _ _ c.requires _ _ _ _ i.0 c.loop-p-test.true y.chained y.words y.runs c.if-next-p.false, same_both _ _ _ i.1 c.push_kvar-next.ensures.1)

pub returns : goal.returns
returns c = (sweep_end _ _ _ _ _ _ _ _ c.requires _ _ c.loop-p.invariant.0 c.loop-p-test.false, c.loop-p.invariant.1)
