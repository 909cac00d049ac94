-- check_items walks the sections front to back.
use native.Mathlib.Omega.{arith}
use Rattle.item_check.specs.declared.Section.TheVariants.{Comments, Datatypes, Constants, Functions, KVars}
use Rattle.inspect.proofs.Whole.{section_most, all_five}
use Rattle.inspect.proofs.check_items.Goals as goal

pub overflow_add-result : goal.overflow_add-result
overflow_add-result c = let h3 = section_most Functions c.args.file.now c.args.b.kvars c.args.b.functions _ _ c.requires.most c.in_ok-n3.ensures in let h4 = section_most KVars c.args.file.now c.args.b.constraint c.args.b.kvars _ _ c.requires.most c.in_ok-n4.ensures in omega arith

pub overflow_add-result-2 : goal.overflow_add-result-2
overflow_add-result-2 c = let h2 = section_most Constants c.args.file.now c.args.b.functions c.args.b.constants _ _ c.requires.most c.in_ok-n2.ensures in let h3 = section_most Functions c.args.file.now c.args.b.kvars c.args.b.functions _ _ c.requires.most c.in_ok-n3.ensures in let h4 = section_most KVars c.args.file.now c.args.b.constraint c.args.b.kvars _ _ c.requires.most c.in_ok-n4.ensures in omega arith

pub overflow_add-result-3 : goal.overflow_add-result-3
overflow_add-result-3 c = let h1 = section_most Datatypes c.args.file.now c.args.b.constants c.args.b.datatypes _ _ c.requires.most c.in_ok-n1.ensures in let h2 = section_most Constants c.args.file.now c.args.b.functions c.args.b.constants _ _ c.requires.most c.in_ok-n2.ensures in let h3 = section_most Functions c.args.file.now c.args.b.kvars c.args.b.functions _ _ c.requires.most c.in_ok-n3.ensures in let h4 = section_most KVars c.args.file.now c.args.b.constraint c.args.b.kvars _ _ c.requires.most c.in_ok-n4.ensures in omega arith

pub overflow_add-result-4 : goal.overflow_add-result-4
overflow_add-result-4 c = let h0 = section_most Comments c.args.file.now c.args.b.datatypes c.args.b.comments _ _ c.requires.most c.in_ok-n0.ensures in let h1 = section_most Datatypes c.args.file.now c.args.b.constants c.args.b.datatypes _ _ c.requires.most c.in_ok-n1.ensures in let h2 = section_most Constants c.args.file.now c.args.b.functions c.args.b.constants _ _ c.requires.most c.in_ok-n2.ensures in let h3 = section_most Functions c.args.file.now c.args.b.kvars c.args.b.functions _ _ c.requires.most c.in_ok-n3.ensures in let h4 = section_most KVars c.args.file.now c.args.b.constraint c.args.b.kvars _ _ c.requires.most c.in_ok-n4.ensures in omega arith

pub returns : goal.returns
returns c = all_five c.args.file.now c.args.b _ _ c.in_ok-n0.ensures _ _ c.in_ok-n1.ensures _ _ c.in_ok-n2.ensures _ _ c.in_ok-n3.ensures _ _ _ _ _ _ c.in_ok-n4.ensures c.lower.ensures c.lower-2.ensures c.lower-3.ensures c.lower-fault.ensures
