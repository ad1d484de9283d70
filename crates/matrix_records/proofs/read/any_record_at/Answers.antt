-- `matrix_records::read::any_record_at` meets its contract: both halves of the front are there, and the body behind it.
-- Assumes nothing.
use Prim.Native.Nat.{◌+◌}
use native.Mathlib.Omega.{arith}
use mathlib.Core.Path.{sym, ap}
use Rattle.faults.specs.Numbers.{fault_of}
use Rattle.records.specs.Results.{record_result}
use Rattle.matrix_records.proofs.AnyRecord.{two_read, two_short, any_short, any_past, any_whole}
use Rattle.matrix_records.proofs.read.any_record_at.Goals as goal

pub returns-in_default : goal.returns-in_default
unfolding fault_of
returns-in_default c =
    let a = c.args in
    sym (ap record_result (any_short a.s.now a.at (omega (arith, two_short a.s.now a.at c.in_default.ensures))))

pub returns-in_default-field2_at : goal.returns-in_default-field2_at
unfolding fault_of
returns-in_default-field2_at c =
    let a = c.args in
    sym (ap record_result (any_short a.s.now a.at (omega (arith, two_short a.s.now (a.at + 2) c.in_default-field2_at.ensures))))

pub overflow_sub-s : goal.overflow_sub-s
overflow_sub-s c = let h = two_read c.args.s.now (c.args.at + 2) c.in-Ok-field2_at.ensures in omega (arith, h.0)

pub returns-then-s-start : goal.returns-then-s-start
unfolding fault_of
returns-then-s-start c =
    let h = two_read c.args.s.now (c.args.at + 2) c.in-Ok-field2_at.ensures in
    sym (ap record_result (any_past _ _ (omega (arith, h.0)) _ (two_read c.args.s.now c.args.at c.in-Ok.ensures).1 (omega arith)))

pub returns : goal.returns
returns c =
    let h = two_read c.args.s.now (c.args.at + 2) c.in-Ok-field2_at.ensures in
    sym (ap record_result (any_whole _ _ (omega (arith, h.0)) _ (two_read c.args.s.now c.args.at c.in-Ok.ensures).1 _ h.1 (omega arith)))
