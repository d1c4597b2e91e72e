-- `hv_check::check` meets its contract. Assumes nothing.
use native.Mathlib.Omega.{arith}
use Rattle.hv_check.proofs.Laws.{table_not, table_unsound, zones_unsound, machine_unsound}
use Rattle.hv_check.proofs.check.Goals as goal

pub measure-requires : goal.measure-requires
measure-requires c = let f = c.in-Ok.ensures in let e = f.1 in omega arith

pub judge_all-requires : goal.judge_all-requires
judge_all-requires c = let f = c.in-Ok.ensures in let e = f.1 in let s = c.in-Some.ensures in (f.0.table.long, e, record { shaped = s.0; is = s.1; few = omega arith })

pub check_frames-requires : goal.check_frames-requires
check_frames-requires c = let f = c.in-Ok.ensures in let e = f.1 in let s = c.in-Some.ensures in record { table = f.0; number = e; laid = record { shaped = s.0; is = s.1; few = omega arith }; right = c.in_default-judge_all.ensures }

pub returns-in_default : goal.returns-in_default
returns-in_default c = table_unsound _ _ _ _ _ (table_not _ c.in_default.field-0 c.in_default.ensures)

pub returns-in_default-measure : goal.returns-in_default-measure
returns-in_default-measure c = let f = c.in-Ok.ensures in zones_unsound _ _ _ _ _ _ f.0 f.1 c.in_default-measure.ensures

pub returns-in-Err : goal.returns-in-Err
returns-in-Err c = let f = c.in-Ok.ensures in let s = c.in-Some.ensures in machine_unsound _ _ _ _ _ _ _ _ _ f.0 f.1 s.0 s.1 c.in-Err.ensures
