use Rattle.dwz_run_files.proofs.UnitSteps.{is_other, is_type}
use Rattle.dwz_run_files.proofs.places.header_bytes.Goals as goal

pub returns : goal.returns
returns c = λ k e. is_other k c.args.kind e c.if-kind-eq-DW_UT_TYPE.false

pub returns-then-kind-eq-DW_UT_TYPE : goal.returns-then-kind-eq-DW_UT_TYPE
returns-then-kind-eq-DW_UT_TYPE c = λ k e. is_type k c.args.kind e c.if-kind-eq-DW_UT_TYPE.true
