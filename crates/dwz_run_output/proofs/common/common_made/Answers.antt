use Rattle.std.proofs.Common.{[], Option, get_or, subst, ◌∙◌}
use Rattle.dwz_model.specs.declared.sections.Sections.{Sections}
use Rattle.dwz_def_output.proofs.FreeLemmas.{Nothing}
use Rattle.dwz_run_output.specs.Common.{FaultWith}
use Rattle.dwz_def_output.specs.NewFiles.{IsNewCommon}
use Rattle.dwz_run_output.proofs.CommonFaults.{made_so, small_file, small_with}
use Rattle.dwz_run_output.proofs.common.common_made.Goals as goal

pub sum_of-sum-requires : goal.sum_of-sum-requires
sum_of-sum-requires c = small_with c.in-Some.sections (subst (λ (o : Option Sections). Nothing (FaultWith o)) c.in-Some.is c.requires)

pub common_file-requires : goal.common_file-requires
common_file-requires c =
    small_file c.machine_of-machine.result.0 c.machine_of-machine.result.1 c.in-Some.sections
    (small_with c.in-Some.sections (subst (λ (o : Option Sections). Nothing (FaultWith o)) c.in-Some.is c.requires))

pub returns : goal.returns
returns c r first new =
    let from = c.machine_of-machine in
    made_so c.args.options.now r c.in-Some.sections (subst (IsNewCommon r) c.in-Some.is new) (get_or c.args.graph.now.given 0 []) c.name_of.result.now c.sum_of-sum.result
    from.result.0 from.result.1 (record { bytes = c.new.result; sup = c.in_ok-sup.sup }) first from.ensures.machine from.ensures.flags c.name_of.ensures c.sum_of-sum.ensures
    (c.new.ensures ∙ c.in_ok-bytes.ensures) c.in_ok-sup.ensures
