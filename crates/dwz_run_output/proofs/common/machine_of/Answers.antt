use Rattle.std.proofs.Common.{ap, ◌∙◌}
use Rattle.dwz_def_reading.specs.declared.elf.FileHeader.{FileHeader}
use Rattle.dwz_run_output.proofs.FirstFile.{first_header, none_flags, none_machine}
use Rattle.dwz_run_output.proofs.common.machine_of.Goals as goal

pub returns-in-Some-clause-machine : goal.returns-in-Some-clause-machine
returns-in-Some-clause-machine c =
    c.machine.ensures ∙ ap (λ (h : FileHeader). h.machine) (first_header c.args.graph.now.given c.files.result.now c.in-Some.file.now c.files.ensures c.in-Some.ensures.value)

pub returns-in-Some-clause-flags : goal.returns-in-Some-clause-flags
returns-in-Some-clause-flags c =
    c.flags.ensures ∙ ap (λ (h : FileHeader). h.flags) (first_header c.args.graph.now.given c.files.result.now c.in-Some.file.now c.files.ensures c.in-Some.ensures.value)

pub returns-in-None-clause-machine : goal.returns-in-None-clause-machine
returns-in-None-clause-machine c = none_machine c.args.graph.now.given c.files.result.now c.files.ensures c.in-None.ensures.value

pub returns-in-None-clause-flags : goal.returns-in-None-clause-flags
returns-in-None-clause-flags c = none_flags c.args.graph.now.given c.files.result.now c.files.ensures c.in-None.ensures.value
