use Rattle.std.proofs.Common.{refl, sym, ◌∙◌}
use Rattle.dwz_elf.specs.Manners.{manner_of}
use Rattle.dwz_elf.proofs.ReadLemmas.{first_half, second_half, whole_view}
use Rattle.dwz_elf.proofs.elf.read_in.Goals as goal

pub returns-in-Some-clause-gives : goal.returns-in-Some-clause-gives
returns-in-Some-clause-gives c = first_half (manner_of c.args.manner) c.args.bytes.now c.in-Some.fault (sym c.in-Some.is ∙ c.front_fault.ensures.fault)

pub returns-in-Some-rest_fault-clause-gives : goal.returns-in-Some-rest_fault-clause-gives
returns-in-Some-rest_fault-clause-gives c =
    second_half (manner_of c.args.manner) c.args.bytes.now c.rest_fault.result _ _ c.file_header-file.result c.deref.result.now (sym c.in_default.is ∙ c.front_fault.ensures.fault) c.rest_fault.ensures refl refl
    c.file_header-file.ensures (c.deref.ensures.value ∙ c.in_ok-sections.ensures) ∙ c.in-Some-rest_fault.is

pub returns-clause-gives : goal.returns-clause-gives
returns-clause-gives c = (
  second_half (manner_of c.args.manner) c.args.bytes.now c.rest_fault.result _ _ c.file_header-file.result c.deref.result.now (sym c.in_default.is ∙ c.front_fault.ensures.fault) c.rest_fault.ensures refl refl
      c.file_header-file.ensures (c.deref.ensures.value ∙ c.in_ok-sections.ensures) ∙ c.in_default-rest_fault.is,
  whole_view c.args.bytes.now c.file_header-file.result c.in_ok-sections.sections.items c.file_header-file.ensures c.in_ok-sections.ensures,
)
