use Rattle.std.proofs.Common.{◌<◌, List, length, sym, subst, ◌∙◌}
use Rattle.std.specs.Prelude.{All}
use Rattle.dwz_graph.specs.ListOperand.{ListOperand}
use Rattle.dwz_encode_sections.specs.Numbers.{EndIn}
use Rattle.dwz_run_files.proofs.FileFacts.{few_entries, operands_end, operands_inside, stand_ins_many}
use Rattle.dwz_run_files.proofs.StepsFound.{lists_found}
use Rattle.dwz_run_files.proofs.numbers.lists.Goals as goal

pub lists_section-requires-clause-within : goal.lists_section-requires-clause-within
lists_section-requires-clause-within c =
    let m = c.args.moved.now in
    subst (λ (os : List ListOperand). EndIn (length m.file.now.sections.lists.now) os) (sym c.deref.ensures.value)
    (operands_end c.requires.1 c.args.work.now m c.requires.2)

pub lists_section-requires-clause-there : goal.lists_section-requires-clause-there
lists_section-requires-clause-there c =
    let m = c.args.moved.now in
    subst (λ (os : List ListOperand). All (λ o. o.entry < length m.index.now.steps) os) (sym c.deref.ensures.value)
    (operands_inside c.requires.1 c.args.work.now m c.requires.2)

pub lists_section-requires-clause-few : goal.lists_section-requires-clause-few
lists_section-requires-clause-few c = few_entries c.requires.1 c.args.work.now c.args.moved.now c.requires.2

pub lists_section-requires-clause-plan : goal.lists_section-requires-clause-plan
lists_section-requires-clause-plan c = stand_ins_many c.requires.1 c.args.work.now c.args.moved.now c.requires.2

pub returns : goal.returns
returns c beside f is begin =
    lists_found f c.args.work.now c.args.moved.now is c.args.units_at.now begin c.deref.result.now c.as_slice.result.now
    c.lists_section.result
    c.deref.ensures.value (c.as_slice.ensures.value ∙ c.spots.ensures.places) c.lists_section.ensures
