use Rattle.std.proofs.Common.{◌<◌, List, length, sym, subst, ◌∙◌}
use Rattle.std.specs.Prelude.{All}
use Rattle.dwz_graph.specs.ListOperand.{ListOperand}
use Rattle.dwz_run_files.proofs.FileFacts.{few_entries, operands_inside, stand_ins_many}
use Rattle.dwz_run_files.proofs.StepsFound.{listed_found}
use Rattle.dwz_run_files.proofs.narrow.first_in_lists.Goals as goal

pub operand_numbers-requires-clause-there : goal.operand_numbers-requires-clause-there
operand_numbers-requires-clause-there c =
    let m = c.args.moved.now in
    subst (λ (os : List ListOperand). All (λ o. o.entry < length m.index.now.steps) os) (sym c.as_slice-operands.ensures.value)
    (operands_inside c.requires.1 c.args.work.now m c.requires.2)

pub operand_numbers-requires-clause-few : goal.operand_numbers-requires-clause-few
operand_numbers-requires-clause-few c = few_entries c.requires.1 c.args.work.now c.args.moved.now c.requires.2

pub operand_numbers-requires-clause-plan : goal.operand_numbers-requires-clause-plan
operand_numbers-requires-clause-plan c = stand_ins_many c.requires.1 c.args.work.now c.args.moved.now c.requires.2

pub returns : goal.returns
returns c beside f is begin =
    listed_found f c.args.work.now c.args.moved.now is c.args.units_at.now begin c.as_slice-operands.result.now c.as_slice.result.now
    c.in_ok-numbers.numbers.items
    c.as_slice-2.result.now c.first_listed.result c.as_slice-operands.ensures.value (c.as_slice.ensures.value
    ∙ c.spots.ensures.places) c.as_slice-2.ensures.value
    c.in_ok-numbers.ensures.numbers c.first_listed.ensures
