use Rattle.std.proofs.Common.{ℕ, List, ap, ◌∙◌}
use Rattle.dwz_def_reading.proofs.CaseFacts.{if_ok}
use Rattle.dwz_encode_sections.specs.Numbers.{with_numbers}
use Rattle.dwz_encode_operands.proofs.lists.lists_section.Goals as goal

pub returns : goal.returns
returns c = λ docs m names planned file. if_ok c.lists.result _ _
    (λ out is. record {
      numbers = c.in_ok-numbers.numbers.items;
      are = c.in_ok-numbers.ensures.numbers docs m names planned file;
      is = is ∙ ap (λ (ms : List ℕ). with_numbers c.args.operands.now ms c.args.section.now) c.as_slice.ensures.value;
    }) c.lists.ensures
