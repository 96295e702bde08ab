use Rattle.std.proofs.Common.{◌∙◌}
use Rattle.dwz_layout_input.proofs.WalkLemmas.{values_number}
use Rattle.dwz_layout_input.proofs.paths.entry_numbers_file.Goals as goal

pub returns : goal.returns
returns c = λ row found. c.any_file.ensures ∙ values_number c.values-cursor.result.pairs.now c.values-cursor.result.cursor row (c.values-cursor.ensures.read row found)
