-- No text stands at or behind the end of the section.
use Rattle.std.proofs.Common.{[], sym, ap, ◌∙◌}
use Rattle.std.proofs.Math.ListN.{drop_of_length-le}
use Rattle.dwz_def_reading.specs.Texts.{text_in}
use Rattle.dwz_def_reading.proofs.TextLemmas.{none_again}
use Rattle.std.proofs.Common.{arith}
use Rattle.dwz_lines.proofs.rows.text_by.Goals as goal

pub returns-then-offset-section : goal.returns-then-offset-section
returns-then-offset-section c = sym (ap text_in (drop_of_length-le c.args.section.now (omega (arith, c.if-offset-section.true))) ∙ none_again [] tt)
