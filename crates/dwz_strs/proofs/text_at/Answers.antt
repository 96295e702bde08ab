use Rattle.std.proofs.Common.{ap, sym, ◌∙◌}
use Rattle.dwz_def_reading.specs.Texts.{text_in}
use Rattle.dwz_def_reading.proofs.ListFacts.{whole_rest}
use Rattle.dwz_strs.proofs.FirstLemmas.{past_end}
use Rattle.dwz_strs.proofs.text_at.Goals as goal

pub returns-then-offset-section : goal.returns-then-offset-section
returns-then-offset-section c = sym (past_end c.args.section.now c.args.offset c.if-offset-section.true)

pub returns : goal.returns
returns c = c.front_text.ensures ∙ ap text_in (whole_rest c.args.section.now c.args.offset)
