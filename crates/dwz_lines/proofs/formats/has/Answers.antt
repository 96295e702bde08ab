use Rattle.std.proofs.Common.{sym, ◌∙◌}
use Rattle.std.proofs.lemmas.Bool.{eq-eqb, ne_eqb}
use Rattle.dwz_lines.proofs.LoopLemmas.{found_has, none_has, other_has}
use Rattle.dwz_lines.proofs.formats.has.Goals as goal

pub returns-then-other-form : goal.returns-then-other-form
returns-then-other-form c = sym (sym c.loop-other.invariant ∙ found_has c.args.form c.args.forms.now c.loop-other.other-index c.loop-other-test.true (eq-eqb _ c.args.form c.if-other-form.true))

pub loop-other-preserved : goal.loop-other-preserved
loop-other-preserved c = sym (other_has c.args.form c.args.forms.now c.loop-other.other-index c.loop-other-test.true (ne_eqb _ c.args.form c.if-other-form.false)) ∙ c.loop-other.invariant

pub returns : goal.returns
returns c = sym (sym c.loop-other.invariant ∙ none_has c.args.form c.args.forms.now c.loop-other.other-index c.loop-other-test.false)
