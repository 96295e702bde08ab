use Rattle.std.proofs.Common.{◌∙◌, ℕ, ap, refl}
use Rattle.dwz_def_reading.specs.Texts.{text_at}
use Rattle.dwz_forms.specs.declared.raw.Raw.TheVariants.{Bytes}
use Rattle.dwz_expand_passes.proofs.TextAnswers.{text_common, text_read}
use Rattle.dwz_expand_passes.proofs.contents.copied_text.Goals as goal

pub returns-in-CommonUnit-clause-copies : goal.returns-in-CommonUnit-clause-copies
returns-in-CommonUnit-clause-copies c = λ q index at end v refs others operands of_class asks.
    text_common c.args.x.now q index at end c.args.pair.now c.args.raw.now v refs others c.requires.constant c.requires.spelled asks operands c.of_form.result c.args.section.now c.text_at.result.now
    (Bytes c.text_at.result) c.in-CommonUnit.is of_class
    (λ t is. c.text_at.ensures t (ap (λ (n : ℕ). text_at c.args.section.now n) c.offset_of.ensures.value ∙ is)) refl c.of_form.ensures

pub returns-in_default-clause-copies : goal.returns-in_default-clause-copies
returns-in_default-clause-copies c = λ q index at end v refs others operands of_class asks.
    text_read c.args.x.now q index at end c.args.pair.now c.args.raw.now v refs others c.requires.constant c.requires.spelled asks operands c.as_read.result c.args.section.now
    c.in_default.not-CommonUnit of_class c.as_read.ensures
