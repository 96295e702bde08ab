use Rattle.std.proofs.Common.{◌∙◌, ◌<◌, ◌^◌, ℕ, ap, arith, refl, subst, sym}
use Rattle.std.specs.Prelude.{ℤ}
use Rattle.dwz_def_reading.specs.Values.{Number as Stored}
use Rattle.dwz_expand_layout.specs.Entries.{CanStore}
use Rattle.dwz_expand_layout.proofs.StoreLemmas.{can_offset}
use Rattle.dwz_expand_passes.proofs.RawLemmas.{wide}
use Rattle.dwz_def_encoding.specs.Placing.{slot_number}
use Rattle.dwz_def_reading.specs.Texts.{slot}
use Rattle.dwz_forms.specs.declared.raw.Raw.TheVariants.{Bytes}
use Rattle.dwz_expand_passes.proofs.TextAnswers.{slot_common, slot_read, slot_strp}
use Rattle.dwz_expand_passes.proofs.contents.copied_slot.Goals as goal

pub returns-in-OldUnit-clause-copies : goal.returns-in-OldUnit-clause-copies
returns-in-OldUnit-clause-copies c = λ q index at end v refs others operands class asks.
    slot_read c.args.x.now q index at end c.args.pair.now c.args.raw.now v refs others c.requires.constant c.requires.spelled asks operands c.as_read.result class c.in-OldUnit.is c.as_read.ensures

pub returns-in-NewUnit-clause-copies : goal.returns-in-NewUnit-clause-copies
returns-in-NewUnit-clause-copies c = λ q index at end v refs others operands class asks.
    slot_strp c.args.x.now q index at end c.args.pair.now c.args.raw.now v refs others c.requires.constant c.requires.spelled asks operands c.of_form.result c.slot_number-offset.result _ class
    c.in-NewUnit.is
    (c.slot_number-offset.ensures ∙ ap (λ (n : ℕ). slot_number c.args.x.now.file.sections.now.offsets.now c.args.x.now.here.now.offsets n) c.offset_of-index.ensures.value) (ap (λ (z : ℤ). Stored z)
    (wide c.slot_number-offset.result (let lt : c.slot_number-offset.result < 2 ^ 32 = c.slot_number-offset.type_inv in omega (arith, lt)))) c.of_form.ensures

pub returns-in-CommonUnit-clause-copies : goal.returns-in-CommonUnit-clause-copies
returns-in-CommonUnit-clause-copies c = λ q index at end v refs others operands class asks.
    slot_common c.args.x.now q index at end c.args.pair.now c.args.raw.now v refs others c.requires.constant c.requires.spelled asks operands c.of_form-in-CommonUnit.result c.text_by_slot.result.now
    (Bytes c.text_by_slot.result) class c.in-CommonUnit.is
    (λ base offset t has there text. c.text_by_slot.ensures base offset t has (ap (λ (n : ℕ). slot c.args.x.now.file.sections.now.offsets.now base n) c.offset_of-index.ensures.value ∙ there) text)
    refl c.of_form-in-CommonUnit.ensures

pub returns-in-NewUnit-clause-stores : goal.returns-in-NewUnit-clause-stores
returns-in-NewUnit-clause-stores c = subst CanStore (sym c.of_form.ensures) (can_offset c.args.pair.now.name c.slot_number-offset.result c.requires.plain.some_name c.slot_number-offset.type_inv)
