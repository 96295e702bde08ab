use Rattle.std.proofs.Common.{◌≡◌, ◌<◌, ◌^◌, ℕ, Some, ap, sym, ◌∙◌, arith}
use Rattle.dwz_model.specs.declared.place.Place.{Place}
use Rattle.dwz_forms.specs.RawValues.{raw_view}
use Rattle.dwz_def_reading.specs.Documents.{Addr, Index, Sig, only}
use Rattle.dwz_def_reading.specs.Classes.{Class}
use Rattle.dwz_def_reading.specs.Meanings.{offset_of}
use Rattle.dwz_def_reading.specs.Meant.{as_class}
use Rattle.dwz_unit.specs.Rows.{attr_view}
use Rattle.dwz_graph_view.proofs.NumberSteps.{is_wide, number_small}
use Rattle.dwz_graph_view.proofs.ValueSteps.{okay, plain_shown}
use Rattle.dwz_graph_view.proofs.values.simple_view.Goals as goal

pub returns-in_err-narrow-in-Address : goal.returns-in_err-narrow-in-Address
returns-in_err-narrow-in-Address c = λ s v simple class knows means. (
    let a = attr_view c.args.attr.now in
    let small = number_small a.pair.form (raw_view c.args.attr.now.raw) c.requires (ap is_wide (sym class ∙ c.in-Address.is)) in
    let lt : c.offset_of-offset.result < 2 ^ 64 = omega (arith, small, c.offset_of-offset.ensures.value) in
    let there = c.narrow.ensures lt in
    let none = c.in_err-narrow-in-Address.was in
    absurd cc)

pub returns-in_ok-narrow-in-Address : goal.returns-in_ok-narrow-in-Address
returns-in_ok-narrow-in-Address c = λ s v simple class knows means. (
    let a = attr_view c.args.attr.now in
    let small = number_small a.pair.form (raw_view c.args.attr.now.raw) c.requires (ap is_wide (sym class ∙ c.in-Address.is)) in
    let lt : c.offset_of-offset.result < 2 ^ 64 = omega (arith, small, c.offset_of-offset.ensures.value) in
    let some = c.narrow.ensures lt in
    let was = c.in_ok-narrow-in-Address.was in
    let one : c.in_ok-narrow-in-Address.field-0 ≡ c.offset_of-offset.result = cc in
    let said : okay (only (Addr (offset_of a))) ≡ okay v = ap (λ (w : Class). as_class w s a) (sym c.in-Address.is) ∙ means in
    ap (λ (n : ℕ). Some (only {P = Place} (Addr n))) (one ∙ c.offset_of-offset.ensures.value) ∙ plain_shown c.args.setting.now.file (Addr (offset_of a)) v said)

pub returns-in_err-narrow-in-Signature : goal.returns-in_err-narrow-in-Signature
returns-in_err-narrow-in-Signature c = λ s v simple class knows means. (
    let a = attr_view c.args.attr.now in
    let small = number_small a.pair.form (raw_view c.args.attr.now.raw) c.requires (ap is_wide (sym class ∙ c.in-Signature.is)) in
    let lt : c.offset_of-offset.result < 2 ^ 64 = omega (arith, small, c.offset_of-offset.ensures.value) in
    let there = c.narrow-in-Signature.ensures lt in
    let none = c.in_err-narrow-in-Signature.was in
    absurd cc)

pub returns-in_ok-narrow-in-Signature : goal.returns-in_ok-narrow-in-Signature
returns-in_ok-narrow-in-Signature c = λ s v simple class knows means. (
    let a = attr_view c.args.attr.now in
    let small = number_small a.pair.form (raw_view c.args.attr.now.raw) c.requires (ap is_wide (sym class ∙ c.in-Signature.is)) in
    let lt : c.offset_of-offset.result < 2 ^ 64 = omega (arith, small, c.offset_of-offset.ensures.value) in
    let some = c.narrow-in-Signature.ensures lt in
    let was = c.in_ok-narrow-in-Signature.was in
    let one : c.in_ok-narrow-in-Signature.field-0 ≡ c.offset_of-offset.result = cc in
    let said : okay (only (Sig (offset_of a))) ≡ okay v = ap (λ (w : Class). as_class w s a) (sym c.in-Signature.is) ∙ means in
    ap (λ (n : ℕ). Some (only {P = Place} (Sig n))) (one ∙ c.offset_of-offset.ensures.value) ∙ plain_shown c.args.setting.now.file (Sig (offset_of a)) v said)

pub returns-in_err-narrow-in-Index : goal.returns-in_err-narrow-in-Index
returns-in_err-narrow-in-Index c = λ s v simple class knows means. (
    let a = attr_view c.args.attr.now in
    let small = number_small a.pair.form (raw_view c.args.attr.now.raw) c.requires (ap is_wide (sym class ∙ c.in-Index.is)) in
    let lt : c.offset_of-offset.result < 2 ^ 64 = omega (arith, small, c.offset_of-offset.ensures.value) in
    let there = c.narrow-in-Index.ensures lt in
    let none = c.in_err-narrow-in-Index.was in
    absurd cc)

pub returns-in_ok-narrow-in-Index : goal.returns-in_ok-narrow-in-Index
returns-in_ok-narrow-in-Index c = λ s v simple class knows means. (
    let a = attr_view c.args.attr.now in
    let small = number_small a.pair.form (raw_view c.args.attr.now.raw) c.requires (ap is_wide (sym class ∙ c.in-Index.is)) in
    let lt : c.offset_of-offset.result < 2 ^ 64 = omega (arith, small, c.offset_of-offset.ensures.value) in
    let some = c.narrow-in-Index.ensures lt in
    let was = c.in_ok-narrow-in-Index.was in
    let one : c.in_ok-narrow-in-Index.field-0 ≡ c.offset_of-offset.result = cc in
    let said : okay (only (Index (offset_of a))) ≡ okay v = ap (λ (w : Class). as_class w s a) (sym c.in-Index.is) ∙ means in
    ap (λ (n : ℕ). Some (only {P = Place} (Index n))) (one ∙ c.offset_of-offset.ensures.value) ∙ plain_shown c.args.setting.now.file (Index (offset_of a)) v said)

pub returns-in-TextBySlot : goal.returns-in-TextBySlot
returns-in-TextBySlot c = λ s v simple class knows means.
    c.text_by_slot.ensures s (attr_view c.args.attr.now) v knows c.offset_of-offset.ensures.value (ap (λ (w : Class). as_class w s (attr_view c.args.attr.now)) (sym c.in-TextBySlot.is) ∙ means)
