use Rattle.std.proofs.Common.{◌≡◌, ◌<◌, ◌^◌, ℕ, Bool, Some, ap, sym, ◌∙◌, arith}
use Rattle.std.specs.Prelude.{if◌then◌else◌}
use Rattle.dwz_model.specs.declared.place.Place.{Place}
use Rattle.dwz_forms.specs.RawValues.{raw_view}
use Rattle.dwz_def_reading.specs.Documents.{Sec, only}
use Rattle.dwz_def_reading.specs.Meanings.{offset_of}
use Rattle.dwz_def_reading.specs.Meant.{list_meaning}
use Rattle.dwz_unit.specs.Rows.{attr_view}
use Rattle.dwz_graph_view.proofs.NumberSteps.{is_wide, number_small}
use Rattle.dwz_label_entries.proofs.PlainLemmas.{list_means}
use Rattle.dwz_graph_view.proofs.ValueSteps.{okay, plain_shown}
use Rattle.dwz_graph_view.proofs.values.offset_view.Goals as goal

pub returns-then-names_list : goal.returns-then-names_list
returns-then-names_list c = λ s v class knows means. (
    let a = attr_view c.args.attr.now in
    c.list_view.ensures s a v knows
    (ap (λ (n : ℕ). list_meaning s a n) c.offset_of-offset.ensures.value ∙ list_means s a v (sym c.names_list.ensures ∙ c.if-names_list.true) means))

pub returns-in-None : goal.returns-in-None
returns-in-None c = λ s v class knows means. (
    let a = attr_view c.args.attr.now in
    let small = number_small a.pair.form (raw_view c.args.attr.now.raw) c.requires (ap is_wide class) in
    let lt : c.offset_of-offset.result < 2 ^ 64 = omega (arith, small, c.offset_of-offset.ensures.value) in
    let none = c.in-None.ensures lt in
    absurd cc)

pub returns-in-Some : goal.returns-in-Some
returns-in-Some c = λ s v class knows means. (
    let a = attr_view c.args.attr.now in
    let small = number_small a.pair.form (raw_view c.args.attr.now.raw) c.requires (ap is_wide class) in
    let lt : c.offset_of-offset.result < 2 ^ 64 = omega (arith, small, c.offset_of-offset.ensures.value) in
    let some = c.in-Some.ensures lt in
    let one : c.in-Some.offset ≡ c.offset_of-offset.result = cc in
    let said : okay (only (Sec (offset_of a))) ≡ okay v = ap (λ (b : Bool). if b then list_meaning s a (offset_of a) else okay (only (Sec (offset_of a)))) (sym (sym c.names_list.ensures ∙ c.if-names_list.false)) ∙ means in
    ap (λ (n : ℕ). Some (only {P = Place} (Sec n))) (one ∙ c.offset_of-offset.ensures.value) ∙ plain_shown c.args.setting.now.file (Sec (offset_of a)) v said)
