use Rattle.std.proofs.Common.{◌∙◌, ℕ, ◌+◌, ap, refl}
use Rattle.std.proofs.lemmas.Result.{err_from_is_err_and}
use Rattle.dwz_def_reading.specs.Classes.{OfListIndex}
use Rattle.dwz_def_reading.specs.Entries.{RawAttr}
use Rattle.dwz_def_reading.specs.Meanings.{loclists_base}
use Rattle.dwz_def_reading.specs.Texts.{slot}
use Rattle.dwz_graph.specs.Resolved.{stored}
use Rattle.dwz_expand_passes.specs.Known.{scope}
use Rattle.dwz_expand_passes.proofs.ContentLemmas.{as_class_of}
use Rattle.dwz_expand_passes.proofs.ListAnswers.{Lists, list_err, list_ok}
use Rattle.dwz_expand_passes.proofs.NamedLemmas.{at_slot_list, list_at_place, list_by_slot}
use Rattle.dwz_expand_passes.proofs.contents.copied_list.Goals as goal

pub returns-in_err-check_list_by_slot-clause-copies : goal.returns-in_err-check_list_by_slot-clause-copies
returns-in_err-check_list_by_slot-clause-copies c = λ q index at end v refs others operands class asks. (
    let s = scope q in
    let a : RawAttr = stored at end c.args.pair.now c.args.raw.now in
    let b = list_by_slot s a v (loclists_base s) (as_class_of s a v OfListIndex class asks.means) in
    let n = list_at_place s a v (b.at + b.offset) b.means in
    let h : Lists c.args.x.now q index at end c.args.pair.now c.args.raw.now v refs others c.requires.constant c.requires.spelled asks OfListIndex n.list =
    record { class = class; entry = refl; expression = λ z. cc; other = λ z. cc; chosen = refl; is = n.is; places = at_slot_list s a v n.list b class n.read } in
    let e = err_from_is_err_and c.from_residual.result c.from_residual.ensures.1 in
    rw (e.1, e.2) (list_err c.args.x.now q index at end c.args.pair.now c.args.raw.now v refs others c.requires.constant c.requires.spelled asks operands c.in_err-check_list_by_slot.field-0.0
    OfListIndex n.list h
    (c.in_err-check_list_by_slot.ensures q a v n.list at b.at b.offset asks.fits (asks.fits.here.lists ∙ b.base_is)
    (ap (λ (k : ℕ). slot s.around.sources.lists b.at k) c.offset_of.ensures.value ∙ b.slot_is) b.means n.read)))

pub returns-clause-copies : goal.returns-clause-copies
returns-clause-copies c = λ q index at end v refs others operands class asks. (
    let s = scope q in
    let a : RawAttr = stored at end c.args.pair.now c.args.raw.now in
    let b = list_by_slot s a v (loclists_base s) (as_class_of s a v OfListIndex class asks.means) in
    let n = list_at_place s a v (b.at + b.offset) b.means in
    let h : Lists c.args.x.now q index at end c.args.pair.now c.args.raw.now v refs others c.requires.constant c.requires.spelled asks OfListIndex n.list =
    record { class = class; entry = refl; expression = λ z. cc; other = λ z. cc; chosen = refl; is = n.is; places = at_slot_list s a v n.list b class n.read } in
    list_ok c.args.x.now q index at end c.args.pair.now c.args.raw.now v refs others c.requires.constant c.requires.spelled asks operands c.as_read.result OfListIndex n.list h
    (c.in_ok-check_list_by_slot.ensures q a v n.list at b.at b.offset asks.fits (asks.fits.here.lists ∙ b.base_is)
    (ap (λ (k : ℕ). slot s.around.sources.lists b.at k) c.offset_of.ensures.value ∙ b.slot_is) b.means n.read) c.as_read.ensures)
