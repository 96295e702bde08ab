use Rattle.std.proofs.Common.{◌≡◌, ◌∙◌, sym, refl}
use Rattle.std.proofs.lemmas.Result.{err_from_is_err_and}
use Rattle.dwz_def_reading.specs.Classes.{OfConstant, OfOffset}
use Rattle.dwz_def_reading.specs.Entries.{RawAttr}
use Rattle.dwz_def_reading.specs.Meanings.{offset_of}
use Rattle.dwz_graph.specs.Resolved.{stored}
use Rattle.dwz_label_entries.proofs.PlainLemmas.{list_means}
use Rattle.dwz_expand_passes.specs.Copied.{said}
use Rattle.dwz_expand_passes.specs.Known.{scope}
use Rattle.dwz_expand_passes.proofs.ContentLemmas.{as_class_of}
use Rattle.dwz_expand_passes.proofs.ListAnswers.{Lists, list_err, list_ok}
use Rattle.dwz_expand_passes.proofs.NamedLemmas.{at_list, list_at_place}
use Rattle.dwz_expand_passes.proofs.TextAnswers.{read_answer}
use Rattle.dwz_expand_passes.proofs.LostLemmas.{no_constant}
use Rattle.dwz_expand_passes.proofs.contents.copied_offset.Goals.{else-names_list, then-names_list+in_ok-check_list_at}
use Rattle.dwz_expand_passes.proofs.contents.copied_offset.Goals as goal

pub returns-in_err-check_list_at-clause-copies : goal.returns-in_err-check_list_at-clause-copies
returns-in_err-check_list_at-clause-copies c = λ q index at end v refs others operands class asks. (
    let a : RawAttr = stored at end c.args.pair.now c.args.raw.now in
    let name = sym c.names_list.ensures ∙ c.if-names_list.true in
    let means = list_means (scope q) a v name (as_class_of (scope q) a v OfOffset class asks.means) in
    let n = list_at_place (scope q) a v (offset_of a) means in
    let h : Lists c.args.x.now q index at end c.args.pair.now c.args.raw.now v refs others c.requires.constant c.requires.spelled asks OfOffset n.list =
    record { class = class; entry = refl; expression = λ z. cc; other = λ z. cc; chosen = refl; is = n.is; places = at_list (scope q) a n.list class name n.read } in
    let e = err_from_is_err_and c.from_residual.result c.from_residual.ensures.1 in
    rw (e.1, e.2) (list_err c.args.x.now q index at end c.args.pair.now c.args.raw.now v refs others c.requires.constant c.requires.spelled asks operands c.in_err-check_list_at.field-0.0 OfOffset
    n.list h
    (rw c.offset_of.ensures.value at c.in_err-check_list_at.ensures q a v n.list at asks.fits means n.read)))

pub returns-clause-copies : goal.returns-clause-copies
returns-clause-copies c = λ q index at end v refs others operands class asks. (
    let a : RawAttr = stored at end c.args.pair.now c.args.raw.now in
    elim c.if-names_list.branch [
      | then-names_list+in_ok-check_list_at w ↦ (
          let name = sym c.names_list.ensures ∙ w.if-names_list.true in
          let means = list_means (scope q) a v name (as_class_of (scope q) a v OfOffset class asks.means) in
          let n = list_at_place (scope q) a v (offset_of a) means in
          let h : Lists c.args.x.now q index at end c.args.pair.now c.args.raw.now v refs others c.requires.constant c.requires.spelled asks OfOffset n.list =
          record { class = class; entry = refl; expression = λ z. cc; other = λ z. cc; chosen = refl; is = n.is; places = at_list (scope q) a n.list class name n.read } in
          list_ok c.args.x.now q index at end c.args.pair.now c.args.raw.now v refs others c.requires.constant c.requires.spelled asks operands c.as_read.result OfOffset n.list h
          (rw w.offset_of.ensures.value at w.in_ok-check_list_at.ensures q a v n.list at asks.fits means n.read) c.as_read.ensures)
      | else-names_list w ↦ (
          let name = sym c.names_list.ensures ∙ w.if-names_list.false in
          let r = read_answer c.args.x.now q index at end c.args.pair.now c.args.raw.now v refs others c.requires.constant c.requires.spelled asks operands c.as_read.result OfOffset class refl
          (λ z. cc) refl (λ z. name)
          (no_constant q index (said q a v) (λ e. (let z : OfOffset ≡ OfConstant = sym class ∙ e in absurd cc))) refl c.as_read.ensures in
          (r.free, r.is))
    ])
