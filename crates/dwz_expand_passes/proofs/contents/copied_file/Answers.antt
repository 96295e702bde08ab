use Rattle.std.proofs.Common.{◌∙◌, ap, sym, refl, subst, rules}
use Rattle.dwz_def_reading.specs.Classes.{OfConstant}
use Rattle.dwz_def_reading.specs.Entries.{RawAttr}
use Rattle.std.specs.Prelude.{ℤ}
use Rattle.dwz_def_reading.specs.Values.{Number as Stored}
use Rattle.dwz_expand_layout.specs.Entries.{CanStore}
use Rattle.dwz_expand_layout.proofs.StoreLemmas.{can_number}
use Rattle.dwz_expand_passes.proofs.RawLemmas.{wide}
use Rattle.dwz_graph.specs.Resolved.{stored}
use Rattle.dwz_label_entries.proofs.PlainLemmas.{file_means, numbers}
use Rattle.dwz_expand_passes.specs.Known.{scope}
use Rattle.dwz_expand_passes.proofs.ContentLemmas.{as_class_of}
use Rattle.dwz_expand_passes.proofs.TextAnswers.{file_lacks, file_read, file_row}
use Rattle.dwz_expand_passes.proofs.contents.copied_file.Goals as goal

pub returns-in-OldUnit-clause-copies : goal.returns-in-OldUnit-clause-copies
returns-in-OldUnit-clause-copies c = λ q index end v refs others operands class name asks. (
    let r = file_read c.args.x.now q index c.args.at end c.args.pair.now c.args.raw.now v refs others c.requires.constant c.requires.spelled asks operands c.as_read.result class name c.in-OldUnit.is
    c.as_read.ensures in
    (r.free, r.is))

pub returns-in-Some-clause-copies : goal.returns-in-Some-clause-copies
returns-in-Some-clause-copies c = λ q index end v refs others operands class name asks. (
    let a : RawAttr = stored c.args.at end c.args.pair.now c.args.raw.now in
    let means = file_means (scope q) a v name (as_class_of (scope q) a v OfConstant class asks.means) in
    let row = c.in_ok-row-in_default.ensures (scope q) a v (q.choice.paths q.unit) (numbers a name class) refl asks.line means asks.fits.paths in
    let r = file_row c.args.x.now q index c.args.at end c.args.pair.now c.args.raw.now v refs others c.requires.constant c.requires.spelled asks operands c.of_form.result c.in-Some.row _ class name
    c.in_default.not-OldUnit (sym c.in-Some.is ∙ row) (ap (λ (z : ℤ). Stored z) (wide c.in-Some.row (search rules))) c.of_form.ensures in
    (r.free, r.is))

pub returns-in-None-clause-copies : goal.returns-in-None-clause-copies
returns-in-None-clause-copies c = λ q index end v refs others operands class name asks. (
    let a : RawAttr = stored c.args.at end c.args.pair.now c.args.raw.now in
    let means = file_means (scope q) a v name (as_class_of (scope q) a v OfConstant class asks.means) in
    let row = c.in_ok-row-in_default.ensures (scope q) a v (q.choice.paths q.unit) (numbers a name class) refl asks.line means asks.fits.paths in
    file_lacks c.args.x.now q index c.args.at end c.args.pair.now c.args.raw.now v refs others c.requires.constant c.requires.spelled asks class name c.in_default.not-OldUnit (sym c.in-None.is ∙ row))

pub returns-in-Some-clause-stores : goal.returns-in-Some-clause-stores
returns-in-Some-clause-stores c = subst CanStore (sym c.of_form.ensures) (can_number c.args.pair.now.name c.in-Some.row c.requires.plain.some_name (search rules))
