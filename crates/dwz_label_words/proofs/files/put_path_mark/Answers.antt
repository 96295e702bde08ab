use Rattle.std.proofs.Common.{ℕ, Option, Some, subst, ◌∙◌}
use mir.Syntax.{w128}
use Rattle.std.proofs.lemmas.Int.{to_z-of_z}
use Rattle.std.proofs.lemmas.Result.{on_ok_weaker}
use Rattle.dwz_def_reading.specs.Documents.{File}
use Rattle.dwz_label.specs.Labels.{plain_label}
use Rattle.dwz_label_words.specs.Known.{HasName}
use Rattle.dwz_label_marks.proofs.AddsLemmas.{adds_named}
use Rattle.dwz_label_words.proofs.RowLemmas.{path_row}
use Rattle.dwz_label_words.proofs.files.put_path_mark.Goals as goal

pub returns-in-None-clause-told : goal.returns-in-None-clause-told
returns-in-None-clause-told c = λ t path at is. (
    let h = c.in_ok-path.ensures in
    let row = path_row t c.args.number path c.row_number.result is (h.many t at)
    (λ n e few. c.row_number.ensures.low n (to_z-of_z w128 c.args.number c.ranges.number ∙ e) few)
    (λ n e more. c.row_number.ensures.high n (to_z-of_z w128 c.args.number c.ranges.number ∙ e) more) in
    absurd (subst (λ (o : Option ℕ). HasName c.path.new.self.names (plain_label (File (Some path))) o) c.in-None.is (h.found t path at row)))

pub returns-in-Some-clause-told : goal.returns-in-Some-clause-told
returns-in-Some-clause-told c = λ t path at is. (
    let h = c.in_ok-path.ensures in
    let names = c.path.new.self.names in
    let row = path_row t c.args.number path c.row_number.result is (h.many t at)
    (λ n e few. c.row_number.ensures.low n (to_z-of_z w128 c.args.number c.ranges.number ∙ e) few)
    (λ n e more. c.row_number.ensures.high n (to_z-of_z w128 c.args.number c.ranges.number ∙ e) more) in
    let has = subst (λ (o : Option ℕ). HasName names (plain_label (File (Some path))) o) c.in-Some.is (h.found t path at row) in
    on_ok_weaker c.put_named.result (λ e. adds_named names (plain_label (File (Some path))) c.in-Some.name c.args.out.now.items c.put_named.new.out.items has e)
    c.put_named.ensures)
