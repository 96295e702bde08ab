use Rattle.std.proofs.Common.{◌∙◌, ap, length, rules, ℕ}
use Rattle.dwz_def_reading.specs.Spelling.{uleb}
use Rattle.dwz_forms.specs.RawValues.{raw_view}
use Rattle.dwz_layout.specs.declared.ways.Rewrite.TheVariants.{AsEntry, AsExpression, AsFile, AsRead, AsText, Dropped, KeepsText}
use Rattle.dwz_layout.specs.Attributes.{here_view, no_numbers, value_read}
use Rattle.dwz_layout.specs.Known.{file_at, reference_at, text_at}
use Rattle.dwz_layout.proofs.NumberLemmas.{form_small}
use Rattle.dwz_layout.proofs.SizeLemmas.{entry_sized, expr_next, expr_size, expr_sized, file_sized, none_sized, ok_sized, on_ok, out_sized, read_sized, text_sized}
use Rattle.dwz_layout.proofs.sizes.measure_value.Goals as goal

pub overflow_cast-pair : goal.overflow_cast-pair
overflow_cast-pair c = let small = form_small c.args.pair.now.form (raw_view c.args.raw.now) c.requires.writable in search (rules, small)

pub overflow_cast-pair-in-KeepsText : goal.overflow_cast-pair-in-KeepsText
overflow_cast-pair-in-KeepsText c = let small = form_small c.args.pair.now.form (raw_view c.args.raw.now) c.requires.writable in search (rules, small)

pub returns-in-Dropped-clause-size : goal.returns-in-Dropped-clause-size
returns-in-Dropped-clause-size c =
    let a = value_read c.args.end c.args.pair.now (raw_view c.args.raw.now) in
    out_sized c.args.known.now c.args.file (here_view c.args.here) c.args.next.now a Dropped c.in-Dropped.ensures 0 (none_sized no_numbers)

pub returns-in-AsRead-clause-size : goal.returns-in-AsRead-clause-size
returns-in-AsRead-clause-size c =
    let a = value_read c.args.end c.args.pair.now (raw_view c.args.raw.now) in
    ok_sized c.measure_stored.result c.size_of_value.result _ c.measure_stored.ensures.size
    (out_sized c.args.known.now c.args.file (here_view c.args.here) c.args.next.now a AsRead c.in-AsRead.ensures c.size_of_value.result
    (read_sized no_numbers a c.size_of_value.result c.size_of_value.ensures))

pub returns-in_ok-next-in-KeepsText-clause-size : goal.returns-in_ok-next-in-KeepsText-clause-size
returns-in_ok-next-in-KeepsText-clause-size c =
    let a = value_read c.args.end c.args.pair.now (raw_view c.args.raw.now) in
    let size = c.size_of_value-in-KeepsText.result in
    ok_sized c.measure_stored-in-KeepsText.result size _ c.measure_stored-in-KeepsText.ensures.size
    (out_sized c.args.known.now c.args.file (here_view c.args.here) c.args.next.now a KeepsText c.in-KeepsText.ensures size (read_sized no_numbers a size c.size_of_value-in-KeepsText.ensures))

pub returns-in_ok-next-in-AsText-clause-size : goal.returns-in_ok-next-in-AsText-clause-size
returns-in_ok-next-in-AsText-clause-size c =
    let a = value_read c.args.end c.args.pair.now (raw_view c.args.raw.now) in
    let next = c.args.next.now in
    ok_sized c.measure_stored-in-AsText.result 4 _ c.measure_stored-in-AsText.ensures.size
    (out_sized c.args.known.now c.args.file (here_view c.args.here) next a AsText c.in-AsText.ensures 4 (text_sized no_numbers c.args.pair.now.name (text_at c.args.known.now c.args.file next.text)))

pub returns-in_ok-next-in-AsEntry-clause-size : goal.returns-in_ok-next-in-AsEntry-clause-size
returns-in_ok-next-in-AsEntry-clause-size c =
    let a = value_read c.args.end c.args.pair.now (raw_view c.args.raw.now) in
    let next = c.args.next.now in
    ok_sized c.measure_stored-in-AsEntry.result 4 _ c.measure_stored-in-AsEntry.ensures.size
    (out_sized c.args.known.now c.args.file (here_view c.args.here) next a AsEntry c.in-AsEntry.ensures 4
    (entry_sized no_numbers c.args.known.now c.args.here.unit c.args.pair.now.name (reference_at c.args.known.now c.args.file next.reference)))

pub returns-in_ok-size-in-AsExpression-clause-size : goal.returns-in_ok-size-in-AsExpression-clause-size
returns-in_ok-size-in-AsExpression-clause-size c =
    let a = value_read c.args.end c.args.pair.now (raw_view c.args.raw.now) in
    let next = c.args.next.now in
    let size = c.in_ok-size-in-AsExpression.size in
    ok_sized c.measure_stored-in-AsExpression.result size _ c.measure_stored-in-AsExpression.ensures.size
    (out_sized c.args.known.now c.args.file (here_view c.args.here) next a AsExpression c.in-AsExpression.ensures size
    (expr_sized no_numbers c.args.known.now c.args.file c.args.pair.now.name next.reference a size
    (c.in_ok-size-in-AsExpression.ensures ∙ ap expr_size c.content_of-bytes.ensures)))

pub returns-in_ok-size-in-AsExpression-clause-next : goal.returns-in_ok-size-in-AsExpression-clause-next
returns-in_ok-size-in-AsExpression-clause-next c =
    let a = value_read c.args.end c.args.pair.now (raw_view c.args.raw.now) in
    on_ok c.measure_stored-in-AsExpression.result
    (expr_next c.args.known.now c.args.file (here_view c.args.here) c.args.next.now a c.in-AsExpression.ensures c.content_of-bytes.result.now c.content_of-bytes.ensures c.read_operands.new.room.items
    c.in_ok-read_operands-in-AsExpression.ensures
    c.in_ok-next-in-AsExpression.field-0 c.len.result (c.len.ensures ∙ c.read_operands.new.room.ok.0) c.in_ok-next-in-AsExpression.ensures)

pub returns-in_ok-next-in-AsFile-clause-size : goal.returns-in_ok-next-in-AsFile-clause-size
returns-in_ok-next-in-AsFile-clause-size c =
    let a = value_read c.args.end c.args.pair.now (raw_view c.args.raw.now) in
    let next = c.args.next.now in
    let size = c.uleb_len.result in
    ok_sized c.measure_stored-in-AsFile.result size _ c.measure_stored-in-AsFile.ensures.size
    (out_sized c.args.known.now c.args.file (here_view c.args.here) next a AsFile c.in-AsFile.ensures size
    (file_sized no_numbers c.args.pair.now.name (file_at c.args.known.now c.args.file next.file) size (c.uleb_len.ensures ∙ ap (λ (x : ℕ). length (uleb x)) c.file-number.ensures)))
