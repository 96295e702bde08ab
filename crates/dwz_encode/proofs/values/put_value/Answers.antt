use Rattle.std.proofs.Common.{◌++◌, ◌∙◌, ap, rules, ℕ}
use Rattle.dwz_bytes.specs.Spelling.{le_bytes, uleb}
use Rattle.dwz_forms.specs.RawValues.{raw_view}
use Rattle.dwz_layout.specs.declared.ways.Rewrite.TheVariants.{AsEntry, AsExpression, AsFile, AsRead, AsText, Dropped, KeepsText}
use Rattle.dwz_layout.specs.declared.known.TextAt.{TextAt}
use Rattle.dwz_layout.specs.Attributes.{here_view, text_offset, value_read}
use Rattle.dwz_layout.specs.Known.{file_at, reference_at, text_at}
use Rattle.dwz_layout.proofs.NumberLemmas.{form_small}
use Rattle.dwz_layout.proofs.SizeLemmas.{expr_next, on_ok}
use Rattle.dwz_encode.specs.Views.{numbers_view}
use Rattle.dwz_encode.proofs.ValueLemmas.{put_by, put_expr, put_file, put_mapped, put_none, put_number_of, put_read, put_text}
use Rattle.dwz_encode.proofs.values.put_value.Goals as goal

pub overflow_cast-pair : goal.overflow_cast-pair
overflow_cast-pair c = let small = form_small c.args.pair.now.form (raw_view c.args.raw.now) c.requires in search (rules, small)

pub overflow_cast-pair-in-KeepsText : goal.overflow_cast-pair-in-KeepsText
overflow_cast-pair-in-KeepsText c = let small = form_small c.args.pair.now.form (raw_view c.args.raw.now) c.requires in search (rules, small)

pub returns-in-Dropped-clause-bytes : goal.returns-in-Dropped-clause-bytes
returns-in-Dropped-clause-bytes c =
    let n = numbers_view c.args.numbers in
    let k = c.args.known.now in
    let here = here_view c.args.here in
    let next = c.args.next.now in
    let old = c.args.out.now.items in
    let a = value_read c.args.end c.args.pair.now (raw_view c.args.raw.now) in
    put_by n k c.args.file here next a Dropped c.in-Dropped.ensures old old (put_none n old)

pub returns-in-AsRead-clause-bytes : goal.returns-in-AsRead-clause-bytes
returns-in-AsRead-clause-bytes c =
    let n = numbers_view c.args.numbers in
    let k = c.args.known.now in
    let here = here_view c.args.here in
    let next = c.args.next.now in
    let old = c.args.out.now.items in
    let a = value_read c.args.end c.args.pair.now (raw_view c.args.raw.now) in
    let new = c.write_value.new.out.items in
    put_mapped c.write_value.result (λ (is : _). put_by n k c.args.file here next a AsRead c.in-AsRead.ensures old new (put_read n a old new is)) c.write_value.ensures.ok

pub returns-in_ok-next-in-KeepsText-clause-bytes : goal.returns-in_ok-next-in-KeepsText-clause-bytes
returns-in_ok-next-in-KeepsText-clause-bytes c =
    let n = numbers_view c.args.numbers in
    let k = c.args.known.now in
    let here = here_view c.args.here in
    let next = c.args.next.now in
    let old = c.args.out.now.items in
    let a = value_read c.args.end c.args.pair.now (raw_view c.args.raw.now) in
    let new = c.write_value-in-KeepsText.new.out.items in
    put_mapped c.write_value-in-KeepsText.result (λ (is : _). put_by n k c.args.file here next a KeepsText c.in-KeepsText.ensures old new (put_read n a old new is))
    c.write_value-in-KeepsText.ensures.ok

pub returns-in_ok-next-in-AsText-clause-bytes : goal.returns-in_ok-next-in-AsText-clause-bytes
returns-in_ok-next-in-AsText-clause-bytes c =
    let n = numbers_view c.args.numbers in
    let k = c.args.known.now in
    let here = here_view c.args.here in
    let next = c.args.next.now in
    let old = c.args.out.now.items in
    let a = value_read c.args.end c.args.pair.now (raw_view c.args.raw.now) in
    let new = c.put_text.new.out.items in
    put_mapped c.put_text.result
    (λ (is : _). put_by n k c.args.file here next a AsText c.in-AsText.ensures old new
    (put_text n c.args.pair.now.name (text_at k c.args.file next.text) old new (is ∙ ap (λ (t : TextAt). old ++ le_bytes 4 (text_offset t)) c.text-text.ensures))) c.put_text.ensures

pub returns-in_ok-next-in-AsFile-clause-bytes : goal.returns-in_ok-next-in-AsFile-clause-bytes
returns-in_ok-next-in-AsFile-clause-bytes c =
    let n = numbers_view c.args.numbers in
    let k = c.args.known.now in
    let here = here_view c.args.here in
    let next = c.args.next.now in
    let old = c.args.out.now.items in
    let a = value_read c.args.end c.args.pair.now (raw_view c.args.raw.now) in
    let new = c.put_uleb.new.out.items in
    put_mapped c.put_uleb.result
    (λ (is : _). put_by n k c.args.file here next a AsFile c.in-AsFile.ensures old new
    (put_file n c.args.pair.now.name (file_at k c.args.file next.file) old new (is ∙ ap (λ (x : ℕ). old ++ uleb x) c.file-number.ensures))) c.put_uleb.ensures.ok

pub returns-in_ok-next-in-AsEntry-clause-bytes : goal.returns-in_ok-next-in-AsEntry-clause-bytes
returns-in_ok-next-in-AsEntry-clause-bytes c =
    let n = numbers_view c.args.numbers in
    let k = c.args.known.now in
    let here = here_view c.args.here in
    let next = c.args.next.now in
    let old = c.args.out.now.items in
    let a = value_read c.args.end c.args.pair.now (raw_view c.args.raw.now) in
    let new = c.put_entry.new.out.items in
    put_mapped c.put_entry.result
    (λ (is : _). put_by n k c.args.file here next a AsEntry c.in-AsEntry.ensures old new
    (put_number_of n k c.args.here.unit c.args.pair.now.name c.reference-target.result (reference_at k c.args.file next.reference) c.reference-target.ensures old new is))
    c.put_entry.ensures

pub returns-in_ok-next-in-AsExpression-clause-bytes : goal.returns-in_ok-next-in-AsExpression-clause-bytes
returns-in_ok-next-in-AsExpression-clause-bytes c =
    let n = numbers_view c.args.numbers in
    let k = c.args.known.now in
    let here = here_view c.args.here in
    let next = c.args.next.now in
    let old = c.args.out.now.items in
    let a = value_read c.args.end c.args.pair.now (raw_view c.args.raw.now) in
    let new = c.put_expr.new.out.items in
    put_mapped c.put_expr.result
    (λ (is : _). put_by n k c.args.file here next a AsExpression c.in-AsExpression.ensures old new
    (put_expr n k c.args.file c.args.pair.now.name next.reference a c.content_of-bytes.result.now c.content_of-bytes.ensures c.read_operands.new.room.items c.deref.result.now c.deref.ensures.value
    c.in_ok-read_operands-in-AsExpression.ensures old new is))
    c.put_expr.ensures

pub returns-in_ok-next-in-AsExpression-clause-next : goal.returns-in_ok-next-in-AsExpression-clause-next
returns-in_ok-next-in-AsExpression-clause-next c =
    let n = numbers_view c.args.numbers in
    let k = c.args.known.now in
    let here = here_view c.args.here in
    let next = c.args.next.now in
    let old = c.args.out.now.items in
    let a = value_read c.args.end c.args.pair.now (raw_view c.args.raw.now) in
    on_ok c.put_expr.result
    (expr_next k c.args.file here next a c.in-AsExpression.ensures c.content_of-bytes.result.now c.content_of-bytes.ensures c.read_operands.new.room.items c.in_ok-read_operands-in-AsExpression.ensures
    c.in_ok-next-in-AsExpression.field-0 c.len.result (c.len.ensures ∙ c.read_operands.new.room.ok.0) c.in_ok-next-in-AsExpression.ensures)
