use Rattle.std.proofs.Common.{◌≡◌, Ok, subst, rules}
use Rattle.dwz_bytes.specs.Input.{Input, input}
use Rattle.dwz_codes.specs.declared.shape.Shape.{Shape}
use Rattle.dwz_def_reading.specs.Values.{shaped_at, value_at}
use Rattle.dwz_forms.specs.FormSets.{rows_of}
use Rattle.dwz_forms.specs.RawValues.{raw_view}
use Rattle.dwz_forms.proofs.FormLemmas.{set_written}
use Rattle.dwz_forms.proofs.ReadingLemmas.{value_writable}
use Rattle.dwz_forms.proofs.reading.read_value_among.Goals as goal

pub returns-clause-writable : goal.returns-clause-writable
returns-clause-writable c =
    let pair = c.args.pair.now in
    let rows = rows_of c.args.forms in
    let bytes = c.bytes-bytes.result.now in
    let raw = raw_view c.in_ok-raw.raw in
    let next = c.value_by_shape.new.cursor in
    let here : shaped_at c.shape_among.result pair (input bytes c.at.result) ≡ Ok (raw, next) =
    subst (λ (i : Input). shaped_at c.shape_among.result pair i ≡ Ok (raw, next)) c.new-ahead.ensures c.in_ok-raw.ensures in
    let read : value_at rows pair (input bytes c.at.result) ≡ Ok (raw, next) = subst (λ (s : Shape). shaped_at s pair (input bytes c.at.result) ≡ Ok (raw, next)) c.shape_among.ensures here in
    value_writable rows (set_written c.args.forms) pair bytes c.at.result next raw (λ k. search rules) read
