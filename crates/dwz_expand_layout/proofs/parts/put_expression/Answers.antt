use Rattle.std.proofs.Common.{◌++◌, ◌∙◌, ap}
use Rattle.dwz_def_reading.specs.Values.{Bytes, value_bytes}
use Rattle.dwz_encode.proofs.ValueLemmas.{put_mapped}
use Rattle.dwz_expand_layout.specs.Entries.{parts_page}
use Rattle.dwz_expand_layout.specs.Written.{numbers_view}
use Rattle.dwz_expand_layout.proofs.PartLemmas.{expression_put}
use Rattle.dwz_expand_layout.proofs.parts.put_expression.Goals as goal

pub returns : goal.returns
returns c =
    let e = c.args.expression.now in
    let n = numbers_view c.args.numbers in
    let old = c.args.out.now.items in
    put_mapped c.put_parts.result
    (λ (put : _). expression_put n e.start e.bytes.now c.own_operands-own.result.now c.in_ok-len.len old c.put_uleb.new.out.items c.put_parts.new.out.items c.in_ok-len.ensures
    c.in_ok-put_uleb.ensures.ok put
    ∙ ap (λ (os : _). old ++ value_bytes 0x18 (Bytes (parts_page n e.start e.bytes.now os))) c.own_operands-own.ensures) c.put_parts.ensures
