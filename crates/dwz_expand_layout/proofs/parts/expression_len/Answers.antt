use Rattle.std.proofs.Common.{◌+◌, ◌∙◌, ap, length, refl}
use Rattle.dwz_def_reading.specs.Values.{Bytes, value_bytes}
use Rattle.dwz_layout.specs.Attributes.{no_numbers}
use Rattle.dwz_expand_layout.specs.Entries.{parts_page}
use Rattle.dwz_expand_layout.proofs.PartLemmas.{expression_long, ok_same}
use Rattle.dwz_expand_layout.proofs.parts.expression_len.Goals as goal

pub returns : goal.returns
returns c =
    let e = c.args.expression.now in
    let own = c.own_operands-own.result.now in
    let len = c.in_ok-len.len in
    let sum = len + c.uleb_len.result in
    ok_same c.more.result sum _
    (expression_long e.start e.bytes.now own len sum c.uleb_len.result c.in_ok-len.ensures c.uleb_len.ensures refl
    ∙ ap (λ (os : _). length (value_bytes 0x18 (Bytes (parts_page no_numbers e.start e.bytes.now os)))) c.own_operands-own.ensures) c.more.ensures
