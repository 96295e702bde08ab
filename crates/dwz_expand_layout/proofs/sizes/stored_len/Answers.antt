use Rattle.std.proofs.Common.{◌+◌, ap, length, rules, sym}
use Rattle.dwz_forms.specs.RawValues.{raw_view}
use Rattle.dwz_layout.proofs.NumberLemmas.{form_small}
use Rattle.dwz_expand_layout.proofs.PartLemmas.{ok_same}
use Rattle.dwz_expand_layout.proofs.ValueLemmas.{text_long, text_none}
use Rattle.dwz_expand_layout.proofs.sizes.stored_len.Goals as goal

pub overflow_cast-form : goal.overflow_cast-form
overflow_cast-form c = let small = form_small c.args.form (raw_view c.args.raw.now) (c.requires c.if-form-ne-DW_FORM_STRING.true) in search (rules, small)

pub returns-in-Bytes : goal.returns-in-Bytes
returns-in-Bytes c =
    let text = c.in-Bytes.text.now in
    ok_same c.more.result (length text + 1) _ (text_long c.args.form (raw_view c.args.raw.now) text c.if-form-ne-DW_FORM_STRING.false (ap raw_view c.in-Bytes.is)) c.more.ensures

pub returns-in-Number : goal.returns-in-Number
returns-in-Number c = sym (ap (λ (w : _). length w) (text_none c.args.form (raw_view c.args.raw.now) c.in-Number.field-0 c.if-form-ne-DW_FORM_STRING.false (ap raw_view c.in-Number.is)))
