use Rattle.std.proofs.Common.{◌++◌, ◌∷◌, ◌∙◌, [], ap, append-nil, rules, sym}
use Rattle.dwz_encode.proofs.ByteLemmas.{two_parts}
use Rattle.dwz_forms.specs.RawValues.{raw_view}
use Rattle.dwz_layout.proofs.NumberLemmas.{form_small}
use Rattle.dwz_expand_layout.proofs.ValueLemmas.{text_bytes, text_none}
use Rattle.dwz_expand_layout.proofs.values.put_stored.Goals as goal

pub overflow_cast-form : goal.overflow_cast-form
overflow_cast-form c = let small = form_small c.args.form (raw_view c.args.raw.now) (c.requires c.if-form-ne-DW_FORM_STRING.true) in search (rules, small)

pub returns-in_ok-push-in-Bytes : goal.returns-in_ok-push-in-Bytes
returns-in_ok-push-in-Bytes c =
    let old = c.args.out.now.items in
    let text = c.in-Bytes.text.now in
    two_parts old c.extend_from_slice.new.self.items c.push.new.self.items text (0 ∷ []) c.in_ok-extend_from_slice-in-Bytes.ensures.items c.in_ok-push-in-Bytes.ensures.items
    ∙ ap (λ (w : _). old ++ w) (sym (text_bytes c.args.form (raw_view c.args.raw.now) text c.if-form-ne-DW_FORM_STRING.false (ap raw_view c.in-Bytes.is)))

pub returns-in-Number : goal.returns-in-Number
returns-in-Number c =
    let old = c.args.out.now.items in
    sym (append-nil old) ∙ ap (λ (w : _). old ++ w) (sym (text_none c.args.form (raw_view c.args.raw.now) c.in-Number.field-0 c.if-form-ne-DW_FORM_STRING.false (ap raw_view c.in-Number.is)))
