use Rattle.std.proofs.Common.{◌∙◌, ap, pos, subst, sym}
use Rattle.dwz_def_reading.specs.Values.{Number}
use Rattle.dwz_encode.proofs.ValueLemmas.{put_changed}
use Rattle.dwz_expand_layout.specs.Entries.{FitsForm}
use Rattle.dwz_expand_layout.specs.Written.{numbers_view}
use Rattle.dwz_expand_layout.proofs.ValueLemmas.{entry_bytes, in_content}
use Rattle.dwz_expand_layout.proofs.values.put_value.Goals as goal

pub returns-in-OfCopy : goal.returns-in-OfCopy
returns-in-OfCopy c =
    let n = numbers_view c.args.numbers in
    let form = c.args.attr.now.pair.form in
    let fits = subst (FitsForm form) c.in-OfCopy.is c.requires in
    put_changed c.put_four.result c.args.out.now.items c.put_four.new.out.items _ _
    (entry_bytes n form c.in-OfCopy.copy c.number_by_form.result fits (sym (ap (λ (x : _). Number (pos x)) c.number_by_form.ensures))
    ∙ in_content n c.args.operands.now form _ _ (sym c.in-OfCopy.is)) c.put_four.ensures
