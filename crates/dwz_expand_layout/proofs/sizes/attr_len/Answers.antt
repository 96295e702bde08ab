use Rattle.std.proofs.Common.{◌∙◌, ap, length, subst, sym}
use Rattle.dwz_layout.specs.Attributes.{no_numbers}
use Rattle.dwz_expand_layout.specs.Entries.{FitsForm}
use Rattle.dwz_expand_layout.proofs.ValueLemmas.{entry_len, in_content}
use Rattle.dwz_expand_layout.proofs.sizes.attr_len.Goals as goal

pub returns-in-OfCopy : goal.returns-in-OfCopy
returns-in-OfCopy c =
    let form = c.args.attr.now.pair.form in
    let fits = subst (FitsForm form) c.in-OfCopy.is c.requires in
    entry_len no_numbers form c.in-OfCopy.field-0 fits ∙ ap (λ (w : _). length w) (in_content no_numbers c.args.operands.now form _ _ (sym c.in-OfCopy.is))
