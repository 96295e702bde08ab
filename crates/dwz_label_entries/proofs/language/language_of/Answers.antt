use Rattle.std.proofs.Common.{refl, sym, ◌∙◌}
use Rattle.dwz_unit.specs.Rows.{attr_view}
use Rattle.dwz_label_entries.proofs.FirstLemmas.{first_name}
use Rattle.dwz_label_entries.proofs.LanguageLemmas.{a_language, no_language}
use Rattle.dwz_label_entries.proofs.PlainLemmas.{as_is}
use Rattle.dwz_label_entries.proofs.language.language_of.Goals as goal

pub returns-in-None : goal.returns-in-None
returns-in-None c = λ s row d found means. no_language s row.entry d means (c.in-None.ensures.first row found)

pub returns-in-Some : goal.returns-in-Some
returns-in-Some c = λ s row d found means. (
    let a = attr_view c.in-Some.attr in
    let is = c.in-Some.ensures.first row found in
    let l = a_language s row.entry d a means is in
    let k = c.class_of.result in
    c.number_as.ensures s a l.0 (first_name 0x13 row.entry.attrs a (sym is)) refl (as_is s a l.0 k k c.class_of.ensures refl l.1) ∙ sym l.2)
