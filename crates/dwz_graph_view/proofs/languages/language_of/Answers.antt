use Rattle.std.proofs.Common.{refl, sym}
use Rattle.dwz_unit.specs.Rows.{attr_view}
use Rattle.dwz_label_entries.proofs.FirstLemmas.{first_name}
use Rattle.dwz_graph_view.proofs.LanguageLemmas.{a_language, no_language}
use Rattle.dwz_def_reading.specs.Meanings.{MeansAs}
use Rattle.std.proofs.Common.{subst}
use Rattle.dwz_def_reading.specs.Classes.{Class}
use Rattle.dwz_graph_view.proofs.languages.language_of.Goals as goal

pub returns-in-None : goal.returns-in-None
returns-in-None c = λ s row d found means. no_language s row.entry d means (c.in-None.ensures.first row found)

pub returns-in-Some : goal.returns-in-Some
returns-in-Some c = λ s row d found means. (
    let a = attr_view c.in-Some.attr in
    let is = c.in-Some.ensures.first row found in
    a_language s row.entry d a c.number_as.result means is (λ v is_value.
    c.number_as.ensures s a v (first_name 0x13 row.entry.attrs a (sym is)) refl (subst (λ (k : Class). MeansAs k s a v) (sym c.class_of.ensures) is_value)))
