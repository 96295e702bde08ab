use Rattle.std.proofs.Common.{◌≡◌, Some, None, sym, subst, ◌∙◌}
use Rattle.dwz_def_reading.specs.Entries.{RawAttr}
use Rattle.dwz_def_reading.specs.Meanings.{MeansValue}
use Rattle.dwz_unit.specs.Rows.{attr_view}
use Rattle.dwz_graph.proofs.SpaceMeans.{has_name}
use Rattle.dwz_check_labels.proofs.space_names.name_by.Goals as goal

pub returns-in-None : goal.returns-in-None
returns-in-None c = λ s row d text own found means is. (
    let h = has_name s row.entry d text means is in
    let none : None ≡ Some h.attr = c.in-None.ensures.first row found ∙ h.first in
    absurd cc)

pub returns-in-Some : goal.returns-in-Some
returns-in-Some c = λ s row d text own found means is. (
    let h = has_name s row.entry d text means is in
    let both : Some (attr_view c.in-Some.attr) ≡ Some h.attr = c.in-Some.ensures.first row found ∙ h.first in
    let same : attr_view c.in-Some.attr ≡ h.attr = cc in
    c.text_of.ensures s h.value text own (subst (λ (a : RawAttr). MeansValue s a h.value) (sym same) h.means) h.is)
