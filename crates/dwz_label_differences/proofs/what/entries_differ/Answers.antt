use Rattle.std.proofs.Common.{◌∙◌, ap, arith, refl, subst, sym}
use Rattle.dwz_def_explain.specs.What.{IsWhat, whole_top}
use Rattle.dwz_label_differences.specs.Labels.{AreEntryLabels, what_of, whole}
use Rattle.dwz_label_differences.proofs.Flats.{labels_long}
use Rattle.dwz_label_differences.proofs.TopLemmas.{all_same, few_whole, what_found}
use Rattle.dwz_label_differences.proofs.what.entries_differ.Goals as goal

pub returns-in-None : goal.returns-in-None
returns-in-None c = λ x y a b short s. (
    let h = subst (λ rs. AreEntryLabels (whole (whole_top x)) rs) (sym c.as_slice.ensures.value) (c.in_ok-a_rows.ensures (whole_top x) a) in
    let g = subst (λ rs. AreEntryLabels (whole (whole_top y)) rs) (sym c.as_slice-2.ensures.value) (c.in_ok-b_rows.ensures (whole_top y) b) in
    all_same x y s (c.in-None.ensures.none (whole_top x) (whole_top y) h g (few_whole x short) refl))

pub returns : goal.returns
returns c = λ x y a b short s. (
    let h = subst (λ rs. AreEntryLabels (whole (whole_top x)) rs) (sym c.as_slice.ensures.value) (c.in_ok-a_rows.ensures (whole_top x) a) in
    let g = subst (λ rs. AreEntryLabels (whole (whole_top y)) rs) (sym c.as_slice-2.ensures.value) (c.in_ok-b_rows.ensures (whole_top y) b) in
    let again = subst (λ rs. AreEntryLabels (whole (whole_top x)) rs) (sym c.as_slice-in-Some.ensures.value) (c.in_ok-a_rows.ensures (whole_top x) a) in
    let first = c.in-Some.ensures.some (whole_top x) (whole_top y) h g (few_whole x short) in
    let within = c.in-Some.ensures.within in
    let long = labels_long (whole (whole_top x)) c.as_slice.result.now h in
    let path = c.in_ok-path-in-Some.ensures (whole_top x) again (omega (arith, within, long)) short.entries in
    subst (λ w. IsWhat x y w) (sym (c.what_at.ensures ∙ ap (λ p. what_of p c.in-Some.difference) path)) (what_found c.in-Some.difference c.in-Some.k x y s first))
