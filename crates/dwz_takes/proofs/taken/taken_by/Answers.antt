use Rattle.std.proofs.Common.{ℕ, false, List, get_or, filter, sym, ap, subst, ◌∙◌, arith}
use Rattle.dwz_model.specs.Lists.{In}
use Rattle.dwz_takes.specs.Steps.{AreFits, AreMarked, AreTakenMarks}
use Rattle.dwz_takes.specs.Takes.{AreTaken}
use Rattle.dwz_takes.proofs.TakenFacts.{fits_low, taken_by_marks}
use Rattle.dwz_takes.proofs.taken.taken_by.Goals as goal

pub mark_all-requires-clause-inside : goal.mark_all-requires-clause-inside
mark_all-requires-clause-inside c n i =
    let low = fits_low c.args.rows.now c.args.unit n ((c.in_ok-fits.ensures.each n).0 (subst (λ (xs : List ℕ). In n xs) c.as_slice.ensures.value i)) in
    let same = c.requires.parts_len in
    omega arith

pub drop_missing-requires-clause-below : goal.drop_missing-requires-clause-below
drop_missing-requires-clause-below c n i = fits_low c.args.rows.now c.args.unit n ((c.in_ok-fits.ensures.each n).0 (subst (λ (xs : List ℕ). In n xs) c.as_slice-2.ensures.value i))

pub marked_of-requires : goal.marked_of-requires
marked_of-requires c n i =
    let low = fits_low c.args.rows.now c.args.unit n ((c.in_ok-fits.ensures.each n).0 (subst (λ (xs : List ℕ). In n xs) c.as_slice-3.ensures.value i)) in
    let same = c.requires.parts_len in
    omega arith

pub clear_all-requires-clause-inside : goal.clear_all-requires-clause-inside
clear_all-requires-clause-inside c n i =
    let low = fits_low c.args.rows.now c.args.unit n ((c.in_ok-fits.ensures.each n).0 (subst (λ (xs : List ℕ). In n xs) c.as_slice-4.ensures.value i)) in
    let same = c.requires.parts_len in
    omega arith

pub returns-clause-taken : goal.returns-clause-taken
returns-clause-taken c =
    let fits : List ℕ = c.in_ok-fits.fits.items in
    let marks : AreTakenMarks c.args.rows.now c.args.unit c.drop_missing.new.flags = c.in_ok-drop_missing.ensures.taken c.args.unit
    (subst (λ (xs : List ℕ). AreFits c.args.rows.now c.args.unit xs c.mark_all.new.flags) (sym c.as_slice-2.ensures.value) (record {
      each = c.in_ok-fits.ensures.each;
      marked = subst (λ (xs : List ℕ). AreMarked xs c.mark_all.new.flags) c.as_slice.ensures.value c.mark_all.ensures;
    })) in
    subst (λ (xs : List ℕ). AreTaken c.args.rows.now c.args.unit xs)
    (sym (c.new.ensures ∙ c.in_ok-taken.ensures ∙ ap (filter (λ (n : ℕ). get_or c.drop_missing.new.flags n false)) c.as_slice-3.ensures.value))
    (taken_by_marks c.args.rows.now c.args.unit fits c.drop_missing.new.flags c.in_ok-fits.ensures.each c.in_ok-fits.ensures.rising marks)
