use Rattle.std.proofs.Common.{ℕ, ◌<◌, List, length, get_or, sym, ap, subst, ◌∙◌}
use Rattle.std.proofs.lemmas.Bool.{false≢true}
use Rattle.std.specs.Prelude.{not}
use Rattle.dwz_model.specs.Lists.{In}
use Rattle.dwz_groups.specs.Spreading.{IsMarked}
use Rattle.dwz_takes.specs.Takes.{list_at}
use Rattle.dwz_takes.proofs.FitFacts.{some_in, whole_by}
use Rattle.dwz_takes.proofs.WatchFacts.{class_low}
use Rattle.dwz_takes.proofs.fits.is_marked_whole.Goals as goal
use Rattle.dwz_takes.proofs.fits.is_marked_whole.Goals.{then-not-is_empty, else-not-is_empty}

pub has_all-requires : goal.has_all-requires
has_all-requires c n i = subst (λ (m : ℕ). n < m) (sym c.requires.names) (c.requires.rows.part_names c.args.part n (subst (λ (xs : List ℕ). In n xs) c.get.ensures i))

pub has_classes-requires-clause-tops : goal.has_classes-requires-clause-tops
has_classes-requires-clause-tops c t i =
    subst (λ (ks : List ℕ). t < length ks) (sym c.as_slice.ensures) (c.requires.rows.part_tops c.args.part t (subst (λ (xs : List ℕ). In t xs) c.get-tops.ensures i))

pub has_classes-requires-clause-classes : goal.has_classes-requires-clause-classes
has_classes-requires-clause-classes c t i =
    let low = c.requires.rows.part_tops c.args.part t (subst (λ (xs : List ℕ). In t xs) c.get-tops.ensures i) in
    subst (λ (m : ℕ). get_or c.as_slice.result.now t 0 < m) (sym c.requires.classes)
    (subst (λ (ks : List ℕ). get_or ks t 0 < length c.args.rows.now.classes) (sym c.as_slice.ensures) (class_low c.args.rows.now c.requires.rows t low))

pub returns-then-has_all : goal.returns-then-has_all
returns-then-has_all c =
    let Spaces : Type 0 = (n : ℕ) → In n (list_at c.args.rows.now.part_names c.args.part) → IsMarked c.args.names.now n in
    let spaces : Spaces = elim c.if-not-is_empty.branch [
      | then-not-is_empty w ↦ λ n i. w.has_all.ensures.0 (sym w.value-is ∙ c.if-has_all.true) n (subst (λ (xs : List ℕ). In n xs) (sym w.get.ensures) i)
      | else-not-is_empty w ↦ λ n i. absurd (false≢true (sym (ap not w.if-not-is_empty.false) ∙ sym w.value-is ∙ c.if-has_all.true))
    ] in
    let Some : Type 0 = (t : ℕ) × In t c.get-tops.result.now in
    let some : Some = elim c.if-not-is_empty.branch [
      | then-not-is_empty w ↦ some_in c.get-tops.result.now (sym c.is_empty.ensures ∙ w.if-not-is_empty.true)
      | else-not-is_empty w ↦ absurd (false≢true (sym (ap not w.if-not-is_empty.false) ∙ sym w.value-is ∙ c.if-has_all.true))
    ] in
    whole_by c.args.rows.now c.args.classes.now c.args.names.now c.args.part c.get-tops.result.now c.as_slice.result.now c.has_classes.result c.get-tops.ensures c.as_slice.ensures some spaces
    c.has_classes.ensures
