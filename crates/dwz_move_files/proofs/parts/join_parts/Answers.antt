use Rattle.std.proofs.Common.{◌≡◌, ◌∷◌, List, Option, Some, sym, ap, ◌∙◌, subst}
use Rattle.dwz_move_files.specs.declared.draft.Draft.{Draft}
use Rattle.dwz_move_files.proofs.PartSteps.{PartsLeft, parts_begin, parts_more}
use Rattle.dwz_move_files.proofs.parts.join_parts.Goals as goal

pub loop-part-init : goal.loop-part-init
loop-part-init c = λ docs to are. (
    let parts = c.args.parts in
    subst (λ (left : List (Option Draft)). PartsLeft docs to left c.nothing-draft.result) (sym c.into_iter-part-iterator.ensures.into_iter_gives.0)
    (parts_begin docs to parts.items c.nothing-draft.result are (c.nothing-draft.ensures docs 0)))

pub loop-part-preserved : goal.loop-part-preserved
loop-part-preserved c = λ docs to are. (
    let left = c.next.new.self.rest.items in
    let part = c.in-Some-part.part in
    let rest : c.loop-part.part-iterator.rest.items ≡ Some part ∷ left = c.in-Some.ensures.steps.0 ∙ ap (λ (o : Option Draft). o ∷ left) c.in-Some-part.is in
    parts_more docs to part left c.loop-part.draft c.put_part.new.draft (λ count more d e. c.in_ok-put_part.ensures docs count more d e)
    (subst (λ (w : List (Option Draft)). PartsLeft docs to w c.loop-part.draft) rest (c.loop-part.invariant docs to are)))
