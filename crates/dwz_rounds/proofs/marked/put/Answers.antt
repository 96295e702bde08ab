use Rattle.std.proofs.Common.{[], ◌∷◌, List, ℕ, subst, sym}
use Rattle.std.specs.Prelude.{slice_set, true}
use Rattle.dwz_rounds.specs.Marked.{AreMarked, ArePut}
use Rattle.dwz_rounds.proofs.Marking.{marked-more, put-new}
use Rattle.dwz_rounds.proofs.marked.put.Goals as goal

pub returns-in_ok-push-clause-marked : goal.returns-in_ok-push-clause-marked
returns-in_ok-push-clause-marked c =
    subst (λ (l : List ℕ). AreMarked (slice_set c.args.marks.now c.args.number true) l) (sym c.in_ok-push.ensures.items)
    (marked-more c.args.marks.now c.args.list.now.items c.args.number c.requires.inside c.requires.marked)

pub returns-in_ok-push-clause-put : goal.returns-in_ok-push-clause-put
returns-in_ok-push-clause-put c =
    subst (λ (l : List ℕ). ArePut c.args.list.now.items (c.args.number ∷ []) l) (sym c.in_ok-push.ensures.items)
    (put-new c.args.list.now.items c.args.number)
