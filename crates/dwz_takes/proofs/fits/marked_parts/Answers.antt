use Rattle.std.proofs.Common.{ℕ, ◌<◌, List, length, get_or, subst, arith}
use Rattle.std.proofs.lemmas.List.{take_all}
use Rattle.dwz_model.specs.Lists.{In}
use Rattle.dwz_model.proofs.ListFacts.{in_at}
use Rattle.dwz_takes.specs.Steps.{IsMarkedWhole}
use Rattle.dwz_takes.proofs.FitFacts.{Adds, AreUnder, under_next}
use Rattle.dwz_takes.proofs.fits.marked_parts.Goals as goal

pub get-requires : goal.get-requires
get-requires c =
    let l : c.loop-class.class-index < length c.args.own.now = omega arith in
    c.requires.own (get_or c.args.own.now c.loop-class.class-index 0) (in_at c.args.own.now c.loop-class.class-index l)

pub add_marked-requires-clause-parts : goal.add_marked-requires-clause-parts
add_marked-requires-clause-parts c p i = c.requires.watchers (get_or c.args.own.now c.loop-class.class-index 0) p (subst (λ (xs : List ℕ). In p xs) c.get.ensures i)

pub loop-class-preserved : goal.loop-class-preserved
loop-class-preserved c =
    let W : ℕ → Type 0 = IsMarkedWhole c.args.rows.now c.args.classes.now c.args.names.now in
    under_next W c.args.watchers.now c.args.own.now c.loop-class.fits.items c.add_marked.new.fits.items c.loop-class.class-index (omega arith) c.loop-class.invariant
    (subst (λ (xs : List ℕ). Adds W c.loop-class.fits.items xs c.add_marked.new.fits.items) c.get.ensures c.in_ok-add_marked.ensures)

pub returns : goal.returns
returns c = subst (λ (xs : List ℕ). AreUnder (IsMarkedWhole c.args.rows.now c.args.classes.now c.args.names.now) c.args.watchers.now xs c.loop-class.fits.items)
    (take_all c.loop-class.class-index c.args.own.now (omega arith)) c.loop-class.invariant
