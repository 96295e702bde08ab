use Rattle.std.proofs.Common.{ℕ, ◌+◌, ◌<◌, List, Vec, Global, length, get_or, sym, ap, subst, ◌∙◌}
use Rattle.dwz_model.specs.Lists.{In}
use Rattle.dwz_groups.specs.declared.groups.Edge.{Edge}
use Rattle.dwz_takes.specs.Steps.{AreWatched, IsRarest}
use Rattle.dwz_takes.specs.Takes.{list_at}
use Rattle.dwz_takes.proofs.WatchFacts.{class_low, watched_add, watched_skip}
use Rattle.dwz_takes.proofs.watch.watched_edges.Goals as goal
use Rattle.dwz_takes.proofs.watch.watched_edges.Goals.{in-Some+in_ok-push, in_default}

pub rarest-requires-clause-tops : goal.rarest-requires-clause-tops
rarest-requires-clause-tops c t i =
    subst (λ (ks : List ℕ). t < length ks) (sym c.as_slice.ensures) (c.requires.rows.part_tops c.loop-part.part t (subst (λ (ts : List ℕ). In t ts) c.get.ensures i))

pub rarest-requires-clause-classes : goal.rarest-requires-clause-classes
rarest-requires-clause-classes c t i =
    let low = c.requires.rows.part_tops c.loop-part.part t (subst (λ (ts : List ℕ). In t ts) c.get.ensures i) in
    subst (λ (n : ℕ). get_or c.as_slice.result.now t 0 < n) (sym c.requires.len)
    (subst (λ (ks : List ℕ). get_or ks t 0 < length c.args.rows.now.classes) (sym c.as_slice.ensures) (class_low c.args.rows.now c.requires.rows t low))

pub loop-part-preserved : goal.loop-part-preserved
loop-part-preserved c = elim c.match-rarest.branch [
  | in-Some+in_ok-push w ↦
      let rarest : IsRarest c.args.holders.now c.args.rows.now.classes (list_at c.args.rows.now.part_tops c.loop-part.part) w.in-Some.class =
      subst (λ (ks : List ℕ). IsRarest c.args.holders.now ks (list_at c.args.rows.now.part_tops c.loop-part.part) w.in-Some.class) c.as_slice.ensures
      (subst (λ (ts : List ℕ). IsRarest c.args.holders.now c.as_slice.result.now ts w.in-Some.class) c.get.ensures w.in-Some.ensures) in
      subst (λ (es : List Edge). AreWatched c.args.rows.now c.args.holders.now es (c.loop-part.part + 1)) (sym (ap (λ (v : Vec Edge Global). v.items) w.edges-is ∙ w.in_ok-push.ensures.items))
      (watched_add c.args.rows.now c.args.holders.now c.loop-part.edges.items c.loop-part.part w.in-Some.class rarest c.loop-part.invariant)
  | in_default w ↦
      subst (λ (es : List Edge). AreWatched c.args.rows.now c.args.holders.now es (c.loop-part.part + 1)) (sym (ap (λ (v : Vec Edge Global). v.items) w.edges-is))
      (watched_skip c.args.rows.now c.args.holders.now c.loop-part.edges.items c.loop-part.part (sym c.get.ensures ∙ w.in_default.ensures) c.loop-part.invariant)
]
