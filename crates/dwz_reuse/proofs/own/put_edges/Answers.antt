use Rattle.std.proofs.Common.{Global, Vec, ℕ, ◌+◌, List, [], get_or, sym, subst, ◌∙◌}
use Rattle.dwz_groups.specs.declared.groups.Edge.{Edge}
use Rattle.dwz_reuse.specs.Refers.{PutsList, PutsLists}
use Rattle.dwz_reuse.proofs.EdgeSteps.{put_one, skip_list}
use Rattle.dwz_reuse.proofs.own.put_edges.Goals as goal
use Rattle.dwz_reuse.proofs.own.put_edges.Goals.{in-Some+in_ok-put_list, in_default}

pub loop-number-preserved : goal.loop-number-preserved
loop-number-preserved c =
    let own = c.args.own.now in
    let targets = c.args.targets.now in
    let n = c.loop-number.number in
    let old = c.args.edges.now.items in
    elim c.match-at_or.branch [
      | in-Some+in_ok-put_list w ↦
          put_one own targets n w.in-Some.from old c.loop-number.edges.items c.match-at_or.edges.items (sym c.at_or.ensures ∙ w.in-Some.is)
          (subst (λ (v : Vec Edge Global). PutsList own (get_or targets n []) w.in-Some.from c.loop-number.edges.items v.items) (sym w.edges-is)
          (subst (λ (ts : List ℕ). PutsList own ts w.in-Some.from c.loop-number.edges.items w.put_list.new.edges.items) w.get.ensures w.in_ok-put_list.ensures)) c.loop-number.invariant
      | in_default w ↦ subst (λ (v : Vec Edge Global). PutsLists own targets (n + 1) old v.items) (sym w.edges-is) (skip_list own targets n old c.loop-number.edges.items (sym c.at_or.ensures ∙ w.in_default.is) c.loop-number.invariant)
    ]
