use Rattle.std.proofs.Common.{ℕ, List, get_or, take, subst, sym, ap, ◌∙◌}
use Rattle.std.proofs.lemmas.List.{take_more}
use Rattle.dwz_def_explain.specs.Texts.{entry_along}
use Rattle.dwz_unit.specs.Rows.{units_of}
use Rattle.dwz_explain.specs.Shown.{MeansSubtree}
use Rattle.dwz_explain.proofs.ChildSteps.{along_more, along_none}
use Rattle.dwz_explain.proofs.children.find_entry.Goals as goal

pub loop-index-init : goal.loop-index-init
loop-index-init c = record { has = c.requires; along = λ s name x m. subst (MeansSubtree s name (units_of c.args.units.now) c.args.entry) (sym (along_none x)) m }

pub loop-index-preserved : goal.loop-index-preserved
loop-index-preserved c =
    let path : List ℕ = c.args.path.now in
    let i = c.loop-index.index-index in
    record {
      has = c.child_of-at.ensures.has;
      along = λ s name x m. (
          let same = ap (λ (p : List ℕ). entry_along p x) (take_more path i 0 c.loop-index-test.true) ∙ along_more (take i path) (get_or path i 0) x in
          subst (MeansSubtree s name (units_of c.args.units.now) c.child_of-at.result) (sym same) (c.child_of-at.ensures.child s name (entry_along (take i path) x) (c.loop-index.invariant.along s name x m)));
    }
