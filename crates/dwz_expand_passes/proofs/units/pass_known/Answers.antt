use Rattle.std.proofs.Common.{ℕ, ◌+◌, ◌<◌, ◌^◌, ◌++◌, List, refl, sym, subst, arith}
use Rattle.std.proofs.lemmas.Result.{err_from_is_err_and}
use Rattle.dwz_model.specs.Lists.{Each}
use Rattle.dwz_expand_layout.specs.Depths.{with_ends}
use Rattle.dwz_expand_passes.specs.Passes.{entry_many}
use Rattle.dwz_expand_sources.specs.Walk.{sources_of}
use Rattle.dwz_expand_passes.specs.Noted.{AreNotedOf}
use Rattle.dwz_expand_passes.specs.Steps.{KnowsHere, a_unit}
use Rattle.dwz_expand_passes.proofs.NotedLemmas.{noted_in_file}
use Rattle.dwz_expand_passes.proofs.UnitLemmas.{each_to, new_of, planned_within, refused_at}
use Rattle.dwz_expand_passes.proofs.units.pass_known.Goals as goal

pub new-walk-requires-clause-few : goal.new-walk-requires-clause-few
new-walk-requires-clause-few g c =
    let few = c.requires.ready.few in
    each_to (λ x. x.root < entry_many c.args.file.now) (λ x. x.root + 1 < 2 ^ 32) c.args.file.now.sources.now.units (λ x lt. omega (arith, lt, few)) c.requires.roots

pub pass_entries-requires-clause-there : goal.pass_entries-requires-clause-there
pass_entries-requires-clause-there g c =
    let x = c.args.file.now in
    let k = c.args.known.now in
    let walk = c.new-walk.ensures c.args.new c.requires.new in
    subst (λ (m : ℕ). Each (λ i. i < m) c.new-walk.result) (sym c.requires.many)
    (subst (λ (is : List ℕ). Each (λ i. i < entry_many x) is) (sym walk) (planned_within x c.requires.ready.planned k.unit c.args.new c.requires.new))

pub returns-in_err-pass_entries-clause-refused : goal.returns-in_err-pass_entries-clause-refused
returns-in_err-pass_entries-clause-refused g c =
    let x = c.args.file.now in
    let k = c.args.known.now in
    let walk = c.new-walk.ensures c.args.new c.requires.new in
    let e = err_from_is_err_and c.from_residual-in_err-pass_entries.result c.from_residual-in_err-pass_entries.ensures.1 in
    rw (e.1, e.2) (refused_at x k.unit k c.new-walk.result c.args.new c.requires.new walk c.requires.own refl c.requires.knows c.in_err-pass_entries.field-0.0 c.in_err-pass_entries.ensures.refused)

pub returns-clause-passed : goal.returns-clause-passed
returns-clause-passed g c =
    let x = c.args.file.now in
    let k = c.args.known.now in
    let walk = c.new-walk.ensures c.args.new c.requires.new in
    let p = c.in_ok-pass_entries.ensures.passed in (
      a_unit c.args.kind (with_ends p.0),
      new_of x k.unit k c.new-walk.result c.args.new c.requires.new walk c.requires.own refl c.requires.knows c.args.kind p.0 c.requires.kinds p.1,
      λ made units start. c.in_ok-close.ensures.passed made units c.args.kind (with_ends p.0) (p.2 made units c.args.kind (c.in_ok-start.ensures.passed made units start)),
    )

pub returns-clause-noted : goal.returns-clause-noted
returns-clause-noted g c =
    let x = c.args.file.now in
    let k = c.args.known.now in
    let walk = c.new-walk.ensures c.args.new c.requires.new in
    let p = c.in_ok-pass_entries.ensures.noted in (
      p.0,
      noted_in_file x k (sources_of x.sources.now.ranges c.args.new) p.0 c.requires.own c.requires.common c.requires.knows
          (subst (λ (is : List ℕ). AreNotedOf (KnowsHere k) k.own k.common k.unit is p.0) walk p.1),
      λ before start. c.in_ok-close.ensures.noted (before ++ p.0) (p.2 before (c.in_ok-start.ensures.noted before start)),
    )
