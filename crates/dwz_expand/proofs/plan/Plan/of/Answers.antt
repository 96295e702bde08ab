use Rattle.std.proofs.Common.{sym, ◌∙◌}
use Rattle.std.specs.Option.{option_map}
use Rattle.dwz_expand.proofs.PlanSteps.{entries_known, sources_known}
use Rattle.dwz_expand.proofs.plan.Plan.of.Goals as goal

pub of-requires-clause-ranges : goal.of-requires-clause-ranges
of-requires-clause-ranges c =
    let k = c.requires.known.1 in
    (k.plans c.in_ok-sources.sources (c.in_ok-sources.ensures k.w (sources_known c.args.own.now c.args.common k.w k.planned))).ranges

pub of-requires-clause-few : goal.of-requires-clause-few
of-requires-clause-few c =
    let k = c.requires.known.1 in
    (k.plans c.in_ok-sources.sources (c.in_ok-sources.ensures k.w (sources_known c.args.own.now c.args.common k.w k.planned))).few

pub of-requires-2-clause-sources : goal.of-requires-2-clause-sources
of-requires-2-clause-sources c =
    let k = c.requires.known.1 in (
      k.w,
      c.in_ok-sources.ensures k.w (sources_known c.args.own.now c.args.common k.w k.planned),
      entries_known c.requires.known.0 c.args.own.now (option_map (λ f. f.now) c.args.common) c.args.files.now k ∙ sym c.entries_of-entries.ensures,
    )

pub returns : goal.returns
returns c = λ r k.
    let are = c.in_ok-sources.ensures k.w (sources_known c.args.own.now c.args.common k.w k.planned) in
    record {
      sources = are;
      units = k.plans c.in_ok-sources.sources are;
      numbers = c.in_ok-numbers.ensures.roots;
      copies = c.in_ok-copies.ensures.copies;
      many = c.in_ok-copies.ensures.entries ∙ c.entries_of-entries.ensures;
      all = entries_known r c.args.own.now (option_map (λ f. f.now) c.args.common) c.args.files.now k;
    }
