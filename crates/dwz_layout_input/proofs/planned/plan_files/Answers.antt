use Rattle.std.proofs.Common.{◌<◌, All, Bool, List, ℕ, length, sym, ap, subst, ◌∙◌, arith}
use Rattle.dwz_graph.specs.Files.{docs_of}
use Rattle.dwz_plan.specs.Gained.{IsPlanOf}
use Rattle.dwz_plan.specs.Rows.{given}
use Rattle.dwz_layout_input.proofs.OutlineNeeds.{flags_show, least_in_rows, least_many, rows_low, targets_in_rows, targets_low}
use Rattle.dwz_layout_input.proofs.PlanFits.{IsMade, plan_fits, plan_shows}
use Rattle.dwz_layout_input.proofs.planned.plan_files.Goals as goal

pub least-requires-clause-movable : goal.least-requires-clause-movable
least-requires-clause-movable g c κs within =
    let flags = c.as_slice-flags.ensures.value ∙ c.in_ok-movable.ensures in
    ap (λ (bs : List Bool). length bs) flags ∙ c.in_ok-tops.ensures.outline.movable.len

pub least-requires-clause-inside : goal.least-requires-clause-inside
least-requires-clause-inside g c κs within = targets_low (docs_of c.args.graph.now.given) c.in_ok-tops.tops c.in_ok-tops.ensures.outline

pub make-requires-clause-rows : goal.make-requires-clause-rows
make-requires-clause-rows g c = let few = c.in_ok-tops.ensures.few_rows in omega (arith, few)

pub make-requires-clause-units : goal.make-requires-clause-units
make-requires-clause-units g c = let few = c.in_ok-tops.ensures.few_units in omega (arith, few)

pub make-requires-clause-least : goal.make-requires-clause-least
make-requires-clause-least g c =
    let docs = docs_of c.args.graph.now.given in
    let tops = c.in_ok-tops.tops in
    let o = c.in_ok-tops.ensures.outline in
    let are = c.in_ok-least.ensures (flags_show docs tops c.as_slice-flags.result.now o (c.as_slice-flags.ensures.value ∙ c.in_ok-movable.ensures)) in
    ap (λ (ns : List ℕ). length ns) c.as_slice.ensures ∙ least_many docs tops c.in_ok-least.least o are

pub make-requires-clause-inside : goal.make-requires-clause-inside
make-requires-clause-inside g c =
    let docs = docs_of c.args.graph.now.given in
    let tops = c.in_ok-tops.tops in
    let o = c.in_ok-tops.ensures.outline in
    let are = c.in_ok-least.ensures (flags_show docs tops c.as_slice-flags.result.now o (c.as_slice-flags.ensures.value ∙ c.in_ok-movable.ensures)) in
    subst (λ (ns : List ℕ). All (λ n. n < length tops.rows) ns) (sym c.as_slice.ensures) (least_in_rows docs tops c.in_ok-least.least o are)

pub make-requires-clause-of_units : goal.make-requires-clause-of_units
make-requires-clause-of_units g c = rows_low (docs_of c.args.graph.now.given) c.in_ok-tops.tops c.in_ok-tops.ensures.outline

pub make-requires-clause-inside_targets : goal.make-requires-clause-inside_targets
make-requires-clause-inside_targets g c = targets_in_rows (docs_of c.args.graph.now.given) c.in_ok-tops.tops c.in_ok-tops.ensures.outline

pub returns-clause-plan : goal.returns-clause-plan
returns-clause-plan g c =
    let docs = docs_of c.args.graph.now.given in
    let tops = c.in_ok-tops.tops in
    let t = c.in_ok-tops.ensures in
    let plan = c.in_ok-plan.plan in
    let least = c.in_ok-least.least in
    let made : IsMade c.args.scope docs tops least plan = record {
      outline = t.outline;
      files = t.files;
      few_rows = (let few = t.few_rows in omega (arith, few));
      few_units = (let few = t.few_units in omega (arith, few));
      are = c.in_ok-least.ensures (flags_show docs tops c.as_slice-flags.result.now t.outline (c.as_slice-flags.ensures.value ∙ c.in_ok-movable.ensures));
      is_plan = subst (λ (w : List ℕ). IsPlanOf (given c.args.scope tops w) plan) c.as_slice.ensures c.in_ok-plan.ensures;
    } in
    plan_shows c.args.scope docs tops least plan made

pub returns-clause-fits : goal.returns-clause-fits
returns-clause-fits g c =
    let docs = docs_of c.args.graph.now.given in
    let tops = c.in_ok-tops.tops in
    let t = c.in_ok-tops.ensures in
    let plan = c.in_ok-plan.plan in
    let least = c.in_ok-least.least in
    let made : IsMade c.args.scope docs tops least plan = record {
      outline = t.outline;
      files = t.files;
      few_rows = (let few = t.few_rows in omega (arith, few));
      few_units = (let few = t.few_units in omega (arith, few));
      are = c.in_ok-least.ensures (flags_show docs tops c.as_slice-flags.result.now t.outline (c.as_slice-flags.ensures.value ∙ c.in_ok-movable.ensures));
      is_plan = subst (λ (w : List ℕ). IsPlanOf (given c.args.scope tops w) plan) c.as_slice.ensures c.in_ok-plan.ensures;
    } in
    plan_fits c.args.scope docs tops least plan made
