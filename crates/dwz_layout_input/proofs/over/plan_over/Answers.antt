use Rattle.std.proofs.Common.{ℕ, ◌<◌, All, Bool, List, length, sym, ap, subst, ◌∙◌, arith}
use Rattle.dwz_graph.specs.Files.{docs_of}
use Rattle.dwz_groups.specs.declared.tops.Tops.{Tops}
use Rattle.dwz_plan.specs.Over.{IsPlanOver}
use Rattle.dwz_layout_input.specs.declared.planned.PlannedFiles.{PlannedFiles}
use Rattle.dwz_layout_input.proofs.OutlineNeeds.{flags_show, rows_many, targets_low}
use Rattle.dwz_layout_input.proofs.OverMade.{IsMadeOver, least_long}
use Rattle.dwz_layout_input.proofs.OverNeeds as Needs
use Rattle.dwz_layout_input.proofs.OverShown.{planned_is}
use Rattle.dwz_layout_input.proofs.OverSteps.{behind_few, found_of, made_of, rows_in, stand_of}
use Rattle.dwz_layout_input.proofs.over.plan_over.Goals as goal

pub least-requires-clause-movable : goal.least-requires-clause-movable
least-requires-clause-movable g c κs within =
    let flags = c.as_slice-flags.ensures.value ∙ c.in_ok-movable.ensures in
    ap (λ (bs : List Bool). length bs) flags ∙ c.in_ok-own.ensures.outline.movable.len

pub least-requires-clause-inside : goal.least-requires-clause-inside
least-requires-clause-inside g c κs within = targets_low (docs_of c.args.graph.now.given) c.in_ok-own.own c.in_ok-own.ensures.outline

pub tops_beside-requires : goal.tops_beside-requires
tops_beside-requires g c =
    let docs = docs_of c.args.graph.now.given in
    let own = c.in_ok-own.ensures in
    let t = c.requires.taken in
    (docs, t.0, stand_of docs t.0 c.args.common.now c.args.index.now c.args.fixed.now t.1 c.in_ok-own.own own.outline own.files own.few_rows own.few_units)

pub least_beside-requires-clause-many : goal.least_beside-requires-clause-many
least_beside-requires-clause-many g c =
    let docs = docs_of c.args.graph.now.given in
    let own = c.in_ok-own.ensures in
    let tops : Tops = c.in_ok-tops.tops in
    let found : List ℕ = c.in_ok-found.found in
    let are = c.in_ok-found.ensures (flags_show docs c.in_ok-own.own c.as_slice-flags.result.now own.outline (c.as_slice-flags.ensures.value ∙ c.in_ok-movable.ensures)) in
    let t = c.requires.taken in
    let over = c.in_ok-tops.ensures docs t.0 (stand_of docs t.0 c.args.common.now c.args.index.now c.args.fixed.now t.1 c.in_ok-own.own own.outline own.files own.few_rows own.few_units) in
    let count = c.len.ensures in
    let long = ap (λ (w : List ℕ). length w) c.into_vec.ensures in
    omega (arith, count, long, rows_in docs t.0 tops over, are.len)

pub least_beside-requires-clause-few : goal.least_beside-requires-clause-few
least_beside-requires-clause-few g c =
    let docs = docs_of c.args.graph.now.given in
    let own = c.in_ok-own.ensures in
    let tops : Tops = c.in_ok-tops.tops in
    let found : List ℕ = c.in_ok-found.found in
    let are = c.in_ok-found.ensures (flags_show docs c.in_ok-own.own c.as_slice-flags.result.now own.outline (c.as_slice-flags.ensures.value ∙ c.in_ok-movable.ensures)) in
    let t = c.requires.taken in
    let over = c.in_ok-tops.ensures docs t.0 (stand_of docs t.0 c.args.common.now c.args.index.now c.args.fixed.now t.1 c.in_ok-own.own own.outline own.files own.few_rows own.few_units) in
    let count = c.len.ensures in
    let behind = behind_few docs t.0 c.args.common.now c.args.index.now c.args.fixed.now t.1 in
    let rows = own.few_rows in
    omega (arith, count, rows_in docs t.0 tops over, rows_many docs c.in_ok-own.own own.outline, rows, behind)

pub with_common-requires-clause-room : goal.with_common-requires-clause-room
with_common-requires-clause-room g c =
    let docs = docs_of c.args.graph.now.given in
    let own = c.in_ok-own.ensures in
    let tops : Tops = c.in_ok-tops.tops in
    let found : List ℕ = c.in_ok-found.found in
    let are = c.in_ok-found.ensures (flags_show docs c.in_ok-own.own c.as_slice-flags.result.now own.outline (c.as_slice-flags.ensures.value ∙ c.in_ok-movable.ensures)) in
    let t = c.requires.taken in
    let least : List ℕ = c.in_ok-all.all.items in
    let f =
    found_of docs c.args.common.now c.args.index.now c.in_ok-own.own own.outline own.files own.few_rows own.few_units tops c.in_ok-tops.ensures found are c.into_vec.result.items least c.len.result
    c.into_vec.ensures c.len.ensures c.in_ok-all.ensures in
    let made : IsMadeOver docs t.0 c.args.fixed.now tops found least = made_of docs t.0 c.args.common.now c.args.index.now c.args.fixed.now t.1 c.in_ok-own.own tops found least f in
    Needs.room docs t.0 c.args.fixed.now tops found least made

pub with_common-requires-clause-units : goal.with_common-requires-clause-units
with_common-requires-clause-units g c =
    let docs = docs_of c.args.graph.now.given in
    let own = c.in_ok-own.ensures in
    let tops : Tops = c.in_ok-tops.tops in
    let found : List ℕ = c.in_ok-found.found in
    let are = c.in_ok-found.ensures (flags_show docs c.in_ok-own.own c.as_slice-flags.result.now own.outline (c.as_slice-flags.ensures.value ∙ c.in_ok-movable.ensures)) in
    let t = c.requires.taken in
    let least : List ℕ = c.in_ok-all.all.items in
    let f =
    found_of docs c.args.common.now c.args.index.now c.in_ok-own.own own.outline own.files own.few_rows own.few_units tops c.in_ok-tops.ensures found are c.into_vec.result.items least c.len.result
    c.into_vec.ensures c.len.ensures c.in_ok-all.ensures in
    let made : IsMadeOver docs t.0 c.args.fixed.now tops found least = made_of docs t.0 c.args.common.now c.args.index.now c.args.fixed.now t.1 c.in_ok-own.own tops found least f in
    Needs.few_all docs t.0 c.args.fixed.now tops found least made

pub with_common-requires-clause-least : goal.with_common-requires-clause-least
with_common-requires-clause-least g c =
    let docs = docs_of c.args.graph.now.given in
    let own = c.in_ok-own.ensures in
    let tops : Tops = c.in_ok-tops.tops in
    let found : List ℕ = c.in_ok-found.found in
    let are = c.in_ok-found.ensures (flags_show docs c.in_ok-own.own c.as_slice-flags.result.now own.outline (c.as_slice-flags.ensures.value ∙ c.in_ok-movable.ensures)) in
    let t = c.requires.taken in
    let least : List ℕ = c.in_ok-all.all.items in
    let f =
    found_of docs c.args.common.now c.args.index.now c.in_ok-own.own own.outline own.files own.few_rows own.few_units tops c.in_ok-tops.ensures found are c.into_vec.result.items least c.len.result
    c.into_vec.ensures c.len.ensures c.in_ok-all.ensures in
    let made : IsMadeOver docs t.0 c.args.fixed.now tops found least = made_of docs t.0 c.args.common.now c.args.index.now c.args.fixed.now t.1 c.in_ok-own.own tops found least f in
    ap (λ (ns : List ℕ). length ns) c.as_slice.ensures.value ∙ least_long docs t.0 c.args.fixed.now tops found least made

pub with_common-requires-clause-inside : goal.with_common-requires-clause-inside
with_common-requires-clause-inside g c =
    let docs = docs_of c.args.graph.now.given in
    let own = c.in_ok-own.ensures in
    let tops : Tops = c.in_ok-tops.tops in
    let found : List ℕ = c.in_ok-found.found in
    let are = c.in_ok-found.ensures (flags_show docs c.in_ok-own.own c.as_slice-flags.result.now own.outline (c.as_slice-flags.ensures.value ∙ c.in_ok-movable.ensures)) in
    let t = c.requires.taken in
    let least : List ℕ = c.in_ok-all.all.items in
    let f =
    found_of docs c.args.common.now c.args.index.now c.in_ok-own.own own.outline own.files own.few_rows own.few_units tops c.in_ok-tops.ensures found are c.into_vec.result.items least c.len.result
    c.into_vec.ensures c.len.ensures c.in_ok-all.ensures in
    let made : IsMadeOver docs t.0 c.args.fixed.now tops found least = made_of docs t.0 c.args.common.now c.args.index.now c.args.fixed.now t.1 c.in_ok-own.own tops found least f in
    subst (λ (ns : List ℕ). All (λ n. n < length tops.rows) ns) (sym c.as_slice.ensures.value) (Needs.least_inside docs t.0 c.args.fixed.now tops found least made)

pub with_common-requires-clause-of_units : goal.with_common-requires-clause-of_units
with_common-requires-clause-of_units g c =
    let docs = docs_of c.args.graph.now.given in
    let own = c.in_ok-own.ensures in
    let tops : Tops = c.in_ok-tops.tops in
    let found : List ℕ = c.in_ok-found.found in
    let are = c.in_ok-found.ensures (flags_show docs c.in_ok-own.own c.as_slice-flags.result.now own.outline (c.as_slice-flags.ensures.value ∙ c.in_ok-movable.ensures)) in
    let t = c.requires.taken in
    let least : List ℕ = c.in_ok-all.all.items in
    let f =
    found_of docs c.args.common.now c.args.index.now c.in_ok-own.own own.outline own.files own.few_rows own.few_units tops c.in_ok-tops.ensures found are c.into_vec.result.items least c.len.result
    c.into_vec.ensures c.len.ensures c.in_ok-all.ensures in
    let made : IsMadeOver docs t.0 c.args.fixed.now tops found least = made_of docs t.0 c.args.common.now c.args.index.now c.args.fixed.now t.1 c.in_ok-own.own tops found least f in
    Needs.units_inside docs t.0 c.args.fixed.now tops found least made

pub with_common-requires-clause-parts : goal.with_common-requires-clause-parts
with_common-requires-clause-parts g c =
    let docs = docs_of c.args.graph.now.given in
    let own = c.in_ok-own.ensures in
    let tops : Tops = c.in_ok-tops.tops in
    let found : List ℕ = c.in_ok-found.found in
    let are = c.in_ok-found.ensures (flags_show docs c.in_ok-own.own c.as_slice-flags.result.now own.outline (c.as_slice-flags.ensures.value ∙ c.in_ok-movable.ensures)) in
    let t = c.requires.taken in
    let least : List ℕ = c.in_ok-all.all.items in
    let f =
    found_of docs c.args.common.now c.args.index.now c.in_ok-own.own own.outline own.files own.few_rows own.few_units tops c.in_ok-tops.ensures found are c.into_vec.result.items least c.len.result
    c.into_vec.ensures c.len.ensures c.in_ok-all.ensures in
    let made : IsMadeOver docs t.0 c.args.fixed.now tops found least = made_of docs t.0 c.args.common.now c.args.index.now c.args.fixed.now t.1 c.in_ok-own.own tops found least f in
    Needs.parts_few docs t.0 c.args.fixed.now tops found least made

pub with_common-requires-clause-files : goal.with_common-requires-clause-files
with_common-requires-clause-files g c =
    let docs = docs_of c.args.graph.now.given in
    let own = c.in_ok-own.ensures in
    let tops : Tops = c.in_ok-tops.tops in
    let found : List ℕ = c.in_ok-found.found in
    let are = c.in_ok-found.ensures (flags_show docs c.in_ok-own.own c.as_slice-flags.result.now own.outline (c.as_slice-flags.ensures.value ∙ c.in_ok-movable.ensures)) in
    let t = c.requires.taken in
    let least : List ℕ = c.in_ok-all.all.items in
    let f =
    found_of docs c.args.common.now c.args.index.now c.in_ok-own.own own.outline own.files own.few_rows own.few_units tops c.in_ok-tops.ensures found are c.into_vec.result.items least c.len.result
    c.into_vec.ensures c.len.ensures c.in_ok-all.ensures in
    let made : IsMadeOver docs t.0 c.args.fixed.now tops found least = made_of docs t.0 c.args.common.now c.args.index.now c.args.fixed.now t.1 c.in_ok-own.own tops found least f in
    Needs.files_inside docs t.0 c.args.fixed.now tops found least made

pub with_common-requires-clause-targets : goal.with_common-requires-clause-targets
with_common-requires-clause-targets g c =
    let docs = docs_of c.args.graph.now.given in
    let own = c.in_ok-own.ensures in
    let tops : Tops = c.in_ok-tops.tops in
    let found : List ℕ = c.in_ok-found.found in
    let are = c.in_ok-found.ensures (flags_show docs c.in_ok-own.own c.as_slice-flags.result.now own.outline (c.as_slice-flags.ensures.value ∙ c.in_ok-movable.ensures)) in
    let t = c.requires.taken in
    let least : List ℕ = c.in_ok-all.all.items in
    let f =
    found_of docs c.args.common.now c.args.index.now c.in_ok-own.own own.outline own.files own.few_rows own.few_units tops c.in_ok-tops.ensures found are c.into_vec.result.items least c.len.result
    c.into_vec.ensures c.len.ensures c.in_ok-all.ensures in
    let made : IsMadeOver docs t.0 c.args.fixed.now tops found least = made_of docs t.0 c.args.common.now c.args.index.now c.args.fixed.now t.1 c.in_ok-own.own tops found least f in
    Needs.targets_long docs t.0 c.args.fixed.now tops found least made

pub with_common-requires-clause-takes : goal.with_common-requires-clause-takes
with_common-requires-clause-takes g c =
    let docs = docs_of c.args.graph.now.given in
    let own = c.in_ok-own.ensures in
    let tops : Tops = c.in_ok-tops.tops in
    let found : List ℕ = c.in_ok-found.found in
    let are = c.in_ok-found.ensures (flags_show docs c.in_ok-own.own c.as_slice-flags.result.now own.outline (c.as_slice-flags.ensures.value ∙ c.in_ok-movable.ensures)) in
    let t = c.requires.taken in
    let least : List ℕ = c.in_ok-all.all.items in
    let f =
    found_of docs c.args.common.now c.args.index.now c.in_ok-own.own own.outline own.files own.few_rows own.few_units tops c.in_ok-tops.ensures found are c.into_vec.result.items least c.len.result
    c.into_vec.ensures c.len.ensures c.in_ok-all.ensures in
    let made : IsMadeOver docs t.0 c.args.fixed.now tops found least = made_of docs t.0 c.args.common.now c.args.index.now c.args.fixed.now t.1 c.in_ok-own.own tops found least f in
    Needs.takes_long docs t.0 c.args.fixed.now tops found least made

pub with_common-requires-clause-inside_takes : goal.with_common-requires-clause-inside_takes
with_common-requires-clause-inside_takes g c =
    let docs = docs_of c.args.graph.now.given in
    let own = c.in_ok-own.ensures in
    let tops : Tops = c.in_ok-tops.tops in
    let found : List ℕ = c.in_ok-found.found in
    let are = c.in_ok-found.ensures (flags_show docs c.in_ok-own.own c.as_slice-flags.result.now own.outline (c.as_slice-flags.ensures.value ∙ c.in_ok-movable.ensures)) in
    let t = c.requires.taken in
    let least : List ℕ = c.in_ok-all.all.items in
    let f =
    found_of docs c.args.common.now c.args.index.now c.in_ok-own.own own.outline own.files own.few_rows own.few_units tops c.in_ok-tops.ensures found are c.into_vec.result.items least c.len.result
    c.into_vec.ensures c.len.ensures c.in_ok-all.ensures in
    let made : IsMadeOver docs t.0 c.args.fixed.now tops found least = made_of docs t.0 c.args.common.now c.args.index.now c.args.fixed.now t.1 c.in_ok-own.own tops found least f in
    Needs.takes_inside docs t.0 c.args.fixed.now tops found least made

pub with_common-requires-clause-images : goal.with_common-requires-clause-images
with_common-requires-clause-images g c =
    let docs = docs_of c.args.graph.now.given in
    let own = c.in_ok-own.ensures in
    let tops : Tops = c.in_ok-tops.tops in
    let found : List ℕ = c.in_ok-found.found in
    let are = c.in_ok-found.ensures (flags_show docs c.in_ok-own.own c.as_slice-flags.result.now own.outline (c.as_slice-flags.ensures.value ∙ c.in_ok-movable.ensures)) in
    let t = c.requires.taken in
    let least : List ℕ = c.in_ok-all.all.items in
    let f =
    found_of docs c.args.common.now c.args.index.now c.in_ok-own.own own.outline own.files own.few_rows own.few_units tops c.in_ok-tops.ensures found are c.into_vec.result.items least c.len.result
    c.into_vec.ensures c.len.ensures c.in_ok-all.ensures in
    let made : IsMadeOver docs t.0 c.args.fixed.now tops found least = made_of docs t.0 c.args.common.now c.args.index.now c.args.fixed.now t.1 c.in_ok-own.own tops found least f in
    Needs.images_long docs t.0 c.args.fixed.now tops found least made

pub with_common-requires-clause-inside_images : goal.with_common-requires-clause-inside_images
with_common-requires-clause-inside_images g c =
    let docs = docs_of c.args.graph.now.given in
    let own = c.in_ok-own.ensures in
    let tops : Tops = c.in_ok-tops.tops in
    let found : List ℕ = c.in_ok-found.found in
    let are = c.in_ok-found.ensures (flags_show docs c.in_ok-own.own c.as_slice-flags.result.now own.outline (c.as_slice-flags.ensures.value ∙ c.in_ok-movable.ensures)) in
    let t = c.requires.taken in
    let least : List ℕ = c.in_ok-all.all.items in
    let f =
    found_of docs c.args.common.now c.args.index.now c.in_ok-own.own own.outline own.files own.few_rows own.few_units tops c.in_ok-tops.ensures found are c.into_vec.result.items least c.len.result
    c.into_vec.ensures c.len.ensures c.in_ok-all.ensures in
    let made : IsMadeOver docs t.0 c.args.fixed.now tops found least = made_of docs t.0 c.args.common.now c.args.index.now c.args.fixed.now t.1 c.in_ok-own.own tops found least f in
    Needs.images_inside docs t.0 c.args.fixed.now tops found least made

pub with_common-requires-clause-blocked : goal.with_common-requires-clause-blocked
with_common-requires-clause-blocked g c =
    let docs = docs_of c.args.graph.now.given in
    let own = c.in_ok-own.ensures in
    let tops : Tops = c.in_ok-tops.tops in
    let found : List ℕ = c.in_ok-found.found in
    let are = c.in_ok-found.ensures (flags_show docs c.in_ok-own.own c.as_slice-flags.result.now own.outline (c.as_slice-flags.ensures.value ∙ c.in_ok-movable.ensures)) in
    let t = c.requires.taken in
    let least : List ℕ = c.in_ok-all.all.items in
    let f =
    found_of docs c.args.common.now c.args.index.now c.in_ok-own.own own.outline own.files own.few_rows own.few_units tops c.in_ok-tops.ensures found are c.into_vec.result.items least c.len.result
    c.into_vec.ensures c.len.ensures c.in_ok-all.ensures in
    let made : IsMadeOver docs t.0 c.args.fixed.now tops found least = made_of docs t.0 c.args.common.now c.args.index.now c.args.fixed.now t.1 c.in_ok-own.own tops found least f in
    Needs.blocked_long docs t.0 c.args.fixed.now tops found least made

pub returns : goal.returns
returns g c = λ doc t. (
    let docs = docs_of c.args.graph.now.given in
    let own = c.in_ok-own.ensures in
    let tops : Tops = c.in_ok-tops.tops in
    let found : List ℕ = c.in_ok-found.found in
    let are = c.in_ok-found.ensures (flags_show docs c.in_ok-own.own c.as_slice-flags.result.now own.outline (c.as_slice-flags.ensures.value ∙ c.in_ok-movable.ensures)) in
    let least : List ℕ = c.in_ok-all.all.items in
    let f =
    found_of docs c.args.common.now c.args.index.now c.in_ok-own.own own.outline own.files own.few_rows own.few_units tops c.in_ok-tops.ensures found are c.into_vec.result.items least c.len.result
    c.into_vec.ensures c.len.ensures c.in_ok-all.ensures in
    let p : PlannedFiles = record { tops = tops; plan = c.in_ok-plan.plan } in
    let made : IsMadeOver docs doc c.args.fixed.now tops found least = made_of docs doc c.args.common.now c.args.index.now c.args.fixed.now t c.in_ok-own.own tops found least f in
    let is = subst (λ (w : List ℕ). IsPlanOver tops w c.args.fixed.now c.in_ok-plan.plan) c.as_slice.ensures.value c.in_ok-plan.ensures in
    planned_is docs doc c.args.fixed.now p found least made is)
