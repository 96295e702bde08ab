use Rattle.std.proofs.Common.{◌≡◌, List, refl, Some, slice_get, sym, ap, ◌∙◌, arith}
use Rattle.dwz_def_reading.proofs.ListFacts.{item_got}
use Rattle.dwz_layout.specs.declared.order.UnitItems.{UnitItems}
use Rattle.dwz_run_files.proofs.CommonLaid.{common_is, common_made, in_layout, in_orders}
use Rattle.dwz_run_files.proofs.common_sections.sections_of.Goals as goal

pub index-requires : goal.index-requires
index-requires g c = (let below = in_orders c.requires.0 c.args.work.now c.requires.1 in omega (arith, below))

pub file-laid-requires : goal.file-laid-requires
file-laid-requires g c = (let below = in_layout c.requires.0 c.args.work.now c.requires.1 in omega (arith, below))

pub returns : goal.returns
returns g c f is has =
    let p = c.args.work.now.prepared.now in
    let units : slice_get p.ordered.orders.items 0 ≡ Some c.as_slice-units.result.now =
    item_got p.ordered.orders.items 0 c.index.result.now (in_orders f c.args.work.now is) c.index.ensures
    ∙ ap (λ (us : List UnitItems). Some us) (sym c.as_slice-units.ensures) in
    let here = common_is f c.args.work.now is c.as_slice-units.result.now _ units c.file-laid.ensures in
    common_made f c.args.texts has _ (c.in_ok-info.ensures ∙ here.info) (c.in_ok-abbrev.ensures ∙ here.abbrevs) c.section_of.ensures refl
    c.section_of-2.ensures refl refl
