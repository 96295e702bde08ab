use Rattle.std.proofs.Common.{◌≡◌, suc, ◌+◌, ◌<◌, List, length, Some, slice_get, sym, ap, ◌∙◌, arith}
use Rattle.std.proofs.lemmas.Option.{slice_get-get_or}
use Rattle.dwz_def_reading.proofs.ListFacts.{item_got}
use Rattle.dwz_layout.specs.declared.order.UnitItems.{UnitItems}
use Rattle.dwz_run_files.proofs.FileMoved.{in_files, in_firsts, in_indexes, in_layout, in_orders, in_starts, is_moved}
use Rattle.dwz_run_files.proofs.moved.moved_file.Goals as goal

pub offset_bounds-prepared-number : goal.offset_bounds-prepared-number
offset_bounds-prepared-number c =
    let r = c.requires in
    let below = in_files r.1 c.args.work.now r.2 c.args.number c.args.rank r.3 in
    let few = r.2.works.few in omega (arith, below, few)

pub bounds-prepared-number : goal.bounds-prepared-number
bounds-prepared-number c = (let r = c.requires in in_files r.1 c.args.work.now r.2 c.args.number c.args.rank r.3)

pub offset_bounds-indexes-number : goal.offset_bounds-indexes-number
offset_bounds-indexes-number c =
    let r = c.requires in
    let below = in_files r.1 c.args.work.now r.2 c.args.number c.args.rank r.3 in
    let few = r.2.works.few in omega (arith, below, few)

pub bounds-indexes-number : goal.bounds-indexes-number
bounds-indexes-number c = (let r = c.requires in in_indexes r.1 c.args.work.now r.2 c.args.number c.args.rank r.3)

pub offset_bounds-work-number : goal.offset_bounds-work-number
offset_bounds-work-number c =
    let r = c.requires in
    let below = in_files r.1 c.args.work.now r.2 c.args.number c.args.rank r.3 in
    let few = r.2.works.few in omega (arith, below, few)

pub bounds-work-number : goal.bounds-work-number
bounds-work-number c = (let r = c.requires in in_starts r.1 c.args.work.now r.2 c.args.number c.args.rank r.3)

pub index-requires : goal.index-requires
index-requires c =
    let r = c.requires in
    let below = in_firsts r.1 c.args.work.now r.2 c.args.number c.args.rank r.3 in
    omega (arith, below, c.args.work.now.prepared.now.ordered.firsts.ok.0)

pub index-requires-2 : goal.index-requires-2
index-requires-2 c =
    let r = c.requires in
    let below = in_orders r.1 c.args.work.now r.2 c.args.number c.args.rank r.3 in
    omega (arith, below, c.args.work.now.prepared.now.ordered.orders.ok.0)

pub file-requires : goal.file-requires
file-requires c =
    let r = c.requires in
    let below = in_layout r.1 c.args.work.now r.2 c.args.number c.args.rank r.3 in omega (arith, below)

pub returns-clause-moved : goal.returns-clause-moved
returns-clause-moved c beside f is has =
    let w = c.args.work.now in
    let p = w.prepared.now in
    let n = c.args.number in
    let rank = c.args.rank in
    let behind : rank + 1 ≡ suc rank = omega arith in
    let low_firsts : rank + 1 < length p.ordered.firsts.items = (let b = in_firsts f w is n rank has in omega (arith, b)) in
    let low_orders : rank + 1 < length p.ordered.orders.items = (let b = in_orders f w is n rank has in omega (arith, b)) in
    let units : slice_get p.ordered.orders.items (rank + 1) ≡ Some c.as_slice.result.now =
    item_got p.ordered.orders.items (rank + 1) c.index-2.result.now low_orders c.index-2.ensures
    ∙ ap (λ (us : List UnitItems). Some us) (sym c.as_slice.ensures) in
    is_moved f w is rank (rank + 1) _ has behind (slice_get-get_or p.files.now n c.index-prepared-number.result
    (in_files f w is n rank has))
    (item_got p.run.indexes.now n c.index-indexes-number.result (in_indexes f w is n rank has) c.index-indexes-number.is)
    (slice_get-get_or w.starts.now n 0 (in_starts f w is n rank has))
    (item_got p.ordered.firsts.items (rank + 1) c.index.result.now low_firsts c.index.ensures) units c.file.ensures
