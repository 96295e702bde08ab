use Rattle.std.proofs.Common.{◌≡◌, ℕ, ◌+◌, List, [], ◌++◌, length, map, refl, ap, ◌∙◌, arith}
use Rattle.std.specs.Prelude.{replicate}
use Rattle.dwz_graph.specs.declared.file.File.{File}
use Rattle.dwz_check_index.specs.declared.index.CrossStarts.{CrossStarts}
use Rattle.dwz_check_index.specs.declared.index.TopEntry.{TopEntry}
use Rattle.dwz_check_index.specs.declared.index.UnitStart.{UnitStart}
use Rattle.dwz_check_index.specs.Index.{CrossIndex}
use Rattle.dwz_groups.specs.declared.tops.TopRow.{TopRow}
use Rattle.dwz_groups.specs.declared.tops.Tops.{Tops}
use Rattle.dwz_layout_input.specs.Behind.{units_from}
use Rattle.dwz_layout_input.proofs.BehindMade.{count_is, entries_low, outline_of, targets_few, top_few, tops_few, units_long}
use Rattle.dwz_layout_input.proofs.behind.tops_beside.Goals as goal

pub overflow_cast-end : goal.overflow_cast-end
overflow_cast-end c =
    let r = c.requires in
    omega (arith, tops_few r.0 r.1 c.args.own c.args.common.now c.args.index.now r.2, ap (λ (w : List TopEntry). length w) c.tops-count.ensures)

pub overflow_add-end : goal.overflow_add-end
overflow_add-end c =
    let r = c.requires in
    omega (
      arith,
      tops_few r.0 r.1 c.args.own c.args.common.now c.args.index.now r.2,
      ap (λ (w : List TopEntry). length w) c.tops-count.ensures,
      top_few r.0 r.1 c.args.own c.args.common.now c.args.index.now r.2,
      ap (λ (w : CrossStarts). w.top) c.starts.ensures,
    )

pub units_of_tops-requires : goal.units_of_tops-requires
units_of_tops-requires c =
    let r = c.requires in
    let few = r.2.few_units in
    omega (
      arith,
      few,
      c.len-first.ensures,
      units_long r.0 r.1 c.args.own c.args.common.now c.args.index.now r.2,
      ap (λ (w : List UnitStart). length w) c.units.ensures,
    )

pub rows_behind-requires-clause-many : goal.rows_behind-requires-clause-many
rows_behind-requires-clause-many c =
    let r = c.requires in
    let own : Tops = c.args.own in
    let common : File = c.args.common.now in
    let index : CrossIndex = c.args.index.now in
    let are : c.in_ok-units.units.items ≡ units_from (index.starts.top + length index.tops) (length own.files_of_units) (map (λ (w : UnitStart). w.top) index.units) =
    c.in_ok-units.ensures ∙ (λ i. units_from ((c.starts.ensures i).top + length (c.tops-count.ensures i)) (c.len-first.ensures i) (map (λ (w : UnitStart). w.top) (c.units.ensures i))) in
    ap (λ (w : List ℕ). length w) c.as_slice.ensures.value ∙ count_is r.0 r.1 own common index r.2 c.in_ok-units.units.items are

pub rows_behind-requires-clause-there : goal.rows_behind-requires-clause-there
rows_behind-requires-clause-there c = (let r = c.requires in entries_low r.0 r.1 c.args.own c.args.common.now c.args.index.now r.2)

pub targets_beside-requires : goal.targets_beside-requires
targets_beside-requires c =
    let r = c.requires in
    omega (
      arith,
      targets_few r.0 r.1 c.args.own c.args.common.now c.args.index.now r.2,
      tops_few r.0 r.1 c.args.own c.args.common.now c.args.index.now r.2,
      ap (λ (w : List TopEntry). length w) c.tops-count.ensures,
    )

pub returns : goal.returns
returns c = λ docs doc s. (
    let own : Tops = c.args.own in
    let common : File = c.args.common.now in
    let index : CrossIndex = c.args.index.now in
    let are : c.in_ok-units.units.items ≡ units_from (index.starts.top + length index.tops) (length own.files_of_units) (map (λ (w : UnitStart). w.top) index.units) =
    c.in_ok-units.ensures ∙ (λ i. units_from ((c.starts.ensures i).top + length (c.tops-count.ensures i)) (c.len-first.ensures i) (map (λ (w : UnitStart). w.top) (c.units.ensures i))) in
    let behind : List TopRow = c.in_ok-behind.behind.items in
    let tops : Tops = record { rows = c.new.result; targets = c.in_ok-targets_beside.field-0; files_of_units = c.new-2.result; files = own.files } in
    outline_of docs doc own common index s c.in_ok-units.units.items are behind (c.in_ok-behind.ensures.units ∙ c.as_slice.ensures.value) c.in_ok-behind.ensures.still tops
    (c.new.ensures ∙ c.in_ok-append.ensures.items ∙ ap (λ (w : List TopRow). w ++ behind) c.into_vec-rows.ensures)
    (c.in_ok-targets_beside.ensures ∙ ap (λ (w : List TopEntry). own.targets ++ replicate (length w) []) c.tops-count.ensures)
    (c.new-2.ensures ∙ c.in_ok-files_of_units.ensures ∙ (λ i. c.into_vec.ensures i ++ replicate (c.len.ensures i) own.files))
    refl)
