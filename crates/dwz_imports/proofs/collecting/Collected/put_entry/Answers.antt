use Rattle.std.proofs.Common.{List, ℕ, ap, ◌∙◌, arith}
use Rattle.std.specs.Option.{option_map}
use Rattle.dwz_def_reading.proofs.CaseFacts.{on_ok}
use Rattle.dwz_unit.specs.declared.rows.RawEntry.{RawEntry as EntryOfCode}
use Rattle.dwz_unit.specs.Rows.{units_of}
use Rattle.dwz_graph.proofs.RowUnits.{unit_within}
use Rattle.dwz_unit.proofs.RowsFound.{entry_row, row_is}
use Rattle.dwz_imports.specs.Said.{raw_beside}
use Rattle.dwz_imports.proofs.RowParts.{entry_edges, other_edges, other_flag, parts_are, place_of_unit, some_flag, told, whatever}
use Rattle.dwz_imports.proofs.collecting.Collected.put_entry.Goals as goal

pub unit-requires : goal.unit-requires
unit-requires c =
    let own = units_of c.args.own.now in
    let r = entry_row own c.args.i c.entry-entry.result c.entry-entry.ensures.entry in
    let low = unit_within own c.args.i r.0 r.1 in
    let same = ap (λ (w : EntryOfCode). w.unit) r.2 in
    omega (arith, low, same)

pub returns-then-entry-ne-DW_TAG_IMPORTED_UNIT : goal.returns-then-entry-ne-DW_TAG_IMPORTED_UNIT
returns-then-entry-ne-DW_TAG_IMPORTED_UNIT c =
    let own = units_of c.args.own.now in
    let common = raw_beside (option_map (λ u. u.now) c.args.common) in
    record {
      importing = λ row found. other_flag own common row c.entry-entry.result
          (row_is own c.args.i c.entry-entry.result row c.entry-entry.ensures.entry found) c.if-entry-ne-DW_TAG_IMPORTED_UNIT.true c.args.self.now.importing.items
          c.push.new.self.items c.in_ok-push.ensures.items;
      edges = λ row found. other_edges own common row c.entry-entry.result
          (row_is own c.args.i c.entry-entry.result row c.entry-entry.ensures.entry found) c.if-entry-ne-DW_TAG_IMPORTED_UNIT.true c.args.self.now.edges.items;
    }

pub returns : goal.returns
returns c =
    let own = units_of c.args.own.now in
    let common = raw_beside (option_map (λ u. u.now) c.args.common) in
    let e = c.entry-entry.result in
    let parts : List ℕ = c.as_slice-found.result.now in
    record {
      importing = λ row found. (
          let shown = row_is own c.args.i e row c.entry-entry.ensures.entry found in
          let is = parts_are own common row e shown c.unit.result.at parts c.if-entry-ne-DW_TAG_IMPORTED_UNIT.false (place_of_unit own e.unit c.unit.result c.unit.ensures)
          (c.as_slice-found.ensures.value ∙ c.in_ok-find_parts.ensures row found) in
          whatever c.put_children.result _ (some_flag own common row e shown parts _ is (told parts c.is_empty.result c.is_empty.ensures) c.args.self.now.importing.items c.push-2.new.self.items
          c.in_ok-push-2.ensures.items));
      edges = λ row found. (
          let shown = row_is own c.args.i e row c.entry-entry.ensures.entry found in
          let is = parts_are own common row e shown c.unit.result.at parts c.if-entry-ne-DW_TAG_IMPORTED_UNIT.false (place_of_unit own e.unit c.unit.result c.unit.ensures)
          (c.as_slice-found.ensures.value ∙ c.in_ok-find_parts.ensures row found) in
          on_ok c.put_children.result _ _ (λ put. entry_edges own common row e shown parts c.args.self.now.edges.items c.put_children.new.edges.items is put) c.put_children.ensures);
    }
