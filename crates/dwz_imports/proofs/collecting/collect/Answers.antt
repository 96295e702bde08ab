use Rattle.std.proofs.Common.{ap, ◌∙◌, arith, map}
use Rattle.std.specs.List.{flat_map}
use Rattle.std.specs.Option.{option_map}
use Rattle.std.proofs.lemmas.List.{take_all}
use Rattle.dwz_unit.specs.Rows.{rows_of, units_of}
use Rattle.dwz_unit.proofs.RowsFound.{row_there, rows-length}
use Rattle.dwz_imports.specs.Said.{raw_beside}
use Rattle.dwz_imports.specs.Stored.{row_edges, row_imports}
use Rattle.dwz_imports.proofs.RowParts.{next_edges, next_flag}
use Rattle.dwz_imports.proofs.collecting.collect.Goals as goal

pub loop-i-preserved : goal.loop-i-preserved
loop-i-preserved c =
    let own = units_of c.args.own.now in
    let common = raw_beside (option_map (λ u. u.now) c.args.common) in
    let i = c.loop-i.i in
    let r = row_there own i (omega arith) in
    record {
      importing = next_flag own common (rows_of own) i r.0 r.1 c.loop-i.collected.importing.items c.put_entry.new.self.importing.items c.loop-i.invariant.importing
          (c.in_ok-put_entry.ensures.importing r.0 r.1);
      edges = next_edges own common (rows_of own) i r.0 r.1 c.loop-i.collected.edges.items c.put_entry.new.self.edges.items c.loop-i.invariant.edges (c.in_ok-put_entry.ensures.edges r.0 r.1);
    }

pub returns : goal.returns
returns c =
    let own = units_of c.args.own.now in
    let common = raw_beside (option_map (λ u. u.now) c.args.common) in
    let many = rows-length own in
    let whole = take_all c.loop-i.i (rows_of own) (omega (arith, many, c.loop-i-test.false)) in
    record {
      importing = c.loop-i.invariant.importing ∙ ap (map (row_imports own common)) whole;
      edges = c.loop-i.invariant.edges ∙ ap (flat_map (row_edges own common)) whole;
    }
