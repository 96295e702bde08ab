use Rattle.std.proofs.Common.{length, arith}
use Rattle.dwz_graph.specs.Files.{docs_of}
use Rattle.dwz_graph.proofs.IndexesThere.{indexes_there}
use Rattle.dwz_graph.proofs.FileCounts.{all_ends, are_many}
use Rattle.dwz_graph.proofs.FileRoom.{tops_small}
use Rattle.dwz_layout_input.proofs.OutlineNeeds.{rows_many, units_many, with_files}
use Rattle.dwz_layout_input.proofs.UnitRoom.{units_small}
use Rattle.dwz_layout_input.proofs.planned.tops_of.Goals as goal

pub overflow_cast-tops : goal.overflow_cast-tops
overflow_cast-tops g c =
    let there = indexes_there c.args.graph.now.given c.files.result.now c.files.ensures in
    let many = are_many c.args.graph.now.given c.files.result.now there.indexes c.files.ensures there.are in
    let files = many.0 in
    let contents = many.2 in
    omega arith

pub returns-clause-outline : goal.returns-clause-outline
returns-clause-outline g c =
    let there = indexes_there c.args.graph.now.given c.files.result.now c.files.ensures in
    let many = are_many c.args.graph.now.given c.files.result.now there.indexes c.files.ensures there.are in
    with_files (docs_of c.args.graph.now.given) c.in_ok-outline.outline.tops (length c.files.result.now) c.in_ok-outline.ensures.tops many.0

pub returns-clause-files : goal.returns-clause-files
returns-clause-files g c =
    let there = indexes_there c.args.graph.now.given c.files.result.now c.files.ensures in
    (are_many c.args.graph.now.given c.files.result.now there.indexes c.files.ensures there.are).0

pub returns-clause-few_rows : goal.returns-clause-few_rows
returns-clause-few_rows g c =
    let there = indexes_there c.args.graph.now.given c.files.result.now c.files.ensures in
    let many = rows_many (docs_of c.args.graph.now.given) c.in_ok-outline.outline.tops c.in_ok-outline.ensures.tops in
    let ends = (all_ends c.args.graph.now.given there.indexes there.are).1 in
    let few = tops_small c.args.graph.now.given c.files.result.now there.indexes c.files.ensures there.are (length there.indexes) in
    omega (arith, many, ends, few)

pub returns-clause-few_units : goal.returns-clause-few_units
returns-clause-few_units g c =
    let there = indexes_there c.args.graph.now.given c.files.result.now c.files.ensures in
    let many = units_many (docs_of c.args.graph.now.given) c.in_ok-outline.outline.tops c.in_ok-outline.ensures.tops in
    let few = units_small c.args.graph.now.given c.files.result.now there.indexes c.files.ensures there.are in
    omega (arith, many, few)
