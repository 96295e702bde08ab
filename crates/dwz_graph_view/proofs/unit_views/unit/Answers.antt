use Rattle.std.proofs.Common.{◌<◌, ℕ, List, length, arith}
use Rattle.dwz_def_reading.proofs.ListFacts.{got_below}
use Rattle.dwz_graph.specs.declared.file.File.{File}
use Rattle.dwz_graph.specs.Files.{AreKept, docs_of}
use Rattle.dwz_graph_view.specs.Finding.{HasUnit}
use Rattle.dwz_graph_view.proofs.FileDocs.{at_index}
use Rattle.dwz_graph.proofs.FileCounts.{files_many}
use Rattle.dwz_graph_view.proofs.UnitSteps.{main_small, root_there, unit_low, unit_shows}
use Rattle.dwz_graph_view.proofs.unit_views.unit.Goals as goal

within : (contents : List (List ℕ)) (files : List File) (n file k : ℕ) → AreKept contents files → HasUnit contents n file k → file < length files
within contents files n file k kept has =
    let many = files_many contents files kept in
    let low = got_below (docs_of contents) file has.doc has.there in
    omega arith

pub bounds-files-file : goal.bounds-files-file
bounds-files-file c = within c.args.graph.now.given c.files.result.now c.args.n c.find_unit-file.result.file c.find_unit-file.result.unit c.files.ensures c.find_unit-file.ensures

pub unit-row-requires : goal.unit-row-requires
unit-row-requires c =
    let contents = c.args.graph.now.given in
    let files = c.files.result.now in
    let has = c.find_unit-file.ensures in
    let file = c.find_unit-file.result.file in
    let k = c.find_unit-file.result.unit in
    unit_low contents files c.args.n file k _ c.files.ensures (at_index files file c.index-files-file.result (within contents files c.args.n file k c.files.ensures has) c.index-files-file.is) has

pub kind_of-requires : goal.kind_of-requires
kind_of-requires c =
    let contents = c.args.graph.now.given in
    let files = c.files.result.now in
    let has = c.find_unit-file.ensures in
    let file = c.find_unit-file.result.file in
    let k = c.find_unit-file.result.unit in
    main_small contents files c.args.n file k _ c.files.ensures (at_index files file c.index-files-file.result (within contents files c.args.n file k c.files.ensures has) c.index-files-file.is) has c.unit-row.result
    c.unit-row.ensures

pub language_of-requires : goal.language_of-requires
language_of-requires c =
    let contents = c.args.graph.now.given in
    let files = c.files.result.now in
    let has = c.find_unit-file.ensures in
    let file = c.find_unit-file.result.file in
    let k = c.find_unit-file.result.unit in
    root_there contents files c.args.n file k _ c.files.ensures (at_index files file c.index-files-file.result (within contents files c.args.n file k c.files.ensures has) c.index-files-file.is) has c.unit-row.result
    c.unit-row.ensures

pub entry-requires : goal.entry-requires
entry-requires c =
    let contents = c.args.graph.now.given in
    let files = c.files.result.now in
    let has = c.find_unit-file.ensures in
    let file = c.find_unit-file.result.file in
    let k = c.find_unit-file.result.unit in
    root_there contents files c.args.n file k _ c.files.ensures (at_index files file c.index-files-file.result (within contents files c.args.n file k c.files.ensures has) c.index-files-file.is) has c.unit-row.result
    c.unit-row.ensures

pub returns : goal.returns
returns c =
    let contents = c.args.graph.now.given in
    let files = c.files.result.now in
    let has = c.find_unit-file.ensures in
    let file = c.find_unit-file.result.file in
    let k = c.find_unit-file.result.unit in
    unit_shows contents files c.args.n file k _ c.files.ensures (at_index files file c.index-files-file.result (within contents files c.args.n file k c.files.ensures has) c.index-files-file.is) has c.unit-row.result
    c.unit-row.ensures c.kind_of.result c.language_of.result c.entry.result c.kind_of.ensures c.entry.ensures.entry c.language_of.ensures
