use Rattle.std.proofs.Common.{◌≡◌, ◌≤◌, ◌++◌, ◌∙◌, List, length, sym, arith}
use Rattle.dwz_def_reading.proofs.ListFacts.{item_got}
use Rattle.dwz_unit.specs.Rows.{units_of}
use Rattle.dwz_graph.specs.Files.{docs_of}
use Rattle.dwz_graph.specs.Index.{Index}
use Rattle.dwz_graph.specs.Resolved.{around}
use Rattle.dwz_graph.proofs.IndexesThere.{of_indexes}
use Rattle.dwz_graph.proofs.FileCounts.{are_many}
use Rattle.dwz_graph.proofs.FileWalk.{is_among}
use Rattle.dwz_encode_texts.specs.Names.{HaveNames, names_of_spaces}
use Rattle.dwz_encode_texts.proofs.NameSteps.{have_names, names_all, names_more}
use Rattle.dwz_encode_texts.proofs.SpaceEntries.{spaces_within}
use Rattle.dwz_encode_texts.proofs.names.texts_of_spaces.Goals as goal

pub bounds-indexes-number : goal.bounds-indexes-number
bounds-indexes-number c =
    let many = are_many c.args.graph.now.given c.files-file-items.result.now c.indexes-indexes.result.now c.files-file-items.ensures c.indexes-indexes.ensures in
    let a = many.0 in
    let b = many.1 in
    omega (arith, c.loop-number-test.true)

pub put_names-requires : goal.put_names-requires
put_names-requires c =
    let contents = c.args.graph.now.given in
    let files = c.files-file-items.result.now in
    let indexes = c.indexes-indexes.result.now in
    let k = c.loop-number.number in
    let f = c.file-item.result in
    let x = c.index-indexes-number.result in
    let many = are_many contents files indexes c.files-file-items.ensures c.indexes-indexes.ensures in
    let a = many.0 in
    let b = many.1 in
    let of_file = item_got files k f c.loop-number-test.true c.file-item.is in
    let of_index = item_got indexes k x (omega (arith, c.loop-number-test.true)) c.index-indexes-number.is in
    let r = is_among contents files indexes k f x c.files-file-items.ensures c.indexes-indexes.ensures of_file of_index in
    spaces_within contents k r.bytes f x r.is c.spaces.result.now c.spaces.ensures

pub loop-number-preserved : goal.loop-number-preserved
loop-number-preserved c =
    let contents = c.args.graph.now.given in
    let files = c.files-file-items.result.now in
    let indexes = c.indexes-indexes.result.now in
    let k = c.loop-number.number in
    let f = c.file-item.result in
    let x = c.index-indexes-number.result in
    let many = are_many contents files indexes c.files-file-items.ensures c.indexes-indexes.ensures in
    let a = many.0 in
    let b = many.1 in
    let of_file = item_got files k f c.loop-number-test.true c.file-item.is in
    let of_index = item_got indexes k x (omega (arith, c.loop-number-test.true)) c.index-indexes-number.is in
    let raw = units_of f.units in
    c.in_ok-put_names.ensures
    ∙ (λ i. c.loop-number.invariant i ++ names_of_spaces (around f.sections raw) raw (c.spaces.ensures i))
    ∙ sym (names_more files indexes k f x of_file of_index)

pub returns : goal.returns
returns c =
    let contents = c.args.graph.now.given in
    let files = c.files-file-items.result.now in
    let indexes = c.indexes-indexes.result.now in
    let many = are_many contents files indexes c.files-file-items.ensures c.indexes-indexes.ensures in
    let a = many.0 in
    let b = many.1 in
    let same : length files ≡ length indexes = omega arith in
    let high : length files ≤ c.loop-number.number = omega (arith, c.loop-number-test.false) in
    of_indexes (docs_of contents) (λ (xs : List Index). HaveNames contents xs c.loop-number.texts.items) indexes c.indexes-indexes.ensures
    (have_names contents files indexes c.loop-number.texts.items c.files-file-items.ensures same
    (c.loop-number.invariant ∙ names_all files indexes c.loop-number.number high (omega arith)))
