use Rattle.std.proofs.Common.{arith}
use Rattle.dwz_def_reading.proofs.ListFacts.{item_got}
use Rattle.dwz_graph_view.proofs.TopSpaces.{file_small, file_within, index_within, names_are, no_top}
use Rattle.dwz_graph_view.proofs.spaces.spaces_of.Goals as goal

pub returns-in_default : goal.returns-in_default
returns-in_default c = no_top c.args.graph.now.given c.files-files.result.now c.indexes-indexes.result.now c.files-files.ensures c.indexes-indexes.ensures c.args.top (c.find_top.ensures.none c.in_default.is)

pub offset_bounds-files-file : goal.offset_bounds-files-file
offset_bounds-files-file c =
    let small = file_small c.args.graph.now.given c.files-files.result.now c.indexes-indexes.result.now c.files-files.ensures c.indexes-indexes.ensures c.args.top c.in-Some.field-0 c.in-Some.ensures.found in
    omega arith

pub bounds-files-file : goal.bounds-files-file
bounds-files-file c = file_within c.args.graph.now.given c.files-files.result.now c.indexes-indexes.result.now c.files-files.ensures c.indexes-indexes.ensures c.args.top c.in-Some.field-0 c.in-Some.ensures.found

pub offset_bounds-indexes-file : goal.offset_bounds-indexes-file
offset_bounds-indexes-file c =
    let small = file_small c.args.graph.now.given c.files-files.result.now c.indexes-indexes.result.now c.files-files.ensures c.indexes-indexes.ensures c.args.top c.in-Some.field-0 c.in-Some.ensures.found in
    omega arith

pub bounds-indexes-file : goal.bounds-indexes-file
bounds-indexes-file c = index_within c.args.graph.now.given c.files-files.result.now c.indexes-indexes.result.now c.files-files.ensures c.indexes-indexes.ensures c.args.top c.in-Some.field-0 c.in-Some.ensures.found

pub returns : goal.returns
returns c =
    let contents = c.args.graph.now.given in
    let files = c.files-files.result.now in
    let indexes = c.indexes-indexes.result.now in
    let number = c.args.top in
    let spot = c.in-Some.field-0 in
    let kept = c.files-files.ensures in
    let at = c.in-Some.ensures.found in
    let file = item_got files spot.file c.index-files-file.result (file_within contents files indexes kept c.indexes-indexes.ensures number spot at) c.index-files-file.is in
    let index = item_got indexes spot.file c.index-indexes-file.result (index_within contents files indexes kept c.indexes-indexes.ensures number spot at) c.index-indexes-file.is in
    names_are contents files indexes kept c.indexes-indexes.ensures number spot at _ file (λ t. t.now) _ c.new-names.result.items c.put_outward.new.names.items c.reverse.new.self.items index c.new-names.ensures.items
    c.in_ok-put_outward.ensures c.reverse.ensures.items
