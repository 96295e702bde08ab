use Rattle.std.proofs.Common.{◌≤◌, ◌∙◌, length, vec_len, sym, eqb-true, arith}
use Rattle.dwz_graph.specs.Files.{docs_of}
use Rattle.dwz_move_files.proofs.FilesKnown.{below, few}
use Rattle.dwz_layout_input.proofs.AllPins.{got_file, got_index_of, none_pinned, pins_all, pins_begin, pins_next, room_of}
use Rattle.dwz_layout_input.proofs.pinned.pinned_spaces.Goals as goal

pub loop-number-init : goal.loop-number-init
loop-number-init c = pins_begin (docs_of c.args.graph.now.given) c.indexes-indexes.result.now c.in_ok-flags.flags.items c.in_ok-flags.ensures

pub bounds-indexes-number : goal.bounds-indexes-number
bounds-indexes-number c = below c.args.graph.now.given c.files-file-items.result.now c.indexes-indexes.result.now c.loop-number.number c.files-file-items.ensures c.indexes-indexes.ensures c.loop-number-test.true

pub pin_file-requires : goal.pin_file-requires
pin_file-requires c = record {
  few = few c.args.graph.now.given c.files-file-items.result.now c.indexes-indexes.result.now c.loop-number.number c.file-item.result c.index-indexes-number.result c.files-file-items.ensures c.indexes-indexes.ensures
      c.loop-number-test.true c.file-item.is c.index-indexes-number.is;
  room = room_of c.args.graph.now.given c.files-file-items.result.now c.indexes-indexes.result.now c.loop-number.number c.file-item.result c.index-indexes-number.result c.files-file-items.ensures c.indexes-indexes.ensures
      c.loop-number-test.true c.file-item.is c.index-indexes-number.is;
}

pub loop-number-preserved : goal.loop-number-preserved
loop-number-preserved c = (
    let contents = c.args.graph.now.given in
    let files = c.files-file-items.result.now in
    let indexes = c.indexes-indexes.result.now in
    let k = c.loop-number.number in
    let f = c.file-item.result in
    let x = c.index-indexes-number.result in
    let got_f = got_file contents files indexes k f x c.files-file-items.ensures c.indexes-indexes.ensures c.loop-number-test.true c.file-item.is c.index-indexes-number.is in
    let got_x = got_index_of contents files indexes k f x c.files-file-items.ensures c.indexes-indexes.ensures c.loop-number-test.true c.file-item.is c.index-indexes-number.is in
    pins_next contents files indexes c.files-file-items.ensures c.indexes-indexes.ensures k f x got_f got_x c.loop-number.named.by_uleb.items c.pin_file.new.named.by_uleb.items c.loop-number.invariant
    c.in_ok-pin_file.ensures)

pub returns : goal.returns
returns c = (
    let files = c.files-file-items.result.now in
    let k = c.loop-number.number in
    let high : length files ≤ k = omega arith in
    pins_all c.args.graph.now.given files c.indexes-indexes.result.now k c.files-file-items.ensures c.indexes-indexes.ensures high (omega arith) c.loop-number.named.by_uleb.items c.loop-number.invariant)

pub returns-then-is_empty : goal.returns-then-is_empty
returns-then-is_empty c = none_pinned (docs_of c.args.graph.now.given) c.indexes-indexes.result.now c.in_ok-flags.flags.items c.indexes-indexes.ensures c.in_ok-flags.ensures
    (let empty = eqb-true (vec_len c.in_ok-flags.flags) 0 (sym c.is_empty.ensures ∙ c.if-is_empty.true) in let long = c.in_ok-flags.flags.ok.0 in omega arith)
