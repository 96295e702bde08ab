use Rattle.std.proofs.Common.{◌≤◌, length, arith}
use Rattle.dwz_graph.specs.Files.{docs_of}
use Rattle.dwz_graph.proofs.FileLemmas.{files_few}
use Rattle.dwz_move_files.proofs.FilesKnown.{below}
use Rattle.dwz_move_files.proofs.FilesLow.{tops_few}
use Rattle.dwz_move_files.proofs.OutlineFileSteps.{all_gathered, begin, few_steps, file_more, room, tops_within}
use Rattle.dwz_move_files.proofs.draft.gather.Goals as goal

pub loop-number-init : goal.loop-number-init
loop-number-init c = λ named. begin c.args.graph.now.given c.indexes-indexes.result.now _ (c.in_ok-draft.ensures.nothing (docs_of c.args.graph.now.given) 0)

pub bounds-indexes-number : goal.bounds-indexes-number
bounds-indexes-number c = below c.args.graph.now.given c.files-file-items.result.now c.indexes-indexes.result.now c.loop-number.number c.files-file-items.ensures c.indexes-indexes.ensures c.loop-number-test.true

pub put_file-requires-clause-few : goal.put_file-requires-clause-few
put_file-requires-clause-few c =
    few_steps c.args.graph.now.given c.files-file-items.result.now c.indexes-indexes.result.now c.loop-number.number c.file-item.result c.index-indexes-number.result c.files-file-items.ensures c.indexes-indexes.ensures
    c.loop-number-test.true c.file-item.is c.index-indexes-number.is

pub put_file-requires-clause-room : goal.put_file-requires-clause-room
put_file-requires-clause-room c =
    room c.args.graph.now.given c.files-file-items.result.now c.indexes-indexes.result.now c.loop-number.number c.file-item.result c.index-indexes-number.result c.files-file-items.ensures c.indexes-indexes.ensures
    c.loop-number-test.true c.file-item.is c.index-indexes-number.is

pub put_file-requires-clause-tops : goal.put_file-requires-clause-tops
put_file-requires-clause-tops c =
    tops_within c.args.graph.now.given c.files-file-items.result.now c.indexes-indexes.result.now c.loop-number.number c.file-item.result c.index-indexes-number.result c.files-file-items.ensures c.indexes-indexes.ensures
    c.loop-number-test.true c.file-item.is c.index-indexes-number.is

pub loop-number-preserved : goal.loop-number-preserved
loop-number-preserved c = λ named. (
    let contents = c.args.graph.now.given in
    file_more contents c.files-file-items.result.now c.indexes-indexes.result.now c.loop-number.number c.file-item.result c.index-indexes-number.result c.files-file-items.ensures c.indexes-indexes.ensures
    c.loop-number-test.true c.file-item.is c.index-indexes-number.is
    c.loop-number.draft c.put_file.new.draft (c.loop-number.invariant named)
    (λ bytes is d. c.in_ok-put_file.ensures contents bytes is named 0 c.index-indexes-number.result.starts.top (omega arith) d))

pub returns-clause-draft : goal.returns-clause-draft
returns-clause-draft c = λ named. (
    let files = c.files-file-items.result.now in
    let high : length files ≤ c.loop-number.number = omega arith in
    all_gathered c.args.graph.now.given files c.indexes-indexes.result.now c.loop-number.number c.files-file-items.ensures c.indexes-indexes.ensures high (omega arith) c.loop-number.draft (c.loop-number.invariant named))

pub returns-clause-few : goal.returns-clause-few
returns-clause-few c = tops_few c.args.graph.now.given c.files-file-items.result.now c.indexes-indexes.result.now c.files-file-items.ensures c.indexes-indexes.ensures

pub overflow_cast-number : goal.overflow_cast-number
overflow_cast-number c = (let many = files_few c.args.graph.now.given c.files-file-items.result.now c.files-file-items.ensures in omega arith)
