use Rattle.std.proofs.Common.{◌≡◌, ℕ, ◌+◌, ◌<◌, List, length, subst, arith}
use Rattle.dwz_graph.specs.declared.file.File.{File}
use Rattle.dwz_graph.specs.Files.{AreKept, docs_of}
use Rattle.dwz_graph.specs.Index.{Index}
use Rattle.dwz_graph.proofs.FileLemmas.{files_few}
use Rattle.dwz_graph.proofs.IndexesThere.{of_indexes}
use Rattle.dwz_move_files.proofs.FilesKnown.{below}
use Rattle.dwz_move_files.specs.Drafts.{IsDraft, IsFileDraft}
use Rattle.dwz_move_files.proofs.OutlineFileSteps.{few_steps, file_draft, room, tops_within}
use Rattle.dwz_move_files.proofs.parts.part_at.Goals as goal

file_there : (contents : List (List ℕ)) (files : List File) (k : ℕ) → AreKept contents files → k < length contents → k < length files
file_there contents files k kept lt = (let many = files_few contents files kept in omega arith)

pub bounds-files-k : goal.bounds-files-k
bounds-files-k c = file_there c.args.graph.now.given c.files-files.result.now c.args.k c.files-files.ensures c.requires.at

pub bounds-indexes-k : goal.bounds-indexes-k
bounds-indexes-k c =
    let files = c.files-files.result.now in
    let at = file_there c.args.graph.now.given files c.args.k c.files-files.ensures c.requires.at in
    below c.args.graph.now.given files c.indexes-indexes.result.now c.args.k c.files-files.ensures c.indexes-indexes.ensures at

pub put_file-requires-clause-few : goal.put_file-requires-clause-few
put_file-requires-clause-few c =
    let files = c.files-files.result.now in
    let at = file_there c.args.graph.now.given files c.args.k c.files-files.ensures c.requires.at in
    few_steps c.args.graph.now.given files c.indexes-indexes.result.now c.args.k c.index-files-k.result c.index-indexes-k.result c.files-files.ensures c.indexes-indexes.ensures at c.index-files-k.is c.index-indexes-k.is

pub put_file-requires-clause-room : goal.put_file-requires-clause-room
put_file-requires-clause-room c =
    let files = c.files-files.result.now in
    let at = file_there c.args.graph.now.given files c.args.k c.files-files.ensures c.requires.at in
    room c.args.graph.now.given files c.indexes-indexes.result.now c.args.k c.index-files-k.result c.index-indexes-k.result c.files-files.ensures c.indexes-indexes.ensures at c.index-files-k.is c.index-indexes-k.is

pub put_file-requires-clause-tops : goal.put_file-requires-clause-tops
put_file-requires-clause-tops c =
    let files = c.files-files.result.now in
    let at = file_there c.args.graph.now.given files c.args.k c.files-files.ensures c.requires.at in
    tops_within c.args.graph.now.given files c.indexes-indexes.result.now c.args.k c.index-files-k.result c.index-indexes-k.result c.files-files.ensures c.indexes-indexes.ensures at c.index-files-k.is c.index-indexes-k.is

pub returns : goal.returns
returns c = λ indexes are named. (
    let contents = c.args.graph.now.given in
    let files = c.files-files.result.now in
    let x = c.index-indexes-k.result in
    let at = file_there contents files c.args.k c.files-files.ensures c.requires.at in
    let count : 0 + length x.tops ≡ length x.tops = omega arith in
    of_indexes (docs_of contents) (λ (xs : List Index). IsFileDraft (docs_of contents) xs c.args.k c.put_file.new.draft) c.indexes-indexes.result.now c.indexes-indexes.ensures
    (file_draft contents files c.indexes-indexes.result.now c.args.k c.index-files-k.result x c.files-files.ensures c.indexes-indexes.ensures at c.index-files-k.is c.index-indexes-k.is c.put_file.new.draft
    (λ bytes is. subst (λ (n : ℕ). IsDraft (docs_of contents) x.starts.top n c.put_file.new.draft) count
    (c.in_ok-put_file.ensures contents bytes is named x.starts.top 0 (omega arith) (c.in_ok-draft.ensures.nothing (docs_of contents) x.starts.top))))
    indexes are)
