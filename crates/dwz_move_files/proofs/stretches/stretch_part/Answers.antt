use Rattle.std.proofs.Common.{◌≡◌, ℕ, ◌+◌, ◌-◌, ◌<◌, length, get_or, Some, slice_get, vec_len, subst, arith}
use Rattle.std.proofs.lemmas.Option.{slice_get-get_or}
use Rattle.dwz_def_reading.proofs.ListFacts.{item_got, same_got}
use Rattle.dwz_graph.specs.declared.file.File.{File}
use Rattle.dwz_graph.specs.Files.{docs_of}
use Rattle.dwz_graph.specs.Index.{Index}
use Rattle.dwz_move_files.specs.declared.draft.Draft.{Draft}
use Rattle.dwz_move_files.specs.declared.stretches.Stretch.{Stretch}
use Rattle.dwz_move_files.specs.declared.stretches.Work.{Work}
use Rattle.dwz_move_files.specs.Drafts.{IsDraft}
use Rattle.dwz_move_files.specs.Stretches.{IsStretchDraft, IsWork}
use Rattle.dwz_move_files.proofs.StretchSteps.{file_low, index_low, own_draft, own_room, own_tops, own_within}
use Rattle.dwz_move_files.proofs.stretches.stretch_part.Goals as goal

stretch_got : (w : Work) (k : ℕ) (s : Stretch) → k < vec_len w.stretches → s ≡ get_or w.stretches.items k s → slice_get w.stretches.items k ≡ Some s
stretch_got w k s lt e = (let len = w.stretches.ok.0 in item_got w.stretches.items k s (omega arith) e)

known_low : (w : Work) → IsWork w → (k : ℕ) → k < length w.files.now → k < length w.known.items
known_low w is k lt = (let len = is.known.len in omega arith)

pub bounds-work-file : goal.bounds-work-file
bounds-work-file c =
    let w = c.args.work.now in
    let s = c.index-stretch.result.now in
    file_low w c.requires.work c.args.k s (stretch_got w c.args.k s c.requires.at c.index-stretch.ensures)

pub bounds-work-file-2 : goal.bounds-work-file-2
bounds-work-file-2 c =
    let w = c.args.work.now in
    let s = c.index-stretch.result.now in
    index_low w c.requires.work c.args.k s (stretch_got w c.args.k s c.requires.at c.index-stretch.ensures)

pub index-requires : goal.index-requires
index-requires c =
    let w = c.args.work.now in
    let s = c.index-stretch.result.now in
    let low = known_low w c.requires.work s.file (file_low w c.requires.work c.args.k s (stretch_got w c.args.k s c.requires.at c.index-stretch.ensures)) in
    let len = w.known.ok.0 in
    omega arith

pub put_tops-requires-clause-room : goal.put_tops-requires-clause-room
put_tops-requires-clause-room c =
    let w = c.args.work.now in
    let s = c.index-stretch.result.now in
    let is = c.requires.work in
    let got = stretch_got w c.args.k s c.requires.at c.index-stretch.ensures in
    let f : File = get_or w.files.now s.file c.index-work-file.result in
    let x : Index = get_or w.indexes.now s.file c.index-work-file-2.result in
    own_room w is c.args.k s got f x (slice_get-get_or w.files.now s.file c.index-work-file.result (file_low w is c.args.k s got))
    (slice_get-get_or w.indexes.now s.file c.index-work-file-2.result (index_low w is c.args.k s got))

pub put_tops-requires-clause-tops : goal.put_tops-requires-clause-tops
put_tops-requires-clause-tops c =
    let w = c.args.work.now in
    let s = c.index-stretch.result.now in
    let is = c.requires.work in
    let got = stretch_got w c.args.k s c.requires.at c.index-stretch.ensures in
    let f : File = get_or w.files.now s.file c.index-work-file.result in
    let x : Index = get_or w.indexes.now s.file c.index-work-file-2.result in
    own_tops w is c.args.k s got f x (slice_get-get_or w.files.now s.file c.index-work-file.result (file_low w is c.args.k s got))
    (slice_get-get_or w.indexes.now s.file c.index-work-file-2.result (index_low w is c.args.k s got))

pub put_tops-requires-clause-known : goal.put_tops-requires-clause-known
put_tops-requires-clause-known c =
    let w = c.args.work.now in
    let s = c.index-stretch.result.now in
    let is = c.requires.work in
    let got = stretch_got w c.args.k s c.requires.at c.index-stretch.ensures in
    let f : File = get_or w.files.now s.file c.index-work-file.result in
    let x : Index = get_or w.indexes.now s.file c.index-work-file-2.result in
    let low = file_low w is c.args.k s got in
    is.known.each s.file f x c.index.result.now (slice_get-get_or w.files.now s.file c.index-work-file.result low)
    (slice_get-get_or w.indexes.now s.file c.index-work-file-2.result (index_low w is c.args.k s got))
    (item_got w.known.items s.file c.index.result.now (known_low w is s.file low) c.index.ensures)

pub put_tops-requires-clause-within : goal.put_tops-requires-clause-within
put_tops-requires-clause-within c =
    let w = c.args.work.now in
    let s = c.index-stretch.result.now in
    let is = c.requires.work in
    let got = stretch_got w c.args.k s c.requires.at c.index-stretch.ensures in
    let f : File = get_or w.files.now s.file c.index-work-file.result in
    let x : Index = get_or w.indexes.now s.file c.index-work-file-2.result in
    own_within w is c.args.k s got f x (slice_get-get_or w.files.now s.file c.index-work-file.result (file_low w is c.args.k s got))
    (slice_get-get_or w.indexes.now s.file c.index-work-file-2.result (index_low w is c.args.k s got))

pub returns : goal.returns
returns c = λ named t there. (
    let w = c.args.work.now in
    let contents = w.graph.now.given in
    let s = c.index-stretch.result.now in
    let is = c.requires.work in
    let got = stretch_got w c.args.k s c.requires.at c.index-stretch.ensures in
    let f : File = get_or w.files.now s.file c.index-work-file.result in
    let x : Index = get_or w.indexes.now s.file c.index-work-file-2.result in
    let draft : Draft = c.put_tops.new.draft in
    let from = x.starts.top + s.start in
    let none : 0 + (s.end - s.start) ≡ s.end - s.start = omega arith in
    subst (λ (v : Stretch). IsStretchDraft (docs_of contents) w.indexes.now v draft) (same_got w.stretches.items c.args.k s t got there)
    (own_draft w is c.args.k s got f x (slice_get-get_or w.files.now s.file c.index-work-file.result (file_low w is c.args.k s got))
    (slice_get-get_or w.indexes.now s.file c.index-work-file-2.result (index_low w is c.args.k s got)) draft
    (λ bytes among. subst (λ (n : ℕ). IsDraft (docs_of contents) from n draft) none
    (c.in_ok-put_tops.ensures contents bytes among named from 0 (omega arith) (c.in_ok-draft.ensures.nothing (docs_of contents) from)))))
