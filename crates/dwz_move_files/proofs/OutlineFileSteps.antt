-- The tops of one file are gathered behind those of the files before it.
use Rattle.std.proofs.Common.{◌≡◌, ℕ, ◌+◌, ◌<◌, ◌≤◌, ◌^◌, List, length, get_or, Some, slice_get, sym, ap, subst, ◌∙◌, arith}
use Rattle.dwz_def_reading.proofs.ListFacts.{item_got}
use Rattle.dwz_def_tops.specs.Spots.{tops_of, units_of}
use Rattle.dwz_graph.specs.declared.file.File.{File}
use Rattle.dwz_graph.specs.Files.{AreKept, docs_of}
use Rattle.dwz_graph.specs.declared.index.Starts.{Starts}
use Rattle.dwz_graph.specs.Index.{Index}
use Rattle.dwz_graph.specs.Indexed.{AreIndexes}
use Rattle.dwz_unit.specs.Rows.{units_of as raw_units}
use Rattle.dwz_graph.specs.Across.{IsFileAmong, starts_at}
use Rattle.dwz_graph.specs.AcrossLaws.{IsAmong}
use Rattle.dwz_graph.proofs.FileCounts.{all_ends, are_many, starts_are}
use Rattle.dwz_graph.proofs.FileEntries.{all_entries, few_entries, gives_top}
use Rattle.dwz_graph.proofs.FileRoom.{tops_small}
use Rattle.dwz_move_files.proofs.FilesKnown.{below}
use Rattle.dwz_move_files.proofs.MarkSteps.{starts_zero}
use Rattle.dwz_move_files.specs.declared.draft.Draft.{Draft}
use Rattle.dwz_move_files.specs.Drafts.{AreWithin, IsDraft, IsFileDraft}
use Rattle.dwz_graph.proofs.FileWalk.{is_among}

pub begin : (contents : List (List ℕ)) (indexes : List Index) (draft : Draft) → IsDraft (docs_of contents) 0 0 draft → IsDraft (docs_of contents) 0 (starts_at (docs_of contents) indexes 0).top draft
begin contents indexes draft d = subst (λ (s : Starts). IsDraft (docs_of contents) 0 s.top draft) (sym (starts_zero (docs_of contents) indexes)) d

pub all_gathered : (contents : List (List ℕ)) (files : List File) (indexes : List Index) (k : ℕ) → AreKept contents files → AreIndexes (docs_of contents) indexes → length files ≤ k → k ≤ length files
    → (draft : Draft)
    → IsDraft (docs_of contents) 0 (starts_at (docs_of contents) indexes k).top draft → IsDraft (docs_of contents) 0 (length (tops_of (units_of (docs_of contents)))) draft
all_gathered contents files indexes k kept is high low draft d =
    let many = are_many contents files indexes kept is in
    let e : k ≡ length indexes = omega arith in
    let docs = docs_of contents in
    subst (λ (n : ℕ). IsDraft docs 0 n draft) (ap (λ (n : ℕ). (starts_at docs indexes n).top) e ∙ (all_ends contents indexes is).1) d

module _ (contents : List (List ℕ)) (files : List File) (indexes : List Index) (k : ℕ) (f : File) (x : Index) (kept : AreKept contents files) (is : AreIndexes (docs_of contents) indexes)
    (lt : k < length files) (fe : f ≡ get_or files k f) (xe : x ≡ get_or indexes k x) where
  of_file : slice_get files k ≡ Some f
  of_file = item_got files k f lt fe

  of_index : slice_get indexes k ≡ Some x
  of_index = item_got indexes k x (below contents files indexes k kept is lt) xe

  known : IsAmong contents k f x
  known = is_among contents files indexes k f x kept is of_file of_index

  begins : x.starts.top ≡ (starts_at (docs_of contents) indexes k).top
  begins = ap (λ (s : Starts). s.top) (starts_are contents files indexes k f x kept is of_file of_index).0

  behind : x.starts.top + length x.tops ≡ (starts_at (docs_of contents) indexes (k + 1)).top
  behind = ap (λ (s : Starts). s.top) (starts_are contents files indexes k f x kept is of_file of_index).1

  pub room : x.starts.top + length x.tops < 2 ^ 32
  room = (let low = tops_small contents files indexes kept is (k + 1) in let e = behind in omega arith)

  pub few_steps : length x.steps < 2 ^ 32
  few_steps = (let r = known in let a = all_entries contents k r.bytes f x r.is in let b = few_entries contents k r.bytes f x r.is in omega arith)

  pub tops_within : AreWithin (raw_units f.units) x.tops
  tops_within j e got = (let r = known in let g = gives_top contents k r.bytes f x r.is j e got in (g.top_is.within, g.top_is.ends))

  pub file_more : (old new : Draft) → IsDraft (docs_of contents) 0 (starts_at (docs_of contents) indexes k).top old
      → ((bytes : List ℕ) → IsFileAmong contents k bytes f x → IsDraft (docs_of contents) 0 x.starts.top old → IsDraft (docs_of contents) 0 (x.starts.top + length x.tops) new)
      → IsDraft (docs_of contents) 0 (starts_at (docs_of contents) indexes (k + 1)).top new
  file_more old new d put =
      let r = known in
      subst (λ (n : ℕ). IsDraft (docs_of contents) 0 n new) behind (put r.bytes r.is (subst (λ (n : ℕ). IsDraft (docs_of contents) 0 n old) (sym begins) d))

  -- what is gathered of the file by itself
  pub file_draft : (draft : Draft)
      → ((bytes : List ℕ) → IsFileAmong contents k bytes f x → IsDraft (docs_of contents) x.starts.top (length x.tops) draft)
      → IsFileDraft (docs_of contents) indexes k draft
  file_draft draft put =
      let r = known in
      record {
        count = length x.tops;
        is = subst (λ (n : ℕ). IsDraft (docs_of contents) n (length x.tops) draft) begins (put r.bytes r.is);
        to = ap (λ (n : ℕ). n + length x.tops) (sym begins) ∙ behind;
      }
