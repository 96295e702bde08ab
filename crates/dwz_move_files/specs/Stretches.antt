-- Stretches of tops of files, which are gathered each by itself.
use Rattle.std.specs.Prelude.{◌≡◌, ℕ, ◌+◌, ◌-◌, ◌≤◌, List, [], ◌∷◌, length, Some, slice_get}
use Rattle.dwz_def_tops.specs.Spots.{tops_of, units_of}
use Rattle.dwz_def_reading.specs.Documents.{Doc}
use Rattle.dwz_graph.specs.declared.file.File.{File}
use Rattle.dwz_graph.specs.Files.{AreKept, docs_of}
use Rattle.dwz_graph.specs.Index.{Index}
use Rattle.dwz_graph.specs.Indexed.{AreIndexes}
use Rattle.dwz_graph.specs.Across.{starts_at}
use Rattle.dwz_move_files.specs.declared.draft.Draft.{Draft}
use Rattle.dwz_move_files.specs.declared.draft.KnownFile.{KnownFile}
use Rattle.dwz_move_files.specs.declared.stretches.Stretch.{Stretch}
use Rattle.dwz_move_files.specs.declared.stretches.Work.{Work}
use Rattle.dwz_move_files.specs.Drafts.{IsDraft, IsKnown}

-- the number of its first top, and how many tops it has
abbrev pub first_top : List (Doc ℕ) → List Index → Stretch → ℕ
first_top docs indexes s = (starts_at docs indexes s.file).top + s.start

abbrev pub many_tops : Stretch → ℕ
many_tops s = s.end - s.start

-- a stretch of a file, whose first top has that number
pub record IsStretch (docs : List (Doc ℕ)) (indexes : List Index) (from : ℕ) (s : Stretch) : Type 0 where
  pub x : Index
  pub there : slice_get indexes s.file ≡ Some x
  pub rises : s.start ≤ s.end
  pub within : s.end ≤ length x.tops
  pub begins : first_top docs indexes s ≡ from

-- one behind the other, from the top with that number on to before the other
abbrev pub AreStretches : List (Doc ℕ) → List Index → ℕ → ℕ → List Stretch → Type 0
AreStretches docs indexes from to [] = from ≡ to
AreStretches docs indexes from to (s ∷ more) = IsStretch docs indexes from s × AreStretches docs indexes (from + many_tops s) to more

-- its tops are gathered
abbrev pub IsStretchDraft : List (Doc ℕ) → List Index → Stretch → Draft → Type 0
IsStretchDraft docs indexes s draft = IsDraft docs (first_top docs indexes s) (many_tops s) draft

-- each file is known
pub record AreKnown (files : List File) (indexes : List Index) (known : List KnownFile) : Type 0 where
  pub len : length known ≡ length files
  pub each : (k : ℕ) (f : File) (x : Index) (one : KnownFile) → slice_get files k ≡ Some f → slice_get indexes k ≡ Some x
      → slice_get known k ≡ Some one → IsKnown f x one

-- the files of a graph are known, and the stretches are those of all tops
pub record IsWork (w : Work) : Type 0 where
  pub kept : AreKept w.graph.now.given w.files.now
  pub indexed : AreIndexes (docs_of w.graph.now.given) w.indexes.now
  pub known : AreKnown w.files.now w.indexes.now w.known.items
  pub stretches : AreStretches (docs_of w.graph.now.given) w.indexes.now 0 (length (tops_of (units_of (docs_of w.graph.now.given))))
      w.stretches.items
