-- Inner: where entries stand that a chain and a path lead to, and what they show.
use Rattle.std.specs.Prelude.{◌≡◌, ℕ, ◌-◌, ◌<◌, ◌≤◌, List, Some, length, slice_get}
use Rattle.dwz_def_reading.specs.Files.{around_of}
use Rattle.dwz_def_reading.specs.Meanings.{scope_of}
use Rattle.dwz_def_reading.specs.Units.{RawUnit}
use Rattle.dwz_def_tops.specs.Spots.{EntryName, UnitOf}
use Rattle.dwz_def_explain.specs.What.{Subtree}
use Rattle.dwz_graph.specs.declared.file.File.{File}
use Rattle.dwz_graph.specs.Files.{AreKept, docs_of}
use Rattle.dwz_graph.specs.Index.{Index}
use Rattle.dwz_graph.specs.Indexed.{AreIndexes}
use Rattle.dwz_label_differences.specs.Told.{EachNode}
use Rattle.dwz_graph.specs.Across.{IsFileAmong, name_at}
use Rattle.dwz_move_files.specs.Outlines.{IsOutline}
use Rattle.dwz_unit.specs.Rows.{units_of as raw_units}
use Rattle.dwz_explain.specs.declared.asked.Asked.{Asked}
use Rattle.dwz_explain.specs.declared.asked.Spot.{Spot}
use Rattle.dwz_explain.specs.Shown.{HasSubtree, MeansSubtree}

-- the files are kept, each has its index, and the outline is theirs
pub record IsAsked (a : Asked) : Type 0 where
  pub kept : AreKept a.graph.now.given a.files.now
  pub indexed : AreIndexes (docs_of a.graph.now.given) a.indexes.now
  pub outline : IsOutline (docs_of a.graph.now.given) a.tops.now

-- the top with a number among those of all files is of the file with that number
pub record HoldsTop (files : List File) (indexes : List Index) (file n : ℕ) : Type 0 where
  pub f : File
  pub x : Index
  pub got : slice_get files file ≡ Some f
  pub index : slice_get indexes file ≡ Some x
  pub from : x.starts.top ≤ n
  pub to : n - x.starts.top < length x.tops

-- the entry is there, with all below it
pub record HasEntry (files : List File) (p : Spot) : Type 0 where
  pub f : File
  pub got : slice_get files p.file ≡ Some f
  pub has : HasSubtree (raw_units f.units) p.entry

-- it is no name of a unit
abbrev pub IsEntryName : EntryName → Type 0
IsEntryName name = (i : ℕ) → name ≡ UnitOf i → ⊥

-- nor is that of any entry below
abbrev pub HasEntryNames : Subtree → Type 0
HasEntryNames x = IsEntryName x.node.at × EachNode (λ e. IsEntryName e.at) x.below

-- the entry with all below it means the subtree, whose names are those of its places
pub record Shows (contents : List (List ℕ)) (files : List File) (p : Spot) (x : Subtree) : Type 0 where
  pub bytes : List ℕ
  pub f : File
  pub index : Index
  pub got : slice_get files p.file ≡ Some f
  pub among : IsFileAmong contents p.file bytes f index
  pub unit : RawUnit
  pub means : MeansSubtree (scope_of (around_of bytes (raw_units f.units)) unit) (name_at index.starts among.kept.read.doc)
      (raw_units f.units) p.entry x
  pub named : HasEntryNames x
