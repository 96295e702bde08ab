-- What the indexes of all files show together.
use Rattle.std.specs.Prelude.{◌≡◌, ℕ, ◌+◌, ◌<◌, All, List, length, map, Some, slice_get}
use Rattle.dwz_def_reading.specs.Lists.{Each, In}
use Rattle.dwz_def_reading.specs.Documents.{Doc}
use Rattle.dwz_def_tops.specs.Lists.{Nth}
use Rattle.dwz_def_tops.specs.Seen.{IsPartial}
use Rattle.dwz_def_tops.specs.Spots.{EntryName, FileUnit, Top, in_file, named, tops_from as tops_of_units, tops_of, units_of}
use Rattle.dwz_graph.specs.declared.index.Starts.{Starts}
use Rattle.dwz_graph.specs.Index.{Index}
use Rattle.dwz_graph.specs.Names.{names_from}
use Rattle.dwz_graph.specs.Indexed.{AreIndexes, IsIndexOf}
use Rattle.dwz_graph.specs.EntryCounts.{starts_from, tops_from}
use Rattle.dwz_graph.specs.AllNames.{AreTopEntries, StandFrom, all_names}

-- no unit is a partial unit
abbrev pub AreWhole : List (Doc ℕ) → Type 0
AreWhole docs = Each (λ doc. Each (λ u. IsPartial u.kind → ⊥) doc.units) docs

-- The file with a number, its index, and the names of its entries, which stand among all from there on; its units and tops are among
-- those of all files.
pub record IsFileAt (docs : List (Doc ℕ)) (file : ℕ) (x : Index) (start : ℕ) : Type 0 where
  pub starts : Starts
  pub doc : Doc ℕ
  pub is_doc : slice_get docs file ≡ Some doc
  pub index : IsIndexOf starts doc x
  pub stand : StandFrom (all_names docs) (names_from starts.unit starts.top doc.units) start
  pub units : (k : ℕ) (u : FileUnit EntryName) → slice_get (map (in_file file) (named starts.unit starts.top doc.units)) k ≡ Some u
      → Nth 0 (units_of docs) (starts.unit + k) u
  pub tops : (t : Top) → In t (tops_of_units starts.unit starts.top (map (in_file file) (named starts.unit starts.top doc.units)))
      → In t (tops_of (units_of docs))

-- each file begins where it is counted
abbrev pub FilesLaw : Type 0
FilesLaw =
    (docs : List (Doc ℕ)) (indexes : List Index) → AreIndexes docs indexes → (file start : ℕ) (x : Index)
    → slice_get indexes file ≡ Some x → slice_get (starts_from 0 indexes) file ≡ Some start
    → IsFileAt docs file x start

-- the tops that are counted are the tops
abbrev pub TopsLaw : Type 0
TopsLaw = (docs : List (Doc ℕ)) (indexes : List Index) → AreIndexes docs indexes → AreWhole docs → AreTopEntries docs (tops_from 0 indexes)

-- each is an entry of its file
abbrev pub EntriesLaw : Type 0
EntriesLaw = (docs : List (Doc ℕ)) (indexes : List Index) → AreIndexes docs indexes → AreWhole docs
    → All (λ x. All (λ t. t.entry < length x.steps) x.tops) indexes
