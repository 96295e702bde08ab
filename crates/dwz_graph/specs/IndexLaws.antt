-- What holds of the names and the tops of a file by their numbers.
use Rattle.std.specs.Prelude.{◌≡◌, ℕ, ◌+◌, ◌<◌, List, [], Ok, Some, length, map, slice_get}
use Rattle.dwz_def_reading.specs.Units.{RawUnit, entries_in}
use Rattle.dwz_def_reading.specs.Documents.{Doc, DwUnit, unit_map}
use Rattle.dwz_def_reading.specs.Files.{Limits, around_of, file_meaning}
use Rattle.dwz_def_reading.specs.Meant.{units_meaning}
use Rattle.dwz_def_tops.specs.Spots.{EntryName, Top, Within, in_file, spot_in, spots_from, tops_among, tops_from}
use Rattle.dwz_graph_resolve.specs.Resolved.{place_at}
use Rattle.dwz_graph.specs.declared.index.SpaceEntry.{SpaceEntry}
use Rattle.dwz_graph.specs.declared.index.Starts.{Starts}
use Rattle.dwz_graph.specs.declared.index.TopEntry.{TopEntry}
use Rattle.dwz_graph.specs.Chains.{LeadsOut}
use Rattle.dwz_graph.specs.Names.{names_from}
use Rattle.dwz_graph.specs.Steps.{all_spaces, all_tops, below_root, is_space}
use Rattle.dwz_graph.specs.Tops.{IsTopAt}

-- the tops and spaces of units that begin with these numbers
abbrev pub tops_of_units : Starts → List (DwUnit ℕ) → List TopEntry
tops_of_units s units = all_tops is_space s 0 (map below_root units)

abbrev pub spaces_of_units : Starts → List (DwUnit ℕ) → List SpaceEntry
spaces_of_units s units = all_spaces is_space s 0 (map below_root units)

-- the tops of these units, as the definitions have them, in the file with that number
abbrev pub tops_in_file : Starts → ℕ → (ℕ → EntryName) → List (DwUnit ℕ) → List Top
tops_in_file s file name units = tops_from s.unit s.top (map (in_file file) (map (unit_map name) units))

-- the entry with a number has the name of its place
abbrev pub PlaceLaw : Type 0
PlaceLaw =
    (l : Limits) (bytes : List ℕ) (raw : List RawUnit) (doc : Doc ℕ) (unit top i : ℕ) → file_meaning l bytes ≡ Ok (raw, doc)
    → i < entries_in raw
    → slice_get (names_from unit top doc.units) i ≡ Some (spot_in (spots_from unit top doc.units) (place_at raw i))

-- what a file says is what its units mean
abbrev pub UnitsLaw : Type 0
UnitsLaw =
    (l : Limits) (bytes : List ℕ) (raw : List RawUnit) (doc : Doc ℕ) → file_meaning l bytes ≡ Ok (raw, doc)
    → units_meaning (around_of bytes raw) raw ≡ Ok doc.units

-- there are as many as are counted
abbrev pub ManyLaw : Type 0
ManyLaw = (s : Starts) (units : List (DwUnit ℕ)) → length (tops_of_units s units) ≡ tops_among units

-- each has the name of the top with its number
abbrev pub NamedLaw : Type 0
NamedLaw =
    (l : Limits) (bytes : List ℕ) (raw : List RawUnit) (doc : Doc ℕ) (s : Starts) (k : ℕ) (x : TopEntry)
    → file_meaning l bytes ≡ Ok (raw, doc)
    → slice_get (tops_of_units s doc.units) k ≡ Some x → slice_get (names_from s.unit s.top doc.units) x.entry
    ≡ Some (Within (s.top + k) [])

-- each entry with such a name is one of them
abbrev pub FoundLaw : Type 0
FoundLaw =
    (l : Limits) (bytes : List ℕ) (raw : List RawUnit) (doc : Doc ℕ) (s : Starts) (i n : ℕ) → file_meaning l bytes ≡ Ok (raw, doc)
    → slice_get (names_from s.unit s.top doc.units) i ≡ Some (Within n []) → IsTopAt s.top (tops_of_units s doc.units) i n

-- each is of the unit of the top with its number
abbrev pub ShownLaw : Type 0
ShownLaw =
    (s : Starts) (units : List (DwUnit ℕ)) (file : ℕ) (name : ℕ → EntryName) (k : ℕ) (x : TopEntry) (t : Top)
    → slice_get (tops_of_units s units) k ≡ Some x → slice_get (tops_in_file s file name units) k ≡ Some t
    → (x.unit ≡ t.unit) × (t.number ≡ s.top + k)

-- and leads to the spaces that this top stands in
abbrev pub SpacesLaw : Type 0
SpacesLaw =
    (l : Limits) (bytes : List ℕ) (raw : List RawUnit) (doc : Doc ℕ) (s : Starts) (file : ℕ) (name : ℕ → EntryName) (k : ℕ) (x : TopEntry)
    (t : Top)
    → file_meaning l bytes ≡ Ok (raw, doc) → slice_get (tops_of_units s doc.units) k ≡ Some x
    → slice_get (tops_in_file s file name doc.units) k ≡ Some t
    → LeadsOut raw (around_of bytes raw) s (spaces_of_units s doc.units) x t
