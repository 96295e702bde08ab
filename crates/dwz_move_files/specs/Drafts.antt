-- What is gathered of tops, one after the other.
use Rattle.std.specs.Prelude.{◌≡◌, ℕ, suc, ◌+◌, ◌<◌, ◌≤◌, Bool, true, false, All, List, [], ◌∷◌, ◌++◌, length, map, Option, None}
use Rattle.std.specs.Prelude.{Some, slice_get}
use Rattle.dwz_def_tops.specs.Alike.{binds_itself}
use Rattle.dwz_def_tops.specs.Spots.{Top, Within, tops_of, units_of}
use Rattle.dwz_def_tops.specs.Targets.{targets_of}
use Rattle.dwz_plan.specs.Groups.{IsWeight}
use Rattle.dwz_groups.specs.declared.groups.Edge.{Edge}
use Rattle.dwz_groups.specs.declared.tops.TopRow.{TopRow}
use Rattle.dwz_def_reading.specs.Documents.{Doc}
use Rattle.dwz_def_plan.specs.Gain.{top_weight}
use Rattle.dwz_def_plan.specs.Plan.{is_pinned}
use Rattle.dwz_def_tops.specs.UnitNames.{name_of_place}
use Rattle.dwz_def_reading.specs.Places.{at_file}
use Rattle.dwz_move.specs.Bound.{target_of}
use Rattle.dwz_move.specs.Known.{tops_of_refs}
use Rattle.dwz_unit.specs.declared.rows.RawEntry.{RawEntry}
use Rattle.dwz_unit.specs.Rows.{shown_entries, units_of as raw_units}
use Rattle.dwz_graph.specs.Across.{IsFileAmong, name_at, starts_at}
use Rattle.dwz_def_reading.specs.Units.{RawUnit, entries_in}
use Rattle.dwz_graph.specs.declared.file.File.{File}
use Rattle.dwz_graph.specs.declared.index.TopEntry.{TopEntry}
use Rattle.dwz_graph.specs.Index.{Index}
use Rattle.dwz_move_files.specs.declared.draft.Draft.{Draft}
use Rattle.dwz_move_files.specs.declared.draft.KnownFile.{KnownFile}

-- the row shows where the top stands, its unit, its weight, and whether it is pinned; that it may move isn't said yet
pub record IsRowOf (docs : List (Doc ℕ)) (row : TopRow) (t : Top) : Type 0 where
  pub file : row.place.file ≡ t.file
  pub place : name_of_place docs (at_file row.place.file row.place.offset) ≡ Within t.number []
  pub unit : row.unit ≡ t.unit
  pub weight : IsWeight row.weight (top_weight t)
  pub still : row.movable ≡ false
  pub pinned : row.pinned ≡ is_pinned (units_of docs) t.number

-- and whether it binds itself; if it doesn't, the tops that its references go into, and else none
pub record IsGathered (docs : List (Doc ℕ)) (row : TopRow) (binds : Bool) (targets : List ℕ) (t : Top) : Type 0 where
  pub row_is : IsRowOf docs row t
  pub binds_is : binds ≡ binds_itself (units_of docs) t
  pub targets_are : binds ≡ false → targets ≡ targets_of t
  pub none : binds ≡ true → targets ≡ []
  pub inside : All (λ n. n < length (tops_of (units_of docs))) targets

-- each of these tops begins and ends among the entries
abbrev pub AreWithin : List RawUnit → List TopEntry → Type 0
AreWithin raw tops = (k : ℕ) (x : TopEntry) → slice_get tops k ≡ Some x
    → (x.entry < entries_in raw) × ((r : RawEntry) → slice_get (shown_entries raw) x.entry ≡ Some r → r.end ≤ entries_in raw)

-- the tops that the references of a file go into
abbrev pub AreInto : (contents : List (List ℕ)) (number : ℕ) (bytes : List ℕ) (f : File) (x : Index) → IsFileAmong contents number bytes f x
    → List (Option ℕ) → Type 0
AreInto contents number bytes f x is into = into ≡ tops_of_refs (name_at x.starts is.kept.read.doc) (raw_units f.units)
    f.resolved.refs.items

-- that, what its entries weigh and which of them bind is known of a file
pub record IsKnown (f : File) (x : Index) (known : KnownFile) : Type 0 where
  pub weights : known.weights ≡ f.units
  pub binds : known.binds ≡ f.units
  pub into : (contents : List (List ℕ)) (number : ℕ) (bytes : List ℕ) (is : IsFileAmong contents number bytes f x)
      → AreInto contents number bytes f x is known.into.items

-- each list of targets under its top; the first top has that number
unfoldable pub pairs_from : ℕ → List (List ℕ) → List Edge
pairs_from n [] = []
pairs_from n (ts ∷ targets) = map (target_of n) ts ++ pairs_from (suc n) targets

-- so many tops are gathered, the first of which has that number
pub record IsDraft (docs : List (Doc ℕ)) (first count : ℕ) (draft : Draft) : Type 0 where
  pub targets : List (List ℕ)
  pub rows_len : length draft.rows.items ≡ count
  pub binds_len : length draft.binds.items ≡ count
  pub targets_len : length targets ≡ count
  pub pairs_are : draft.pairs.items ≡ pairs_from first targets
  pub each : (k n : ℕ) (t : Top) (row : TopRow) (binds : Bool) (ts : List ℕ) → first + k ≡ n → slice_get (tops_of (units_of docs)) n
      ≡ Some t → slice_get draft.rows.items k ≡ Some row → slice_get draft.binds.items k ≡ Some binds
      → slice_get targets k ≡ Some ts → IsGathered docs row binds ts t

-- the tops of the file with a number are gathered
pub record IsFileDraft (docs : List (Doc ℕ)) (indexes : List Index) (k : ℕ) (draft : Draft) : Type 0 where
  pub count : ℕ
  pub is : IsDraft docs (starts_at docs indexes k).top count draft
  pub to : (starts_at docs indexes k).top + count ≡ (starts_at docs indexes (k + 1)).top

-- each part is what is gathered of tops, from the one with that number on to before the other; nothing is said behind one that isn't there
abbrev pub AreParts : List (Doc ℕ) → ℕ → ℕ → List (Option Draft) → Type 0
AreParts docs from to [] = from ≡ to
AreParts docs from to (None ∷ parts) = Unit {0}
AreParts docs from to (Some part ∷ parts) = (count : ℕ) × IsDraft docs from count part × AreParts docs (from + count) to parts
