-- The numbers that are counted by lists of places are those of the run.
use Rattle.std.specs.Prelude.{◌≡◌, ℕ, ◌+◌, ◌<◌, All, List, length, map, Some, slice_get, slice_index}
use Rattle.dwz_def_reading.specs.Units.{RawUnit, entries_in}
use Rattle.dwz_def_tops.specs.Spots.{EntryName, UnitOf}
use Rattle.dwz_def_reading.specs.Files.{debug_aranges}
use Rattle.dwz_unit.specs.Rows.{units_of as raw_units}
use Rattle.dwz_graph.specs.declared.file.File.{File}
use Rattle.dwz_graph.specs.ListRows.{operand_view}
use Rattle.dwz_graph.specs.Resolved.{place_at}
use Rattle.dwz_graph.specs.Index.{Index}
use Rattle.dwz_layout_numbers.specs.Images.{AreImages, IsFile}
use Rattle.dwz_graph.specs.EntryCounts.{starts_from}
use Rattle.dwz_graph.specs.AllNames.{all_names}
use Rattle.dwz_def_readback.specs.Files.{name_after, places_by, sources}
use Rattle.dwz_def_output.specs.Contents.{lists_after_by, operand_number_after_by, ranges_after_by}
use Rattle.dwz_encode_sections.specs.Numbers.{with_numbers}
use Rattle.dwz_encode_sections.specs.Ranges.{AreMoved}
use Rattle.dwz_law_layout.specs.Beside.{Beside}
use Rattle.dwz_law_layout.specs.Facts.{AreFacts, HasFile, RunFacts, common, every, move, run}
use Rattle.dwz_law_layout.specs.NamedLaws.{IsItself}
use Rattle.dwz_encode_operands.specs.Operands.{AreNewNumbers, HasNewNumbers}

-- ---- what is given

-- where what stood at a place of the file with that number stands after
abbrev pub stands_after : {beside : Beside} → RunFacts beside → ℕ → ℕ → ℕ
stands_after f n p = (places_by (common f) (run f)).place (name_after (run f) n p)

-- what stands after for an entry of the file has, by its number among all, the place where it stands
abbrev pub ArePlaces : {beside : Beside} → RunFacts beside → ℕ → List RawUnit → List ℕ → Type 0
ArePlaces f n raw at = (e i : ℕ) → e < entries_in raw → slice_get (all_names (every f)) i ≡ Some (name_after (run f) n (place_at raw e))
    → slice_index at i ≡ stands_after f n (place_at raw e)

-- each unit of the file, the first of which has that number among all, has the place where it begins after
abbrev pub AreUnitPlaces : {beside : Beside} → RunFacts beside → ℕ → List RawUnit → List ℕ → Type 0
AreUnitPlaces f first raw at = (j : ℕ) → j < length raw → slice_index at j ≡ (places_by (common f) (run f)).place (UnitOf (first + j))

-- P holds of each file that was read, of the number of its first entry among all, and of the places of entries
abbrev pub OfPlaces : ((beside : Beside) → RunFacts beside → ℕ → File → Index → ℕ → List ℕ → Type 0) → Type 0
OfPlaces P =
    (beside : Beside) (f : RunFacts beside) → AreFacts f → (n : ℕ) (bytes : List ℕ) (x : File) (index : Index) → HasFile f n bytes x index
    → (start : ℕ) → slice_get (starts_from 0 f.indexes) n ≡ Some start → (at : List ℕ) → ArePlaces f n (raw_units x.units) at
    → P beside f n x index start at

-- these are the numbers of the file's operands, by their places and by those of its units
abbrev pub HaveNewNumbers : {beside : Beside} → RunFacts beside → File → Index → ℕ → (at units_at numbers : List ℕ) → Type 0
HaveNewNumbers f x index start at units_at numbers =
    (names : List EntryName) → IsFile (every f) names index start
    → AreNewNumbers (every f) (move f) names at units_at x.resolved.operands.items numbers

-- ---- laws

-- each operand of the file names an entry of it, as its index counts them
abbrev pub OperandsThereLaw : Type 0
OperandsThereLaw =
    (beside : Beside) (f : RunFacts beside) → AreFacts f → (n : ℕ) (bytes : List ℕ) (x : File) (index : Index) → HasFile f n bytes x index
    → All (λ o. o.entry < length index.steps) x.resolved.operands.items

-- what stands after for an entry of the file stands for itself
abbrev pub ImagesItselfLaw : Type 0
ImagesItselfLaw =
    (beside : Beside) (f : RunFacts beside) → AreFacts f → (n : ℕ) (bytes : List ℕ) (x : File) (index : Index) → HasFile f n bytes x index
    → (e : ℕ) → e < entries_in (raw_units x.units) → IsItself f (name_after (run f) n (place_at (raw_units x.units) e))

-- each operand has its new number
abbrev pub NewNumbersLaw : Type 0
NewNumbersLaw = OfPlaces (λ beside f n x index start at. (units_at numbers : List ℕ)
    → AreUnitPlaces f index.starts.unit (raw_units x.units) units_at
    → HaveNewNumbers f x index start at units_at numbers
    → numbers ≡ map (λ o. operand_number_after_by (common f) (run f) n (operand_view (raw_units x.units) o)) x.resolved.operands.items)

-- `.debug_loclists` with these numbers is that after
abbrev pub ListsAfterLaw : Type 0
ListsAfterLaw = OfPlaces (λ beside f n x index start at. (units_at numbers : List ℕ)
    → AreUnitPlaces f index.starts.unit (raw_units x.units) units_at
    → HaveNewNumbers f x index start at units_at numbers
    → with_numbers x.resolved.operands.items numbers (sources (run f) n).lists ≡ lists_after_by (common f) (run f) n)

-- so a section that has such numbers
abbrev pub SectionAfterLaw : Type 0
SectionAfterLaw = OfPlaces (λ beside f n x index start at. (units_at out : List ℕ) → AreUnitPlaces f index.starts.unit (raw_units x.units) units_at
    → ((names : List EntryName) → IsFile (every f) names index start
    → HasNewNumbers (every f) (move f) names at units_at x.resolved.operands.items (sources (run f) n).lists out)
    → out ≡ lists_after_by (common f) (run f) n)

-- where each unit has its place after beside where it began, `.debug_aranges` with these places is that after
abbrev pub RangesAfterLaw : Type 0
RangesAfterLaw =
    (beside : Beside) (f : RunFacts beside) → AreFacts f → (n : ℕ) (bytes : List ℕ) (x : File) (index : Index) → HasFile f n bytes x index
    → (units_at new : List ℕ) → length units_at ≡ length (raw_units x.units)
    → AreUnitPlaces f index.starts.unit (raw_units x.units) units_at
    → AreMoved (map (λ (u : RawUnit). u.at) (raw_units x.units)) units_at (debug_aranges bytes) new → new ≡ ranges_after_by (common f) (run f) n

-- each reference has the place where what stands for its target stands after
abbrev pub TargetsAfterLaw : Type 0
TargetsAfterLaw = OfPlaces (λ beside f n x index start at. (references : List ℕ)
    → ((names : List EntryName) → IsFile (every f) names index start → AreImages (every f) (move f) names x.resolved.refs.items references)
    → map (λ i. slice_index at i) references ≡ map (stands_after f n) (map (place_at (raw_units x.units)) x.resolved.refs.items))
