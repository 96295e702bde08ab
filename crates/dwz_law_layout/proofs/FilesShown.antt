-- How many orders and units show files.
use Rattle.std.proofs.Common.{◌≡◌, ℕ, suc, ◌+◌, List, [], ◌∷◌, length, map, refl, ap, arith}
use Rattle.std.proofs.lemmas.List.{length-append}
use Rattle.dwz_def_reading.specs.Documents.{DwUnit}
use Rattle.dwz_def_tops.specs.Spots.{EntryName}
use Rattle.dwz_def_images.specs.Units.{file_units, out_units}
use Rattle.dwz_def_encoding.specs.Placing.{FileOut}
use Rattle.dwz_def_readback.specs.Files.{CommonFile, Run, file_out_by}
use Rattle.dwz_layout.specs.declared.known.EntryTable.{EntryTable}
use Rattle.dwz_layout.specs.declared.order.UnitItems.{UnitItems}
use Rattle.dwz_encode.specs.Shown.{Keys, ShowFiles, ShowUnits, unit_count}
use Rattle.dwz_law_layout.proofs.EntriesNamed.{fitted_many}

-- as many orders as files
pub shown_many : {K : Type 0} (names : Keys K) (k : EntryTable) (unit : ℕ) (orders : List (List UnitItems)) (files : List (FileOut K)) → ShowFiles names k unit orders files → length orders ≡ length files
shown_many names k unit [] [] shows = refl
shown_many names k unit [] (x ∷ files) shows = absurd shows
shown_many names k unit (order ∷ orders) [] shows = absurd shows
shown_many names k unit (order ∷ orders) (x ∷ files) shows = ap suc (shown_many names k (unit + length order) orders files shows.1)

-- as many in an order as a file has units
pub units_many : {K : Type 0} (names : Keys K) (k : EntryTable) (unit : ℕ) (order : List UnitItems) (us : List (DwUnit K)) → ShowUnits names k unit order us → length order ≡ length us
units_many names k unit [] [] shows = refl
units_many names k unit [] (u ∷ us) shows = absurd shows
units_many names k unit (o ∷ order) [] shows = absurd shows
units_many names k unit (o ∷ order) (u ∷ us) shows = ap suc (units_many names k (suc unit) order us shows.1)

-- and as many in all as files of a run have
pub files_many : (cf : CommonFile) (r : Run) (names : Keys EntryName) (k : EntryTable) (unit : ℕ) (orders : List (List UnitItems)) (files : List ℕ)
    → ShowFiles names k unit orders (map (file_out_by cf r) files) → unit_count orders ≡ length (file_units r.move r.units files)
unfolding unit_count file_units
files_many cf r names k unit [] [] shows = refl
files_many cf r names k unit [] (n ∷ files) shows = absurd shows
files_many cf r names k unit (order ∷ orders) [] shows = absurd shows
files_many cf r names k unit (order ∷ orders) (n ∷ files) shows =
    let x = file_out_by cf r n in
    let own = units_many names k unit order x.units shows.0 in
    let fit = fitted_many cf r n in
    let rest = files_many cf r names k (unit + length order) orders files shows.1 in
    let both = length-append (out_units r.move r.units n) (file_units r.move r.units files) in
    omega (arith, own, fit, rest, both)
