-- An order that shows the files that are written is an order of them: their units are sound, no name stands twice, and what they name is there.
use Rattle.std.proofs.Common.{◌≡◌, ℕ, suc, ◌+◌, ◌<◌, ◌^◌, List, [], ◌∷◌, length, map, refl, sym, ap, subst, ◌∙◌, arith, inl, inr}
use Rattle.std.proofs.lemmas.List.{length-append}
use Rattle.dwz_def_reading.specs.ElfLayout.{too_large}
use Rattle.dwz_def_reading.specs.Documents.{DwUnit}
use Rattle.dwz_def_reading.specs.Lists.{Each, In}
use Rattle.dwz_def_tops.specs.Spots.{EntryName, file_numbers}
use Rattle.dwz_def_tops.proofs.Members.{in_map_from}
use Rattle.dwz_def_images.specs.Units.{all_units, common_units, file_units, out_units}
use Rattle.dwz_def_encoding.specs.Placing.{FileOut, files_keys, lines_bytes, paths_of, texts_bytes, texts_of, units_with}
use Rattle.dwz_def_encoding.proofs.WriteLengths.{no_lines}
use Rattle.dwz_def_readback.specs.Files.{common_fitted_by, file_out_by}
use Rattle.dwz_def_readback.proofs.SomeOfRuns.{once_in_run}
use Rattle.dwz_layout.specs.declared.known.EntryTable.{EntryTable}
use Rattle.dwz_layout.specs.declared.order.UnitItems.{UnitItems}
use Rattle.dwz_encode.specs.Shown.{Keys, ShowFiles, ShowUnits, unit_count}
use Rattle.dwz_law_layout.proofs.OrderRefers.{order_refers}
use Rattle.dwz_law_layout.specs.Facts.{AreFacts, RunFacts, common, docs, files_written, move, run, units, units_written}
use Rattle.dwz_law_layout.specs.Named.{keys}
use Rattle.dwz_law_layout.specs.Laid.{AreFew, RunFewLaw, RunOrderLaw, SettledOrderLaw, files_out, run_numbers, written_out}
use Rattle.dwz_law_layout.proofs.EntriesNamed.{all_only, common_many, entries_no, entries_of, fitted_many}
use Rattle.dwz_law_layout.proofs.FilesFitted.{run_shown}
use Rattle.dwz_law_layout.proofs.FilesKnown.{run_known}
use Rattle.dwz_law_layout.proofs.FilesLaid.{all_once, some_written}
use Rattle.dwz_law_layout.proofs.NamesApart.{entries_many, rows_apart}
use Rattle.dwz_law_layout.proofs.NamesCounted.{files_counted}
use Rattle.dwz_law_layout.proofs.SectionsLaid.{names_only}
use Rattle.dwz_law_layout.proofs.WrittenUnits.{written_units}
use Rattle.dwz_law_layout.specs.Beside.{Alone, Beside}
use Rattle.dwz_def_encoding.specs.Sound.{SoundUnit}
use Rattle.dwz_def_readback.specs.AllFiles.{AreRead}
use Rattle.dwz_def_tops.specs.Lists.{NoneTwice}
use Rattle.dwz_def_readback.proofs.SomeFiles.{some_in}

-- ---- how many units there are

files_long : List (FileOut EntryName) → ℕ
files_long [] = 0
files_long (x ∷ files) = length x.units + files_long files

units_count : (names : Keys EntryName) (k : EntryTable) (unit : ℕ) (order : List UnitItems) (us : List (DwUnit EntryName)) → ShowUnits names k unit order us → length order ≡ length us
units_count names k unit [] [] shows = refl
units_count names k unit [] (u ∷ us) shows = absurd shows
units_count names k unit (o ∷ order) [] shows = absurd shows
units_count names k unit (o ∷ order) (u ∷ us) shows = ap suc (units_count names k (suc unit) order us shows.1)

files_count : (names : Keys EntryName) (k : EntryTable) (unit : ℕ) (orders : List (List UnitItems)) (files : List (FileOut EntryName)) → ShowFiles names k unit orders files
    → unit_count orders ≡ files_long files
unfolding unit_count files_long
files_count names k unit [] [] shows = refl
files_count names k unit [] (x ∷ files) shows = absurd shows
files_count names k unit (order ∷ orders) [] shows = absurd shows
files_count names k unit (order ∷ orders) (x ∷ files) shows =
    (λ i. units_count names k unit order x.units shows.0 i + files_count names k (unit + length order) orders files shows.1 i)

module _ {beside : Beside} (f : RunFacts beside) where
  out_long : (files : List ℕ) → files_long (map (file_out_by (common f) (run f)) files) ≡ length (file_units (move f) (units f) files)
  unfolding files_long file_units
  out_long [] = refl
  out_long (n ∷ files) =
      let own = fitted_many (common f) (run f) n in
      let rest = out_long files in
      let both = length-append (out_units (move f) (units f) n) (file_units (move f) (units f) files) in
      omega (arith, own, rest, both)

  -- as many units as there are, where the common file has as many as it was made of
  written_long : length (common_fitted_by (common f) (run f)) ≡ length (common_units (move f)) → files_long (written_out f) ≡ length (all_units (move f) (units f) (files_written f))
  unfolding files_long
  written_long own =
      let rest = out_long (files_written f) in
      let both = length-append (common_units (move f)) (file_units (move f) (units f) (files_written f)) in
      omega (arith, own, rest, both)

units_long : (f : RunFacts Alone) (k : EntryTable) (orders : List (List UnitItems)) → ShowFiles (keys f) k 0 orders (written_out f) → length (units_written f) ≡ unit_count orders
units_long f k orders shows =
    ap (λ (w : List (DwUnit EntryName)). length w) (written_units f) ∙ sym (written_long f (common_many (run f))) ∙ sym (files_count (keys f) k 0 orders (written_out f) shows)

-- files of a run by this common file are sound
module _ {beside : Beside} (f : RunFacts beside) (facts : AreFacts f) (read : AreRead f.input (docs f)) (few : AreFew f) where
  pub files_sound : (x : FileOut EntryName) → In x (files_out f) → Each SoundUnit x.units
  files_sound x there =
      let o = in_map_from (file_out_by (common f) (run f)) x (files_written f) there in
      subst (λ (y : FileOut EntryName). Each SoundUnit y.units) o.is
      (facts.whole.sound read few o.source (some_in (file_numbers 0 (docs f)) (files_written f) (some_written f facts) o.source o.there))

all_sound : (f : RunFacts Alone) → AreFacts f → AreRead f.input (docs f) → AreFew f → (x : FileOut EntryName) → In x (written_out f) → Each SoundUnit x.units
all_sound f facts read few x (inl e) = subst (λ (y : FileOut EntryName). Each SoundUnit y.units) e (facts.whole.common_sound read few)
all_sound f facts read few x (inr there) = files_sound f facts read few x there

-- no name stands twice in them
once_written : (f : RunFacts Alone) → AreFacts f → NoneTwice (files_keys (written_out f))
once_written f facts = once_in_run (run f) (files_written f) (some_written f facts) (all_once f facts)

pub run_order : RunOrderLaw
run_order f t k orders facts listed read few shows = record {
  shows = shows;
  sound = all_sound f facts read few;
  apart = once_written f facts;
  refer = order_refers (keys f) k orders (written_out f) (rows_apart f facts k (entries_many f t k facts listed) orders) shows (names_only f facts)
      (files_counted f k (entries_many f t k facts listed) (entries_of (written_out f)) (entries_no f facts) (unit_count orders) (units_long f k orders shows) 0 orders (written_out f)
      (all_only f facts) shows);
}

-- ---- nothing in the common file

no_texts : length (texts_bytes (texts_of {K = EntryName} [] [])) < 2 ^ 32
unfolding texts_bytes units_with
no_texts = omega arith

pub run_few : RunFewLaw
run_few beside f none = record {
  strs = subst (λ (us : List (DwUnit EntryName)). length (texts_bytes (texts_of [] us)) < 2 ^ 32) (sym none) no_texts;
  lines = subst (λ (us : List (DwUnit EntryName)). length (lines_bytes (paths_of [] us)) < too_large) (sym none) no_lines;
}

pub settled_order : SettledOrderLaw
settled_order f t k s facts listed settled few read orders put texts =
    run_order f t k orders facts listed read few (run_shown f k orders (run_known f t k s facts listed settled orders put (run_numbers f) texts))
