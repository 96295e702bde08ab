-- The laws on layouts of files and on their bytes.
use Rattle.std.proofs.Common.{◌≡◌, ◌<◌, ◌≤◌, ℕ, ◌+◌, ◌-◌, List, [], ◌∷◌, length, replicate, slice_index, inr, arith, refl, sym, ap, subst, ◌∙◌, Bool, true, false, cond, Option, Some, None, nat_lt}
use Rattle.std.proofs.lemmas.Bool.{ltb-true}
use Rattle.std.proofs.lemmas.List.{get_or-append_right, length-append}
use Rattle.dwz_def_tops.specs.Spots.{EntryName, same_spot}
use Rattle.dwz_def_reading.specs.ElfLayout.{too_large}
use Rattle.dwz_def_reading.specs.Lists.{Each, In}
use Rattle.dwz_def_tops.proofs.Members.{each_of}
use Rattle.dwz_def_encoding.specs.Placing.{FileOut, UnitsStand, numbering, sections}
use Rattle.dwz_def_encoding.specs.Sound.{SoundUnit}
use Rattle.dwz_def_encoding.specs.Writing.{Numbering}
use Rattle.dwz_def_encoding.proofs.Places.{numbering_stands}
use Rattle.dwz_def_encoding.proofs.SameLemmas.{spots_same}
use Rattle.dwz_def_encoding.proofs.WriteLengths.{FixedUnit, sound_units}
use Rattle.dwz_layout.specs.declared.known.EntryTable.{EntryTable}
use Rattle.dwz_layout.specs.declared.order.UnitItems.{UnitItems}
use Rattle.dwz_layout.specs.Laid.{AllMade, Standing, made_from, no_file, over_made}
use Rattle.dwz_encode.specs.Laws.{FilesAre, IsOrderOf, IsOrderOver, IsPlaced, PlacesAre, PlacesOver, SectionsAre, SectionsOver, there_over}
use Rattle.dwz_encode.specs.Shown.{FilesRefer, Keys, ShowFiles, There, written_in}
use Rattle.dwz_encode.proofs.SectionLemmas.{end_of}
use Rattle.dwz_encode.proofs.FileLemmas.{AllFixed, AllStand, AreThere, Whole, file_bytes, file_end, files_of, row_is, whole}
use Rattle.dwz_encode.proofs.PassLemmas.{length-zeros}

abbrev by_room : (a b : Bool) → Option ℕ
by_room a b = cond a (cond b None (Some 2)) (Some 1)

room_in : (info abbrevs : ℕ) (a b : Bool) → nat_lt info too_large ≡ a → nat_lt abbrevs too_large ≡ b → by_room a b ≡ None → (info < too_large) × (abbrevs < too_large)
room_in info abbrevs true true p q e = (ltb-true info too_large p, ltb-true abbrevs too_large q)
room_in info abbrevs true false p q e = absurd cc
room_in info abbrevs false b p q e = absurd cc

fixed_files : (files : List (FileOut EntryName)) → ((f : FileOut EntryName) → In f files → Each SoundUnit f.units) → AllFixed files
fixed_files files sound = each_of (λ f. Each FixedUnit f.units) files (λ f there. sound_units f.units (sound f there))

-- ---- behind what stands already

module _ (keys : Keys EntryName) (n : Numbering EntryName) (k : EntryTable) (t : There) (places roots : List ℕ) (order : List (List UnitItems)) (files : List (FileOut EntryName))
    (shows : ShowFiles keys k (length roots) order files) (fixed : AllFixed files) (stand : AllStand n files) (are : AreThere keys n k t places roots order) where
  abbrev All : AllMade
  All = Whole keys n k t places roots order files shows fixed stand are

  files_are : (here : ℕ) (some : List (List UnitItems)) (outs : List (FileOut EntryName)) → ShowFiles keys k here some outs → AllFixed outs → AllStand n outs → FilesRefer t k here some
      → FilesAre n k All.places All.roots here some (files_of k here some outs) outs
  unfolding files_of sections
  files_are here [] [] shown fix there refer = tt
  files_are here [] (f ∷ outs) shown fix there refer = absurd shown
  files_are here (units ∷ some) [] shown fix there refer = absurd shown
  files_are here (units ∷ some) (f ∷ outs) shown fix there refer = (
    record {
      info = file_bytes keys n k t places roots order files shows fixed stand are here units f there.0 fix.0 shown.0 refer.0;
      abbrevs = refl;
      end = file_end keys n k t places roots order files shows fixed stand are f fix.0;
      room = λ none. (
          let s = sections n f.units in
          let end : end_of k 0 f.units ≡ length s.info = file_end keys n k t places roots order files shows fixed stand are f fix.0 in
          let two = room_in (end_of k 0 f.units) (length s.abbrevs) (nat_lt (end_of k 0 f.units) too_large) (nat_lt (length s.abbrevs) too_large) refl refl none in
          (subst (λ (e : ℕ). e < too_large) end two.0, two.1));
    },
    files_are (here + length units) some outs shown.1 fix.1 there.1 refer.1,
  )

  sections_from : FilesRefer t k (length roots) order
      → let all = made_from k order (no_file places roots) in FilesAre n k all.places all.roots (length roots) order all.files files
  sections_from refer =
      subst (λ (a : AllMade). FilesAre n k a.places a.roots (length roots) order a.files files) (sym (whole keys n k t places roots order files shows fixed stand are))
      (files_are (length roots) order files shows fixed stand refer)

  places_from : (i : ℕ) → t.row i → IsPlaced keys n (made_from k order (no_file places roots)).places i
  places_from i there =
      ap (λ (a : AllMade). slice_index a.places i) (whole keys n k t places roots order files shows fixed stand are)
      ∙ sym (row_is keys n k t places roots order files shows fixed stand are i there)

-- ---- where nothing stands

module _ (keys : Keys EntryName) (k : EntryTable) (order : List (List UnitItems)) (files : List (FileOut EntryName)) (is : IsOrderOf keys k order files) where
  fixed : AllFixed files
  fixed = fixed_files files is.sound

  stand : AllStand (numbering same_spot files) files
  stand = each_of (λ f. UnitsStand (numbering same_spot files) f.units 0) files (λ f there. numbering_stands same_spot spots_same files is.apart f there (sound_units f.units (is.sound f there)))

  abbrev none : List ℕ
  none = replicate (length k.owners.items) 0

  are : AreThere keys (numbering same_spot files) k (written_in k order) none [] order
  are = record {
    rows = λ i refers. (omega (arith, refers.0, length-zeros (length k.owners.items)), inr refers.1);
    standing = λ j lt. absurd (omega (arith, lt));
    units = omega arith;
  }

  pub sections_are : SectionsAre k order files
  sections_are = sections_from keys (numbering same_spot files) k (written_in k order) none [] order files is.shows fixed stand are is.refer

  pub places_are : PlacesAre keys k order files
  places_are i lt written = places_from keys (numbering same_spot files) k (written_in k order) none [] order files is.shows fixed stand are i (lt, written)

-- ---- over a common file that stands

-- its entries are the last
pub standing_place : (count : ℕ) (s : Standing) (j : ℕ) → slice_index (over_made count s).places (count - length s.places + j) ≡ slice_index s.places j
standing_place count s j =
    let before = count - length s.places in
    let le : before ≤ before + j = omega arith in
    let same : before + j - before ≡ j = omega arith in
    get_or-append_right (replicate before 0) s.places before (before + j) 0 (length-zeros before) le ∙ ap (slice_index s.places) same

module _ (keys : Keys EntryName) (n : Numbering EntryName) (k : EntryTable) (s : Standing) (order : List (List UnitItems)) (files : List (FileOut EntryName)) (is : IsOrderOver keys n k s order files) where
  abbrev Start : List ℕ
  Start = (over_made (length k.owners.items) s).places

  standing : AllStand n files
  standing = each_of (λ f. UnitsStand n f.units 0) files is.stand

  many : length Start ≡ length k.owners.items
  many =
      let before = length k.owners.items - length s.places in
      omega (arith, is.within, length-append (replicate before 0) s.places, length-zeros before)

  over : AreThere keys n k (there_over keys n k s order) Start s.roots order
  over = record { rows = λ i there. (omega (arith, there.0, many), there.1); standing = is.roots; units = refl }

  pub sections_over : SectionsOver n k s order files
  sections_over = sections_from keys n k (there_over keys n k s order) Start s.roots order files is.shows (fixed_files files is.sound) standing over is.refer

  pub places_over : PlacesOver keys n k s order
  places_over i there = places_from keys n k (there_over keys n k s order) Start s.roots order files is.shows (fixed_files files is.sound) standing over i there
