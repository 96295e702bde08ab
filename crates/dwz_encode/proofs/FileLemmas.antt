-- Files one after the other: where all stands, and what is written of each.
use Rattle.std.proofs.Common.{◌≡◌, ◌⊎◌, inl, inr, ℕ, suc, ◌+◌, ◌-◌, ◌<◌, ◌≤◌, List, [], ◌∷◌, ◌++◌, length, refl, slice_index, sym, ap, ◌∙◌, append_assoc, append-nil, arith}
use Rattle.std.proofs.lemmas.List.{get_or-append_right, get_or_append_left}
use Rattle.dwz_def_reading.specs.Lists.{Each}
use Rattle.dwz_def_encoding.specs.Placing.{FileOut, UnitsStand}
use Rattle.dwz_def_encoding.specs.Writing.{Numbering, tables_of, units_bytes}
use Rattle.dwz_def_encoding.proofs.WriteLengths.{FixedUnit}
use Rattle.dwz_layout.specs.declared.known.EntryTable.{EntryTable}
use Rattle.dwz_layout.specs.declared.order.Sort.{Sort}
use Rattle.dwz_layout.specs.declared.order.Sort.TheVariants.{Compile, OfType, Partial}
use Rattle.dwz_layout.specs.declared.order.UnitItems.{UnitItems}
use Rattle.dwz_layout.specs.declared.walk.Slot.{Slot}
use Rattle.dwz_layout.specs.Attributes.{Content, OfEntry, OfParts, OfRoot, OutAttr, Read, WritingContext, attrs_of, here_of}
use Rattle.dwz_layout.specs.Entries.{items_slots}
use Rattle.dwz_layout.specs.Laid.{AllMade, FileMade, Made, made_from, no_file, no_unit, with_files}
use Rattle.dwz_encode.proofs.ByteLemmas.{below}
use Rattle.dwz_encode.specs.Pages.{numbers_in, units_page}
use Rattle.dwz_encode.specs.Shown.{ContentRefers, IsWritten, Keys, Refer, ShowFiles, ShowUnits, SlotRefers, SortRefers, There, unit_count}
use Rattle.dwz_encode.proofs.SectionLemmas.{AllAgree, IsRight, bytes_are, end_is, end_of, outs_of, places_len, places_of, places_right, roots_len, roots_of, roots_right, units_made}
use Rattle.dwz_encode.proofs.StepLemmas.{AttrAgrees, ContentAgrees, RowAgrees, SlotAgrees}
use Rattle.dwz_encode.proofs.UnitLemmas.{SortAgrees}

abbrev pub AllFixed : {K : Type 0} → List (FileOut K) → Type 0
AllFixed files = Each (λ f. Each FixedUnit f.units) files

abbrev pub AllStand : {K : Type 0} → Numbering K → List (FileOut K) → Type 0
AllStand n files = Each (λ f. UnitsStand n f.units 0) files

-- ---- what is laid of files

abbrev pub file_of : {K : Type 0} → EntryTable → ℕ → List UnitItems → FileOut K → FileMade
file_of k here units f = record { units = outs_of k here 0 [] units f.units; tables = tables_of [] f.units; end = end_of k 0 f.units }

unfoldable pub files_of : {K : Type 0} → EntryTable → ℕ → List (List UnitItems) → List (FileOut K) → List FileMade
files_of k here [] files = []
files_of k here (units ∷ order) [] = []
files_of k here (units ∷ order) (f ∷ files) = file_of k here units f ∷ files_of k (here + length units) order files

unfoldable pub file_places : {K : Type 0} → EntryTable → ℕ → List (List UnitItems) → List (FileOut K) → List ℕ → List ℕ
file_places k here [] files places = places
file_places k here (units ∷ order) [] places = places
file_places k here (units ∷ order) (f ∷ files) places = file_places k (here + length units) order files (places_of k here 0 units f.units places)

unfoldable pub file_roots : {K : Type 0} → EntryTable → List (List UnitItems) → List (FileOut K) → List ℕ
file_roots k [] files = []
file_roots k (units ∷ order) [] = []
file_roots k (units ∷ order) (f ∷ files) = roots_of k 0 units f.units ++ file_roots k order files

abbrev with_made : AllMade → Made → AllMade
with_made all m = record { files = all.files ++ record { units = m.units; tables = m.tables; end = m.at } ∷ []; places = m.places; roots = m.roots }

module _ {K : Type 0} (keys : Keys K) (k : EntryTable) where
  pub files_made : (here : ℕ) (order : List (List UnitItems)) (files : List (FileOut K)) (all : AllMade) → ShowFiles keys k here order files → AllFixed files
      → with_files k here order all ≡ record { files = all.files ++ files_of k here order files; places = file_places k here order files all.places; roots = all.roots ++ file_roots k order files }
  unfolding with_files files_of file_places file_roots
  files_made here [] [] all shows fixed =
      let files = sym (append-nil all.files) in
      let roots = sym (append-nil all.roots) in
      (λ i. let a : AllMade = record { files = files i; places = all.places; roots = roots i } in a)
  files_made here [] (f ∷ files) all shows fixed = absurd shows
  files_made here (units ∷ order) [] all shows fixed = absurd shows
  files_made here (units ∷ order) (f ∷ files) all shows fixed =
      let next = here + length units in
      let one = file_of k here units f in
      let places = places_of k here 0 units f.units all.places in
      let now : AllMade = record { files = all.files ++ one ∷ []; places = places; roots = all.roots ++ roots_of k 0 units f.units } in
      let more = append_assoc all.files (one ∷ []) (files_of k next order files) in
      let roots = append_assoc all.roots (roots_of k 0 units f.units) (file_roots k order files) in
      ap (λ (m : Made). with_files k next order (with_made all m)) (units_made k keys here units f.units (no_unit all.places all.roots) shows.0 fixed.0)
      ∙ files_made next order files now shows.1 fixed.1
      ∙ (λ i. let a : AllMade = record { files = more i; places = file_places k next order files places; roots = roots i } in a)

  -- ---- places and roots

  module _ (n : Numbering K) where
    pub row_right : (here : ℕ) (order : List (List UnitItems)) (files : List (FileOut K)) (i : ℕ) (places : List ℕ) → i < length places → ShowFiles keys k here order files → AllFixed files
        → AllStand n files
        → (IsRight keys n k i places) ⊎ IsWritten k i order → IsRight keys n k i (file_places k here order files places)
    unfolding file_places
    row_right here [] [] i places lt shows fixed there right = elim right [ inl r ↦ r | inr none ↦ absurd none ]
    row_right here [] (f ∷ files) i places lt shows fixed there right = absurd shows
    row_right here (units ∷ order) [] i places lt shows fixed there right = absurd shows
    row_right here (units ∷ order) (f ∷ files) i places lt shows fixed there right =
        let more = places_of k here 0 units f.units places in
        let less : i < length more = omega (arith, lt, places_len keys n k here 0 units f.units places) in
        let now : (IsRight keys n k i more) ⊎ IsWritten k i order = elim right [
          | inl r ↦ inl (places_right keys n k here 0 units f.units i places lt shows.0 fixed.0 there.0 (inl r))
          | inr w ↦ elim w [ inl h ↦ inl (places_right keys n k here 0 units f.units i places lt shows.0 fixed.0 there.0 (inr h)) | inr later ↦ inr later ]
        ] in
        row_right (here + length units) order files i more less shows.1 fixed.1 there.1 now

    root_there : (here : ℕ) (units : List UnitItems) (f : FileOut K) (later : List ℕ) (j many : ℕ) → ShowUnits keys k here units f.units → Each FixedUnit f.units → UnitsStand n f.units 0
        → j < length units + many
        → (length units ≤ j → j - length units < many → slice_index later (j - length units) ≡ n.place (keys.root (here + length units + (j - length units)))) → (j < length units) ⊎ (length units ≤ j)
        → slice_index (roots_of k 0 units f.units ++ later) j ≡ n.place (keys.root (here + j))
    root_there here units f later j many shows fixed there lt other (inl less) =
        let count = roots_len keys n k here 0 units f.units shows in
        get_or_append_left (roots_of k 0 units f.units) later 0 j (omega (arith, less, count)) ∙ roots_right keys n k here 0 units f.units j shows fixed there less
    root_there here units f later j many shows fixed there lt other (inr le) =
        let count = roots_len keys n k here 0 units f.units shows in
        let place : here + length units + (j - length units) ≡ here + j = omega (arith, le) in
        get_or-append_right (roots_of k 0 units f.units) later (length units) j 0 count le
        ∙ other le (omega (arith, le, lt))
        ∙ ap (λ (m : ℕ). n.place (keys.root m)) place

    pub root_right : (here : ℕ) (order : List (List UnitItems)) (files : List (FileOut K)) (j : ℕ) → ShowFiles keys k here order files → AllFixed files → AllStand n files → j < unit_count order
        → slice_index (file_roots k order files) j ≡ n.place (keys.root (here + j))
    unfolding file_roots unit_count
    root_right here [] files j shows fixed there lt = absurd (omega (arith, lt))
    root_right here (units ∷ order) [] j shows fixed there lt = absurd shows
    root_right here (units ∷ order) (f ∷ files) j shows fixed there lt =
        root_there here units f (file_roots k order files) j (unit_count order) shows.0 fixed.0 there.0 lt
        (λ le less. root_right (here + length units) order files (j - length units) shows.1 fixed.1 there.1 less) (below j (length units))

-- ---- numbers agree with what was kept

-- what is there is written, or stands already where the numbers say
pub record AreThere {K : Type 0} (keys : Keys K) (n : Numbering K) (k : EntryTable) (t : There) (places roots : List ℕ) (all : List (List UnitItems)) : Type 0 where
  pub rows : (i : ℕ) → t.row i → (i < length places) × ((IsRight keys n k i places) ⊎ IsWritten k i all)
  pub standing : (j : ℕ) → j < length roots → slice_index roots j ≡ n.place (keys.root j)
  pub units : t.units ≡ length roots + unit_count all

module _ {K : Type 0} (keys : Keys K) (n : Numbering K) (k : EntryTable) (t : There) (places roots : List ℕ) (all : List (List UnitItems)) (files : List (FileOut K))
    (shows : ShowFiles keys k (length roots) all files) (fixed : AllFixed files) (there : AllStand n files) (are : AreThere keys n k t places roots all) where
  abbrev pub Whole : AllMade
  Whole = record { files = files_of k (length roots) all files; places = file_places k (length roots) all files places; roots = roots ++ file_roots k all files }

  pub whole : made_from k all (no_file places roots) ≡ Whole
  whole = files_made keys k (length roots) all files (no_file places roots) shows fixed

  pub row_is : (i : ℕ) → t.row i → n.place (keys.row i) ≡ slice_index Whole.places i
  row_is i refers = let r = are.rows i refers in sym (row_right keys k n (length roots) all files i places r.0 shows fixed there r.1)

  root_by : (j : ℕ) → j < length roots + unit_count all → (j < length roots) ⊎ (length roots ≤ j) → slice_index Whole.roots j ≡ n.place (keys.root j)
  root_by j lt (inl less) = get_or_append_left roots (file_roots k all files) 0 j less ∙ are.standing j less
  root_by j lt (inr le) =
      let place : length roots + (j - length roots) ≡ j = omega (arith, le) in
      get_or-append_right roots (file_roots k all files) (length roots) j 0 refl le
      ∙ root_right keys k n (length roots) all files (j - length roots) shows fixed there (omega (arith, le, lt))
      ∙ ap (λ (h : ℕ). n.place (keys.root h)) place

  root_is : (j : ℕ) → j < t.units → n.place (keys.root j) ≡ slice_index Whole.roots j
  root_is j lt = sym (root_by j (omega (arith, lt, are.units)) (below j (length roots)))

  rows_agree : (numbers : List ℕ) → Each t.row numbers → Each (RowAgrees keys n (numbers_in Whole.places Whole.roots 0)) numbers
  rows_agree [] refer = tt
  rows_agree (x ∷ numbers) refer = (row_is x refer.0, rows_agree numbers refer.1)

  content_agrees : (c : Content) → ContentRefers t c → ContentAgrees keys n (numbers_in Whole.places Whole.roots 0) c
  content_agrees (Read raw) refers = tt
  content_agrees (OfEntry number) refers = row_is number refers
  content_agrees (OfRoot unit) refers = root_is unit refers
  content_agrees (OfParts parts numbers) refers = rows_agree numbers refers

  sort_agrees : (s : Sort) → SortRefers t s → SortAgrees keys n (numbers_in Whole.places Whole.roots 0) s
  sort_agrees (Compile root) refers = tt
  sort_agrees (OfType root s main) refers = row_is main refers
  sort_agrees (Partial line) refers = tt

  attrs_agree : (attrs : List OutAttr) → Each (λ a. ContentRefers t a.content) attrs → Each (AttrAgrees keys n (numbers_in Whole.places Whole.roots 0)) attrs
  attrs_agree [] refer = tt
  attrs_agree (a ∷ attrs) refer = (content_agrees a.content refer.0, attrs_agree attrs refer.1)

  slots_agree : (here : WritingContext) (slots : List Slot) → Each (SlotRefers t k here) slots → Each (SlotAgrees keys n (numbers_in Whole.places Whole.roots 0) k here) slots
  slots_agree here [] refer = tt
  slots_agree here (s ∷ slots) refer = (attrs_agree (attrs_of k here s.origin) refer.0, slots_agree here slots refer.1)

  pub all_agree : (here : ℕ) (order : List UnitItems) → Refer t k here order → AllAgree k keys n Whole.places Whole.roots here order
  all_agree here [] refer = tt
  all_agree here (o ∷ order) refer = (sort_agrees o.sort refer.0.0, slots_agree (here_of k here o.sort) (items_slots k o.sort o.items) refer.0.1, all_agree (suc here) order refer.1)

  -- ---- what is written of a file

  pub file_bytes : (here : ℕ) (order : List UnitItems) (f : FileOut K) → UnitsStand n f.units 0 → Each FixedUnit f.units → ShowUnits keys k here order f.units → Refer t k here order
      → units_page k Whole.places Whole.roots here order (outs_of k here 0 [] order f.units) ≡ units_bytes n (tables_of [] f.units) f.units
  file_bytes here order f stand fix show refer =
      bytes_are k keys n Whole.places Whole.roots here 0 [] (tables_of [] f.units) order f.units show fix stand (all_agree here order refer)
      (record { more = []; is = sym (append-nil (tables_of [] f.units)) })

  pub file_end : (f : FileOut K) → Each FixedUnit f.units → end_of k 0 f.units ≡ length (units_bytes n (tables_of [] f.units) f.units)
  file_end f fix = (let e = end_is k n 0 (tables_of [] f.units) f.units fix in omega (arith, e))
