-- Where the entries of the lists of a layout are read: file by file.
use Rattle.std.proofs.Common.{◌≡◌, ℕ, zero, suc, List, [], ◌∷◌, map, Option, None, Some, slice_get, refl, sym, ap, ◌∙◌}
use Rattle.std.specs.Global.{Vec}
use Rattle.std.specs.Option.{option_map, option_map_or}
use Rattle.std.proofs.lemmas.Option.{slice_get-map}
use Rattle.dwz_def_reading.proofs.ListFacts.{same_got}
use Rattle.dwz_def_reading.specs.Files.{Limits, limits_after, no_files_before, sources_of}
use Rattle.dwz_graph.specs.Resolved.{sources_view}
use Rattle.dwz_unit.specs.Rows.{EntryRow, rows_of, units_of}
use Rattle.dwz_graph.specs.declared.file.File.{File}
use Rattle.dwz_graph.specs.Files.{AreKept, AreRead}
use Rattle.dwz_layout.specs.declared.known.FileRows.{FileRows}
use Rattle.dwz_layout.specs.declared.known.EntryTable.{EntryTable}
use Rattle.dwz_layout.specs.declared.known.Row.{Row}
use Rattle.dwz_layout.specs.Known.{row_at}
use Rattle.dwz_encode_common.specs.declared.places.Place.{Place}
use Rattle.dwz_encode_common.specs.Steps.{Giving, IsPlace}
use Rattle.dwz_encode_common.specs.Stored.{by_row, file_bases, slots_base, units_in}

-- ---- files

pub record FileAt (contents : List (List ℕ)) (i : ℕ) (x : File) : Type 0 where
  pub bytes : List ℕ
  pub there : slice_get contents i ≡ Some bytes
  pub sources : sources_view x.sections ≡ sources_of bytes

read_at : (l : Limits) (n : ℕ) (contents : List (List ℕ)) (files : List File) (end : Limits) → AreRead l n contents files end
    → (i : ℕ) (x : File) → slice_get files i ≡ Some x → FileAt contents i x
read_at l n [] [] end are i x e = absurd cc
read_at l n [] (y ∷ files) end are i x e = absurd are
read_at l n (b ∷ contents) [] end are i x e = absurd cc
read_at l n (b ∷ contents) (y ∷ files) end are zero x e =
    let same : y ≡ x = cc in
    record { bytes = b; there = refl; sources = ap (λ (w : File). sources_view w.sections) (sym same) ∙ are.0.sections }
read_at l n (b ∷ contents) (y ∷ files) end are (suc i) x e =
    let r = read_at (limits_after l b (units_of y.units)) (suc n) contents files end are.1 i x e in
    record { bytes = r.bytes; there = r.there; sources = r.sources }

pub file_at : (contents : List (List ℕ)) (files : List File) → AreKept contents files → (i : ℕ) (x : File) → slice_get files i ≡ Some x
    → FileAt contents i x
file_at contents files kept i x e = read_at no_files_before 0 contents files kept.end kept.are i x e

read_none : (l : Limits) (n : ℕ) (contents : List (List ℕ)) (files : List File) (end : Limits) → AreRead l n contents files end
    → (i : ℕ) → slice_get files i ≡ None → slice_get contents i ≡ None
read_none l n [] files end are i e = refl
read_none l n (b ∷ contents) [] end are i e = absurd are
read_none l n (b ∷ contents) (y ∷ files) end are zero e = absurd cc
read_none l n (b ∷ contents) (y ∷ files) end are (suc i) e = read_none (limits_after l b (units_of y.units))
    (suc n) contents files end are.1 i e

-- ---- entries that aren't there

abbrev by_bytes : EntryTable → Row → Giving → Option (List ℕ) → Option EntryRow → List (List ℕ)
by_bytes k r give bytes row = option_map_or (λ b. option_map_or (give (sources_of b) (units_in k r.file)) row []) bytes []

pub no_file : (contents : List (List ℕ)) (files : List File) (k : EntryTable) (r : Row) → AreKept contents files → slice_get files r.file ≡ None
    → (give : Giving) → by_row contents k r give ≡ []
no_file contents files k r kept none give =
    ap (λ (o : Option (List ℕ)). by_bytes k r give o (row_at k r))
    (read_none no_files_before 0 contents files kept.end kept.are r.file none)

pub no_row : (contents : List (List ℕ)) (k : EntryTable) (r : Row) → row_at k r ≡ None → (give : Giving) → by_row contents k r give ≡ []
no_row contents k r none give = ap (by_bytes k r give (slice_get contents r.file)) none ∙ go (slice_get contents r.file) where
  go : (o : Option (List ℕ)) → by_bytes k r give o None ≡ []
  go None = refl
  go (Some b) = refl

pub rows_none : (k : EntryTable) (r : Row) (rows : List FileRows) → rows ≡ k.files.items → slice_get rows r.file ≡ None → row_at k r ≡ None
rows_none k r rows same none =
    ap (λ (o : Option FileRows). slice_get (option_map_or (λ (w : FileRows). rows_of (units_of w.units.now)) o []) r.entry)
    (ap (λ (w : List FileRows). slice_get w r.file) (sym same) ∙ none)

-- ---- an entry that is there

module _ (k : EntryTable) (r : Row) (rows : FileRows) (found : slice_get k.files.items r.file ≡ Some rows) where
  pub units_found : units_in k r.file ≡ units_of rows.units.now
  units_found = ap (λ (o : Option FileRows). option_map_or (λ (w : FileRows). units_of w.units.now) o []) found

  pub row_found : row_at k r ≡ slice_get (rows_of (units_of rows.units.now)) r.entry
  row_found = ap (λ (o : Option FileRows). slice_get (option_map_or (λ (w : FileRows). rows_of (units_of w.units.now)) o []) r.entry) found

  -- the bases of its units
  pub bases_found : (all : List (Vec (Option ℕ))) → map (λ (v : Vec (Option ℕ)). v.items) all ≡ map file_bases k.files.items
      → (own : Vec (Option ℕ)) → slice_get all r.file ≡ Some own → own.items ≡ map slots_base (units_of rows.units.now)
  bases_found all same own at =
      let mine = slice_get-map (λ (v : Vec (Option ℕ)). v.items) all r.file ∙ ap (option_map (λ (v : Vec (Option ℕ)). v.items)) at in
      let theirs = slice_get-map file_bases k.files.items r.file ∙ ap (option_map file_bases) found in
      same_got (map (λ (v : Vec (Option ℕ)). v.items) all) r.file own.items (file_bases rows) mine
      (ap (λ (w : List (List (Option ℕ))). slice_get w r.file) same ∙ theirs)

-- what the entry gives
pub place_gives : (contents : List (List ℕ)) (k : EntryTable) (r : Row) (p : Place) → (is : IsPlace contents k r p) → (give : Giving)
    → by_row contents k r give ≡ give (sources_view p.sections.now) (units_of p.units.now) is.row
place_gives contents k r p is give =
    (λ i. by_bytes k r give (is.bytes_are i) (is.there i))
    ∙ (λ i. give (sym is.sources i) (is.units i) is.row)
