-- Where names of a finished common file stand that was read beside files: each at the place of what it names.
use Rattle.std.proofs.Common.{◌≡◌, ℕ, ◌+◌, List, [], ◌∷◌, ◌++◌, length, map, Some, slice_get, sym, ap, subst, ◌∙◌, inl, inr}
use Rattle.std.specs.List.{zip}
use Rattle.dwz_def_reading.specs.Documents.{Doc}
use Rattle.dwz_def_reading.specs.Files.{no_files_before, sources_of}
use Rattle.dwz_def_reading.specs.Lists.{Each, In}
use Rattle.dwz_def_reading.specs.Meanings.{Around, MeanUnits, MeansUnit, all_places}
use Rattle.dwz_def_reading.specs.Units.{RawUnit}
use Rattle.dwz_def_reading.specs.Values.{AreBytes}
use Rattle.dwz_def_reading.proofs.ListFacts.{got_in, got_map, in_right}
use Rattle.dwz_def_reading.proofs.MeaningUnits.{unit_agrees}
use Rattle.dwz_def_reading.proofs.UnitMeans.{unit_meant}
use Rattle.dwz_def_tops.specs.Shown.{units_keys}
use Rattle.dwz_def_tops.specs.Spots.{EntryName, PartialRoot, RootOf, tops_of, units_of}
use Rattle.dwz_def_tops.proofs.NameLists.{in_firsts}
use Rattle.dwz_def_readback.proofs.ReadBuilt.{own}
use Rattle.dwz_def_taken.specs.Beside.{compile_doc, offsets_doc}
use Rattle.dwz_def_taken.specs.Laws.{ArePlacedOver}
use Rattle.dwz_def_taken.specs.Over.{as_part}
use Rattle.dwz_def_taken.proofs.NamesOver.{common_spots}
use Rattle.dwz_def_over.specs.Over.{AreOverFiles, OverFiles, standing_file, standing_units}
use Rattle.dwz_def_over.proofs.CommonOver.{has_names}
use Rattle.dwz_def_over.proofs.PlacedOver.{compile_keys, means_offsets, placed_over}
use Rattle.dwz_unit.specs.Rows.{EntryRow, rows_of}
use Rattle.dwz_graph.proofs.PlaceLemmas.{places_are}
use Rattle.dwz_graph.specs.AllNames.{all_names}
use Rattle.dwz_layout_numbers.specs.OverLaws.{common_names}
use Rattle.dwz_layout_numbers.proofs.BesideNames.{every_names}
use Rattle.dwz_law_layout.proofs.EntryNames.{IsOfEntry, is_of_entry}
use Rattle.dwz_law_layout.specs.CommonRows.{StandingRowsLaw}
use Rattle.dwz_law_layout.proofs.CommonNames.{entry_spot, firsts_are, keys_are, name_at, name_is, part_kept, part_number, root_at}

zip_in : (f : ℕ → EntryName) (xs : List ℕ) (n : ℕ) → In n xs → In (f n, n) (zip (map f xs) xs)
zip_in f [] n there = absurd there
zip_in f (x ∷ xs) n (inl e) = inl (λ i. (f (e i), e i))
zip_in f (x ∷ xs) n (inr later) = inr (zip_in f xs n later)

-- the name of an entry of the common file is one of an entry
pub name_entry : (docs : List (Doc ℕ)) (common : Doc ℕ) (j : ℕ) (s : EntryName) → slice_get (common_names docs common) j ≡ Some s → IsOfEntry s
name_entry docs common j s e =
    is_of_entry (docs ++ compile_doc common ∷ []) s
    (subst (λ (w : List EntryName). In s w) (sym (every_names docs common)) (in_right s (all_names docs) (common_names docs common) (got_in (common_names docs common) j s e)))

module _ (x : OverFiles) (bytes : Each AreBytes x.contents) (are : AreOverFiles x) where
  abbrev docs : List (Doc ℕ)
  docs = x.said.docs

  abbrev common : Doc ℕ
  common = offsets_doc x.said.common

  p : ArePlacedOver docs (offsets_doc x.said.common)
  p = placed_over x bytes are

  abbrev around : Around ℕ
  around = own (sources_of x.common) (all_places x.raw)

  means : MeanUnits (own (sources_of x.common) (all_places x.raw)) x.raw (offsets_doc x.said.common).units
  means = means_offsets (length x.contents) no_files_before x.common x.raw x.said.common are.common

  abbrev rows : List (EntryName × ℕ)
  rows = (standing_file x).rows

  abbrev places : List ℕ
  places = units_keys (offsets_doc x.said.common).units

  keys_here : units_keys (standing_units x) ≡ map (name_at docs common p) places
  keys_here = keys_are docs common p ∙ ap (map (name_at docs common p)) (compile_keys common.units)

  -- what was read at a place has a row
  row_at : (n : ℕ) (s : EntryName) → In (n, s) (common_spots docs common) → In (as_part (length (units_of docs)) s, n) rows
  row_at n s there =
      let named : In n places = subst (In n) (firsts_are docs common p ∙ compile_keys common.units) (in_firsts (n, s) (common_spots docs common) there) in
      subst (λ (w : EntryName). In (w, n) rows) (name_is docs common p n s there)
      (subst (λ (w : List EntryName). In (name_at docs common p n, n) (zip w places)) (sym keys_here) (zip_in (name_at docs common p) places n named))

  root_row : (j : ℕ) (u : RawUnit) → slice_get x.raw j ≡ Some u → In (PartialRoot j, u.root.at) rows
  root_row j u got =
      let v = unit_meant around x.raw common.units means j u got in
      let meant : MeansUnit around u v.0 = ((unit_agrees around u).ok v.0).0 v.1 in
      subst (λ (n : ℕ). In (PartialRoot j, n) rows) meant.root.place
      (subst (λ (w : EntryName). In (w, v.0.root.at) rows) (part_number docs common p j) (row_at v.0.root.at (RootOf (length (units_of docs) + j)) (root_at docs common p j v.0 v.2)))

  entry_row : (j : ℕ) (row : EntryRow) (name : EntryName) → slice_get (rows_of x.raw) j ≡ Some row → slice_get (common_names docs common) j ≡ Some name → ((i : ℕ) → name ≡ RootOf i → ⊥)
      → In (name, row.entry.at) rows
  entry_row j row name got named no_root =
      let place : slice_get (all_places x.raw) j ≡ Some row.entry.at =
      ap (λ (w : List ℕ). slice_get w j) (sym (places_are x.raw)) ∙ got_map (λ (r : EntryRow). r.entry.at) (rows_of x.raw) j row got in
      let spot = entry_spot (sources_of x.common) (all_places x.raw) x.raw common.units means (length (units_of docs)) (length (tops_of (units_of docs))) j row.entry.at name place named in
      subst (λ (w : EntryName). In (w, row.entry.at) rows) (part_kept (length (units_of docs)) name (name_entry docs common j name named) no_root) (row_at row.entry.at name spot)

pub standing_rows : StandingRowsLaw
standing_rows x bytes are = record {
  names = (has_names x bytes are).rows;
  roots = root_row x bytes are;
  entries = entry_row x bytes are;
}
