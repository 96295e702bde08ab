-- Over a finished common file: where its names stand, and those of the files behind it.
use Rattle.std.proofs.Common.{◌≡◌, ℕ, ◌+◌, ◌<◌, List, ◌++◌, length, map, Some, slice_get, sym, ap, subst, ◌∙◌, arith}
use Rattle.dwz_def_reading.specs.Documents.{DwUnit}
use Rattle.dwz_def_reading.specs.Lists.{In}
use Rattle.dwz_def_reading.specs.Meanings.{MeanUnits}
use Rattle.dwz_def_reading.specs.Units.{RawUnit}
use Rattle.dwz_def_reading.proofs.ListFacts.{get_first, got_below, got_in, got_there, in_map}
use Rattle.dwz_def_reading.proofs.MeaningUnits.{units_agree}
use Rattle.dwz_def_reading.proofs.UnitMeans.{unit_meant}
use Rattle.dwz_def_tops.specs.Lists.{NoneTwice}
use Rattle.dwz_def_tops.specs.Shown.{units_keys}
use Rattle.dwz_def_tops.specs.Spots.{EntryName, PartialRoot, file_numbers, same_spot}
use Rattle.dwz_def_tops.proofs.Members.{each_in}
use Rattle.dwz_def_images.specs.Homes.{Rule}
use Rattle.dwz_def_images.specs.Units.{common_units, file_units}
use Rattle.dwz_def_tops.proofs.UnitKeys.{keys_joined}
use Rattle.dwz_def_encoding.specs.Placing.{FileOut, UnitsStand}
use Rattle.dwz_def_encoding.proofs.SameLemmas.{spots_same}
use Rattle.dwz_def_readback.specs.Files.{file_out_by, fitted_by}
use Rattle.dwz_def_readback.proofs.NameLemmas.{file_names_by, fitted_fixed_by}
use Rattle.dwz_def_taken.specs.Beside.{Reused, reused_of}
use Rattle.dwz_def_taken.specs.Over.{standing_unit}
use Rattle.dwz_def_taken.proofs.CommonUnits.{common_stands}
use Rattle.dwz_unit.specs.Rows.{EntryRow, rows_of}
use Rattle.dwz_graph.proofs.IndexRoom.{units_same}
use Rattle.dwz_graph.proofs.TopLemmas.{get_later}
use Rattle.dwz_graph.specs.AllNames.{all_names}
use Rattle.dwz_layout_numbers.specs.OverLaws.{common_names}
use Rattle.dwz_layout_numbers.specs.Owners.{files_written as written_from}
use Rattle.dwz_layout_numbers.proofs.BesideNames.{every_names}
use Rattle.dwz_layout_numbers.proofs.OnceNames.{one_entry}
use Rattle.dwz_encode.specs.Laws.{AreApart}
use Rattle.dwz_encode.proofs.StandingPlaces.{files_stand, rows_placed}
use Rattle.dwz_law_layout.specs.Beside.{Over, Standing, move_by}
use Rattle.dwz_law_layout.specs.Facts.{AreFacts, RunFacts, common, docs, every, move, run, units, units_written, written}
use Rattle.dwz_law_layout.specs.Laid.{places_of}
use Rattle.dwz_law_layout.specs.Named.{keys, root_name}
use Rattle.dwz_law_layout.proofs.EntryNames.{is_of_entry}
use Rattle.dwz_law_layout.specs.OverLaws.{AreOver}
use Rattle.dwz_law_layout.proofs.CommonNames.{number_of, standing_at, standing_many}
use Rattle.dwz_law_layout.proofs.OverFacts.{many}

module _ (s : Standing) (f : RunFacts (Over s)) (o : AreOver s f) where
  abbrev r : Reused
  r = reused_of (docs f) s.doc

  pub units_are : s.file.units ≡ common_units (move f)
  units_are = o.stands ∙ ap (λ (rule : Rule). common_units (move_by (Over s) rule (docs f))) (sym o.rule)

  standing_are : s.file.units ≡ map (standing_unit (reused_of (docs f) s.doc)) (reused_of (docs f) s.doc).commons
  standing_are = o.stands ∙ common_stands (docs f) s.doc s.fixed o.placed o.fixed

  means : MeanUnits o.around s.file.raw s.doc.units
  means = ((units_agree o.around s.file.raw).ok s.doc.units).0 o.means

  -- ---- roots

  record HasRoot (j : ℕ) : Type 0 where
    unit : DwUnit EntryName
    is : slice_get s.file.units j ≡ Some unit
    root : unit.root.at ≡ PartialRoot j

  has_root : (j : ℕ) (u : RawUnit) → slice_get s.file.raw j ≡ Some u → HasRoot j
  has_root j u got =
      let v = unit_meant o.around s.file.raw s.doc.units means j u got in
      let x = standing_at (docs f) s.doc o.placed j v.0 v.2 in
      record { unit = x.0; is = ap (λ (us : List (DwUnit EntryName)). slice_get us j) standing_are ∙ x.1; root = x.2 }

  pub root_is : (j : ℕ) → j < length s.file.raw → (keys f).root j ≡ PartialRoot j
  root_is j lt =
      let got = got_there s.file.raw j lt in
      let h = has_root j got.0 got.1 in
      let there : slice_get (units_written f) j ≡ Some h.unit =
      get_first (common_units (move f)) (written_from (move f) (units f) 0 (written f)) j h.unit (ap (λ (us : List (DwUnit EntryName)). slice_get us j) (sym units_are) ∙ h.is) in
      ap root_name there ∙ h.root

  pub units_long : length (common_units (move f)) ≡ length s.file.raw
  units_long =
      ap (λ (us : List (DwUnit EntryName)). length us) (sym units_are ∙ standing_are) ∙ standing_many (docs f) s.doc o.placed
      ∙ sym (units_same o.around s.file.raw s.doc.units means)

  -- ---- places

  module _ (facts : AreFacts f) where
    abbrev outs : List (FileOut EntryName)
    outs = map (file_out_by (common f) (run f)) (file_numbers 0 (docs f))

    apart : AreApart s.file.rows (map (file_out_by (common f) (run f)) (file_numbers 0 (docs f)))
    apart =
        let shared = common_units (move f) in
        let others = file_units (move f) (units f) (file_numbers 0 (docs f)) in
        subst NoneTwice
        (keys_joined shared others
        ∙ ap (λ (w : List EntryName). w ++ units_keys others) (sym (o.rows.names ∙ ap (λ (us : List (DwUnit EntryName)). units_keys us) units_are))
        ∙ ap (λ (w : List EntryName). map (λ (row : EntryName × ℕ). row.0) s.file.rows ++ w) (sym (file_names_by (common f) (run f) (file_numbers 0 (docs f)))))
        facts.whole.apart

    -- a file stands from its beginning on
    pub file_stands : (n : ℕ) → In n (file_numbers 0 (docs f)) → UnitsStand (places_of f) (fitted_by (common f) (run f) n) 0
    file_stands n there =
        let x = file_out_by (common f) (run f) n in
        files_stand same_spot spots_same s.file.rows outs apart x (in_map (file_out_by (common f) (run f)) n (file_numbers 0 (docs f)) there) (fitted_fixed_by (common f) (run f) n)

    pub row_place : (name : EntryName) (place : ℕ) → In (name, place) s.file.rows → (places_of f).place name ≡ place
    row_place name place there =
        each_in (λ (p : EntryName × ℕ). (places_of f).place p.0 ≡ p.1) (name, place) s.file.rows (rows_placed same_spot spots_same s.file.rows outs apart) there

    pub root_place : (j : ℕ) (u : RawUnit) → slice_get s.file.raw j ≡ Some u → (places_of f).place ((keys f).root j) ≡ u.root.at
    root_place j u got =
        ap (places_of f).place (root_is j (got_below s.file.raw j u got)) ∙ row_place (PartialRoot j) u.root.at (o.rows.roots j u got)

    -- ---- entries

    -- an entry whose name stands in the common file: its number is behind those of the files, and it stands where it was read
    pub record IsStanding (i : ℕ) (name : EntryName) : Type 0 where
      pub j : ℕ
      pub at : i ≡ length (all_names (docs f)) + j
      pub row : EntryRow
      pub is : slice_get (rows_of s.file.raw) j ≡ Some row
      pub place : (places_of f).place name ≡ row.entry.at

    pub standing_entry : (i : ℕ) (name : EntryName) → slice_get (all_names (every f)) i ≡ Some name → In name (units_keys s.file.units) → IsStanding i name
    standing_entry i name named there =
        let of = is_of_entry (every f) name (got_in (all_names (every f)) i name named) in
        let x = number_of (docs f) s.doc o.placed name (subst (λ (us : List (DwUnit EntryName)). In name (units_keys us)) standing_are there) of in
        let names = common_names (docs f) s.doc in
        let j = x.1.0 in
        let behind : slice_get (all_names (every f)) (length (all_names (docs f)) + j) ≡ Some name =
        ap (λ (w : List EntryName). slice_get w (length (all_names (docs f)) + j)) (every_names (docs f) s.doc) ∙ get_later (all_names (docs f)) names j name x.1.1 in
        let low = got_below names j name x.1.1 in
        let long = many s f o in
        let row = got_there (rows_of s.file.raw) j (omega (arith, low, long)) in
        record {
          j = j;
          at = one_entry (every f) name i (length (all_names (docs f)) + j) named behind;
          row = row.0;
          is = row.1;
          place = row_place name row.0.entry.at (o.rows.entries j row.0 name row.1 x.1.1 x.0);
        }
