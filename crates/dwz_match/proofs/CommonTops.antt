-- The tops of a common file behind those of the files.
use Rattle.std.proofs.Common.{◌≡◌, ℕ, ◌+◌, List, ◌++◌, length, map, ap, ◌∙◌, arith}
use Rattle.std.proofs.lemmas.List.{append-nil}
use Rattle.dwz_def_reading.specs.Documents.{Doc, DwUnit, unit_map}
use Rattle.dwz_def_tops.specs.Spots.{EntryName, FileUnit, Top, in_file, named_files, spot_in, spots_from, tops_from, tops_of, units_of}
use Rattle.dwz_def_tops.proofs.FiledTops.{counted, tops_length, tops_append}
use Rattle.dwz_def_taken.specs.Beside.{Reused, as_compile, own_tops, reused_of, together}

-- units of a common file, read as compile units, with names for places
abbrev pub whole_units : ℕ → (ℕ → EntryName) → List (DwUnit ℕ) → List (FileUnit EntryName)
whole_units file name units = map (in_file file) (map (unit_map name) (map as_compile units))

module _ (docs : List (Doc ℕ)) (common : Doc ℕ) where
  abbrev r : Reused
  r = reused_of docs common

  -- the name of a place of the common file
  abbrev pub spot_of : ℕ → EntryName
  spot_of = spot_in (spots_from (length (units_of docs)) (length (tops_of (units_of docs))) (map as_compile common.units))

  abbrev pub common_tops : List Top
  common_tops = tops_from (length r.units) (own_tops r) (whole_units (length docs) spot_of common.units)

  pub commons_are : r.commons ≡ whole_units (length docs) spot_of common.units
  unfolding named_files
  commons_are = append-nil (whole_units (length docs) spot_of common.units)

  pub all_tops : tops_of (together r) ≡ tops_of r.units ++ common_tops
  all_tops =
      let many = tops_length 0 0 r.units in
      let unit : 0 + length r.units ≡ length r.units = omega arith in
      let top : 0 + counted r.units ≡ own_tops r = omega (arith, many) in
      tops_append 0 0 r.units r.commons ∙ ap (λ (i : ℕ). tops_of r.units ++ tops_from i (0 + counted r.units) r.commons) unit
      ∙ ap (λ (i : ℕ). tops_of r.units ++ tops_from (length r.units) i r.commons) top
      ∙ ap (λ (w : List (FileUnit EntryName)). tops_of r.units ++ tops_from (length r.units) (own_tops r) w) commons_are
