-- How many units, tops and partial units there are of files and of a finished common file.
use Rattle.std.proofs.Common.{◌≡◌, ℕ, ◌+◌, ◌≤◌, ◌^◌, List, length, map, None, ap, ◌∙◌, arith}
use Rattle.std.proofs.lemmas.List.{length-append, length-map}
use Rattle.dwz_check_labels.specs.FilesSaid.{around_given}
use Rattle.dwz_def_check.specs.CrossNames.{cross_tops}
use Rattle.dwz_def_reading.proofs.MeaningUnits.{units_agree}
use Rattle.dwz_def_reading.specs.Documents.{Doc, unit_map}
use Rattle.dwz_def_reading.specs.Meanings.{MeanUnits}
use Rattle.dwz_def_reading.specs.Units.{RawUnit}
use Rattle.dwz_def_taken.specs.Beside.{Reused, as_compile, look_units, own_tops, reused_of, together}
use Rattle.dwz_def_taken.specs.Laws.{IsReused}
use Rattle.dwz_def_taken.proofs.NamesOver.{named_over}
use Rattle.dwz_def_taken.proofs.PlaceLemmas.{whole}
use Rattle.dwz_def_tops.specs.Spots.{EntryName, FileUnit, in_file, tops_of, units_of}
use Rattle.dwz_def_tops.proofs.TopNumbers.{number_below, tops_numbers}
use Rattle.dwz_graph.proofs.IndexRoom.{units_same}
use Rattle.dwz_graph.specs.Files.{docs_of}
use Rattle.dwz_graph.specs.declared.file.File.{File}
use Rattle.dwz_label.specs.Nodes.{AreLeast}
use Rattle.dwz_match.specs.Parts.{HavePartTops}
use Rattle.dwz_match.proofs.CommonTops.{commons_are, spot_of}
use Rattle.dwz_match.proofs.LookCount.{look_many}
use Rattle.dwz_reuse.proofs.SeedFacts.{many_tops}
use Rattle.dwz_reuse.proofs.CrossFew.{cross_fit}
use Rattle.dwz_takes.specs.Takes.{AreBelow}
use Rattle.dwz_unit.proofs.ShownLemmas.{units_few}
use Rattle.dwz_unit.specs.Rows.{units_of as raw_units}
use Rattle.dwz_reuse.specs.Beside.{IsReadBeside}

module _ (contents : List (List ℕ)) (f : File) (doc : Doc ℕ) (b : IsReadBeside contents f doc) where
  abbrev docs : List (Doc ℕ)
  docs = docs_of contents

  abbrev r : Reused
  r = reused_of (docs_of contents) doc

  abbrev raw : List RawUnit
  raw = raw_units f.units

  re : IsReused r
  re = named_over docs doc b.placed

  mean : MeanUnits (around_given f None) raw doc.units
  mean = ((units_agree (around_given f None) raw).ok doc.units).0 b.read.said.means

  pub raw_few : length raw ≤ 2 ^ 28
  raw_few = let few = units_few raw in let low = b.read.said.few in omega (arith, few, low)

  pub cross_few : length (cross_tops doc.units) ≤ 2 ^ 28
  cross_few = let fit = cross_fit (around_given f None) raw doc.units mean in let low = b.read.said.few in omega (arith, fit, low)

  -- as many partial units as are stored
  pub parts_many : length r.commons ≡ length raw
  parts_many =
      let name = spot_of docs doc in
      ap (λ (w : List (FileUnit EntryName)). length w) (commons_are docs doc) ∙ length-map (map (unit_map name) (map as_compile doc.units)) (in_file (length docs))
      ∙ length-map (map as_compile doc.units) (unit_map name) ∙ length-map doc.units as_compile ∙ (let s = units_same (around_given f None) raw doc.units mean in let e : length doc.units ≡ length raw = omega (arith, s) in e)

  pub units_many : length (together r) ≡ length (units_of docs) + length raw
  units_many = let parts = parts_many in length-append r.units r.commons ∙ (let e : length r.units + length r.commons ≡ length (units_of docs) + length raw = omega (arith, parts) in e)

  pub tops_many : length (tops_of (together r)) ≡ own_tops r + length (cross_tops doc.units)
  tops_many = many_tops docs doc b.placed b.read.partial

  pub looks_many : length (tops_of (look_units r)) ≡ length (tops_of (together r))
  looks_many = look_many r (whole r re)

  pub classes_many : (classes : List ℕ) → AreLeast (look_units r) classes → length classes ≡ own_tops r + length (cross_tops doc.units)
  classes_many classes least = least.len ∙ looks_many ∙ tops_many

  -- tops of partial units have classes
  pub parts_low : (classes : List ℕ) → AreLeast (look_units r) classes → (tops : List (List ℕ)) → HavePartTops r tops → AreBelow (length classes) tops
  parts_low classes least tops h p c i =
      let o = (h.each p c).0 i in
      let below = number_below 0 (tops_of (together r)) o.0 (tops_numbers (together r)) o.1.0 in
      let many = least.len ∙ looks_many in
      let number = o.2 in
      omega (arith, below, many, number)
