-- A common file has few units.
use Rattle.std.proofs.Common.{◌<◌, ◌^◌, ℕ, List, None, length, ap, ◌∙◌, arith}
use Rattle.std.proofs.lemmas.List.{length-map}
use Rattle.dwz_def_reading.proofs.MeaningUnits.{units_agree}
use Rattle.dwz_def_reading.specs.Documents.{Doc}
use Rattle.dwz_def_check.specs.CrossLists.{numbered_units}
use Rattle.dwz_check_index.specs.Both.{from_top}
use Rattle.dwz_check_index.specs.Index.{CrossIndex, IsCrossIndex, start_of}
use Rattle.dwz_check_index.specs.declared.index.UnitStart.{UnitStart}
use Rattle.dwz_check_labels.specs.FilesSaid.{around_given}
use Rattle.dwz_check_sides.proofs.UnitNodes.{numbered_long}
use Rattle.dwz_graph.proofs.IndexRoom.{units_same}
use Rattle.dwz_graph.specs.declared.file.File.{File}
use Rattle.dwz_unit.proofs.ShownLemmas.{units_few}
use Rattle.dwz_unit.specs.Rows.{units_of}
use Rattle.dwz_reuse.specs.Read.{IsCommonRead}

pub index_units : (f : File) (doc : Doc ℕ) → IsCommonRead f doc → (first : ℕ) (x : CrossIndex) → IsCrossIndex (from_top first) doc.units x → length x.units < 2 ^ 32
index_units f doc r first x is =
    let means = ((units_agree (around_given f None) (units_of f.units)).ok doc.units).0 r.said.means in
    let same = units_same (around_given f None) (units_of f.units) doc.units means in
    let many = ap (λ (w : List UnitStart). length w) is.units ∙ length-map (numbered_units first 0 doc.units) start_of ∙ numbered_long first 0 doc.units in
    let few = units_few (units_of f.units) in
    let low = r.said.few in
    omega (arith, same, many, few, low)
