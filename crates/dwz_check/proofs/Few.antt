-- Files that were read have few nodes.
use Rattle.std.proofs.Common.{◌≡◌, ℕ, ◌+◌, ◌-◌, ◌^◌, ◌<◌, ◌≤◌, List, length, map, ap, ◌∙◌, arith}
use Rattle.std.proofs.lemmas.List.{length-map}
use Rattle.dwz_def_reading.specs.Documents.{DwUnit, unit_map}
use Rattle.dwz_def_cross.specs.Tops.{CrossTop}
use Rattle.dwz_def_check.specs.CrossLabels.{cross_top_map}
use Rattle.dwz_def_check.specs.CrossNames.{cross_tops}
use Rattle.dwz_def_check.specs.CrossNodes.{lone_entries, node_count}
use Rattle.dwz_check_columns.specs.Shows.{beside}
use Rattle.dwz_check_index.proofs.MapLemmas.{mapped}
use Rattle.dwz_graph.specs.Surroundings.{behind_own}

-- in each file and in the common one no more than 2^28
pub count_fits : (a b c : List (DwUnit ℕ)) → length (cross_tops a) + length (lone_entries a) ≤ 2 ^ 28 → length (cross_tops b) + length (lone_entries b) ≤ 2 ^ 28
    → length (cross_tops c) + length (lone_entries c) ≤ 2 ^ 28 → node_count (beside a c) (beside b c) < 2 ^ 32 - 1
count_fits a b c x y z =
    let many : length (cross_tops (map (unit_map behind_own) c)) ≡ length (cross_tops c) =
    ap (λ (w : List (CrossTop ℕ)). length w) ((mapped behind_own c).tops) ∙ length-map (cross_tops c) (cross_top_map behind_own) in
    omega (arith, x, y, z, many)
