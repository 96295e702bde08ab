use Rattle.std.proofs.Common.{◌≡◌, ℕ, false, List, Some, take}
use Rattle.std.specs.List.{list_any}
use Rattle.dwz_def_tops.specs.Spots.{Top, units_of}
use Rattle.dwz_graph.specs.Files.{docs_of}
use Rattle.dwz_layout_input.specs.Roots.{path_in}
use Rattle.dwz_layout_input.specs.Steps.{AreTops, HaveLine, KnowsTops}
use Rattle.dwz_layout_input.proofs.tops_beside.any_top_numbers_file.Given as goal

abbrev pub invariant-loop-top : goal.invariant-loop-top
invariant-loop-top l = (contents : List (List ℕ)) (ts : List Top) (line : ℕ) → KnowsTops contents l.files l.indexes l.tops → AreTops (units_of (docs_of contents)) ts l.list
    → HaveLine (units_of (docs_of contents)) ts (Some line) → list_any path_in (take l.top-index ts) ≡ false
