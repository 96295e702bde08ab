use Rattle.std.proofs.Common.{◌≡◌, ℕ, List, None, map, take}
use Rattle.dwz_check_index.specs.Both.{from_top}
use Rattle.dwz_check_index.specs.Index.{IsCrossIndex}
use Rattle.dwz_check_labels.specs.FilesSaid.{IsFileSaid}
use Rattle.dwz_def_check.specs.CrossNames.{cross_tops}
use Rattle.dwz_def_reading.specs.Documents.{DwUnit}
use Rattle.dwz_def_tops.specs.Spots.{EntryName, Top}
use Rattle.dwz_reuse.specs.Binding.{tree_binds}
use Rattle.dwz_move.specs.Bound.{HasTops}
use Rattle.dwz_move.specs.Known.{tops_of_refs}
use Rattle.dwz_unit.specs.Rows.{units_of}
use Rattle.dwz_reuse.proofs.top_binds.tops_bind.Given as goal

abbrev pub invariant-loop-top : goal.invariant-loop-top
invariant-loop-top l = (said : List (DwUnit ℕ)) (top : ℕ) (name : ℕ → EntryName) (tops : List Top) (unit : ℕ) → IsFileSaid l.fn.file None said → IsCrossIndex (from_top top) said l.fn.index
    → l.into ≡ tops_of_refs name (units_of l.fn.file.units) l.fn.file.resolved.refs.items → HasTops tops unit l.fn.own
    → l.flags.items ≡ map (tree_binds tops unit name) (take l.top-index (cross_tops said))
