use Rattle.std.proofs.Common.{◌≡◌, ℕ, List, take}
use Rattle.dwz_check_index.specs.Both.{from_top}
use Rattle.dwz_check_index.specs.Index.{IsCrossIndex}
use Rattle.dwz_def_reading.specs.Documents.{Doc}
use Rattle.dwz_def_taken.specs.Beside.{own_tops, reused_of}
use Rattle.dwz_reuse.specs.Read.{IsCommonRead}
use Rattle.dwz_reuse.specs.Into.{common_name}
use Rattle.dwz_move.specs.Known.{tops_of_refs}
use Rattle.dwz_unit.specs.Rows.{units_of}
use Rattle.dwz_reuse.proofs.into.tops_into.Given as goal

abbrev pub invariant-loop-entry : goal.invariant-loop-entry
invariant-loop-entry l = (docs : List (Doc ℕ)) (doc : Doc ℕ) → IsCommonRead l.fn.common doc → IsCrossIndex (from_top (own_tops (reused_of docs doc))) doc.units l.index
    → l.into.items ≡ tops_of_refs (common_name docs doc) (units_of l.fn.common.units) (take l.entry-index l.refs)
