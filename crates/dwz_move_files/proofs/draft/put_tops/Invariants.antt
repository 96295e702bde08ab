use Rattle.std.proofs.Common.{◌≡◌, ℕ, suc, ◌+◌, ◌-◌, List, Some, slice_get}
use Rattle.dwz_def_tops.specs.Spots.{Top, units_of}
use Rattle.dwz_graph.specs.Files.{docs_of}
use Rattle.dwz_graph.specs.declared.index.TopEntry.{TopEntry}
use Rattle.dwz_move_files.specs.Named.{AreNamed}
use Rattle.dwz_move.specs.Bound.{HasTops}
use Rattle.dwz_graph.specs.Across.{IsFileAmong}
use Rattle.dwz_move_files.specs.Drafts.{IsDraft}
use Rattle.dwz_move_files.specs.Ranges.{HaveUnits}
use Rattle.dwz_move_files.proofs.draft.put_tops.Given as goal

abbrev pub invariant-loop-i : goal.invariant-loop-i
invariant-loop-i l = record {
  own : (all : List Top) (j : ℕ) (y : TopEntry) → HaveUnits all l.first l.tops → suc j ≡ l.i → slice_get l.tops j ≡ Some y → HasTops all y.unit l.own;
  draft : (contents : List (List ℕ)) (bytes : List ℕ) (is : IsFileAmong contents l.number bytes l.file l.index) → AreNamed (units_of (docs_of contents)) l.named
      → (from count : ℕ) → from + count ≡ l.index.starts.top + l.start → IsDraft (docs_of contents) from count l.fn.draft → IsDraft (docs_of contents) from (count + (l.i - l.start)) l.draft;
}
