use Rattle.std.proofs.Common.{ℕ, take}
use Rattle.dwz_def_explain.specs.Texts.{entry_along}
use Rattle.dwz_def_explain.specs.What.{Subtree}
use Rattle.dwz_def_reading.specs.Meanings.{MeaningContext}
use Rattle.dwz_def_tops.specs.Spots.{EntryName}
use Rattle.dwz_explain.specs.Shown.{HasSubtree, MeansSubtree}
use Rattle.dwz_unit.specs.Rows.{units_of}
use Rattle.dwz_explain.proofs.children.find_entry.Given as goal

abbrev pub invariant-loop-index : goal.invariant-loop-index
invariant-loop-index l = record {
  has : HasSubtree (units_of l.units) l.at;
  along : (s : MeaningContext ℕ) (name : ℕ → EntryName) (x : Subtree) → MeansSubtree s name (units_of l.units) l.entry x
      → MeansSubtree s name (units_of l.units) l.at (entry_along (take l.index-index l.path) x);
}
