use Rattle.std.proofs.Common.{◌≡◌, length, take}
use Rattle.dwz_def_expand.specs.OneFile.{OneFile}
use Rattle.dwz_expand_sources.specs.Rows.{AreCopies}
use Rattle.dwz_expand_layout.specs.Laid.{layout_view}
use Rattle.dwz_expand.specs.Walked.{HasLists, told_of}
use Rattle.dwz_expand_passes.specs.Noted.{plan_sources}
use Rattle.dwz_expand_passes.specs.Passes.{entry_many}
use Rattle.dwz_expand.proofs.numbers.told_lists.Given as goal

abbrev pub invariant-loop-n : goal.invariant-loop-n
invariant-loop-n l = record {
  copies : AreCopies l.file.sources.now l.numbers.roots l.copies;
  many : length l.copies.first ≡ entry_many l.file;
  told : (f : OneFile) → HasLists f l.file (layout_view l.layout) → l.told.items ≡ told_of f l.file (plan_sources l.file.sources.now.ranges 0 (take l.n l.file.sources.now.units));
}
