use Rattle.std.proofs.Common.{◌≡◌, List, [], ◌++◌, length}
use Rattle.dwz_expand_sources.specs.Rows.{AreCopies}
use Rattle.dwz_expand_layout.specs.Entries.{UnitLines}
use Rattle.dwz_expand_layout.specs.Laid.{Made}
use Rattle.dwz_expand_passes.specs.Noted.{Noted}
use Rattle.dwz_expand_passes.proofs.NotedLemmas.{NotedFor}
use Rattle.dwz_expand_passes.specs.Passes.{entry_many}
use Rattle.dwz_expand_passes.specs.Tables.{IsTableOf}
use Rattle.dwz_expand_passes.proofs.OrderLemmas.{AreDone}
use Rattle.dwz_expand_passes.proofs.units.pass_all.Given as goal

abbrev pub invariant-loop-n : goal.invariant-loop-n
invariant-loop-n g l = record {
  copies : AreCopies l.file.sources.now l.numbers.roots l.copies;
  many : length l.copies.first ≡ entry_many l.file;
  table : IsTableOf l.file.own.sections.now l.last;
  order : List UnitLines;
  done : AreDone l.file l.n order;
  state : (made : Made) → g.P.Pass.done made l.fn.pass [] → g.P.Pass.done made l.pass order;
  given : List Noted;
  noted : NotedFor l.file l.n given;
  told : (before : List Noted) → g.P.Pass.noted l.fn.pass before → g.P.Pass.noted l.pass (before ++ given);
}
