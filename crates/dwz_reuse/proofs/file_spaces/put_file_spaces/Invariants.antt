use Rattle.std.proofs.Common.{◌≡◌, ◌≤◌, ◌+◌, ℕ, List, [], take}
use Rattle.dwz_def_tops.specs.Spots.{units_of}
use Rattle.dwz_check_sides.specs.Names.{AreApart}
use Rattle.dwz_graph.specs.Files.{AreKept, docs_of}
use Rattle.dwz_graph.specs.Index.{Index}
use Rattle.dwz_graph.specs.Indexed.{AreIndexes}
use Rattle.dwz_graph.specs.Across.{starts_at}
use Rattle.dwz_graph.specs.Few.{entries_in_files}
use Rattle.dwz_reuse.specs.FileSpaces.{AreUnitSpaces}
use Rattle.dwz_reuse.proofs.file_spaces.put_file_spaces.Given as goal

abbrev pub invariant-loop-number : goal.invariant-loop-number
invariant-loop-number l = record {
  next_is : l.next ≡ 1 + entries_in_files (take l.number l.files);
  first_low : l.first ≤ entries_in_files (take l.number l.files);
  first_is : (contents : List (List ℕ)) (all : List Index) → AreKept contents l.files → AreIndexes (docs_of contents) all → l.first ≡ (starts_at (docs_of contents) all l.number).unit;
  apart : AreApart l.fn.known 1 → AreApart l.known l.next;
  spaces : (contents : List (List ℕ)) (all : List Index) → AreKept contents l.files → AreIndexes (docs_of contents) all → AreApart l.fn.known 1 → l.fn.edges.items ≡ []
      → AreUnitSpaces l.known (units_of (docs_of contents)) (starts_at (docs_of contents) all l.number).unit l.edges.items;
}
