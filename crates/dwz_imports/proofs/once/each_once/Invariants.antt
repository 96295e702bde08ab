use Rattle.std.proofs.Common.{◌≡◌, ◌≤◌, All, length, map, take}
use Rattle.dwz_imports.specs.Stored.{edges_of, once_each}
use Rattle.dwz_imports.proofs.once.each_once.Given as goal

abbrev pub invariant-loop-key : goal.invariant-loop-key
invariant-loop-key l = record {
  edges : l.edges.items ≡ edges_of 0 (map once_each (take l.key l.groups));
  len : length l.marks.items ≡ l.count;
  low : All (λ m. m ≤ l.key) l.marks.items;
}
