use Rattle.std.proofs.Common.{◌≡◌, ℕ, length, take}
use Rattle.std.specs.List.{All, slice_get}
use Rattle.dwz_unit.specs.Spans.{IsWithin}
use Rattle.dwz_unit.proofs.used.used_spans.Given as goal

abbrev pub invariant-loop-row : goal.invariant-loop-row
invariant-loop-row l = record {
  len : length l.used.items ≡ length l.spans;
  within : (items : ℕ) → All (IsWithin items) l.spans → All (IsWithin items) l.used.items;
  used : All (λ row. slice_get l.used.items row.decl ≡ slice_get l.spans row.decl) (take l.row-index l.entries);
}
