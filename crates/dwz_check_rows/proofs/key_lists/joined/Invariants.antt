use Rattle.std.proofs.Common.{◌≡◌, ◌∷◌, [], take}
use Rattle.std.specs.Prelude.{slice_index_or}
use Rattle.std.specs.List.{flat_map}
use Rattle.dwz_check_rows.proofs.key_lists.joined.Given as goal

abbrev pub invariant-loop-import : goal.invariant-loop-import
invariant-loop-import l = l.keys.items ≡ flat_map (λ y. slice_index_or l.lists y []) (l.unit ∷ take l.import-index l.imports)
