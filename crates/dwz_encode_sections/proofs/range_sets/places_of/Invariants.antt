use Rattle.std.proofs.Common.{◌≡◌, map, take}
use Rattle.dwz_aranges.specs.declared.sets.Set.{Set}
use Rattle.dwz_encode_sections.specs.Ranges.{beside}
use Rattle.dwz_encode_sections.proofs.range_sets.places_of.Given as goal

abbrev pub invariant-loop-set : goal.invariant-loop-set
invariant-loop-set l = l.numbers.items ≡ map (λ (s : Set). beside l.starts l.places s.unit) (take l.set-index l.sets)
