use Rattle.std.proofs.Common.{◌≡◌, ◌≤◌, ◌-◌, length}
use Rattle.dwz_bytes.specs.Input.{input}
use Rattle.dwz_def_reading.specs.Ranges.{sets_at}
use Rattle.dwz_aranges.specs.Views.{any_unit, set_views}
use Rattle.dwz_aranges.proofs.WholeLemmas.{sets_into}
use Rattle.dwz_aranges.proofs.reading.read.Given as goal

abbrev pub invariant-loop-at : goal.invariant-loop-at
invariant-loop-at l = record {
  within : l.at ≤ length l.section;
  same : sets_into (set_views l.sets.items) (input l.section l.at) ≡ sets_at any_unit (input l.section 0);
}

abbrev pub decreases-loop-at : goal.decreases-loop-at
decreases-loop-at l = length l.section - l.at
