use Rattle.std.proofs.Common.{◌<◌, ◌++◌, List, drop, map}
use Rattle.dwz_def_tops.specs.Spots.{SpaceName}
use Rattle.dwz_def_reading.specs.Units.{RawUnit, entries_in}
use Rattle.dwz_graph.specs.Chains.{AreSpacesAt}
use Rattle.dwz_label.specs.Labels.{counted, each_counted}
use Rattle.dwz_graph.specs.Resolved.{IsHere, around}
use Rattle.dwz_def_reading.specs.Lists.{Each}
use Rattle.dwz_unit.specs.Rows.{units_of}
use Rattle.dwz_label_entries.proofs.NamesLemmas.{NamesLeft}
use Rattle.dwz_label_words.proofs.places.put_names.Given as goal

abbrev pub invariant-loop-space : goal.invariant-loop-space
invariant-loop-space l = record {
  within : Each (λ i. i < entries_in (units_of l.units)) (drop l.space-index l.spaces);
  left : (u : RawUnit) (names : List SpaceName) → IsHere (units_of l.units) u l.here → AreSpacesAt (units_of l.units) (around l.sections (units_of l.units)) l.here.number names l.spaces
      → NamesLeft (units_of l.units) (around l.sections (units_of l.units)) l.here.number (drop l.space-index l.spaces) l.out.items (l.fn.out.items ++ each_counted counted (map (λ x. x.text) names));
}
