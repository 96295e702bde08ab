use Rattle.std.proofs.Common.{◌++◌, ℕ, List, drop}
use Rattle.dwz_def_reading.specs.Documents.{DwUnit}
use Rattle.dwz_def_reading.specs.Meanings.{Around}
use Rattle.dwz_label.specs.Labels.{counted, each_counted}
use Rattle.dwz_check_index.specs.Index.{AreSpacesOf, listed_units}
use Rattle.dwz_check_labels.specs.Files.{Says}
use Rattle.dwz_check_labels.proofs.SpaceNames.{NamesLeft}
use Rattle.dwz_check_labels.proofs.space_names.put_space_names.Given as goal

abbrev pub invariant-loop-space : goal.invariant-loop-space
invariant-loop-space l = (around : Around ℕ) (said : List (DwUnit ℕ)) (names : List (List ℕ)) → Says l.file around said → AreSpacesOf (listed_units said) l.spaces names
    → NamesLeft (listed_units said) (drop l.space-index l.spaces) l.out.items (l.fn.out.items ++ each_counted counted names)
