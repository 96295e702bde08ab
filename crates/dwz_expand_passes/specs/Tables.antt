-- Inner: The line table that was read last.
use Rattle.dwz_def_expand.specs.Chosen.{paths_at}
use Rattle.dwz_expand_passes.specs.declared.tables.LastTable.{LastTable}
use Rattle.dwz_expand_passes.specs.Paths.{IsPathsOf}
use Rattle.dwz_graph.specs.Resolved.{sources_view}
use Rattle.dwz_graph.specs.InputSections.{InputSections}

-- its rows are those of the table that stands there
abbrev pub IsTableOf : InputSections → LastTable → Type 0
IsTableOf sections t = IsPathsOf (paths_at (sources_view sections) t.place) t.paths
