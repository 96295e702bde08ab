-- Files of a graph beside its finished common file, as they are written over that.
use Rattle.std.specs.Prelude.{◌≡◌, Bool, List, Some}
use Rattle.dwz_graph.specs.Files.{FilesRead}
use Rattle.dwz_def_taken.specs.declared.fixed.Fixed.{Fixed}
use Rattle.dwz_def_over.specs.Over.{AreOverFiles, OverFiles}

-- these are the files of the graph, with those flags of prunable ones, and that is taken
pub record IsOver (graph : FilesRead) (prunes : List Bool) (fixed : Fixed) (x : OverFiles) : Type 0 where
  pub common : graph.common ≡ Some x.common
  pub contents : graph.given ≡ x.contents
  pub prunes_are : prunes ≡ x.prunes
  pub fixed_is : fixed ≡ x.fixed
  pub are : AreOverFiles x
