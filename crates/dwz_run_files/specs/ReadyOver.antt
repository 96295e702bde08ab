-- Files over a finished common file that are ready to be laid.
use Rattle.std.specs.Prelude.{◌≡◌, ℕ, Bool, List}
use Rattle.dwz_def_reading.specs.Lists.{Each}
use Rattle.dwz_def_reading.specs.Values.{AreBytes}
use Rattle.dwz_def_reading.specs.Files.{section_of}
use Rattle.dwz_def_over.specs.Over.{OverFiles, run_over}
use Rattle.dwz_graph.specs.Files.{FilesRead, docs_of}
use Rattle.dwz_law_layout.specs.Beside.{Over}
use Rattle.dwz_law_layout.specs.Facts.{RunFacts, run}
use Rattle.dwz_law_layout.specs.CommonRows.{standing_beside}
use Rattle.dwz_run_files.specs.declared.prepared.PreparedFiles.{PreparedFiles}
use Rattle.dwz_run_files.specs.declared.standing.StandingCommon.{StandingCommon}
use Rattle.dwz_run_files.specs.Over.{IsOver}
use Rattle.dwz_run_files.specs.OverRun.{IsStanding}
use Rattle.dwz_run_files.specs.Works.{WorksOf}

-- these are files over that common file, which stands so
pub record AreOverStanding (graph : FilesRead) (prunes : List Bool) (b : StandingCommon) (x : OverFiles) : Type 0 where
  pub over : IsOver graph prunes b.fixed.now x
  pub bytes : Each AreBytes graph.given
  pub standing : IsStanding (standing_beside x) (docs_of graph.given) b
  pub strs : b.common.now.sections.strs.bytes.now ≡ section_of x.common 3

-- there are facts of them, whose run is that over the common file
pub record AreReadyOver (x : OverFiles) (contents : List (List ℕ)) (p : PreparedFiles) : Type 0 where
  pub facts : RunFacts (Over (standing_beside x))
  pub contents_are : facts.contents ≡ contents
  pub run_is : run facts ≡ run_over x
  pub works : WorksOf facts p
