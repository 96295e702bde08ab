-- New units that have the copies of a plan are the new file.
use Rattle.dwz_def_expand.specs.Chosen.{choice}
use Rattle.dwz_graph.specs.Surroundings.{sources_view}
use Rattle.dwz_expand_sources.specs.Imports.{same}
use Rattle.dwz_expand_passes.proofs.FileLemmas.{file_law}
use Rattle.dwz_expand.specs.Plans.{NewFileLaw}

pub new_file : NewFileLaw
new_file r own common s k x order are have =
    file_law k.f k.w k.place (choice same k.w (sources_view s.own.sections.now)) x order k.stand.said k.apart k.stand.choice are k.once have
