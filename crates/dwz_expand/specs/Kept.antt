-- What a graph of one file has kept of its location lists (DWARF 5, 2.6.2).
use Rattle.std.specs.Prelude.{◌≡◌, ◌+◌, List, [], ◌∷◌, get_or, length, Option}
use Rattle.dwz_def_reading.specs.Files.{sources_of}
use Rattle.dwz_def_expand.specs.OneFile.{OneFile, ReadsOne}
use Rattle.dwz_unit.specs.Rows.{units_of}
use Rattle.dwz_graph.specs.declared.file.File.{File}
use Rattle.dwz_graph.specs.Surroundings.{sources_view}
use Rattle.dwz_graph.specs.Files.{AreBack, FilesRead, HasCommon}
use Rattle.dwz_expand_sections.specs.ListLaws.{AreListed}

-- they are those of the file with the same bytes and units
abbrev pub KeptListsLaw : Type 0
KeptListsLaw =
    (r : FilesRead) (files : List File) (own : File) (common : Option File) → length r.back ≡ 1
    → HasCommon (length r.given + length r.back) r.common common → AreBack r.common r.back files → own ≡ get_or files 0 own
    → (f : OneFile) → ReadsOne f → r.back ≡ f.file.bytes ∷ [] → f.file.raw ≡ units_of own.units
    → AreListed f own.resolved.operands.items × (own.sections.lists.now ≡ (sources_of f.file.bytes).lists)
    × (sources_view own.sections ≡ sources_of f.file.bytes)
