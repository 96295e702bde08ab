-- The paths of the files that what is written of the common file numbers, each once, are those of its line table.
use Rattle.std.proofs.Common.{[], sym, ap, ◌∙◌}
use Rattle.dwz_def_images.specs.Units.{common_units}
use Rattle.dwz_def_encoding.specs.Placing.{attr_path}
use Rattle.dwz_law_layout.specs.Facts.{move}
use Rattle.dwz_encode_common.specs.CommonLaws.{CommonPathsLaw}
use Rattle.dwz_encode_common.specs.Gathered.{path_said, with_all}
use Rattle.dwz_encode_common.specs.Paths.{origin_paths}
use Rattle.dwz_encode_common.proofs.GatheredLemmas.{paths_added, units_found}
use Rattle.dwz_encode_common.proofs.RowPaths.{paths_agree}
use Rattle.dwz_encode_common.proofs.UnitsSay.{order_says}

pub common_paths : CommonPathsLaw
common_paths f k order is =
    ap (with_all []) (order_says f k order is (origin_paths f.files) path_said (paths_agree f k))
    ∙ sym (units_found attr_path path_said paths_added [] (common_units (move f)))
