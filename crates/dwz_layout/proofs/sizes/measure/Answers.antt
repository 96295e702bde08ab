use Rattle.std.proofs.Common.{◌∷◌, []}
use Rattle.dwz_layout.specs.Attributes.{import_attr, no_numbers}
use Rattle.dwz_layout.specs.Known.{unit_of_part}
use Rattle.dwz_layout.proofs.SizeLemmas.{import_sized, ok_sized}
use Rattle.dwz_layout.proofs.sizes.measure.Goals as goal

pub returns-in-Imported-clause-size : goal.returns-in-Imported-clause-size
returns-in-Imported-clause-size c =
    let unit = unit_of_part c.args.known.now c.in-Imported.part in
    rw c.in-Imported.is (ok_sized c.measure_stored.result 4 (import_attr c.args.known.now c.args.here.unit unit ∷ []) c.measure_stored.ensures.size
    (import_sized no_numbers c.args.known.now c.args.here.unit unit))
