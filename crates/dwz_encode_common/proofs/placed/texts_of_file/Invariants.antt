use Rattle.std.proofs.Common.{◌≡◌, take}
use Rattle.dwz_unit.specs.Rows.{rows_of, units_of}
use Rattle.dwz_encode_common.specs.Placed.{rows_places, said_in}
use Rattle.dwz_encode_common.specs.TextsIn.{is_made, texts_in}
use Rattle.dwz_encode_common.proofs.placed.texts_of_file.Given as goal

abbrev pub invariant-loop-entry : goal.invariant-loop-entry
invariant-loop-entry l = l.places.items
    ≡ rows_places (is_made l.to.texts.now) l.to.shares (texts_in l.to.texts.now) l.to.known.now l.to.file (said_in l.file) 0 0 (take l.entry (rows_of (units_of l.file.units)))
