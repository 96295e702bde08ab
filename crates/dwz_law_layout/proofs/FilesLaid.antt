-- No name stands twice in the files that are written, and the places among them are those among all.
use Rattle.std.proofs.Common.{◌∙◌}
use Rattle.dwz_def_tops.specs.Spots.{file_numbers, same_spot}
use Rattle.dwz_def_tops.specs.Lists.{NoneTwice}
use Rattle.dwz_def_tops.specs.Shown.{units_keys}
use Rattle.dwz_def_images.specs.Units.{all_units, changes}
use Rattle.dwz_def_readback.specs.Fewer.{AgreeOn, AreSome}
use Rattle.dwz_def_readback.proofs.SomeFiles.{some_pass}
use Rattle.dwz_def_readback.proofs.SomeOfRuns.{places_in_run}
use Rattle.dwz_encode.proofs.LawLemmas.{places_are}
use Rattle.dwz_law_layout.proofs.NamesThere.{files_key}
use Rattle.dwz_law_layout.specs.Facts.{AreFacts, RunFacts, docs, files_written, move, run, units}
use Rattle.dwz_law_layout.specs.Named.{keys}
use Rattle.dwz_law_layout.specs.Laid.{RunPlacesLaw, places_of, written_out}
use Rattle.dwz_law_layout.specs.Beside.{Alone, Beside}
use Rattle.dwz_def_encoding.specs.Placing.{files_keys, numbering}

module _ {beside : Beside} (f : RunFacts beside) (facts : AreFacts f) where
  pub some_written : AreSome (files_written f) (file_numbers 0 (docs f))
  some_written = some_pass (changes (move f) (units f)) (file_numbers 0 (docs f))

  pub all_once : NoneTwice (units_keys (all_units (move f) (units f) (file_numbers 0 (docs f))))
  all_once = facts.whole.apart

-- where nothing stands beside them, places are those among the files that are written
pub places_among : (f : RunFacts Alone) → AreFacts f → AgreeOn (files_keys (written_out f)) (numbering same_spot (written_out f)) (places_of f)
places_among f facts = places_in_run (run f) (files_written f) (some_written f facts) (all_once f facts)

pub run_places : RunPlacesLaw
run_places f k orders facts order i lt written =
    places_are (keys f) k orders (written_out f) order i lt written
    ∙ places_among f facts ((keys f).row i) (files_key (keys f) k i 0 orders (written_out f) order.shows written)
