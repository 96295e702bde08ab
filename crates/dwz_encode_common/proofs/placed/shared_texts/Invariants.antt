use Rattle.dwz_encode_common.specs.TextsIn.{is_made, texts_in}
use Rattle.dwz_encode_common.proofs.PlacedSteps.{PlacesTo}
use Rattle.dwz_encode_common.proofs.placed.shared_texts.Given as goal

abbrev pub invariant-loop-n : goal.invariant-loop-n
invariant-loop-n l = PlacesTo (is_made l.texts) l.files (texts_in l.texts) l.sharing l.known l.all.items l.n
