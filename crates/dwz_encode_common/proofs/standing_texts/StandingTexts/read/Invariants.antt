use Rattle.std.proofs.Common.{◌-◌, length}
use Rattle.dwz_encode_common.specs.Places.{look}
use Rattle.dwz_encode_common.proofs.PlaceLemmas.{IsThrough}
use Rattle.dwz_encode_common.proofs.standing_texts.StandingTexts.read.Given as goal

abbrev pub invariant-texts : goal.invariant-texts
invariant-texts l = IsThrough l.section (look l.starts) l.at

abbrev pub decreases-texts : goal.decreases-texts
decreases-texts l = length l.section - l.at
