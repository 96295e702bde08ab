use Rattle.std.proofs.Common.{arith}
use Rattle.dwz_def_tops.specs.Spots.{same_spot}
use Rattle.dwz_def_encoding.proofs.Places.{numbering_stands, stands_numbering}
use Rattle.dwz_def_encoding.proofs.Rising.{place_one, place_within}
use Rattle.dwz_def_encoding.proofs.SameLemmas.{spots_same}
use Rattle.dwz_def_encoding.proofs.UnitsSpelled.{units_len}
use Rattle.dwz_def_encoding.proofs.WriteLengths.{sound_units}
use Rattle.dwz_def_encoding.proofs.writing.placing_laws.Goals as goal

pub returns-clause-stands : goal.returns-clause-stands
returns-clause-stands c files once f there sound = numbering_stands same_spot spots_same files once f there (sound_units f.units sound)

pub returns-clause-one : goal.returns-clause-one
returns-clause-one c n files s stand is = stands_numbering same_spot spots_same files n (λ f there. (sound_units f.units (stand f there).0, (stand f there).1)) s is

pub returns-clause-apart : goal.returns-clause-apart
returns-clause-apart c n units s t stand = place_one n units stand s t

pub returns-clause-within : goal.returns-clause-within
returns-clause-within c n tables units s stand is = (let lt = place_within n units stand s is in omega (arith, lt, units_len n tables units))
