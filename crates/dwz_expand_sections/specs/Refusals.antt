-- Why a file whose values can all be copied isn't written.
use Rattle.std.specs.Prelude.{map}
use Rattle.dwz_model.specs.declared.fault.Refusal.{Refusal}
use Rattle.dwz_def_expand.specs.OneFile.{OneFile}
use Rattle.dwz_def_expand.specs.Output.{LargeRefusal, NarrowIn, NarrowInLists, in_lists, spoken_in}
use Rattle.dwz_def_reading.specs.FirstOf.{OrElse}
use Rattle.dwz_expand_sections.specs.declared.refusals.NarrowPlaces.{NarrowPlaces}
use Rattle.dwz_expand_sections.specs.Narrow.{FirstPlace, operand_after}

-- what stands behind the refusals of values
abbrev pub SizeRefusal : OneFile → Refusal → Type 0
SizeRefusal f = OrElse (NarrowIn f 0) (OrElse (NarrowInLists f) (OrElse (NarrowIn f 1) (LargeRefusal f)))

-- each is the first place of its operands, with their new numbers
pub record HavePlaces (f : OneFile) (places : NarrowPlaces) : Type 0 where
  pub own_is : FirstPlace (map (operand_after f) (spoken_in f 0)) places.own
  pub listed_is : FirstPlace (map (operand_after f) (in_lists f)) places.listed
  pub common_is : FirstPlace (map (operand_after f) (spoken_in f 1)) places.common
