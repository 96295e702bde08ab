-- Whether there is a common file is told by the number of its units: each partial unit with its home there is one of them.
use Rattle.std.proofs.Common.{◌≡◌, ◌<◌, Bool, true, false, List, [], ◌∷◌, length, refl, sym, ap, ◌∙◌, arith}
use Rattle.dwz_def_reading.specs.Documents.{DwUnit}
use Rattle.dwz_def_tops.specs.Spots.{EntryName}
use Rattle.dwz_def_images.specs.Units.{common_units}
use Rattle.dwz_def_output.specs.FilesAfter.{has_common}
use Rattle.dwz_def_output.proofs.CommonMade.{no_parts}
use Rattle.dwz_def_output.proofs.NoCommon.{none_there as none_any}
use Rattle.dwz_law_layout.specs.Beside.{Alone}
use Rattle.dwz_law_layout.specs.Facts.{AreFacts, RunFacts, move, run}

-- where it has no units, there is none
pub none_there : (f : RunFacts Alone) → common_units (move f) ≡ [] → has_common (run f) ≡ false
unfolding has_common common_units
none_there f none = none_any (move f) 0 (move f).parts none

empty_of : {X : Type 0} (xs : List X) → length xs ≡ 0 → xs ≡ []
empty_of [] e = refl
empty_of (x ∷ xs) e = absurd (omega (arith, e))

-- it has as many as are counted
pub none_counted : (f : RunFacts Alone) → AreFacts f → f.commons ≡ 0 → common_units (move f) ≡ []
none_counted f facts none = empty_of (common_units (move f)) (sym facts.numbers.commons_are ∙ none)

-- ---- and where it has some, there is one

pub some_there : (f : RunFacts Alone) → AreFacts f → 0 < f.commons → has_common (run f) ≡ true
unfolding has_common common_units
some_there f facts some = by (has_common (run f)) refl where
  by : (b : Bool) → has_common (run f) ≡ b → b ≡ true
  by true e = refl
  by false e =
      let none = no_parts (move f) 0 (move f).parts e in
      let long : f.commons ≡ 0 = facts.numbers.commons_are ∙ ap (λ (us : List (DwUnit EntryName)). length us) none in
      absurd (omega (arith, some, long))
