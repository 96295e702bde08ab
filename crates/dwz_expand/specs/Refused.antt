-- The first value of a file that can't be copied, where numbers stand for places.
use Rattle.std.specs.Prelude.{◌≡◌, ◌↔◌, ℕ, Bool}
use Rattle.dwz_model.specs.Lists.{Each, NoneTwice}
use Rattle.dwz_model.specs.declared.fault.Refusal.{Refusal}
use Rattle.dwz_def_cross.specs.Tops.{WithCommon, units_with_common}
use Rattle.dwz_def_expand.specs.Chosen.{Choice, choice}
use Rattle.dwz_def_expand.specs.OneFile.{OneFile, said_by_file, same_place, stored_where}
use Rattle.dwz_def_expand.specs.Output.{SiteRefusal, forms, sites_of_file}
use Rattle.dwz_def_expand.specs.Refusals.{Site, SiteFault, Where, sites}
use Rattle.dwz_def_expand.specs.Source.{source_places}
use Rattle.dwz_def_output.specs.Refusals.{InFile}
use Rattle.dwz_def_reading.specs.FirstOf.{OfFirst}
use Rattle.dwz_def_reading.specs.Places.{Place}
use Rattle.dwz_def_reading.specs.Meanings.{Sources}
use Rattle.dwz_def_tops.specs.Shown.{units_keys}
use Rattle.dwz_expand_sources.specs.Imports.{same}
use Rattle.dwz_expand_passes.specs.Faults.{file_number}
use Rattle.dwz_expand_passes.specs.Renamed.{SameChoice, renamed}

-- values stand at the same places
pub record SameWhere {P Q : Type 0} (f : P → Q) (at : Where P) (to : Where Q) : Type 0 where
  pub value : (p : P) (index : ℕ) → to.value (f p) index ≡ at.value p index
  pub named : (p : P) (index number : ℕ) → to.named (f p) index number ≡ at.named p index number

-- Numbers stand for the places of a file and of its common file, no two for the same; forms are chosen by the same, and values stand at the
-- same places.
pub record StandForPlaces (f : OneFile) (place : ℕ → Place) (same : ℕ → ℕ → Bool) (c : Choice ℕ) (stands : Where ℕ) (w : WithCommon ℕ)
    : Type 0 where
  pub said : said_by_file f ≡ renamed place w
  pub alike : (p q : ℕ) → same_place (place p) (place q) ≡ same p q
  pub choice : SameChoice place c (forms f)
  pub stand : SameWhere place stands (stored_where f)

-- the value can't be copied; the fault is in the file with the number of its source
abbrev pub NumberRefusal : (ℕ → ℕ → Bool) → Choice ℕ → Where ℕ → (file : ℕ → ℕ) → WithCommon ℕ → Site ℕ → Refusal → Type 0
NumberRefusal same c stands file w s = InFile (λ n. SiteFault same (source_places same w) c stands s) (file s.source)

abbrev pub FaultLaw : Type 0
FaultLaw =
    (f : OneFile) (place : ℕ → Place) (same : ℕ → ℕ → Bool) (c : Choice ℕ) (stands : Where ℕ) (file : ℕ → ℕ) (w : WithCommon ℕ)
    → StandForPlaces f place same c stands w → Each (λ s. file s.source ≡ (place s.source).file) (sites same w)
    → (r : Refusal) → OfFirst (NumberRefusal same c stands file w) (sites same w) r ↔ OfFirst (SiteRefusal f) (sites_of_file f) r

-- the entries of the file stand in the file with the number 0, and those of its common file in that with the number 1
pub record InFiles (place : ℕ → Place) (w : WithCommon ℕ) : Type 0 where
  pub own : Each (λ p. (place p).file ≡ 0) (units_keys w.own)
  pub common : Each (λ p. (place p).file ≡ 1) (units_keys w.common)

-- So the values of sources stand in the file that what holds their unit tells.
abbrev pub NumbersLaw : Type 0
NumbersLaw =
    (place : ℕ → Place) (w : WithCommon ℕ) (s : Sources) → InFiles place w → NoneTwice (units_keys (units_with_common w))
    → Each (λ x. file_number ((choice same w s).role x.source) ≡ (place x.source).file) (sites same w)
