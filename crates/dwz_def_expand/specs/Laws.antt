-- Inner: laws on what refuses the file that is written of one without its partial units.
use Rattle.std.specs.Prelude.{◌≡◌, ◌⊎◌, ◌≤◌}
use Rattle.dwz_def_reading.specs.Refusal.{Refusal}
use Rattle.dwz_def_expand.specs.OneFile.{OneFile}
use Rattle.dwz_def_expand.specs.NewFile.{NewRefusal}

-- at most one refusal is the first
abbrev pub OneRefusalLaw : Type 0
OneRefusalLaw = (f : OneFile) (p q : Refusal) → NewRefusal f p → NewRefusal f q → p ≡ q

-- and some is, or none is
abbrev pub EitherLaw : Type 0
EitherLaw = (f : OneFile) → ((q : Refusal) × NewRefusal f q) ⊎ ((q : Refusal) → ¬ NewRefusal f q)

-- each is of a file or of a section that has a name in a refusal
abbrev pub SectionLaw : Type 0
SectionLaw = (f : OneFile) (q : Refusal) → NewRefusal f q → q.section ≤ 9
