-- What is asked of tops and a plan by those that use them.
use Rattle.std.specs.Prelude.{◌≡◌, ℕ, ◌<◌, ◌≤◌, ◌^◌, All, List, length}
use Rattle.dwz_def_reading.specs.Documents.{Doc}
use Rattle.dwz_def_tops.specs.Spots.{tops_of, units_of}
use Rattle.dwz_groups.specs.declared.tops.Tops.{Tops}
use Rattle.dwz_plan.specs.declared.plan.Partial.{Partial}
use Rattle.dwz_plan.specs.declared.plan.Scope.{Scope}
use Rattle.dwz_plan.specs.declared.plan.Scope.TheVariants.{Each, Together as AllTogether}
use Rattle.dwz_plan.specs.Planned.{Planned}

-- where each file is by itself, none is of the common file, whose number is the number of files
abbrev pub StayApart : Scope → ℕ → List Partial → Type 0
StayApart AllTogether files parts = Unit {0}
StayApart Each files parts = All (λ part. part.file < files) parts

-- There is a row for each top. The plan has an answer for each top and each unit. Its partial units are each of a file or of the common
-- one; their users are units, and they hold tops of the files. There are no more of them than tops, and
-- of all there are few.
pub record FitsFiles (sharing : Scope) (docs : List (Doc ℕ)) (tops : Tops) (plan : Planned) : Type 0 where
  pub rows : length tops.rows ≡ length (tops_of (units_of docs))
  pub few_rows : length tops.rows < 2 ^ 32
  pub few_units : length (units_of docs) < 2 ^ 32
  pub files : tops.files ≡ length docs
  pub homes : length plan.homes ≡ length (tops_of (units_of docs))
  pub stand_ins : length plan.stand_ins ≡ length (tops_of (units_of docs))
  pub kept : length plan.kept ≡ length (units_of docs)
  pub imports : length plan.imports ≡ length (units_of docs)
  pub few_parts : length plan.partials ≤ length tops.rows
  pub parts_of_files : All (λ part. part.file ≤ length docs) plan.partials
  pub apart : StayApart sharing (length docs) plan.partials
  pub users : All (λ part. All (λ u. u < length (units_of docs)) part.users) plan.partials
  pub tops_held : All (λ part. All (λ t. t < length (tops_of (units_of docs))) part.tops) plan.partials
