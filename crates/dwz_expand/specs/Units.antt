-- What is kept of a file and of its common one for the new units of the file, which is written without its partial units (DWARF 5, 3.2.5).
use Rattle.std.specs.Prelude.{◌≡◌, ℕ, List, length, Option, Some, None}
use Rattle.dwz_model.specs.declared.fault.Refusal.{Refusal}
use Rattle.dwz_def_reading.specs.FirstOf.{OfFirst}
use Rattle.dwz_def_reading.specs.Places.{Place}
use Rattle.dwz_def_cross.specs.Tops.{WithCommon}
use Rattle.dwz_def_expand.specs.OneFile.{FileRead, OneFile, ReadsOne}
use Rattle.dwz_def_expand.specs.Output.{SiteRefusal, sites_of_file, wholes}
use Rattle.dwz_def_expand.specs.Source.{Copy}
use Rattle.dwz_expand_sources.specs.Imports.{same}
use Rattle.dwz_expand_layout.specs.Entries.{UnitLines}
use Rattle.dwz_expand_layout.specs.Laid.{Made, laid}
use Rattle.dwz_expand_passes.specs.declared.files.SourceFile.{SourceFile}
use Rattle.dwz_expand_passes.specs.Files.{raw_in}
use Rattle.dwz_expand.specs.Refused.{InFiles, StandForPlaces}
use Rattle.dwz_expand_passes.specs.OfFile.{IsNewFile}
use Rattle.dwz_expand_passes.specs.declared.new_file.NewFile.{NewFile}
use Rattle.dwz_expand_passes.specs.Passes.{AreNew, IsReady, Says, forms_in}
use Rattle.dwz_expand.specs.OneKnown.{stands_of}

-- each value of its sources can be copied
abbrev pub CanBeCopied : OneFile → Type 0
CanBeCopied f = (q : Refusal) → ¬ OfFirst (SiteRefusal f) (sites_of_file f) q

-- the stored units of the common file are kept, if there is one
abbrev pub HasRaw : Option FileRead → Option SourceFile → Type 0
HasRaw None None = Unit {0}
HasRaw (Some c) (Some s) = c.raw ≡ raw_in s
HasRaw _ _ = ⊥

-- What is kept is of that file, which reads, with the plan of its new units: its stored units and those of its common file; and numbers stand
-- for its places, no two for one.
pub record IsOfOne (f : OneFile) (x : NewFile) : Type 0 where
  pub reads : ReadsOne f
  pub own_raw : f.file.raw ≡ raw_in x.own
  pub common_raw : HasRaw f.common x.common
  pub ready : IsReady x
  pub w : WithCommon ℕ
  pub place : ℕ → Place
  pub stand : StandForPlaces f place same (forms_in x w) (stands_of f place) w
  pub apart : (p q : ℕ) → place p ≡ place q → p ≡ q
  pub files : InFiles place w
  pub says : Says x w (stands_of f place)

-- new units with the copies of its plan are laid so, and they are those of the new file
pub record IsLaidOf (f : OneFile) (x : NewFile) (made : Made) : Type 0 where
  pub order : List UnitLines
  pub is : made ≡ laid order
  pub new : AreNew x order
  pub many : length order ≡ length (wholes f)
  pub key : ℕ → Copy Place
  pub file : IsNewFile f key order
