-- A file imports from the common file only where there is one, and then `.debug_sup` is added to it.
use Rattle.std.proofs.Common.{◌≡◌, ◌&&◌, ◌||◌, ◌==◌, ℕ, Bool, true, false, List, [], ◌∷◌, Option, Some, None, refl, sym, ap, ◌∙◌}
use Rattle.std.specs.List.{list_any}
use Rattle.std.specs.Prelude.{if◌then◌else◌}
use Rattle.dwz_def_reading.specs.Supplementary.{sup_bytes}
use Rattle.dwz_def_tops.specs.Spots.{EntryName, FileUnit}
use Rattle.dwz_def_images.specs.Homes.{Common, file_of, same_home}
use Rattle.dwz_def_images.specs.Plan.{PartialUnit}
use Rattle.dwz_def_readback.specs.Files.{CommonFile, Run, imports_common}
use Rattle.dwz_def_output.specs.FilesAfter.{has_common, is_common, sup_after_by, sup_of_by}
use Rattle.dwz_run_output.specs.Making.{IsSupOf}

abbrev imports_here : List (FileUnit EntryName) → ℕ → List PartialUnit → Bool
imports_here units file parts = list_any (λ (part : PartialUnit). same_home part.home Common && list_any (λ i. file_of units i == file) part.users) parts

none_imported : (units : List (FileUnit EntryName)) (file : ℕ) (parts : List PartialUnit) → list_any is_common parts ≡ false → imports_here units file parts ≡ false
none_imported units file [] none = refl
none_imported units file (part ∷ parts) none = by (none_imported units file parts) (is_common part) none where
  by : (list_any is_common parts ≡ false → imports_here units file parts ≡ false) → (b : Bool) → (b || list_any is_common parts) ≡ false
      → ((b && list_any (λ i. file_of units i == file) part.users) || imports_here units file parts) ≡ false
  by rest true e = absurd cc
  by rest false e = rest e

pub no_imports : (r : Run) (file : ℕ) → has_common r ≡ false → imports_common r.move r.units file ≡ false
unfolding imports_common has_common
no_imports r file none = none_imported r.units file r.move.parts none

-- ---- `.debug_sup` of a file

sup_by : (k : CommonFile) (name : List ℕ) (r : Run) (file : ℕ) (b : Bool) → imports_common r.move r.units file ≡ b
    → sup_after_by k name r file ≡ (if b then Some (sup_bytes (sup_of_by k name r)) else None)
sup_by k name r file b e = ap (λ (b : Bool). if b then Some (sup_bytes (sup_of_by k name r)) else None) e

pub sup_not : (k : CommonFile) (name : List ℕ) (r : Run) (file : ℕ) → imports_common r.move r.units file ≡ false → None ≡ sup_after_by k name r file
sup_not k name r file imports = sym (sup_by k name r file false imports)

pub sup_none : (k : CommonFile) (name : List ℕ) (r : Run) (file : ℕ) (sup : Option (List ℕ)) → IsSupOf k name r sup → sup ≡ None → None ≡ sup_after_by k name r file
sup_none k name r file None none is = sup_not k name r file (none file)
sup_none k name r file (Some bytes) is none = absurd cc

pub sup_some : (k : CommonFile) (name : List ℕ) (r : Run) (file : ℕ) (sup : Option (List ℕ)) (bytes : List ℕ) → IsSupOf k name r sup → sup ≡ Some bytes
    → imports_common r.move r.units file ≡ true → Some bytes ≡ sup_after_by k name r file
sup_some k name r file None bytes is some imports = absurd cc
sup_some k name r file (Some b) bytes is some imports =
    let same : b ≡ bytes = cc in
    ap (λ (w : List ℕ). Some w) (sym same ∙ is) ∙ sym (sup_by k name r file true imports)
