-- The texts of the old units of a file: none of them is partial, so each has its own bases.
use Rattle.std.proofs.Common.{ℕ, suc, Bool, true, false, List, [], ◌∷◌, ◌==◌, sym, subst}
use Rattle.dwz_def_reading.specs.Documents.{Compile, DwUnit, Entries, Kind, Node, OfType, Partial, entries_map, kind_map, node_map}
use Rattle.dwz_def_reading.specs.Meanings.{IfSo}
use Rattle.dwz_def_tops.specs.Seen.{IsPartial}
use Rattle.dwz_def_tops.specs.Spots.{EntryName, FileUnit}
use Rattle.dwz_def_images.specs.Moves.{image_in}
use Rattle.dwz_def_images.specs.Units.{kept_unit, kept_units}
use Rattle.dwz_graph.specs.declared.file.File.{File}
use Rattle.dwz_layout_order.specs.Orders.{First}
use Rattle.dwz_law_layout.specs.Old.{EachOld}
use Rattle.dwz_layout.specs.declared.known.EntryTable.{EntryTable}
use Rattle.dwz_layout.specs.declared.order.Sort.{Sort}
use Rattle.dwz_layout.specs.declared.order.Sort.TheVariants.{Compile as CompileSort, OfType as TypeSort, Partial as PartialSort}
use Rattle.dwz_layout.specs.declared.order.UnitItems.{UnitItems}
use Rattle.dwz_encode.specs.Shown.{SortShows}
use Rattle.dwz_law_layout.specs.Knows.{FileRead, ShowsWhole}
use Rattle.dwz_law_layout.specs.Beside.{Beside}
use Rattle.dwz_law_layout.specs.Facts.{AreFacts, RunFacts, file_read, move, units}
use Rattle.dwz_law_layout.specs.Listed.{AreListed, TextsAt}
use Rattle.dwz_law_layout.specs.Named.{keys}
use Rattle.dwz_encode_texts.specs.TextLaws.{StandAsRead}
use Rattle.dwz_law_layout.specs.Roots.{UnitShown}
use Rattle.dwz_run_files.specs.Stood.{KnowUnshared}
use Rattle.dwz_run_files.proofs.UnitTexts.{Stand, whole_texts}

-- a unit of which all is shown by what was read is not partial
not_partial : {beside : Beside} (f : RunFacts beside) (files : List FileRead) (kind : Kind EntryName) (sort : Sort) (node : Node EntryName) (below : Entries EntryName)
    → SortShows (keys f) sort kind → ShowsWhole files sort node below → IsPartial kind → ⊥
not_partial f files Compile sort node below shows whole is = is
not_partial f files (OfType signature main) sort node below shows whole is = is
not_partial f files Partial (CompileSort root) node below shows whole is = shows
not_partial f files Partial (TypeSort root signature main) node below shows whole is = shows
not_partial f files Partial (PartialSort line) node below shows whole is = whole

module _ {beside : Beside} (f : RunFacts beside) (t : TextsAt) (k : EntryTable) (facts : AreFacts f) (listed : AreListed f t k) (stand : StandAsRead f t)
    (n : ℕ) (bytes : List ℕ) (x : File) where
  old_texts : (i : ℕ) (u : FileUnit EntryName) (o : UnitItems) → UnitShown f n bytes x u.unit o.sort
      → Stand f t k facts listed stand n o (kept_unit (move f) (units f) i u)
  old_texts i u o shown =
      whole_texts f t k facts listed stand n o (kept_unit (move f) (units f) i u)
      (not_partial f (file_read f n bytes x ∷ []) (kind_map (image_in (move f)) u.unit.kind) o.sort
      (node_map (image_in (move f)) u.unit.root) (entries_map (image_in (move f)) u.unit.below) shown.sort shown.whole)

  abbrev Shown : ℕ → List (FileUnit EntryName) → List UnitItems → Type 0
  Shown i us order = EachOld (λ j u o. UnitShown f n bytes x u.unit o.sort) n i us order

  -- the unit, if it is of the file, and those behind it
  abbrev These : Bool → ℕ → FileUnit EntryName → List (FileUnit EntryName) → List (DwUnit EntryName)
  These b i u us = elim b as (λ _. List (DwUnit EntryName)) [
    | true ↦ kept_unit (move f) (units f) i u ∷ kept_units (move f) (units f) n (suc i) us
    | false ↦ kept_units (move f) (units f) n (suc i) us
  ]

  pub olds_texts : (i : ℕ) (us : List (FileUnit EntryName)) (order : List UnitItems) → Shown i us order
      → KnowUnshared f k n order (kept_units (move f) (units f) n i us)
  unfolding kept_units
  olds_texts i [] order shown = subst (λ (w : List UnitItems). KnowUnshared f k n w []) (sym shown) tt
  olds_texts i (u ∷ us) order shown = by (olds_texts (suc i) us) (u.file == n) order shown where
    by : ((some : List UnitItems) → Shown (suc i) us some → KnowUnshared f k n some (kept_units (move f) (units f) n (suc i) us))
        → (b : Bool) (order : List UnitItems)
        → IfSo b (First (λ o. UnitShown f n bytes x u.unit o.sort) (Shown (suc i) us) order) (Shown (suc i) us order)
        → KnowUnshared f k n order (These b i u us)
    by rest true [] shown = absurd shown
    by rest true (o ∷ order) shown = (old_texts i u o shown.0, rest order shown.1)
    by rest false order shown = rest order shown
