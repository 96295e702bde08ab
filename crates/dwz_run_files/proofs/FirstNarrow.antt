-- The first places of operands that are too narrow, in both sections of a file, give the first fault of its operands.
use Rattle.std.proofs.Common.{◌≡◌, ℕ, List, [], ◌∷◌, length, map, Option, Some, None, Ok, refl, sym, ap, subst, ◌∙◌, inl, inr}
use Rattle.std.specs.Prelude.{slice_index}
use Rattle.dwz_model.specs.declared.fault.Fault.{Fault}
use Rattle.dwz_def_reading.specs.Units.{RawUnit}
use Rattle.dwz_def_reading.specs.Files.{around_of}
use Rattle.dwz_def_reading.specs.Meant.{units_meaning}
use Rattle.dwz_def_reading.specs.NamedLists.{lists_of_units}
use Rattle.dwz_def_reading.specs.Shared.{ListOperand, operands_in_lists}
use Rattle.dwz_graph.proofs.TopNameLemmas.{means_units}
use Rattle.dwz_encode_operands.specs.Narrow.{FirstPlace, after_in_by, number_by}
use Rattle.dwz_encode_operands.proofs.ListedLemmas.{listed as listed_all}
use Rattle.dwz_def_readback.specs.Files.{CommonFile, Run}
use Rattle.dwz_def_output.specs.Contents.{listed}
use Rattle.dwz_def_output.specs.Refusals.{FirstNarrowBy, narrow_at, operands_of_units, spoken}
use Rattle.dwz_graph.specs.ListRows.{operand_view}
use Rattle.dwz_graph.specs.Named.{units_refs}
use Rattle.dwz_law_layout.specs.Beside.{Beside}
use Rattle.dwz_law_layout.specs.Facts.{RunFacts, common, run}
use Rattle.dwz_encode_operands.specs.NumberLaws.{HaveNewNumbers}
use Rattle.dwz_encode_operands.proofs.FilePlaces.{numbers_are, starts_after, targets}
use Rattle.dwz_def_output.specs.NewFiles.{IsFound, NarrowFaultBy}
use Rattle.dwz_run_files.specs.declared.moved.FileAfter.{FileAfter}
use Rattle.dwz_run_files.specs.declared.work.LaidRun.{LaidRun}
use Rattle.dwz_run_files.specs.Works.{HaveUnitPlaces, IsMoved}
use Rattle.dwz_run_files.proofs.FileFacts.{entries_at, facts, file_here, index, operands, raw, reads, stored, x}

map_twice : {X Y Z : Type 0} (g : Y → Z) (h : X → Y) (xs : List X) → map g (map h xs) ≡ map (λ (v : X). g (h v)) xs
map_twice g h [] = refl
map_twice g h (v ∷ xs) = ap (λ (zs : List _). g (h v) ∷ zs) (map_twice g h xs)

module _ {beside : Beside} (f : RunFacts beside) (w : LaidRun) (m : FileAfter) (is : IsMoved f w m) (units_at : List ℕ) (begin : HaveUnitPlaces f m units_at) where
  abbrev n : ℕ
  n = m.number

  abbrev after : ℕ → ℕ
  after = after_in_by (common f) (run f) n

  abbrev us : List RawUnit
  us = raw f w m is

  -- ---- in `.debug_info`

  pub units_mean : units_meaning (around_of is.bytes us) us ≡ Ok is.has.read.read.doc.units
  units_mean = means_units is.has.read.limits is.bytes us is.has.read.read.doc is.has.read.read.means

  pub targets_are : (references at : List ℕ) → references ≡ (file_here f w m is).rows.references.items
      → at ≡ map (λ i. slice_index w.layout.now.places i) references → at ≡ map after (units_refs is.has.read.read.doc.units)
  targets_are references at same are =
      let h = file_here f w m is in
      are
      ∙ ap (λ (rs : List ℕ). map (λ i. slice_index w.layout.now.places i) rs) same
      ∙ targets f (facts f w m is) n (x f w m is) (index f w m is) is.has.file is.has.index_is h.start h.start_is w.layout.now.places
      (entries_at f w m is)
      h.rows.references.items (λ some of. h.listed.references some of)
      ∙ ap (map after) (sym is.has.read.read.named)

  pub begin_after : length units_at ≡ length us → units_at ≡ map (λ (u : RawUnit). after u.at) us
  begin_after many =
      starts_after f (facts f w m is) n (x f w m is) (index f w m is) is.has.file is.has.index_is m.start is.start_is units_at many begin
      ∙ map_twice after (λ (u : RawUnit). u.at) us

  pub spoken_first : (first : Option ℕ) → FirstPlace (number_by after) (operands_of_units (around_of is.bytes us) us) first
      → FirstPlace (number_by after) (spoken (run f) n) first
  spoken_first first h =
      let s = stored f w m is in
      subst (λ (b : List ℕ). FirstPlace (number_by after) (operands_of_units (around_of b (f.input.raw n)) (f.input.raw n)) first) (sym s.0)
      (subst (λ (rs : List RawUnit). FirstPlace (number_by after) (operands_of_units (around_of is.bytes rs) rs) first) (sym s.1) h)

  -- ---- in `.debug_loclists`

  pub numbers_new : (numbers : List ℕ) → HaveNewNumbers f (x f w m is) (index f w m is) m.start w.layout.now.places units_at numbers
      → numbers ≡ map (λ o. number_by after (operand_view us o)) (operands f w m is)
  numbers_new numbers have =
      numbers_are f (facts f w m is) n (x f w m is) (index f w m is) is.has.file is.has.index_is m.start is.start_is w.layout.now.places
      (entries_at f w m is)
      units_at begin numbers have

  pub listed_first : (first : Option ℕ) → FirstPlace (number_by after) (map (operand_view us) (operands f w m is)) first
      → FirstPlace (number_by after) (listed (run f) n) first
  listed_first first h =
      let s = stored f w m is in
      let all = listed_all (around_of is.bytes us) us after (map (operand_view us) (operands f w m is))
      (reads f w m is).lists is.has.read.read.operands first h in
      subst (λ (b : List ℕ). FirstPlace (number_by after) (operands_in_lists (lists_of_units (around_of b (f.input.raw n))
      (f.input.raw n))) first) (sym s.0)
      (subst (λ (rs : List RawUnit). FirstPlace (number_by after) (operands_in_lists (lists_of_units (around_of is.bytes rs) rs)) first)
      (sym s.1) all)

-- ---- the fault

module _ (k : CommonFile) (r : Run) (file : ℕ) where
  abbrev after_here : ℕ → ℕ
  after_here = after_in_by k r file

  place_found : (section : ℕ) (os : List ListOperand) (at : ℕ) → FirstPlace (number_by after_here) os (Some at)
      → FirstNarrowBy k r file section os (narrow_at section at)
  place_found section os at h = record {
    operand = h.operand;
    there = h.there;
    narrow = h.narrow;
    least = h.least;
    fault = ap (narrow_at section) h.stands;
  }

  no_place : (section : ℕ) (os : List ListOperand) → FirstPlace (number_by after_here) os None
      → (f : Fault) → ¬ FirstNarrowBy k r file section os f
  no_place section os none f h = none h.operand h.there h.narrow

  pub found_spoken : (at : ℕ) → FirstPlace (number_by after_here) (spoken r file) (Some at)
      → IsFound (NarrowFaultBy k r file) (Some (narrow_at 1 at))
  found_spoken at h = inl (place_found 1 (spoken r file) at h)

  pub found_listed : (at : ℕ) → FirstPlace (number_by after_here) (spoken r file) None
      → FirstPlace (number_by after_here) (listed r file) (Some at) → IsFound (NarrowFaultBy k r file) (Some (narrow_at 7 at))
  found_listed at none h = inr (no_place 1 (spoken r file) none, place_found 7 (listed r file) at h)

  pub found_none : FirstPlace (number_by after_here) (spoken r file) None → FirstPlace (number_by after_here) (listed r file) None
      → IsFound (NarrowFaultBy k r file) None
  found_none none other f (inl has) = no_place 1 (spoken r file) none f has
  found_none none other f (inr has) = no_place 7 (listed r file) other f has.1
