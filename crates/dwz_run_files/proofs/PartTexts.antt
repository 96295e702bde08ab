-- The texts of the partial units of a file, one by one among those of the plan.
use Rattle.std.proofs.Common.{◌≡◌, ℕ, suc, ◌<◌, Bool, true, false, List, [], ◌∷◌, length, map, refl, sym, subst, inl, inr}
use Rattle.dwz_def_reading.specs.Documents.{DwUnit}
use Rattle.dwz_def_reading.specs.Meanings.{IfSo}
use Rattle.dwz_def_tops.specs.Lists.{Nth}
use Rattle.dwz_def_tops.specs.Spots.{EntryName, Top}
use Rattle.dwz_layout_items.specs.declared.partial.SpaceRow.{SpaceRow as RowOfSpace}
use Rattle.dwz_layout_items.specs.declared.partial.TopSpaces.{TopSpaces}
use Rattle.dwz_def_images.specs.Homes.{Local, same_home}
use Rattle.dwz_def_images.specs.Moves.{first_unit}
use Rattle.dwz_def_images.specs.Plan.{PartialUnit}
use Rattle.dwz_def_images.proofs.PlanLemmas.{home_true}
use Rattle.dwz_plan.specs.declared.plan.Partial.{Partial as PlannedPart}
use Rattle.dwz_plan.specs.Shows.{shown_part}
use Rattle.dwz_def_images.specs.Units.{partial_unit, partial_units}
use Rattle.dwz_layout_order.specs.Lists.{all_spaces, all_tops, rows_from, spaces_at}
use Rattle.dwz_layout_order.specs.Orders.{First}
use Rattle.dwz_layout_order.specs.Parts.{IsPart}
use Rattle.dwz_layout_order.specs.Shown.{KnowsSpaces}
use Rattle.dwz_layout_order.specs.declared.orders.Settled.{Settled}
use Rattle.dwz_layout_order.specs.Ordered.{PartPut, PartsPut, line_given}
use Rattle.dwz_layout.specs.declared.known.EntryTable.{EntryTable}
use Rattle.dwz_layout.specs.declared.order.UnitItems.{UnitItems}
use Rattle.dwz_law_layout.specs.Beside.{Beside}
use Rattle.dwz_law_layout.specs.Facts.{AreFacts, RunFacts, docs, move, units}
use Rattle.dwz_law_layout.specs.Listed.{AreListed, TextsAt}
use Rattle.dwz_law_layout.specs.Settled.{IsSettled}
use Rattle.dwz_law_layout.specs.New.{NewNames}
use Rattle.dwz_law_layout.proofs.FileSpaces.{new_items}
use Rattle.dwz_law_layout.specs.ShownParts.{parts_after}
use Rattle.dwz_law_layout.proofs.PartHomes.{home_moves, home_number, local_made}
use Rattle.dwz_encode_texts.specs.TextLaws.{StandAsRead}
use Rattle.dwz_law_layout.proofs.PartsKnown.{parts_are}
use Rattle.dwz_run_files.proofs.PartUnits.{entry_bases, space_here, written_here}
use Rattle.dwz_run_files.proofs.SpaceUnits.{space_of_unit}
use Rattle.dwz_run_files.specs.Stood.{KnowUnshared}
use Rattle.dwz_run_files.proofs.UnitTexts.{Stand, unit_texts}

module _ {beside : Beside} (f : RunFacts beside) (t : TextsAt) (k : EntryTable) (facts : AreFacts f) (listed : AreListed f t k) (stand : StandAsRead f t)
    (s : Settled) (settled : IsSettled f s) (n : ℕ) where
  abbrev numbers_of : PartialUnit → List ℕ
  numbers_of part = map (λ (y : Top). y.number) part.tops

  -- ---- one of them

  spaces : KnowsSpaces (units f) (rows_from 0 (all_spaces f.indexes)) settled.texts settled.lists (all_tops f.indexes)
  spaces =
      subst (λ (w : List RowOfSpace). KnowsSpaces (units f) w settled.texts settled.lists (all_tops f.indexes)) settled.rows_are
      settled.spaces

  module _ (p : ℕ) (part : PartialUnit) (nth : Nth 0 (move f).parts p part) (o : UnitItems)
      (put : PartPut s p (shown_part (length (docs f)) part) o) where
    put_so : IsPart (rows_from 0 (all_spaces f.indexes)) (map (spaces_at settled.lists) (all_tops f.indexes)) (numbers_of part) o.items
    put_so =
        subst (λ (w : List RowOfSpace). IsPart w (map (spaces_at settled.lists) (all_tops f.indexes)) (numbers_of part) o.items)
        settled.rows_are
        (subst (λ (w : List TopSpaces). IsPart s.rows.now w (numbers_of part) o.items) settled.of_tops put.items)

    new : part.home ≡ Local n → NewNames (units f) part o.items
    new home =
        new_items (docs f) f.indexes (move f) settled.texts settled.lists facts.indexed spaces p part o.items
        (facts.goes.made p part nth (local_made f facts n p part nth home)) put_so

    part_texts : part.home ≡ Local n → Stand f t k facts listed stand n o (partial_unit (move f) p)
    part_texts home =
        unit_texts f t k facts listed stand n o (partial_unit (move f) p)
        (λ bytes x index h i r d read writes is. entry_bases f t k facts listed n p part nth bytes x index h i r d read
        (written_here f t k facts listed n p part nth home bytes x index h o (line_given s p) put.sort (new home) i writes))
        (λ bytes x index h space i r d read has at is. entry_bases f t k facts listed n p part nth bytes x index h i r d read
        (space_of_unit f facts n bytes x index h (first_unit part.tops) space i at
        (space_here f t k facts listed n p part nth o.items (new home) space has)))

  -- ---- all of them

  module _ (below : n < length (docs f)) where
    -- those of the file
    abbrev After : ℕ → List PartialUnit → List (DwUnit EntryName)
    After p parts = partial_units (move f) (Local n) p parts

    abbrev Put : ℕ → List PartialUnit → List UnitItems → Type 0
    Put p parts order = PartsPut s n p (map (shown_part (length (docs f))) parts) order

    -- of one part and those behind it, by whether its home is the file
    abbrev AfterIf : Bool → ℕ → List PartialUnit → List (DwUnit EntryName)
    AfterIf b p parts =
        elim b as (λ _. List (DwUnit EntryName)) [ true ↦ partial_unit (move f) p ∷ After (suc p) parts | false ↦ After (suc p) parts ]

    abbrev PutIf : Bool → ℕ → PartialUnit → List PartialUnit → List UnitItems → Type 0
    PutIf b p part parts order =
        IfSo b (First (PartPut s p (shown_part (length (docs f)) part)) (Put (suc p) parts) order) (Put (suc p) parts order)

    from : (p : ℕ) (parts : List PartialUnit) → ((q : ℕ) (part : PartialUnit) → Nth p parts q part → Nth 0 (move f).parts q part)
        → (order : List UnitItems) → Put p parts order → KnowUnshared f k n order (After p parts)
    unfolding partial_units
    from p [] among [] put = tt
    from p [] among (o ∷ order) put = absurd cc
    from p (part ∷ parts) among order put =
        let nth = among p part (inl (refl, refl)) in
        let same = home_number (length (docs f)) n part.home (home_moves f facts n p part nth) below in
        by nth (from (suc p) parts (λ q other i. among q other (inr i))) (same_home part.home (Local n)) refl order
        (subst (λ (b : Bool). PutIf b p part parts order) (sym same) put) where
          by : Nth 0 (move f).parts p part
              → ((order : List UnitItems) → Put (suc p) parts order → KnowUnshared f k n order (After (suc p) parts))
              → (b : Bool) → same_home part.home (Local n) ≡ b → (order : List UnitItems)
              → PutIf b p part parts order → KnowUnshared f k n order (AfterIf b p parts)
          by nth rest false e order put = rest order put
          by nth rest true e [] put = absurd put
          by nth rest true e (o ∷ order) put = (part_texts p part nth o put.0 (home_true part.home (Local n) e), rest order put.1)

    pub parts_texts : (order : List UnitItems) → PartsPut s n 0 s.plan.now.partials order → KnowUnshared f k n order (parts_after f n)
    parts_texts order put =
        from 0 (move f).parts (λ q part i. i) order
        (subst (λ (w : List PlannedPart). PartsPut s n 0 w order) (sym (parts_are f t k facts listed s settled)) put)
