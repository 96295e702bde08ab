-- The partial units of one home, a file or the common one, one by one among those of the plan.
use Rattle.std.proofs.Common.{◌≡◌, ℕ, suc, ◌+◌, ◌<◌, ◌==◌, Bool, true, false, List, [], ◌∷◌, length, map, Some, None, slice_get, refl, sym, ap, subst, ◌∙◌, inl, inr, arith}
use Rattle.dwz_def_reading.proofs.ListFacts.{get_first}
use Rattle.dwz_def_reading.specs.Documents.{DwUnit}
use Rattle.dwz_def_reading.specs.Meanings.{IfSo}
use Rattle.dwz_def_tops.specs.Lists.{Nth}
use Rattle.dwz_def_tops.proofs.Members.{nth_one}
use Rattle.dwz_def_tops.specs.Spots.{EntryName, FileUnit}
use Rattle.dwz_def_images.specs.Homes.{Common, Home, Local, same_home}
use Rattle.dwz_def_images.specs.Moves.{first_unit}
use Rattle.dwz_def_images.specs.Plan.{PartialUnit, partials}
use Rattle.dwz_def_images.proofs.PlanLemmas.{home_true}
use Rattle.dwz_plan.specs.declared.plan.Partial.{Partial as PlannedPart}
use Rattle.dwz_plan.specs.Planned.{Planned, file_of_home}
use Rattle.dwz_plan.specs.Shows.{shown_part}
use Rattle.dwz_def_images.specs.Units.{changes, common_units, partial_unit, partial_units}
use Rattle.dwz_layout_numbers.specs.Owners.{files_written}
use Rattle.dwz_def_encoding.specs.Placing.{KeyedForms}
use Rattle.dwz_layout_order.specs.Orders.{First}
use Rattle.dwz_layout_order.specs.declared.orders.Settled.{Settled}
use Rattle.dwz_layout_order.specs.Ordered.{PartPut, PartsPut}
use Rattle.dwz_layout.specs.declared.known.EntryTable.{EntryTable}
use Rattle.dwz_layout.specs.declared.order.UnitItems.{UnitItems}
use Rattle.dwz_law_layout.specs.Fitted.{KnowUnits, KnowsShown}
use Rattle.dwz_law_layout.specs.Knows.{NewNumbers}
use Rattle.dwz_law_layout.specs.Beside.{Alone, Beside}
use Rattle.dwz_law_layout.specs.Facts.{AreFacts, RunFacts, docs, move, units, units_written, written}
use Rattle.dwz_law_layout.specs.Listed.{AreListed, TextsAt}
use Rattle.dwz_law_layout.specs.Named.{keys}
use Rattle.dwz_law_layout.specs.Settled.{IsSettled}
use Rattle.dwz_law_layout.specs.Unfitted.{KnowCommon, KnowTexts, KnowsCommonUnit, KnowsUnitTexts, common_keyed_forms, file_keyed_forms}
use Rattle.dwz_law_layout.specs.ShownParts.{CommonKnownLaw, PartsKnownLaw}
use Rattle.dwz_law_layout.proofs.LayoutLemmas.{common_owners, file_owners}
use Rattle.dwz_law_layout.proofs.PartHomes.{comes_from, common_number, common_there, file_changed, file_read_there, first_file, home_moves, home_number, is_first, local_made, not_first, part_there}
use Rattle.dwz_law_layout.proofs.PartKnown.{part_known}

-- the plan has this number for just those of this home
module _ {beside : Beside} (f : RunFacts beside) (s : Settled) (h : Home) (number : ℕ)
    (is_number : (p : ℕ) (part : PartialUnit) → Nth 0 (move f).parts p part → same_home part.home h ≡ (file_of_home (length (docs f)) part.home == number)) where
  abbrev shown : PartialUnit → PlannedPart
  shown part = shown_part (length (docs f)) part

  -- those parts have these units, which are written so
  abbrev pub After : ℕ → List PartialUnit → List (DwUnit EntryName)
  After p parts = partial_units (move f) h p parts

  abbrev pub Put : ℕ → List PartialUnit → List UnitItems → Type 0
  Put p parts order = PartsPut s number p (map (shown_part (length (docs f))) parts) order

  abbrev pub Among : ℕ → List PartialUnit → Type 0
  Among p parts = (q : ℕ) (part : PartialUnit) → Nth p parts q part → Nth 0 (move f).parts q part

  -- of one part and those behind it, by whether its home is this one
  abbrev AfterIf : Bool → ℕ → List PartialUnit → List (DwUnit EntryName)
  AfterIf b p parts = elim b as (λ _. List (DwUnit EntryName)) [ true ↦ partial_unit (move f) p ∷ After (suc p) parts | false ↦ After (suc p) parts ]

  abbrev PutIf : Bool → ℕ → PartialUnit → List PartialUnit → List UnitItems → Type 0
  PutIf b p part parts order = IfSo b (First (PartPut s p (shown part)) (Put (suc p) parts) order) (Put (suc p) parts order)

  -- ---- as many are written as there are

  pub parts_long : (p : ℕ) (parts : List PartialUnit) → Among p parts → (order : List UnitItems) → Put p parts order → length order ≡ length (After p parts)
  unfolding partial_units
  parts_long p [] among order put = ap (λ (w : List UnitItems). length w) put
  parts_long p (part ∷ parts) among order put =
      by (λ some put. parts_long (suc p) parts (λ q other i. among q other (inr i)) some put) (same_home part.home h) order
      (subst (λ (b : Bool). PutIf b p part parts order) (sym (is_number p part (among p part (inl (refl, refl))))) put)
    where
      by : ((some : List UnitItems) → Put (suc p) parts some → length some ≡ length (After (suc p) parts)) → (b : Bool) → (order : List UnitItems) → PutIf b p part parts order
          → length order ≡ length (AfterIf b p parts)
      by rest true [] put = absurd put
      by rest true (o ∷ order) put = ap suc (rest order put.1)
      by rest false order put = rest order put

  -- ---- each is known, from what is said of it, and of where it stands

  module _ (k : EntryTable) (ff : KeyedForms EntryName) (numbers : NewNumbers) (Told : UnitItems → DwUnit EntryName → Type 0) (AllTold : List UnitItems → List (DwUnit EntryName) → Type 0)
      (told_first : (o : UnitItems) (order : List UnitItems) (u : DwUnit EntryName) (us : List (DwUnit EntryName)) → AllTold (o ∷ order) (u ∷ us) → Told o u × AllTold order us)
      (Stands : ℕ → DwUnit EntryName → Type 0)
      (one : (p : ℕ) (part : PartialUnit) → Nth 0 (move f).parts p part → part.home ≡ h → (o : UnitItems) (here : ℕ) → Stands here (partial_unit (move f) p) → Told o (partial_unit (move f) p)
      → PartPut s p (shown_part (length (docs f)) part) o → KnowsShown (keys f) k ff numbers here o (partial_unit (move f) p)) where
    abbrev AllStand : ℕ → List (DwUnit EntryName) → Type 0
    AllStand here us = (j : ℕ) (u : DwUnit EntryName) → slice_get us j ≡ Some u → Stands (here + j) u

    abbrev AllKnown : ℕ → List UnitItems → List (DwUnit EntryName) → Type 0
    AllKnown here order us = KnowUnits (keys f) k ff numbers here order us

    pub all_known : (p : ℕ) (parts : List PartialUnit) → Among p parts → (here : ℕ) (order : List UnitItems) → Put p parts order → AllStand here (After p parts) → AllTold order (After p parts)
        → AllKnown here order (After p parts)
    unfolding partial_units
    all_known p [] among here [] put stand told = tt
    all_known p [] among here (o ∷ order) put stand told = absurd cc
    all_known p (part ∷ parts) among here order put stand told =
        let nth = among p part (inl (refl, refl)) in
        by nth (λ here order put stand told. all_known (suc p) parts (λ q other i. among q other (inr i)) here order put stand told) (same_home part.home h) refl here order
        (subst (λ (b : Bool). PutIf b p part parts order) (sym (is_number p part nth)) put) stand told
      where
        by : Nth 0 (move f).parts p part
            → ((here : ℕ) (order : List UnitItems) → Put (suc p) parts order → AllStand here (After (suc p) parts) → AllTold order (After (suc p) parts) → AllKnown here order (After (suc p) parts))
            → (b : Bool) → same_home part.home h ≡ b → (here : ℕ) (order : List UnitItems)
            → PutIf b p part parts order → AllStand here (AfterIf b p parts) → AllTold order (AfterIf b p parts) → AllKnown here order (AfterIf b p parts)
        by nth rest false e here order put stand told = rest here order put stand told
        by nth rest true e here [] put stand told = absurd put
        by nth rest true e here (o ∷ order) put stand told =
            let none : here + 0 ≡ here = omega arith in
            let at = subst (λ (q : ℕ). Stands q (partial_unit (move f) p)) none (stand 0 (partial_unit (move f) p) refl) in
            let behind : AllStand (suc here) (After (suc p) parts) =
            λ j u got. (let next : here + suc j ≡ suc here + j = omega arith in subst (λ (q : ℕ). Stands q u) next (stand (suc j) u got)) in
            let both = told_first o order (partial_unit (move f) p) (After (suc p) parts) told in
            (one p part nth (home_true part.home h e) o here at both.0 put.0, rest (suc here) order put.1 behind both.1)

-- ---- as the plan has them

pub parts_are : {beside : Beside} (f : RunFacts beside) (t : TextsAt) (k : EntryTable) → AreFacts f → AreListed f t k → (s : Settled) → IsSettled f s → map (shown_part (length (docs f))) (move f).parts ≡ s.plan.now.partials
parts_are f t k facts listed s settled =
    facts.shows.partials ∙ ap (λ (w : Planned). w.partials) (sym settled.plan)

module _ {beside : Beside} (f : RunFacts beside) (t : TextsAt) (k : EntryTable) (s : Settled) (facts : AreFacts f) (listed : AreListed f t k) (settled : IsSettled f s) where
  -- the parts of a plan are put so
  parts_put : (number : ℕ) (order : List UnitItems) → PartsPut s number 0 s.plan.now.partials order → PartsPut s number 0 (map (shown_part (length (docs f))) (move f).parts) order
  parts_put number order put = subst (λ (w : List PlannedPart). PartsPut s number 0 w order) (sym (parts_are f t k facts listed s settled)) put

  -- ---- a file

  module _ (n : ℕ) (below : n < length (docs f)) where
    local_number : (p : ℕ) (part : PartialUnit) → Nth 0 (move f).parts p part → same_home part.home (Local n) ≡ (file_of_home (length (docs f)) part.home == n)
    local_number p part nth = home_number (length (docs f)) n part.home (home_moves f facts n p part nth) below

    pub local_long : (order : List UnitItems) → PartsPut s n 0 s.plan.now.partials order → length order ≡ length (partial_units (move f) (Local n) 0 (move f).parts)
    local_long order put = parts_long f s (Local n) n local_number 0 (move f).parts (λ q part i. i) order (parts_put n order put)

    local_known : changes (move f) (units f) n ≡ true → (numbers : NewNumbers) (p : ℕ) (part : PartialUnit) → Nth 0 (move f).parts p part → part.home ≡ Local n → (o : UnitItems) (here : ℕ)
        → slice_get (units_written f) here ≡ Some (partial_unit (move f) p) → KnowsUnitTexts f k numbers n o (partial_unit (move f) p)
        → PartPut s p (shown_part (length (docs f)) part) o → KnowsShown (keys f) k (file_keyed_forms f n) numbers here o (partial_unit (move f) p)
    local_known changed numbers p part nth home o here at texts put =
        let r = file_read_there f facts n changed in
        part_known f t k facts listed s settled n r.bytes r.x r.index r.has (file_keyed_forms f n) numbers p part nth (local_made f facts n p part nth home) (first_file f facts n p part nth home) o here at texts put.items put.sort
        (file_owners f t k facts listed n r.bytes r.x r.index r.has changed here (partial_unit (move f) p) at (part_there f facts n p part nth home) o)
        (record { are = λ i q d read writes common. absurd cc })
        (not_first f facts n p part nth home t k listed here at)

  -- ---- the common file

  pub common_long : (order : List UnitItems) → PartsPut s (length (docs f)) 0 s.plan.now.partials order → length order ≡ length (common_units (move f))
  unfolding common_units
  common_long order put = parts_long f s Common (length (docs f)) (common_number f facts) 0 (move f).parts (λ q part i. i) order (parts_put (length (docs f)) order put)

module _ (f : RunFacts Alone) (t : TextsAt) (k : EntryTable) (s : Settled) (facts : AreFacts f) (listed : AreListed f t k) (settled : IsSettled f s) where
  one_common : (p : ℕ) (part : PartialUnit) → Nth 0 (move f).parts p part → part.home ≡ Common → (o : UnitItems) (here : ℕ)
      → slice_get (common_units (move f)) here ≡ Some (partial_unit (move f) p) → KnowsCommonUnit f k o (partial_unit (move f) p)
      → PartPut s p (shown_part (length (docs f)) part) o → KnowsShown (keys f) k (common_keyed_forms f) None here o (partial_unit (move f) p)
  one_common p part nth home o here at told put =
      let c = comes_from f facts p part (facts.goes.made p part nth tt) in
      let n = c.unit.file in
      let r = c.read in
      let first : (v : FileUnit EntryName) → Nth 0 (units f) (first_unit part.tops) v → v.file ≡ n =
      λ v there. ap (λ (w : FileUnit EntryName). w.file) (nth_one 0 (units f) (first_unit part.tops) v c.unit there c.nth) in
      let written_at : slice_get (units_written f) here ≡ Some (partial_unit (move f) p) =
      get_first (common_units (move f)) (files_written (move f) (units f) 0 (written f)) here (partial_unit (move f) p) at in
      part_known f t k facts listed s settled n r.bytes r.x r.index r.has (common_keyed_forms f) None p part nth tt first o here written_at (told.texts n) put.items put.sort
      (common_owners f t k facts listed n r.bytes r.x r.index r.has c.changed here (partial_unit (move f) p) written_at (common_there f p part nth home) o)
      (told.files n r.bytes r.x r.index r.has)
      (is_first f facts t k listed here (partial_unit (move f) p) at)

pub parts_known : PartsKnownLaw
parts_known beside f t k s facts listed settled n is numbers here order put there texts =
    let c = file_changed f n is in
    all_known f s (Local n) n (local_number f t k s facts listed settled n c.1) k (file_keyed_forms f n) numbers (KnowsUnitTexts f k numbers n) (KnowTexts f k numbers n)
    (λ o some u us both. both) (λ m u. slice_get (units_written f) m ≡ Some u) (local_known f t k s facts listed settled n c.1 c.0 numbers)
    0 (move f).parts (λ q part i. i) here order (parts_put f t k s facts listed settled n order put) there texts

pub common_known : CommonKnownLaw
unfolding common_units
common_known f t k s facts listed settled order put told =
    let first : (j : ℕ) → 0 + j ≡ j = λ j. omega arith in
    all_known f s Common (length (docs f)) (common_number f facts) k (common_keyed_forms f) None (KnowsCommonUnit f k) (KnowCommon f k)
    (λ o some u us both. both) (λ m u. slice_get (common_units (move f)) m ≡ Some u) (one_common f t k s facts listed settled)
    0 (move f).parts (λ q part i. i) 0 order (parts_put f t k s facts listed settled (length (docs f)) order put)
    (λ j u got. ap (slice_get (common_units (move f))) (first j) ∙ got) told
