-- What is written of the common file gives what its units say: one by one among the partial units of the plan.
use Rattle.std.proofs.Common.{◌≡◌, ℕ, suc, ◌<◌, ◌==◌, Bool, true, false, List, [], ◌∷◌, ◌++◌, length, map, refl, sym, ap, subst, ◌∙◌, inl, inr, arith, eq-eqb}
use Rattle.std.proofs.lemmas.Bool.{ne_eqb}
use Rattle.dwz_def_reading.proofs.ListFacts.{got_below}
use Rattle.dwz_def_reading.specs.Documents.{Attr, DwUnit}
use Rattle.dwz_def_reading.specs.Meanings.{IfSo}
use Rattle.dwz_def_tops.specs.Lists.{Nth}
use Rattle.dwz_def_tops.specs.Spots.{EntryName}
use Rattle.dwz_def_images.specs.Homes.{Common, Home, Local, Stay, is_home, same_home}
use Rattle.dwz_def_images.specs.Plan.{PartialUnit, partials}
use Rattle.dwz_def_images.proofs.PlanLemmas.{home_true}
use Rattle.dwz_plan.specs.declared.plan.Partial.{Partial as PlannedPart}
use Rattle.dwz_plan.specs.Planned.{Planned, file_of_home}
use Rattle.dwz_plan.specs.Shows.{shown_part}
use Rattle.dwz_def_images.specs.Units.{common_units, partial_unit, partial_units}
use Rattle.dwz_graph.proofs.FileCounts.{are_many}
use Rattle.dwz_layout_order.specs.Orders.{First}
use Rattle.dwz_layout_order.specs.declared.orders.Settled.{Settled}
use Rattle.dwz_layout_order.specs.Ordered.{PartPut, PartsPut, line_given}
use Rattle.dwz_layout.specs.declared.known.EntryTable.{EntryTable}
use Rattle.dwz_layout.specs.declared.order.UnitItems.{UnitItems}
use Rattle.dwz_layout.specs.declared.walk.Origin.{Origin}
use Rattle.dwz_law_layout.specs.Beside.{Alone}
use Rattle.dwz_law_layout.specs.Facts.{AreFacts, IsMade, RunFacts, docs, move}
use Rattle.dwz_law_layout.specs.Listed.{AreListed, TextsAt}
use Rattle.dwz_law_layout.specs.Settled.{IsSettled}
use Rattle.dwz_law_layout.proofs.TopTrees.{top_files}
use Rattle.dwz_law_layout.proofs.PartHomes.{home_moves, top_file, tops_there}
use Rattle.dwz_encode_common.specs.CommonLaws.{IsCommonOrder}
use Rattle.dwz_encode_common.specs.Gathered.{units_said}
use Rattle.dwz_encode_common.specs.Stored.{order_give}
use Rattle.dwz_encode_common.proofs.PartsSay.{Agree, part_says}

-- ---- homes

-- the number that a plan has for a home is that of the files just where the home is the common file
home_number : (files : ℕ) (h : Home) → is_home h ≡ true → ((n : ℕ) → h ≡ Local n → n < files)
    → same_home h Common ≡ (file_of_home files h == files)
home_number files Common moves low = sym (eq-eqb files files refl)
home_number files (Local n) moves low = sym (ne_eqb n files (let lt = low n refl in (λ e. omega arith)))
home_number files Stay moves low = absurd cc

module _ (f : RunFacts Alone) (facts : AreFacts f) (p : ℕ) (part : PartialUnit) (nth : Nth 0 (move f).parts p part) (is_made : IsMade f part.home) where
  -- the file of such a unit is one that was read
  home_low : (n : ℕ) → part.home ≡ Local n → n < length (docs f)
  home_low n home =
      let some = (facts.goes.made p part nth is_made).some in
      let r = top_files _ f facts some.0 (tops_there f facts n p part nth is_made some.0 some.1) in
      let file = top_file f facts n p part nth home some.0 some.1 in
      let low = got_below f.files some.0.file r.x r.has.file in
      let many = are_many f.contents f.files f.indexes facts.kept facts.indexed in
      let same = many.0 in
      omega arith

-- ---- units

module _ (f : RunFacts Alone) (t : TextsAt) (k : EntryTable) (facts : AreFacts f) (listed : AreListed f t k) (s : Settled) (settled : IsSettled f s)
    (give : Origin → List (List ℕ)) (said : Attr EntryName → List (List ℕ)) (agree : Agree f k give said) where
  abbrev files : ℕ
  files = length (docs f)

  abbrev shown : PartialUnit → PlannedPart
  shown part = shown_part files part

  abbrev After : ℕ → List PartialUnit → List (DwUnit EntryName)
  After p parts = partial_units (move f) Common p parts

  abbrev Put : ℕ → List PartialUnit → List UnitItems → Type 0
  Put p parts order = PartsPut s files p (map (shown_part files) parts) order

  -- of one part and those behind it, by whether its home is the common file
  abbrev AfterIf : Bool → ℕ → List PartialUnit → List (DwUnit EntryName)
  AfterIf b p parts = elim b as (λ _. List (DwUnit EntryName))
      [ true ↦ partial_unit (move f) p ∷ After (suc p) parts | false ↦ After (suc p) parts ]

  abbrev PutIf : Bool → ℕ → PartialUnit → List PartialUnit → List UnitItems → Type 0
  PutIf b p part parts order = IfSo b (First (PartPut s p (shown part)) (Put (suc p) parts) order) (Put (suc p) parts order)

  from : (p : ℕ) (parts : List PartialUnit) → ((q : ℕ) (part : PartialUnit) → Nth p parts q part → Nth 0 (move f).parts q part)
      → (order : List UnitItems) → Put p parts order → order_give give k order ≡ units_said said (After p parts)
  unfolding partial_units
  from p [] among [] put = refl
  from p [] among (o ∷ order) put = absurd cc
  from p (part ∷ parts) among order put =
      let nth = among p part (inl (refl, refl)) in
      let later : (q : ℕ) (other : PartialUnit) → Nth (suc p) parts q other
      → Nth 0 (move f).parts q other = λ q other i. among q other (inr i) in
      let same = home_number files part.home (home_moves f facts 0 p part nth) (home_low f facts p part nth tt) in
      by nth (λ order put. from (suc p) parts later order put) (same_home part.home Common) refl order
      (subst (λ (b : Bool). PutIf b p part parts order) (sym same) put) where
        by : Nth 0 (move f).parts p part
            → ((order : List UnitItems) → Put (suc p) parts order → order_give give k order ≡ units_said said (After (suc p) parts))
            → (b : Bool) → same_home part.home Common ≡ b → (order : List UnitItems) → PutIf b p part parts order
            → order_give give k order ≡ units_said said (AfterIf b p parts)
        by nth rest false e order put = rest order put
        by nth rest true e [] put = absurd put
        by nth rest true e (o ∷ order) put =
            let home = home_true part.home Common e in
            let one = part_says f t k facts listed s settled give said agree p part nth home o put.0.items (line_given s p) put.0.sort in
            (λ i. one i ++ rest order put.1 i)

  pub units_say : (order : List UnitItems) → PartsPut s files 0 s.plan.now.partials order
      → order_give give k order ≡ units_said said (common_units (move f))
  unfolding common_units
  units_say order put =
      let same : map (shown_part files) (move f).parts ≡ s.plan.now.partials =
      facts.shows.partials ∙ ap (λ (w : Planned). w.partials) (sym settled.plan) in
      from 0 (move f).parts (λ q part i. i) order (subst (λ (w : List PlannedPart). PartsPut s files 0 w order) (sym same) put)

-- ---- the first order

pub order_says : (f : RunFacts Alone) (k : EntryTable) (order : List UnitItems) → (is : IsCommonOrder f k order)
    → (give : Origin → List (List ℕ)) (said : Attr EntryName → List (List ℕ))
    → Agree f k give said → order_give give k order ≡ units_said said (common_units (move f))
order_says f k order is give said agree =
    let o = is.ordered in
    let first : order ≡ o.common = cc in
    let many = are_many f.contents o.files f.indexes o.kept is.facts.indexed in
    let put : PartsPut is.s (length (docs f)) 0 is.s.plan.now.partials order =
    subst (λ (w : List UnitItems). PartsPut is.s (length (docs f)) 0 is.s.plan.now.partials w) (sym first)
    (subst (λ (n : ℕ). PartsPut is.s n 0 is.s.plan.now.partials o.common) many.0 o.common_put) in
    units_say f is.t k is.facts is.listed is.s is.settled give said agree order put
