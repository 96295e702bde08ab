-- Units that are cut into stretches have the bytes that they have together.
use Rattle.std.proofs.Common.{◌≡◌, ◌⊎◌, inl, inr, ℕ, suc, ◌+◌, List, [], ◌∷◌, ◌++◌, length, map, refl, sym, ap, ◌∙◌}
use Rattle.std.proofs.Common.{append_assoc, append-nil, arith}
use Rattle.std.specs.List.{flat_map}
use Rattle.std.proofs.lemmas.List.Concat.{flat_map-append}
use Rattle.std.proofs.lemmas.List.Folds.{flat_map-map}
use Rattle.dwz_layout.specs.declared.known.EntryTable.{EntryTable}
use Rattle.dwz_layout.specs.declared.layout.OutUnit.{OutUnit}
use Rattle.dwz_layout.specs.declared.order.UnitItems.{UnitItems}
use Rattle.dwz_encode.specs.Pages.{unit_page, units_page}
use Rattle.dwz_encode.specs.declared.stretches.Stretch.{Stretch}
use Rattle.dwz_encode.specs.Stretches.{stretch_page, stretches_page}

module _ (k : EntryTable) (places roots : List ℕ) where
  pub page_parts : (here : ℕ) (us vs : List UnitItems) (os ps : List OutUnit) → length us ≡ length os
      → units_page k places roots here (us ++ vs) (os ++ ps)
      ≡ units_page k places roots here us os ++ units_page k places roots (here + length us) vs ps
  unfolding units_page
  page_parts here [] vs [] ps same =
      let none : here ≡ here + 0 = omega arith in
      ap (λ (h : ℕ). units_page k places roots h vs ps) none
  page_parts here [] vs (o ∷ os) ps same = absurd (omega (arith, same))
  page_parts here (u ∷ us) vs [] ps same = absurd (omega (arith, same))
  page_parts here (u ∷ us) vs (o ∷ os) ps same =
      let fewer : length us ≡ length os = omega (arith, same) in
      let next : suc here + length us ≡ here + suc (length us) = omega arith in
      let page : List ℕ = unit_page k places roots here u o in
      let front : List ℕ = units_page k places roots (suc here) us os in
      ap (λ (w : List ℕ). page ++ w) (page_parts (suc here) us vs os ps fewer)
      ∙ sym (append_assoc page front (units_page k places roots (suc here + length us) vs ps))
      ∙ ap (λ (h : ℕ). (page ++ front) ++ units_page k places roots h vs ps) next

  -- one stretch more
  pub stretch_step : (done new : List Stretch) (s : Stretch) (here next : ℕ)
      (units later : List UnitItems) (laid later_laid : List OutUnit) (all : List ℕ)
      → new ≡ done ++ s ∷ [] → s.first ≡ here → units ≡ s.units.now ++ later → laid ≡ s.laid.now ++ later_laid
      → length s.units.now ≡ length s.laid.now → next ≡ here + length s.units.now
      → stretches_page k places roots done ++ units_page k places roots here units laid ≡ all
      → stretches_page k places roots new ++ units_page k places roots next later later_laid ≡ all
  stretch_step done new s here next units later laid later_laid all more first a b same step so =
      let front : List ℕ = stretches_page k places roots done in
      let page : List ℕ = stretch_page k places roots s in
      let rest : List ℕ = units_page k places roots next later later_laid in
      let one : flat_map (stretch_page k places roots) (s ∷ []) ≡ page = append-nil page in
      ap (λ (ss : List Stretch). stretches_page k places roots ss ++ rest) more
      ∙ ap (λ (w : List ℕ). w ++ rest) (flat_map-append (stretch_page k places roots) done (s ∷ []))
      ∙ ap (λ (w : List ℕ). (front ++ w) ++ rest) one
      ∙ append_assoc front page rest
      ∙ (λ i. front ++ (units_page k places roots (first i) s.units.now s.laid.now ++ units_page k places roots (step i) later later_laid))
      ∙ sym (ap (λ (w : List ℕ). front ++ w) (page_parts here s.units.now later s.laid.now later_laid same))
      ∙ sym (λ i. front ++ units_page k places roots here (a i) (b i))
      ∙ so

  no_page : (here : ℕ) (units : List UnitItems) (laid : List OutUnit) → (length units ≡ 0) ⊎ (length laid ≡ 0)
      → units_page k places roots here units laid ≡ []
  unfolding units_page
  no_page here [] laid none = refl
  no_page here (u ∷ units) [] none = refl
  no_page here (u ∷ units) (o ∷ laid) (inl none) = absurd (omega (arith, none))
  no_page here (u ∷ units) (o ∷ laid) (inr none) = absurd (omega (arith, none))

  -- no stretch more
  pub stretches_done : (done : List Stretch) (here : ℕ) (units : List UnitItems) (laid : List OutUnit) (all : List ℕ)
      → (length units ≡ 0) ⊎ (length laid ≡ 0) → stretches_page k places roots done ++ units_page k places roots here units laid ≡ all
      → stretches_page k places roots done ≡ all
  stretches_done done here units laid all none so =
      let front : List ℕ = stretches_page k places roots done in
      sym (append-nil front) ∙ sym (ap (λ (w : List ℕ). front ++ w) (no_page here units laid none)) ∙ so

  -- the pages of all stretches, one behind the other
  pub all_joined : (pages : List (List ℕ)) (seen stretches : List Stretch) (here : ℕ) (units : List UnitItems) (outs laid : List OutUnit)
      → pages ≡ map (stretch_page k places roots) seen → seen ≡ stretches
      → stretches_page k places roots stretches ≡ units_page k places roots here units outs → outs ≡ laid
      → flat_map (λ (page : List ℕ). page) pages ≡ units_page k places roots here units laid
  all_joined pages seen stretches here units outs laid each is whole same =
      ap (λ (ps : List (List ℕ)). flat_map (λ (page : List ℕ). page) ps) each
      ∙ flat_map-map (λ (page : List ℕ). page) (stretch_page k places roots) seen
      ∙ ap (λ (ss : List Stretch). stretches_page k places roots ss) is
      ∙ whole
      ∙ ap (λ (os : List OutUnit). units_page k places roots here units os) same
