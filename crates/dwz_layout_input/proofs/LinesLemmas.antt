-- The partial units of a plan, one by one.
use Rattle.std.proofs.Common.{◌≡◌, ◌⊎◌, ℕ, zero, suc, ◌+◌, ◌<◌, List, [], ◌∷◌, ◌++◌, length, map, get_or, Option, Some, None, slice_get, refl, sym, ap, subst, ◌∙◌, ⊎_elim, arith}
use Rattle.std.specs.Prelude.{slice_index_or}
use Rattle.std.proofs.lemmas.List.{length-append}
use Rattle.dwz_def_reading.proofs.ListFacts.{got_below, got_map, item_got, same_got}
use Rattle.dwz_def_tops.specs.Lists.{Nth}
use Rattle.dwz_def_tops.proofs.Members.{nth_get}
use Rattle.dwz_def_tops.specs.Spots.{EntryName, FileUnit}
use Rattle.dwz_def_images.specs.Moves.{Move, line_attrs}
use Rattle.dwz_def_images.specs.Plan.{PartialUnit}
use Rattle.dwz_layout_order.specs.Orders.{ShowsLine}
use Rattle.dwz_layout.specs.declared.order.Sort.TheVariants.{Partial as PartialSort}
use Rattle.dwz_plan.specs.declared.plan.Partial.{Partial}
use Rattle.dwz_plan.specs.Shows.{shown_part}
use Rattle.dwz_layout_input.specs.Roots.{AreLines, IsOfOneUnit}

-- of the first so many partial units
pub record LinesUpTo (m : Move) (units : List (FileUnit EntryName)) (i : ℕ) (lines : List (Option ℕ)) : Type 0 where
  pub len : length lines ≡ i
  pub each : (k : ℕ) (part : PartialUnit) → k < i → Nth 0 m.parts k part → IsOfOneUnit units part → ShowsLine (PartialSort (slice_index_or lines k None)) (line_attrs units part)

pub no_lines : (m : Move) (units : List (FileUnit EntryName)) (lines : List (Option ℕ)) → lines ≡ [] → LinesUpTo m units 0 lines
no_lines m units lines e = record { len = ap (λ (w : List (Option ℕ)). length w) e; each = λ k part lt nth one. absurd (omega arith) }

at_before : {X : Type 0} (xs : List X) (y d : X) (k : ℕ) → k < length xs → get_or (xs ++ y ∷ []) k d ≡ get_or xs k d
at_before [] y d k lt = absurd (omega arith)
at_before (x ∷ xs) y d zero lt = refl
at_before (x ∷ xs) y d (suc k) lt = at_before xs y d k (omega arith)

at_end : {X : Type 0} (xs : List X) (y d : X) → get_or (xs ++ y ∷ []) (length xs) d ≡ y
at_end [] y d = refl
at_end (x ∷ xs) y d = at_end xs y d

pub line_more : (m : Move) (units : List (FileUnit EntryName)) (i : ℕ) (lines new : List (Option ℕ)) (line : Option ℕ) → LinesUpTo m units i lines → new ≡ lines ++ line ∷ []
    → ((part : PartialUnit) → Nth 0 m.parts i part → IsOfOneUnit units part → ShowsLine (PartialSort line) (line_attrs units part)) → LinesUpTo m units (i + 1) new
line_more m units i lines new line h e says = record {
  len = ap (λ (w : List (Option ℕ)). length w) e ∙ length-append lines (line ∷ []) ∙ ap (λ (k : ℕ). k + 1) h.len;
  each = λ k part lt nth one. ⊎_elim
      (λ (less : k < i). (let long = h.len in subst (λ (o : Option ℕ). ShowsLine (PartialSort o) (line_attrs units part))
      (sym (at_before lines line None k (omega arith)) ∙ ap (λ (w : List (Option ℕ)). get_or w k None) (sym e)) (h.each k part less nth one)))
      (λ (same : k ≡ i). (
      let at : get_or new k None ≡ line = ap (λ (w : List (Option ℕ)). get_or w k None) e ∙ ap (λ (j : ℕ). get_or (lines ++ line ∷ []) j None) (same ∙ sym h.len) ∙ at_end lines line None in
      subst (λ (o : Option ℕ). ShowsLine (PartialSort o) (line_attrs units part)) (sym at) (says part (subst (λ (j : ℕ). Nth 0 m.parts j part) same nth) one)))
      (cases k lt);
}
  where
    cases : (k : ℕ) → k < i + 1 → (k < i) ⊎ (k ≡ i)
    cases k lt = grind arith

module _ (m : Move) (units : List (FileUnit EntryName)) (files : ℕ) (parts : List Partial) (shown : map (shown_part files) m.parts ≡ parts) where
  -- the partial unit with a number shows that of the move
  pub part_shown : (ps : List Partial) (i : ℕ) (x : Partial) (part : PartialUnit) → ps ≡ parts → i < length ps → x ≡ get_or ps i x → Nth 0 m.parts i part → x ≡ shown_part files part
  part_shown ps i x part e lt is nth =
      let here : slice_get parts i ≡ Some x = ap (λ (w : List Partial). slice_get w i) (sym e) ∙ item_got ps i x lt is in
      let there : slice_get parts i ≡ Some (shown_part files part) = ap (λ (w : List Partial). slice_get w i) (sym shown) ∙ got_map (shown_part files) m.parts i part
      (nth_get 0 m.parts i i part nth (omega arith)) in
      same_got parts i x (shown_part files part) here there

  map_long : {X Y : Type 0} (f : X → Y) (xs : List X) → length (map f xs) ≡ length xs
  map_long f [] = refl
  map_long f (x ∷ xs) = ap suc (map_long f xs)

  pub all_lines : (ps : List Partial) (i : ℕ) (lines : List (Option ℕ)) → ps ≡ parts → length ps ≡ i → LinesUpTo m units i lines → AreLines m units lines
  all_lines ps i lines e all h =
      let many : length parts ≡ length m.parts = ap (λ (w : List Partial). length w) (sym shown) ∙ map_long (shown_part files) m.parts in
      let same = ap (λ (w : List Partial). length w) e in
      let len = h.len in
      record {
        len = omega arith;
        each = λ n part nth one. h.each n part (let low = got_below m.parts n part (nth_get 0 m.parts n n part nth (omega arith)) in omega arith) nth one;
      }
