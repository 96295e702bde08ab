-- What is written along a function of places.
use Rattle.std.proofs.Common.{false, true, refl, ◌≡◌, Bool, List, [], ◌∷◌, ◌==◌, ◌&&◌, map, sym, ap, ◌∙◌, append-nil}
use Rattle.dwz_def_cross.specs.Tops.{WithCommon}
use Rattle.dwz_def_encoding.specs.Placing.{files_placed, number_of_key, sections, units_placed}
use Rattle.dwz_def_expand.specs.Chosen.{Choice}
use Rattle.dwz_def_expand.specs.ExpandLaws.{IsTest}
use Rattle.dwz_def_expand.specs.Source.{Copy}
use Rattle.dwz_def_expand.specs.Written.{expanded_places, expanded_sections, same_copy, written}
use Rattle.dwz_def_reading.specs.Documents.{DwUnit, unit_map}
use Rattle.dwz_expand_passes.proofs.ByteMaps.{number_mapped, sections_mapped, units_placed_mapped}
use Rattle.dwz_expand_passes.proofs.SourceMaps.{places_mapped}
use Rattle.dwz_expand_passes.proofs.UnitMaps.{written_mapped}
use Rattle.dwz_expand_passes.specs.Renamed.{RenamedLaw, SameChoice, copy_map, renamed}

-- the places of the units of a file alone
one_file : {K : Type 0} (units : List (DwUnit K)) → files_placed (record { number = 0; units = units } ∷ []) ≡ units_placed 0 units
unfolding files_placed
one_file units = append-nil (units_placed 0 units)

module _ {P Q : Type 0} (f : P → Q) (same : P → P → Bool) (other : Q → Q → Bool) (c : Choice P) (d : Choice Q) (w : WithCommon P) (alike : (p q : P) → other (f p) (f q) ≡ same p q)
    (choice : SameChoice f c d) where
  copies_alike : (a b : Copy P) → same_copy other (copy_map f a) (copy_map f b) ≡ same_copy same a b
  copies_alike a b = ap (λ (t : Bool). (a.unit == b.unit) && t) (alike a.source b.source)

  pub place_mapped : (k : Copy P) → (expanded_places other d (renamed f w)).place (copy_map f k) ≡ (expanded_places same c w).place k
  place_mapped k =
      ap (λ (units : List (DwUnit (Copy Q))). number_of_key (same_copy other) (files_placed (record { number = 0; units = units } ∷ [])) (copy_map f k))
      (written_mapped f same other alike c d choice w)
      ∙ ap (λ (ps : _). number_of_key (same_copy other) ps (copy_map f k)) (one_file (map (unit_map (copy_map f)) (written same c w)) ∙ units_placed_mapped (copy_map f) 0 (written same c w))
      ∙ number_mapped (copy_map f) (same_copy same) (same_copy other) copies_alike (units_placed 0 (written same c w)) k
      ∙ sym (ap (λ (ps : _). number_of_key (same_copy same) ps k) (one_file (written same c w)))

  pub all_sections : expanded_sections other d (renamed f w) ≡ expanded_sections same c w
  all_sections =
      ap (sections (expanded_places other d (renamed f w))) (written_mapped f same other alike c d choice w)
      ∙ sections_mapped (copy_map f) (expanded_places other d (renamed f w)) (written same c w)
      ∙ (λ i. sections (record { place = λ k. place_mapped k i }) (written same c w))

pub renamed_law : (P Q : Type 0) → RenamedLaw P Q
renamed_law P Q f same other c d w alike choice = record {
  sources = places_mapped f same other alike w;
  units = written_mapped f same other alike c d choice w;
  sections = all_sections f same other c d w alike choice;
  places = place_mapped f same other c d w alike choice;
}

-- tests agree along a function that takes no two together
pub tests_agree : {P Q : Type 0} (f : P → Q) (same : P → P → Bool) (other : Q → Q → Bool) → IsTest same → IsTest other → ((p q : P) → f p ≡ f q → p ≡ q) → (p q : P)
    → other (f p) (f q) ≡ same p q
tests_agree f same other one two apart p q = by (same p q) (other (f p) (f q)) refl refl where
  by : (a b : Bool) → same p q ≡ a → other (f p) (f q) ≡ b → other (f p) (f q) ≡ same p q
  by true b x y = (let is : f p ≡ f q = ap f (one.yes p q x) in ap (λ (z : _). other z (f q)) is ∙ two.no (f q) ∙ sym x)
  by false true x y = (let is : p ≡ q = apart p q (two.yes (f p) (f q) y) in let yes : same p q ≡ true = ap (λ (z : _). same z q) is ∙ one.no q in absurd cc)
  by false false x y = y ∙ sym x
