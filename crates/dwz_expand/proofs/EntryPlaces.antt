-- For which places the numbers of the entries of a file, and of its common one, stand.
use Rattle.std.proofs.Common.{◌≡◌, ℕ, List, [], ◌∷◌, ◌++◌, map, Option, Some, None, refl, sym, ap, subst, ◌∙◌, inl, inr}
use Rattle.std.proofs.lemmas.List.{map-append}
use Rattle.dwz_model.specs.Lists.{In}
use Rattle.dwz_model.proofs.ListFacts.{in_cases, in_left, in_right}
use Rattle.dwz_def_reading.specs.Documents.{DwUnit, unit_map}
use Rattle.dwz_def_reading.specs.Finished.{rule_of_common}
use Rattle.dwz_def_reading.specs.Meanings.{MeanUnits, all_places, places_of}
use Rattle.dwz_def_reading.specs.Places.{Place, at_file}
use Rattle.dwz_def_reading.specs.Units.{RawUnit}
use Rattle.dwz_def_reading.proofs.PlacesRise.{all_raw_keys, raw_keys}
use Rattle.dwz_def_tops.specs.Shown.{unit_keys, units_keys}
use Rattle.dwz_def_tops.proofs.MainLemmas.{keys_map}
use Rattle.dwz_def_cross.specs.Tops.{WithCommon}
use Rattle.dwz_def_check.proofs.ReadRefs.{means_keys}
use Rattle.dwz_def_expand.specs.OneFile.{CommonReads, FileRead, OneFile, rule_for, units_read}
use Rattle.dwz_def_expand.proofs.FileLemmas.{own_place}
use Rattle.dwz_graph.specs.Surroundings.{behind_own}
use Rattle.dwz_expand_passes.specs.declared.files.SourceFile.{SourceFile}
use Rattle.dwz_expand_passes.specs.Files.{KnowsCommon, around_beside, common_of, raw_in}
use Rattle.dwz_expand_passes.proofs.OperandLemmas.{map_twice}
use Rattle.dwz_expand_passes.proofs.PlacesSaid.{units_mean}
use Rattle.dwz_expand_passes.specs.declared.new_file.NewFile.{NewFile}
use Rattle.dwz_expand.specs.OneKnown.{stands_of}
use Rattle.dwz_expand.specs.Units.{HasRaw, IsOfOne}

-- ---- keys

keys_mapped : {P Q : Type 0} (f : P → Q) (units : List (DwUnit P)) → units_keys (map (unit_map f) units) ≡ map f (units_keys units)
unfolding units_keys unit_keys
keys_mapped f [] = refl
keys_mapped {P} {Q} f (u ∷ units) =
    ap (λ (w : List Q). (f u.at ∷ f u.root.at ∷ w) ++ units_keys (map (unit_map f) units)) (keys_map f u.below)
    ∙ ap (λ (w : List Q). map f (unit_keys u) ++ w) (keys_mapped f units)
    ∙ sym (map-append f (unit_keys u) (units_keys units))

same_at : {X Y : Type 0} (f g : X → Y) (xs : List X) → map f xs ≡ map g xs → (x : X) → In x xs → f x ≡ g x
same_at f g [] e x there = absurd there
same_at {X} {Y} f g (y ∷ xs) e x (inl is) = subst (λ (z : X). f z ≡ g z) is (let first : f y ≡ g y = cc in first)
same_at f g (y ∷ xs) e x (inr later) = same_at f g xs (let rest : map f xs ≡ map g xs = cc in rest) x later

-- the places of units are those of their entries, and their own
place_key : (raw : List RawUnit) (n : ℕ) → In n (all_places raw) → In n (all_raw_keys raw)
unfolding all_places all_raw_keys
place_key [] n there = absurd there
place_key (u ∷ raw) n there = elim (in_cases n (places_of u) (all_places raw) there) [
  | inl own ↦ inr (in_left n (places_of u) (all_raw_keys raw) own)
  | inr later ↦ in_right n (raw_keys u) (all_raw_keys raw) (place_key raw n later)
]

pub unit_place : (raw : List RawUnit) (u : RawUnit) (n : ℕ) → In u raw → In n (places_of u) → In n (all_places raw)
unfolding all_places
unit_place [] u n there is = absurd there
unit_place (v ∷ raw) u n (inl same) is = in_left n (places_of v) (all_places raw) (subst (λ (x : RawUnit). In n (places_of x)) (sym same) is)
unit_place (v ∷ raw) u n (inr later) is = in_right n (places_of v) (all_places raw) (unit_place raw u n later is)

same_keys : (place : ℕ → Place) (to : ℕ → ℕ) (number : ℕ) (keys : List ℕ) (own : List (DwUnit ℕ)) (units : List (DwUnit Place)) → units_keys own ≡ map to keys
    → map (unit_map place) own ≡ units → units_keys units ≡ map (at_file number) keys → (n : ℕ) → In n keys → place (to n) ≡ at_file number n
same_keys place to number keys own units mine are theirs n there =
    same_at (λ (k : ℕ). place (to k)) (at_file number) keys
    (map_twice place to keys ∙ ap (map place) (sym mine) ∙ sym (keys_mapped place own) ∙ ap (λ (us : List (DwUnit Place)). units_keys us) are ∙ theirs) n there

-- ---- of a file

module _ (f : OneFile) (x : NewFile) (k : IsOfOne f x) where
  own_keys : units_keys f.file.doc.units ≡ map (at_file 0) (all_raw_keys (raw_in x.own))
  own_keys =
      means_keys ((rule_for f 0).around f.file.bytes f.file.raw) f.file.raw f.file.doc.units k.reads.file.means
      ∙ ap (λ (g : ℕ → Place). map g (all_raw_keys f.file.raw)) (own_place f.common f.file)
      ∙ ap (λ (raw : List RawUnit). map (at_file 0) (all_raw_keys raw)) k.own_raw

  own_numbers : units_keys k.w.own ≡ map (λ n. n) (all_raw_keys (raw_in x.own))
  own_numbers =
      let around = around_beside x.own (common_of x.common) in
      means_keys around (raw_in x.own) k.w.own (units_mean around (raw_in x.own) k.w.own k.says.own.means)

  -- the number of an entry of the file stands for its place there
  pub own_at : (n : ℕ) → In n (all_places (raw_in x.own)) → k.place n ≡ at_file 0 n
  own_at n there =
      same_keys k.place (λ (m : ℕ). m) 0 (all_raw_keys (raw_in x.own)) k.w.own f.file.doc.units own_numbers (sym (ap (λ (w : WithCommon Place). w.own) k.stand.said)) own_keys n
      (place_key (raw_in x.own) n there)

  common_numbers : (c : SourceFile) (said : List (DwUnit ℕ)) → MeanUnits (around_beside c None) (raw_in c) said → k.w.common ≡ map (unit_map behind_own) said
      → units_keys k.w.common ≡ map behind_own (all_raw_keys (raw_in c))
  common_numbers c said means are =
      ap (λ (us : List (DwUnit ℕ)). units_keys us) are ∙ keys_mapped behind_own said
      ∙ ap (map behind_own) (means_keys (around_beside c None) (raw_in c) said means) ∙ sym (map_twice behind_own (λ (m : ℕ). m) (all_raw_keys (raw_in c)))

  common_keys : (o : Option FileRead) (c : SourceFile) → CommonReads o → HasRaw o (Some c) → units_keys (units_read o) ≡ map (at_file 1) (all_raw_keys (raw_in c))
  common_keys None c reads has = absurd has
  common_keys (Some d) c reads has = means_keys ((rule_of_common 1).around d.bytes d.raw) d.raw d.doc.units reads.means ∙ ap (λ (raw : List RawUnit). map (at_file 1) (all_raw_keys raw)) has

  -- and so does that of an entry of the common file
  pub common_at : (c : SourceFile) → x.common ≡ Some c → (n : ℕ) → In n (all_places (raw_in c)) → k.place (behind_own n) ≡ at_file 1 n
  common_at c is n there =
      let knows : KnowsCommon (Some c) k.w.common (stands_of f k.place) = subst (λ (o : Option SourceFile). KnowsCommon o k.w.common (stands_of f k.place)) is k.says.common in
      let has : HasRaw f.common (Some c) = subst (λ (o : Option SourceFile). HasRaw f.common o) is k.common_raw in
      same_keys k.place behind_own 1 (all_raw_keys (raw_in c)) k.w.common (units_read f.common)
      (common_numbers c knows.0 (units_mean (around_beside c None) (raw_in c) knows.0 knows.1.means) knows.2)
      (sym (ap (λ (w : WithCommon Place). w.common) k.stand.said)) (common_keys f.common c k.reads.common has) n
      (place_key (raw_in c) n there)
