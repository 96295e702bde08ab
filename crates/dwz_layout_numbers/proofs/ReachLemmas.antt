-- A name stands in one unit, so its number tells in which unit and in which file.
use Rattle.std.proofs.Common.{◌≡◌, ◌⊎◌, ℕ, zero, suc, ◌≤◌, ◌==◌, Bool, true, false, List, [], ◌∷◌, ◌++◌, length, Some, slice_get, not, refl, sym, ap, subst, ◌∙◌, inl, inr, arith, eq-eqb, eqb-true}
use Rattle.std.specs.Prelude.{nat_lt}
use Rattle.std.proofs.lemmas.Bool.{ltb-false, ltb-true}
use Rattle.std.proofs.lemmas.List.{append-nil, append_assoc}
use Rattle.dwz_def_reading.specs.Lists.{In}
use Rattle.dwz_def_reading.proofs.ListFacts.{got_below, in_left, in_right}
use Rattle.dwz_def_reading.specs.Documents.{Doc, DwUnit}
use Rattle.dwz_def_tops.specs.Lists.{NoneTwice}
use Rattle.dwz_def_tops.specs.Shown.{unit_keys, units_keys}
use Rattle.dwz_def_tops.proofs.OnceLemmas.{none_append, none_both, none_left, none_right}
use Rattle.dwz_def_tops.specs.Spots.{EntryName, FileUnit, file_numbers, same_spot}
use Rattle.dwz_graph.proofs.TopLemmas.{get_cases}
use Rattle.dwz_def_images.specs.Moves.{Move}
use Rattle.dwz_def_images.specs.Units.{all_units, common_units, file_units, out_units}
use Rattle.dwz_def_tops.proofs.UnitKeys.{keys_joined}
use Rattle.dwz_def_encoding.specs.Placing.{has_key}
use Rattle.dwz_def_encoding.proofs.Chosen.{none_has}
use Rattle.dwz_def_encoding.proofs.ChosenNames.{has_in}
use Rattle.dwz_def_encoding.proofs.SameLemmas.{spots_same}
use Rattle.dwz_layout_numbers.specs.Owners.{StandsIn, all_written, files_written}

-- ---- where a name stands

pub in_all : (all : List (DwUnit EntryName)) (n : ℕ) (u : DwUnit EntryName) (s : EntryName) → slice_get all n ≡ Some u → In s (unit_keys u) → In s (units_keys all)
unfolding units_keys
in_all [] n u s e h = absurd cc
in_all (v ∷ all) zero u s e h = (let same : v ≡ u = cc in in_left s (unit_keys v) (units_keys all) (subst (λ (w : DwUnit EntryName). In s (unit_keys w)) (sym same) h))
in_all (v ∷ all) (suc n) u s e h = in_right s (unit_keys v) (units_keys all) (in_all all n u s e h)

one_place : (all : List (DwUnit EntryName)) → NoneTwice (units_keys all) → (m n : ℕ) (u v : DwUnit EntryName) (s : EntryName) → slice_get all m ≡ Some u → In s (unit_keys u) → slice_get all n ≡ Some v
    → In s (unit_keys v) → m ≡ n
unfolding units_keys
one_place [] once m n u v s e h f k = absurd cc
one_place (w ∷ all) once zero zero u v s e h f k = refl
one_place (w ∷ all) once zero (suc n) u v s e h f k =
    (let same : w ≡ u = cc in absurd (none_both (unit_keys w) (units_keys all) once s (subst (λ (x : DwUnit EntryName). In s (unit_keys x)) (sym same) h) (in_all all n v s f k)))
one_place (w ∷ all) once (suc m) zero u v s e h f k =
    (let same : w ≡ v = cc in absurd (none_both (unit_keys w) (units_keys all) once s (subst (λ (x : DwUnit EntryName). In s (unit_keys x)) (sym same) k) (in_all all m u s e h)))
one_place (w ∷ all) once (suc m) (suc n) u v s e h f k = ap suc (one_place all (none_right (unit_keys w) (units_keys all) once) m n u v s e h f k)

tells : (s : EntryName) (keys : List EntryName) (b : Bool) → (b ≡ true → In s keys) → (b ≡ false → In s keys → ⊥) → has_key same_spot s keys ≡ b
tells s keys b there none = by (has_key same_spot s keys) b refl refl where
  by : (h c : Bool) → has_key same_spot s keys ≡ h → b ≡ c → has_key same_spot s keys ≡ b
  by true true e f = e ∙ sym f
  by false false e f = e ∙ sym f
  by true false e f = absurd (none f (has_in same_spot spots_same s keys e))
  by false true e f = absurd (none_has same_spot spots_same s keys (there f) e)

pub own_tells : (all : List (DwUnit EntryName)) → NoneTwice (units_keys all) → (s : EntryName) (owner : ℕ) → StandsIn all s owner → (here : ℕ) (u : DwUnit EntryName) → slice_get all here ≡ Some u
    → has_key same_spot s (unit_keys u) ≡ (owner == here)
own_tells all once s owner h here u e =
    tells s (unit_keys u) (owner == here)
    (λ t. (
    let same : owner ≡ here = eqb-true owner here t in
    let both : Some h.unit ≡ Some u = sym h.is ∙ ap (slice_get all) same ∙ e in
    let unit : h.unit ≡ u = cc in
    subst (λ (w : DwUnit EntryName). In s (unit_keys w)) unit h.has))
    (λ f is. (let x : (owner == here) ≡ true = eq-eqb owner here (one_place all once owner here h.unit u s h.is h.has e is) in cc))

-- ---- in which file

no_both : (xs ys : List (DwUnit EntryName)) → NoneTwice (units_keys (xs ++ ys)) → (s : EntryName) → In s (units_keys xs) → In s (units_keys ys) → ⊥
no_both xs ys once s = none_both (units_keys xs) (units_keys ys) (subst NoneTwice (keys_joined xs ys) once) s

pub common_tells : (common others : List (DwUnit EntryName)) → NoneTwice (units_keys (common ++ others)) → (s : EntryName) (owner : ℕ) → StandsIn (common ++ others) s owner
    → has_key same_spot s (units_keys common) ≡ nat_lt owner (length common)
common_tells common others once s owner h =
    tells s (units_keys common) (nat_lt owner (length common))
    (λ t. (elim (get_cases common others owner h.unit h.is) [
      | inl a ↦ in_all common owner h.unit s a h.has
      | inr b ↦ absurd (let lt = ltb-true owner (length common) t in let e = b.1 in omega (arith, lt, e))
    ]))
    (λ f is. (elim (get_cases common others owner h.unit h.is) [
      | inl a ↦ (let lt = got_below common owner h.unit a in let le = ltb-false owner (length common) f in omega (arith, lt, le))
      | inr b ↦ no_both common others once s is (in_all others b.0 h.unit s b.2 h.has)
    ]))

pub file_tells : (common before own after : List (DwUnit EntryName)) → NoneTwice (units_keys (common ++ (before ++ (own ++ after)))) → (s : EntryName) (owner : ℕ)
    → StandsIn (common ++ (before ++ (own ++ after))) s owner → In s (units_keys common) ⊎ In s (units_keys own)
    → has_key same_spot s (units_keys own) ≡ not (nat_lt owner (length common))
file_tells common before own after once s owner h there =
    let others = before ++ (own ++ after) in
    let is_common = common_tells common others once s owner h in
    go is_common (nat_lt owner (length common)) refl there
  where
    inside : In s (units_keys own) → In s (units_keys (before ++ (own ++ after)))
    inside is = subst (In s) (sym (keys_joined before (own ++ after)))
        (in_right s (units_keys before) (units_keys (own ++ after)) (subst (In s) (sym (keys_joined own after)) (in_left s (units_keys own) (units_keys after) is)))

    go : has_key same_spot s (units_keys common) ≡ nat_lt owner (length common) → (b : Bool) → nat_lt owner (length common) ≡ b → In s (units_keys common) ⊎ In s (units_keys own)
        → has_key same_spot s (units_keys own) ≡ not (nat_lt owner (length common))
    go e true t w =
        let here : In s (units_keys common) = has_in same_spot spots_same s (units_keys common) (e ∙ t) in
        tells s (units_keys own) false (λ x. absurd cc) (λ f is. no_both common (before ++ (own ++ after)) once s here (inside is)) ∙ sym (ap not t)
    go e false t (inl a) = absurd (none_has same_spot spots_same s (units_keys common) a (e ∙ t))
    go e false t (inr b) = tells s (units_keys own) true (λ x. b) (λ f is. (let z : true ≡ false = f in cc)) ∙ sym (ap not t)

-- ---- no name stands twice

skipped : (a b c : List EntryName) → NoneTwice (a ++ (b ++ c)) → NoneTwice (a ++ c)
skipped a b c h = none_append a c (none_left a (b ++ c) h) (none_right b c (none_right a (b ++ c) h)) (λ x p q. none_both a (b ++ c) h x p (in_right x b c q))

module _ (m : Move) (units : List (FileUnit EntryName)) where
  some_once : (before : List (DwUnit EntryName)) (file : ℕ) (docs : List (Doc ℕ)) (written : List Bool) → length written ≤ length docs
      → NoneTwice (units_keys (before ++ file_units m units (file_numbers file docs))) → NoneTwice (units_keys (before ++ files_written m units file written))
  unfolding file_units file_numbers files_written
  some_once before file docs [] le h = subst (λ (w : List (DwUnit EntryName)). NoneTwice (units_keys w)) (sym (append-nil before))
      (none_left (units_keys before) (units_keys (file_units m units (file_numbers file docs))) (subst NoneTwice (keys_joined before (file_units m units (file_numbers file docs))) h))
  some_once before file [] (w ∷ written) le h = absurd (omega (arith, le))
  some_once before file (doc ∷ docs) (true ∷ written) le h =
      let own = out_units m units file in
      let rest = file_units m units (file_numbers (suc file) docs) in
      subst (λ (w : List (DwUnit EntryName)). NoneTwice (units_keys w)) (append_assoc before own (files_written m units (suc file) written))
      (some_once (before ++ own) (suc file) docs written (omega (arith, le)) (subst (λ (w : List (DwUnit EntryName)). NoneTwice (units_keys w)) (sym (append_assoc before own rest)) h))
  some_once before file (doc ∷ docs) (false ∷ written) le h =
      let own = out_units m units file in
      let rest = file_units m units (file_numbers (suc file) docs) in
      let keys : NoneTwice (units_keys before ++ (units_keys own ++ units_keys rest)) = subst NoneTwice (keys_joined before (own ++ rest)
      ∙ ap (λ (w : List EntryName). units_keys before ++ w) (keys_joined own rest)) h in
      some_once before (suc file) docs written (omega (arith, le)) (subst NoneTwice (sym (keys_joined before rest)) (skipped (units_keys before) (units_keys own) (units_keys rest) keys))

pub written_once : (m : Move) (units : List (FileUnit EntryName)) (docs : List (Doc ℕ)) (written : List Bool) → NoneTwice (units_keys (all_units m units (file_numbers 0 docs)))
    → length written ≤ length docs → NoneTwice (units_keys (all_written m units written))
written_once m units docs written once le = some_once m units (common_units m) 0 docs written le once
