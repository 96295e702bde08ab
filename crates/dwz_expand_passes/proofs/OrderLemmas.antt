-- All new units in order.
use Rattle.std.proofs.Common.{◌≡◌, ℕ, zero, suc, ◌+◌, ◌<◌, List, [], ◌∷◌, ◌++◌, length, map, Some, Err, slice_get, refl, sym, ap, subst, ◌∙◌, arith, inl, inr}
use Rattle.std.proofs.lemmas.List.{length-append}
use Rattle.std.proofs.lemmas.Bool.{cases_lt}
use Rattle.dwz_def_cross.specs.CrossSame.{EachTwo}
use Rattle.dwz_def_cross.specs.Tops.{WithCommon, units_with_common, whole_units}
use Rattle.dwz_def_expand.specs.Refusals.{Site, SiteFault, Where, nodes, sites_from, sites_in}
use Rattle.dwz_def_expand.specs.Source.{source_places, source_unit}
use Rattle.dwz_def_reading.specs.Documents.{DwUnit}
use Rattle.dwz_def_reading.specs.FirstOf.{OfFirst}
use Rattle.dwz_expand_sources.specs.Imports.{same}
use Rattle.dwz_model.proofs.ListFacts.{get_last, got_below, got_there, same_got}
use Rattle.dwz_model.specs.declared.fault.Fault.{Fault}
use Rattle.dwz_model.specs.declared.fault.ReadErr.{ReadErr}
use Rattle.dwz_model.specs.declared.fault.ReadErr.TheVariants.{NoMemory, Refused}
use Rattle.dwz_expand_layout.specs.Entries.{UnitLines}
use Rattle.dwz_expand_sources.specs.declared.sources.NewUnit.{NewUnit}
use Rattle.dwz_expand_sources.specs.Sources.{IsNewUnit}
use Rattle.dwz_expand_passes.proofs.PlacesSaid.{first_got}
use Rattle.dwz_expand_passes.specs.Passes.{AreNew, IsRefused, Says, forms_in}
use Rattle.dwz_expand_passes.specs.Units.{IsNewOf, RefusesAt, RefusesUnit}
use Rattle.dwz_expand_passes.specs.declared.new_file.NewFile.{NewFile}
use Rattle.dwz_expand_passes.proofs.StepLemmas.{first_front, free_first}
use Rattle.dwz_expand_passes.proofs.UnitLemmas.{no_first}
use Rattle.dwz_expand_passes.specs.CopiesOf.{HasCopies, HaveCopies}

pub two_long : {X Y : Type 0} (R : X → Y → Type 0) (xs : List X) (ys : List Y) → EachTwo R xs ys → length xs ≡ length ys
two_long R [] [] h = refl
two_long R [] (y ∷ ys) h = absurd h
two_long R (x ∷ xs) [] h = absurd h
two_long R (x ∷ xs) (y ∷ ys) h = ap suc (two_long R xs ys h.1)

-- the first units are done
pub record AreDone (x : NewFile) (n : ℕ) (order : List UnitLines) : Type 0 where
  pub many : length order ≡ n
  pub each : (i : ℕ) (o : UnitLines) → slice_get order i ≡ Some o → IsNewOf x i o

pub none_done : (x : NewFile) → AreDone x 0 []
none_done x = record { many = refl; each = λ i o found. absurd (let never = got_below [] i o found in omega (arith, never)) }

pub one_done : (x : NewFile) (n : ℕ) (order : List UnitLines) (o : UnitLines) → AreDone x n order → IsNewOf x n o → AreDone x (n + 1) (order ++ o ∷ [])
one_done x n order o done new = record {
  many = (let many = done.many in omega (arith, many, length-append order (o ∷ [])));
  each = λ i p found. elim (cases_lt i (length order)) [
    | inl lt ↦ done.each i p (first_got order (o ∷ []) i p lt found)
    | inr le ↦
        let lt = got_below (order ++ o ∷ []) i p found in
        let at : length order ≡ i = omega (arith, lt, le, length-append order (o ∷ [])) in
        let last : slice_get (order ++ o ∷ []) i ≡ Some o = subst (λ (k : ℕ). slice_get (order ++ o ∷ []) k ≡ Some o) at (get_last order o) in
        let one : o ≡ p = same_got (order ++ o ∷ []) i o p last found in
        let number : n ≡ i = sym done.many ∙ at in
        subst (λ (q : UnitLines). IsNewOf x i q) one (subst (λ (k : ℕ). IsNewOf x k o) number new)
  ];
}

module _ (x : NewFile) (w : WithCommon ℕ) (stands : Where ℕ) (says : Says x w stands) where
  pub units_long : length x.sources.now.units ≡ length (whole_units w.own)
  units_long = two_long (IsNewUnit w x.sources.now.ranges) x.sources.now.units (whole_units w.own) says.are.units

  have_copies : (m : ℕ) (xs : List NewUnit) (us : List (DwUnit ℕ)) (order : List UnitLines) → length xs ≡ length us → length order ≡ length xs
      → ((i : ℕ) (new : NewUnit) (u : DwUnit ℕ) (o : UnitLines) → slice_get xs i ≡ Some new → slice_get us i ≡ Some u → slice_get order i ≡ Some o
      → HasCopies w x.sources.now (forms_in x w) (m + i) new u o)
      → HaveCopies w x.sources.now (forms_in x w) m xs us order
  have_copies m [] [] [] a b h = tt
  have_copies m [] [] (o ∷ order) a b h = absurd (omega (arith, b))
  have_copies m [] (u ∷ us) order a b h = absurd (omega (arith, a))
  have_copies m (new ∷ xs) [] order a b h = absurd (omega (arith, a))
  have_copies m (new ∷ xs) (u ∷ us) [] a b h = absurd (omega (arith, b))
  have_copies m (new ∷ xs) (u ∷ us) (o ∷ order) a b h =
      let first : m + 0 ≡ m = omega arith in (
        subst (λ (k : ℕ). HasCopies w x.sources.now (forms_in x w) k new u o) first (h 0 new u o refl refl refl),
        have_copies (suc m) xs us order (omega (arith, a)) (omega (arith, b)) (λ i y v p got there has. (
            let next : m + suc i ≡ suc m + i = omega arith in
            subst (λ (k : ℕ). HasCopies w x.sources.now (forms_in x w) k y v p) next (h (suc i) y v p got there has))),
      )

  abbrev Has : Site ℕ → Fault → Type 0
  Has = SiteFault same (source_places same w) (forms_in x w) stands

  abbrev source : DwUnit ℕ → DwUnit ℕ
  source = source_unit same (units_with_common w)

  no_sites : (m : ℕ) (us : List (DwUnit ℕ)) → ((i : ℕ) (u : DwUnit ℕ) → slice_get us i ≡ Some u → (f : Fault) → ¬ RefusesUnit x w stands (m + i) u f) → (f : Fault)
      → ¬ OfFirst Has (sites_from m (map source us)) f
  unfolding sites_from
  no_sites m [] free f h = h
  no_sites m (u ∷ us) free f h =
      let first : m + 0 ≡ m = omega arith in
      no_first Has (sites_in m (u.root ∷ nodes (source u).below)) (sites_from (suc m) (map source us))
      (λ g. subst (λ (k : ℕ). ¬ RefusesUnit x w stands k u g) first (free 0 u refl g))
      (no_sites (suc m) us (λ i v found g. (
      let next : m + suc i ≡ suc m + i = omega arith in
      subst (λ (k : ℕ). ¬ RefusesUnit x w stands k v g) next (free (suc i) v found g)))) f h

  refused_from : (m n : ℕ) (us : List (DwUnit ℕ)) (f : Fault) → n < length us
      → ((i : ℕ) (u : DwUnit ℕ) → i < n → slice_get us i ≡ Some u → (g : Fault) → ¬ RefusesUnit x w stands (m + i) u g)
      → ((u : DwUnit ℕ) → slice_get us n ≡ Some u → RefusesUnit x w stands (m + n) u f) → OfFirst Has (sites_from m (map source us)) f
  unfolding sites_from
  refused_from m n [] f lt free refuses = absurd (omega (arith, lt))
  refused_from m zero (u ∷ us) f lt free refuses =
      let first : m + 0 ≡ m = omega arith in
      first_front Has (sites_in m (u.root ∷ nodes (source u).below)) (sites_from (suc m) (map source us)) f
      (subst (λ (k : ℕ). RefusesUnit x w stands k u f) first (refuses u refl))
  refused_from m (suc n) (u ∷ us) f lt free refuses =
      let first : m + 0 ≡ m = omega arith in
      free_first Has (sites_in m (u.root ∷ nodes (source u).below)) (sites_from (suc m) (map source us)) f
      (λ g. subst (λ (k : ℕ). ¬ RefusesUnit x w stands k u g) first (free 0 u (omega arith) refl g))
      (refused_from (suc m) n us f (omega (arith, lt))
      (λ i v less found g. (
      let next : m + suc i ≡ suc m + i = omega arith in
      subst (λ (k : ℕ). ¬ RefusesUnit x w stands k v g) next (free (suc i) v (omega (arith, less)) found g)))
      (λ v found. (
      let next : m + suc n ≡ suc m + n = omega arith in
      subst (λ (k : ℕ). RefusesUnit x w stands k v f) next (refuses v found))))

pub all_done : (x : NewFile) (n : ℕ) (order : List UnitLines) → length x.sources.now.units ≡ n → AreDone x n order → AreNew x order
all_done x n order all done = record {
  copies = λ w stands says. have_copies x w stands says 0 x.sources.now.units (whole_units w.own) order (units_long x w stands says) (done.many ∙ sym all) (λ i new u o got there has. (
      let at : i ≡ 0 + i = omega arith in
      subst (λ (k : ℕ). HasCopies w x.sources.now (forms_in x w) k new u o) at ((done.each i o has).copies w stands says new u got there)));
  free = λ w stands says. no_sites x w stands says 0 (whole_units w.own) (λ i u found g. (
      let lt = got_below (whole_units w.own) i u found in
      let many = done.many in
      let o = got_there order i (omega (arith, lt, units_long x w stands says, all, many)) in
      let at : i ≡ 0 + i = omega arith in
      subst (λ (k : ℕ). ¬ RefusesUnit x w stands k u g) at ((done.each i o.0 o.1).free w stands says u found g)));
}

pub refused_all : (x : NewFile) (n : ℕ) (order : List UnitLines) (e : ReadErr) → n < length x.sources.now.units → AreDone x n order → RefusesAt {Y = Unit {0}} x n (Err e)
    → IsRefused {Y = Unit {0}} x (Err e)
refused_all x n order NoMemory lt done r = tt
refused_all x n order (Refused f) lt done r = λ w stands says. (
    let at : n ≡ 0 + n = omega arith in
    refused_from x w stands says 0 n (whole_units w.own) f (omega (arith, lt, units_long x w stands says))
    (λ i u less found g. (
    let many = done.many in
    let o = got_there order i (omega (arith, less, many)) in
    let here : i ≡ 0 + i = omega arith in
    subst (λ (k : ℕ). ¬ RefusesUnit x w stands k u g) here ((done.each i o.0 o.1).free w stands says u found g)))
    (λ u found. subst (λ (k : ℕ). RefusesUnit x w stands k u f) at (r w stands says u found)))
