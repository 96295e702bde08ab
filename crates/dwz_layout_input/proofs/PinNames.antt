-- What operands name is told by the names of places. Where each space is named by its number in place of its name, what is marked by
-- numbers is told by names.
use Rattle.std.proofs.Common.{◌≡◌, ◌↔◌, ℕ, zero, suc, ◌+◌, Bool, true, false, List, [], ◌∷◌, map, Option, Some, None, slice_get, refl, sym, ap, subst, ◌∙◌, arith, eq-eqb, eqb-true}
use Rattle.std.specs.Prelude.{◌||◌, ◌&&◌}
use Rattle.std.specs.List.{list_any}
use Rattle.dwz_def_reading.proofs.CaseFacts.{same_bool}
use Rattle.dwz_def_tops.specs.Alike.{any_attr, is_in}
use Rattle.dwz_def_tops.specs.Spots.{EntryName, UnitOf, Within, same_spot}
use Rattle.dwz_def_tops.proofs.SpotLemmas.{same_spot-same, same_spot-true}
use Rattle.dwz_graph.specs.Names.{top_in}
use Rattle.dwz_def_reading.specs.Documents.{Attr, DwUnit, Operand, Part, Same, attr_map, unit_map}
use Rattle.dwz_def_images.specs.Plan.{plain_parts, uleb_targets}
use Rattle.dwz_move.specs.Known.{in_unit}
use Rattle.dwz_move.specs.Marked.{expression_pins, in_expression}
use Rattle.dwz_move_files.proofs.UnitAttrs.{any_named, expression_pins_by, named_attrs, units_attrs}

-- ---- the number of a name

-- that of the first space with it, where the first of all has that number
unfoldable pub number_in : List EntryName → ℕ → EntryName → Option ℕ
number_in [] n s = None
number_in (q ∷ spots) n s = elim (same_spot q s) as (λ _. Option ℕ) [ true ↦ Some n | false ↦ number_in spots (suc n) s ]

number_is : (spots : List EntryName) (n : ℕ) (s : EntryName) (t : ℕ) → number_in spots n s ≡ Some t → (k : ℕ) × (t ≡ n + k) × (slice_get spots k ≡ Some s)
unfolding number_in
number_is [] n s t e = absurd cc
number_is (q ∷ spots) n s t e = by (same_spot q s) refl e (number_is spots (suc n) s t) where
  by : (b : Bool) → same_spot q s ≡ b → (elim b as (λ _. Option ℕ) [ true ↦ Some n | false ↦ number_in spots (suc n) s ]) ≡ Some t
      → (number_in spots (suc n) s ≡ Some t → (k : ℕ) × (t ≡ suc n + k) × (slice_get spots k ≡ Some s)) → (k : ℕ) × (t ≡ n + k) × (slice_get (q ∷ spots) k ≡ Some s)
  by true is e more = (let same : n ≡ t = cc in (0, omega arith, ap (λ w. Some w) (same_spot-true q s is)))
  by false is e more = (let r = more e in let at = r.1 in (suc r.0, omega arith, r.2))

number_there : (spots : List EntryName) (n : ℕ) (s : EntryName) (k : ℕ) → slice_get spots k ≡ Some s → (t : ℕ) × (number_in spots n s ≡ Some t)
unfolding number_in
number_there [] n s k e = absurd cc
number_there (q ∷ spots) n s zero e = by (same_spot q s) is where
  is : same_spot q s ≡ true
  is = (let same : q ≡ s = cc in subst (λ (w : EntryName). same_spot q w ≡ true) same (same_spot-same q))

  by : (b : Bool) → b ≡ true → (t : ℕ) × ((elim b as (λ _. Option ℕ) [ true ↦ Some n | false ↦ number_in spots (suc n) s ]) ≡ Some t)
  by true h = (n, refl)
  by false h = absurd cc
number_there (q ∷ spots) n s (suc k) e = by (same_spot q s) (number_there spots (suc n) s k e) where
  by : (b : Bool) → (t : ℕ) × (number_in spots (suc n) s ≡ Some t) → (t : ℕ) × ((elim b as (λ _. Option ℕ) [ true ↦ Some n | false ↦ number_in spots (suc n) s ]) ≡ Some t)
  by true r = (n, refl)
  by false r = r

-- ---- names by numbers

abbrev pub by_number : Option ℕ → EntryName
by_number None = UnitOf 0
by_number (Some n) = Within n []

-- the name of a place, or the number of the space that it is
abbrev pub numbered : List EntryName → (ℕ → EntryName) → ℕ → EntryName
numbered spots name p = by_number (number_in spots 0 (name p))

pub top_number : (o : Option ℕ) → top_in (by_number o) ≡ o
top_number None = refl
top_number (Some n) = refl

is_number : (t : ℕ) (o : Option ℕ) → (is_in t (by_number o) ≡ true) ↔ (o ≡ Some t)
is_number t None = (λ h. absurd cc, λ h. absurd cc)
is_number t (Some n) = (λ h. ap Some (eqb-true n t h), λ h. (let same : n ≡ t = cc in eq-eqb n t same))

module _ (spots : List EntryName) (one : (m n : ℕ) (s : EntryName) → slice_get spots m ≡ Some s → slice_get spots n ≡ Some s → m ≡ n) where
  pub number_tells : (s : EntryName) (t : ℕ) → (number_in spots 0 s ≡ Some t) ↔ (slice_get spots t ≡ Some s)
  number_tells s t = (
    λ h. (let r = number_is spots 0 s t h in let at : r.0 ≡ t = (let e = r.1 in omega arith) in ap (slice_get spots) (sym at) ∙ r.2),
    λ h. (
        let r = number_there spots 0 s t h in
        let q = number_is spots 0 s r.0 r.1 in
        let at : q.0 ≡ t = one q.0 t s q.2 h in
        let is : r.0 ≡ t = (let e = q.1 in omega arith) in
        r.1 ∙ ap Some is),
  )

  -- the test by the number of a space is the test by its name
  pub same_test : (name : ℕ → EntryName) (t : ℕ) (s : EntryName) → slice_get spots t ≡ Some s → (p : ℕ) → is_in t (numbered spots name p) ≡ same_spot s (name p)
  same_test name t s there p =
      let a = is_number t (number_in spots 0 (name p)) in
      let b = number_tells (name p) t in
      same_bool (is_in t (numbered spots name p)) (same_spot s (name p)) (
        λ h. (let got = b.0 (a.0 h) in let both : Some s ≡ Some (name p) = sym there ∙ got in let same : s ≡ name p = cc in subst (λ (w : EntryName). same_spot s w ≡ true) same (same_spot-same s)),
        λ h. a.1 (b.1 (there ∙ ap (λ w. Some w) (same_spot-true s (name p) h))),
      )

  -- ---- of attributes

  targets_same : (f g : ℕ → EntryName) (P Q : EntryName → Bool) → ((p : ℕ) → P (f p) ≡ Q (g p)) → (parts : List Part) (refs : List ℕ)
      → list_any P (uleb_targets parts (map f refs)) ≡ list_any Q (uleb_targets parts (map g refs))
  unfolding uleb_targets
  targets_same f g P Q same [] refs = refl
  targets_same f g P Q same (Same bytes ∷ parts) refs = targets_same f g P Q same parts refs
  targets_same f g P Q same (Operand width uleb base ∷ parts) [] = refl
  targets_same f g P Q same (Operand width uleb base ∷ parts) (r ∷ refs) = by uleb (targets_same f g P Q same parts refs) where
    by : (b : Bool) → list_any P (uleb_targets parts (map f refs)) ≡ list_any Q (uleb_targets parts (map g refs))
        → list_any P (elim b as (λ _. List EntryName) [ true ↦ f r ∷ uleb_targets parts (map f refs) | false ↦ uleb_targets parts (map f refs) ])
        ≡ list_any Q (elim b as (λ _. List EntryName) [ true ↦ g r ∷ uleb_targets parts (map g refs) | false ↦ uleb_targets parts (map g refs) ])
    by true e = (λ i. same r i || e i)
    by false e = e

  attrs_same : (name : ℕ → EntryName) (t : ℕ) (s : EntryName) → slice_get spots t ≡ Some s → (attrs : List (Attr ℕ))
      → list_any (expression_pins t) (map (attr_map (numbered spots name)) attrs) ≡ list_any (expression_pins_by (same_spot s)) (map (attr_map name) attrs)
  attrs_same name t s there [] = refl
  attrs_same name t s there (a ∷ attrs) =
      let one_attr = ap (λ (b : Bool). in_expression a.value.plain && b)
      (targets_same (numbered spots name) name (is_in t) (same_spot s) (same_test name t s there) (plain_parts a.value.plain) a.value.refs) in
      (λ i. one_attr i || attrs_same name t s there attrs i)

  -- what is marked of units by the number of a space is told by its name
  pub units_same : (name : ℕ → EntryName) (t : ℕ) (s : EntryName) → slice_get spots t ≡ Some s → (units : List (DwUnit ℕ))
      → list_any (in_unit (any_attr (expression_pins t))) (map (unit_map (numbered spots name)) units) ≡ list_any (expression_pins_by (same_spot s)) (named_attrs name units)
  units_same name t s there units = any_named (expression_pins t) (numbered spots name) units ∙ attrs_same name t s there (units_attrs units)
