-- The first value of a name means the first attribute of that name.
use Rattle.std.proofs.Common.{◌≡◌, ℕ, Bool, true, false, List, [], ◌∷◌, Option, Some, None, Ok, refl, sym, ap, subst, ◌∙◌, eqb-true}
use Rattle.std.specs.Prelude.{◌==◌, if◌then◌else◌}
use Rattle.std.proofs.lemmas.Bool.{ne_eqb}
use Rattle.dwz_def_reading.specs.Reading.{◌>>=◌}
use Rattle.dwz_def_reading.specs.Entries.{RawAttr}
use Rattle.dwz_def_reading.proofs.PartLemmas.{bind_ok}
use Rattle.dwz_graph.proofs.StepLemmas.{skipped, taken}
use Rattle.dwz_def_reading.specs.Documents.{Attr, Value, first_named}
use Rattle.dwz_def_reading.specs.Meanings.{MeaningContext, first_raw, without_siblings}
use Rattle.dwz_def_reading.specs.Meant.{attr_with, attrs_meaning, meaning, with_attr}

-- there is one where there is the other
abbrev pub FirstIs : MeaningContext ℕ → Option RawAttr → Option (Attr ℕ) → Type 0
FirstIs s None None = Unit {0}
FirstIs s (Some a) (Some b) = (v : Value ℕ) × (meaning s a ≡ Ok v) × (attr_with a v ≡ b)
FirstIs s _ _ = ⊥

no_first : (s : MeaningContext ℕ) (name : ℕ) (attrs : List (Attr ℕ)) → [] ≡ attrs → FirstIs s None (first_named name attrs)
unfolding first_named
no_first s name attrs e = subst (λ (w : List (Attr ℕ)). FirstIs s None (first_named name w)) e tt

one_first : (s : MeaningContext ℕ) (name : ℕ) (a : RawAttr) (values : List RawAttr) (v : Value ℕ) (left : List (Attr ℕ)) → meaning s a ≡ Ok v
    → FirstIs s (first_raw name values) (first_named name left)
    → FirstIs s (first_raw name (a ∷ values)) (first_named name (attr_with a v ∷ left))
unfolding first_raw first_named
one_first s name a values v left means more = go (a.pair.name == name) where
  go : (t : Bool) → FirstIs s (if t then Some a else first_raw name values) (if t then Some (attr_with a v) else first_named name left)
  go true = (v, means, refl)
  go false = more

other_first : (name : ℕ) (a : RawAttr) (values : List RawAttr) → (a.pair.name ≡ name → ⊥) → first_raw name (a ∷ values) ≡ first_raw name values
unfolding first_raw
other_first name a values ne = ap (λ (b : Bool). if b then Some a else first_raw name values) (ne_eqb a.pair.name name ne)

pub first_is : (s : MeaningContext ℕ) (name : ℕ) → (0x01 ≡ name → ⊥) → (values : List RawAttr) (attrs : List (Attr ℕ)) → attrs_meaning s (without_siblings values) ≡ Ok attrs
    → FirstIs s (first_raw name values) (first_named name attrs)
unfolding attrs_meaning without_siblings first_raw
first_is s name other [] attrs e = no_first s name attrs (let none : [] ≡ attrs = cc in none)
first_is s name other (a ∷ values) attrs e = by (a.pair.name == 0x01) refl (first_is s name other values) where
  by : (t : Bool) → (a.pair.name == 0x01) ≡ t → ((others : List (Attr ℕ)) → attrs_meaning s (without_siblings values) ≡ Ok others → FirstIs s (first_raw name values) (first_named name others))
      → FirstIs s (first_raw name (a ∷ values)) (first_named name attrs)
  by true is more =
      let one = eqb-true a.pair.name 0x01 is in
      subst (λ (w : Option RawAttr). FirstIs s w (first_named name attrs)) (sym (other_first name a values (λ same. other (sym one ∙ same))))
      (more attrs (ap (attrs_meaning s) (sym (skipped a values one)) ∙ e))
  by false is more =
      let ne : a.pair.name ≡ 0x01 → ⊥ = λ same. let z : true ≡ false = sym (ap (λ (n : ℕ). n == 0x01) same) ∙ is in absurd cc in
      let o = ap (attrs_meaning s) (sym (taken a values ne)) ∙ e in
      let x = bind_ok (meaning s a) (λ v. attrs_meaning s (without_siblings values) >>= with_attr a v) attrs o in
      let y = bind_ok (attrs_meaning s (without_siblings values)) (with_attr a x.0) attrs x.2 in
      let z : attr_with a x.0 ∷ y.0 ≡ attrs = cc in
      subst (λ (w : List (Attr ℕ)). FirstIs s (first_raw name (a ∷ values)) (first_named name w)) z (one_first s name a values x.0 y.0 x.1 (more y.0 y.1))

-- it has the name
pub first_name : (name : ℕ) (values : List RawAttr) (a : RawAttr) → first_raw name values ≡ Some a → a.pair.name ≡ name
unfolding first_raw
first_name name [] a e = absurd cc
first_name name (b ∷ values) a e = go (b.pair.name == name) refl e (first_name name values a) where
  go : (t : Bool) → (b.pair.name == name) ≡ t → (if t then Some b else first_raw name values) ≡ Some a → (first_raw name values ≡ Some a → a.pair.name ≡ name) → a.pair.name ≡ name
  go true is f more = let z : b ≡ a = cc in sym (ap (λ (w : RawAttr). w.pair.name) z) ∙ eqb-true b.pair.name name is
  go false is f more = more f
