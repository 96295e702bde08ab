-- The first value of a name means the first attribute of that name; and which values are numbers, by their class.
use Rattle.std.proofs.Common.{◌≡◌, ℕ, Bool, true, false, List, [], ◌∷◌, Option, Some, None, refl, sym, ap, subst, ◌∙◌, eqb-true}
use Rattle.std.specs.Prelude.{◌==◌, if◌then◌else◌}
use Rattle.std.proofs.lemmas.Bool.{ne_eqb}
use Rattle.dwz_def_reading.specs.Documents.{Attr, Node, Value, first_named, number_in, number_of_attr}
use Rattle.dwz_def_reading.specs.Entries.{RawAttr, RawEntry}
use Rattle.dwz_def_reading.specs.Meanings.{MeanAttrs, MeaningContext, MeansAttr, MeansNode, MeansValue, first_raw, without_siblings}

-- ---- the first of a name

-- there is one where there is the other
abbrev pub FirstMeans : MeaningContext ℕ → Option RawAttr → Option (Attr ℕ) → Type 0
FirstMeans s None None = Unit {0}
FirstMeans s (Some a) (Some b) = MeansAttr s a b
FirstMeans s _ _ = ⊥

first_both : (s : MeaningContext ℕ) (name : ℕ) (a : RawAttr) (b : Attr ℕ) (values : List RawAttr) (attrs : List (Attr ℕ)) → MeansAttr s a b
    → FirstMeans s (first_raw name values) (first_named name attrs) → FirstMeans s (first_raw name (a ∷ values)) (first_named name (b ∷ attrs))
unfolding first_raw first_named
first_both s name a b values attrs h more =
    subst (λ (n : ℕ). FirstMeans s (if a.pair.name == name then Some a else first_raw name values) (if n == name then Some b else first_named name attrs)) (sym h.name) (by (a.pair.name == name)) where
      by : (t : Bool) → FirstMeans s (if t then Some a else first_raw name values) (if t then Some b else first_named name attrs)
      by true = h
      by false = more

first_passed : (name : ℕ) (a : RawAttr) (values : List RawAttr) → (a.pair.name ≡ name → ⊥) → first_raw name (a ∷ values) ≡ first_raw name values
unfolding first_raw
first_passed name a values ne = ap (λ (b : Bool). if b then Some a else first_raw name values) (ne_eqb a.pair.name name ne)

pub first_means : (s : MeaningContext ℕ) (name : ℕ) → (0x01 ≡ name → ⊥) → (values : List RawAttr) (attrs : List (Attr ℕ)) → MeanAttrs s (without_siblings values) attrs
    → FirstMeans s (first_raw name values) (first_named name attrs)
unfolding without_siblings first_raw first_named
first_means s name other [] [] h = tt
first_means s name other [] (b ∷ attrs) h = absurd h
first_means s name other (a ∷ values) attrs h = by (a.pair.name == 0x01) refl attrs h (λ others. first_means s name other values others) where
  by : (t : Bool) → (a.pair.name == 0x01) ≡ t → (others : List (Attr ℕ)) → MeanAttrs s (if t then without_siblings values else a ∷ without_siblings values) others
      → ((left : List (Attr ℕ)) → MeanAttrs s (without_siblings values) left → FirstMeans s (first_raw name values) (first_named name left))
      → FirstMeans s (first_raw name (a ∷ values)) (first_named name others)
  by true is others m more =
      subst (λ (w : Option RawAttr). FirstMeans s w (first_named name others)) (sym (first_passed name a values (λ same. other (sym (eqb-true a.pair.name 0x01 is) ∙ same)))) (more others m)
  by false is [] m more = absurd m
  by false is (b ∷ others) m more = first_both s name a b values others m.0 (more others m.1)

-- ---- the language of a root

none_means : (s : MeaningContext ℕ) (p : Option (Attr ℕ)) → FirstMeans s None p → None ≡ number_of_attr p
none_means s None h = refl
none_means s (Some b) h = absurd h

one_means : (s : MeaningContext ℕ) (a : RawAttr) (p : Option (Attr ℕ)) (number : Option _) → FirstMeans s (Some a) p → ((v : Value ℕ) → MeansValue s a v → number ≡ number_in v.plain) → number ≡ number_of_attr p
one_means s a None number h is = absurd h
one_means s a (Some b) number h is = is b.value h.value

pub no_language : (s : MeaningContext ℕ) (e : RawEntry) (d : Node ℕ) → MeansNode s e d → None ≡ first_raw 0x13 e.attrs → None ≡ number_of_attr (first_named 0x13 d.attrs)
no_language s e d h none =
    none_means s (first_named 0x13 d.attrs) (subst (λ (w : Option RawAttr). FirstMeans s w (first_named 0x13 d.attrs)) (sym none) (first_means s 0x13 (λ same. cc) e.attrs d.attrs h.attrs))

pub a_language : (s : MeaningContext ℕ) (e : RawEntry) (d : Node ℕ) (a : RawAttr) (number : Option _) → MeansNode s e d → Some a ≡ first_raw 0x13 e.attrs
    → ((v : Value ℕ) → MeansValue s a v → number ≡ number_in v.plain) → number ≡ number_of_attr (first_named 0x13 d.attrs)
a_language s e d a number h some is =
    one_means s a (first_named 0x13 d.attrs) number
    (subst (λ (w : Option RawAttr). FirstMeans s w (first_named 0x13 d.attrs)) (sym some) (first_means s 0x13 (λ same. cc) e.attrs d.attrs h.attrs)) is
