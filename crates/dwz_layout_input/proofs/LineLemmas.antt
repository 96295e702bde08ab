-- The offset that a root gives as it is stored is the one that it says in the document, with names in place of places.
use Rattle.std.proofs.Common.{◌≡◌, ℕ, zero, suc, ◌==◌, cond, Bool, true, false, List, [], ◌∷◌, map, Option, Some, None, slice_get, refl, sym, ap, subst, ◌∙◌, eqb-true, eq-eqb}
use Rattle.std.specs.Option.{is_some}
use Rattle.std.proofs.lemmas.Bool.{ne_eqb}
use Rattle.dwz_def_reading.specs.Entries.{RawAttr}
use Rattle.dwz_def_tops.specs.Spots.{EntryName, FileUnit}
use Rattle.dwz_def_reading.specs.Spelling.{reach}
use Rattle.dwz_def_reading.specs.Documents.{Attr, attr_map, first_named}
use Rattle.dwz_def_reading.specs.Meanings.{MeanAttrs, MeaningContext, MeansAttr, base_in, first_raw, number_of, without_siblings}
use Rattle.dwz_def_images.specs.Moves.{root_of}
use Rattle.dwz_layout_input.specs.Steps.{LineOf, SaysLine}

-- there is one where there is the other, with the same form and number
abbrev pub FirstSame : {P : Type 0} → Option RawAttr → Option (Attr P) → Type 0
FirstSame None None = Unit {0}
FirstSame (Some a) (Some b) = (b.form ≡ a.pair.form) × (b.raw ≡ number_of a.raw)
FirstSame _ _ = ⊥

first_same : (s : MeaningContext ℕ) (raw : List RawAttr) (attrs : List (Attr ℕ)) → MeanAttrs s (without_siblings raw) attrs → FirstSame (first_raw 0x10 raw) (first_named 0x10 attrs)
unfolding first_raw first_named without_siblings
first_same s [] [] h = tt
first_same s [] (b ∷ attrs) h = absurd h
first_same s (a ∷ raw) attrs h = go (first_same s raw) (a.pair.name == 0x01) refl attrs h where
  named : (b : Attr ℕ) (others : List (Attr ℕ)) → MeansAttr s a b → FirstSame (first_raw 0x10 raw) (first_named 0x10 others) → (t : Bool)
      → FirstSame (cond t (Some a) (first_raw 0x10 raw)) (cond t (Some b) (first_named 0x10 others))
  named b others m rest true = (m.form, m.raw)
  named b others m rest false = rest

  go : ((attrs : List (Attr ℕ)) → MeanAttrs s (without_siblings raw) attrs → FirstSame (first_raw 0x10 raw) (first_named 0x10 attrs)) → (t : Bool) → (a.pair.name == 0x01) ≡ t
      → (attrs : List (Attr ℕ)) → MeanAttrs s (cond t (without_siblings raw) (a ∷ without_siblings raw)) attrs
      → FirstSame (cond (a.pair.name == 0x10) (Some a) (first_raw 0x10 raw)) (first_named 0x10 attrs)
  go rest true e attrs h =
      let other : (a.pair.name == 0x10) ≡ false = ap (λ (n : ℕ). n == 0x10) (eqb-true a.pair.name 0x01 e) in
      subst (λ (b : Bool). FirstSame (cond b (Some a) (first_raw 0x10 raw)) (first_named 0x10 attrs)) (sym other) (rest attrs h)
  go rest false e [] h = absurd h
  go rest false e (b ∷ attrs) h =
      subst (λ (n : ℕ). FirstSame (cond (a.pair.name == 0x10) (Some a) (first_raw 0x10 raw)) (cond (n == 0x10) (Some b) (first_named 0x10 attrs))) (sym h.0.name)
      (named b attrs h.0 (rest attrs h.1) (a.pair.name == 0x10))

none_mapped : (o : Option RawAttr) → FirstSame {P = ℕ} o None → FirstSame {P = EntryName} o None
none_mapped None h = tt
none_mapped (Some a) h = absurd h

same_mapped : (o : Option RawAttr) (name : ℕ → EntryName) (attrs : List (Attr ℕ)) → FirstSame o (first_named 0x10 attrs) → FirstSame o (first_named 0x10 (map (attr_map name) attrs))
unfolding first_named
same_mapped o name [] h = none_mapped o h
same_mapped o name (a ∷ attrs) h = by (a.name == 0x10) h (same_mapped o name attrs) where
  some : (o : Option RawAttr) → FirstSame o (Some a) → FirstSame o (Some (attr_map name a))
  some None k = absurd k
  some (Some b) k = k

  by : (t : Bool) → FirstSame o (cond t (Some a) (first_named 0x10 attrs)) → (FirstSame o (first_named 0x10 attrs) → FirstSame o (first_named 0x10 (map (attr_map name) attrs)))
      → FirstSame o (cond t (Some (attr_map name a)) (first_named 0x10 (map (attr_map name) attrs)))
  by true k rest = some o k
  by false k rest = rest k

says : (o : Option RawAttr) (p : Option (Attr EntryName)) (line : Option ℕ) → FirstSame o p → LineOf o line → SaysLine p line
says None None line h l = l
says None (Some b) line h l = absurd h
says (Some a) None line h l = absurd h
says (Some a) (Some b) None h l = λ e. l (sym h.0 ∙ e)
says (Some a) (Some b) (Some n) h l = (h.0 ∙ l.0, h.1 ∙ l.1)

-- the root says the offset
pub root_says : (s : MeaningContext ℕ) (raw : List RawAttr) (attrs : List (Attr ℕ)) (name : ℕ → EntryName) (line : Option ℕ) → MeanAttrs s (without_siblings raw) attrs
    → LineOf (first_raw 0x10 raw) line
    → SaysLine (first_named 0x10 (map (attr_map name) attrs)) line
root_says s raw attrs name line m l = says (first_raw 0x10 raw) (first_named 0x10 (map (attr_map name) attrs)) line (same_mapped (first_raw 0x10 raw) name attrs (first_same s raw attrs m)) l

some_base : (a : RawAttr) (b : Bool) → is_some (cond b (Some (reach (number_of a.raw))) None) ≡ b
some_base a true = refl
some_base a false = refl

base_so : (o : Option RawAttr) (p : Option (Attr EntryName)) (line : Option ℕ) → FirstSame o p → SaysLine p line → is_some line ≡ is_some (base_in o)
base_so None None line h l = ap is_some l
base_so None (Some b) line h l = absurd h
base_so (Some a) None line h l = absurd h
base_so (Some a) (Some b) None h l = sym (some_base a (a.pair.form == 0x17) ∙ ne_eqb a.pair.form 0x17 (λ e. l (h.0 ∙ e)))
base_so (Some a) (Some b) (Some n) h l = sym (some_base a (a.pair.form == 0x17) ∙ eq-eqb a.pair.form 0x17 (sym h.0 ∙ l.0))

-- there is one exactly where it says one
pub root_some : (s : MeaningContext ℕ) (raw : List RawAttr) (attrs : List (Attr ℕ)) (name : ℕ → EntryName) (line : Option ℕ) → MeanAttrs s (without_siblings raw) attrs
    → SaysLine (first_named 0x10 (map (attr_map name) attrs)) line → is_some line ≡ is_some (base_in (first_raw 0x10 raw))
root_some s raw attrs name line m l = base_so (first_raw 0x10 raw) (first_named 0x10 (map (attr_map name) attrs)) line (same_mapped (first_raw 0x10 raw) name attrs (first_same s raw attrs m)) l

pub root_got : (units : List (FileUnit EntryName)) (i : ℕ) (u : FileUnit EntryName) → slice_get units i ≡ Some u → root_of units i ≡ u.unit.root.attrs
unfolding root_of
root_got [] i u e = absurd cc
root_got (f ∷ units) zero u e = (let same : f ≡ u = cc in ap (λ (w : FileUnit EntryName). w.unit.root.attrs) same)
root_got (f ∷ units) (suc i) u e = root_got units i u e
