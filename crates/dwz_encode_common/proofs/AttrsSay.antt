-- What values give, one after the other, is what their meanings say, where each value does.
use Rattle.std.proofs.Common.{◌≡◌, ℕ, Bool, true, false, List, [], ◌∷◌, ◌++◌, map, Ok, refl, sym, ap, ◌∙◌, eqb, eqb-true}
use Rattle.std.specs.List.{flat_map}
use Rattle.std.proofs.lemmas.Bool.{eqb-false}
use Rattle.dwz_bytes.specs.Reading.{◌>>=◌}
use Rattle.dwz_def_reading.specs.Entries.{RawAttr}
use Rattle.dwz_def_reading.proofs.PartLemmas.{bind_ok}
use Rattle.dwz_def_reading.specs.Documents.{Attr, Value, attr_map}
use Rattle.dwz_def_reading.specs.Meanings.{MeaningContext, without_siblings}
use Rattle.dwz_def_reading.specs.Meant.{attr_with, attrs_meaning, meaning, with_attr}
use Rattle.dwz_def_reading.specs.Lists.{Each}
use Rattle.dwz_def_tops.specs.Spots.{EntryName}
use Rattle.dwz_graph.proofs.StepLemmas.{skipped, taken}

module _ {Y : Type 0} (s : MeaningContext ℕ) (give : RawAttr → List Y) (said : Attr EntryName → List Y) (after : ℕ → EntryName)
    (sibling : (a : RawAttr) → a.pair.name ≡ 0x01 → give a ≡ [])
    (Good : RawAttr → Type 0)
    (value : (a : RawAttr) (v : Value ℕ) → Good a → (a.pair.name ≡ 0x01 → ⊥) → meaning s a ≡ Ok v
    → give a ≡ said (attr_map after (attr_with a v))) where
  abbrev Says : List RawAttr → Type 0
  Says attrs = Each Good attrs → (ds : List (Attr ℕ)) → attrs_meaning s (without_siblings attrs) ≡ Ok ds
      → flat_map give attrs ≡ flat_map said (map (attr_map after) ds)

  none : Says []
  unfolding attrs_meaning without_siblings
  none good ds means = let e : [] ≡ ds = cc in ap (λ (w : List (Attr ℕ)). flat_map said (map (attr_map after) w)) e

  one : (a : RawAttr) (attrs : List RawAttr) → Says attrs → Good a → Each Good attrs → (a.pair.name ≡ 0x01 → ⊥) → (ds : List (Attr ℕ))
      → attrs_meaning s (a ∷ without_siblings attrs) ≡ Ok ds → flat_map give (a ∷ attrs) ≡ flat_map said (map (attr_map after) ds)
  unfolding attrs_meaning
  one a attrs rest own good other ds means =
      let x = bind_ok (meaning s a) (λ v. attrs_meaning s (without_siblings attrs) >>= with_attr a v) ds means in
      let y = bind_ok (attrs_meaning s (without_siblings attrs)) (with_attr a x.0) ds x.2 in
      let z : attr_with a x.0 ∷ y.0 ≡ ds = cc in
      (λ i. value a x.0 own other x.1 i ++ rest good y.0 y.1 i) ∙ ap (λ (w : List (Attr ℕ)). flat_map said (map (attr_map after) w)) z

  pub attrs_say : (attrs : List RawAttr) → Says attrs
  attrs_say [] = none
  attrs_say (a ∷ attrs) = λ good ds means. go (attrs_say attrs) good ds means (eqb a.pair.name 0x01) refl where
    go : Says attrs → Each Good (a ∷ attrs) → (ds : List (Attr ℕ)) → attrs_meaning s (without_siblings (a ∷ attrs)) ≡ Ok ds → (t : Bool)
        → eqb a.pair.name 0x01 ≡ t
        → flat_map give (a ∷ attrs) ≡ flat_map said (map (attr_map after) ds)
    go rest good ds means true t =
        let is = eqb-true a.pair.name 0x01 t in
        ap (λ (w : List Y). w ++ flat_map give attrs) (sibling a is)
        ∙ rest good.1 ds (ap (attrs_meaning s) (sym (skipped a attrs is)) ∙ means)
    go rest good ds means false t =
        let other = eqb-false a.pair.name 0x01 t in
        one a attrs rest good.0 good.1 other ds (ap (attrs_meaning s) (sym (taken a attrs other)) ∙ means)
