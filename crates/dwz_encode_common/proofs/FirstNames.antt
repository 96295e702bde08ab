-- The first DW_AT_name that an entry stores is the first that it means.
use Rattle.std.proofs.Common.{◌≡◌, ℕ, Bool, true, false, List, [], ◌∷◌, cond, Ok, Option, None, Some, refl, sym, ap, ◌∙◌, eqb, eqb-true}
use Rattle.std.proofs.lemmas.Bool.{eqb-false}
use Rattle.dwz_bytes.specs.Reading.{◌>>=◌}
use Rattle.dwz_def_reading.specs.Entries.{RawAttr}
use Rattle.dwz_def_reading.proofs.PartLemmas.{bind_ok}
use Rattle.dwz_def_reading.specs.Documents.{Attr, Value, first_named}
use Rattle.dwz_def_reading.specs.Meanings.{MeaningContext, first_raw, without_siblings}
use Rattle.dwz_def_reading.specs.Meant.{attr_with, attrs_meaning, meaning, with_attr}
use Rattle.dwz_graph.proofs.StepLemmas.{skipped, taken}

-- the value that is stored, and what it means
pub record HasFirst (s : MeaningContext ℕ) (attrs : List RawAttr) (b : Attr ℕ) : Type 0 where
  pub a : RawAttr
  pub v : Value ℕ
  pub first : first_raw 0x03 attrs ≡ Some a
  pub named : a.pair.name ≡ 0x03
  pub means : meaning s a ≡ Ok v
  pub is : attr_with a v ≡ b

module _ (s : MeaningContext ℕ) where
  abbrev by_test : Bool → RawAttr → List RawAttr → Option RawAttr
  by_test test a attrs = cond test (Some a) (first_raw 0x03 attrs)

  first_by : (a : RawAttr) (attrs : List RawAttr) → first_raw 0x03 (a ∷ attrs) ≡ by_test (eqb a.pair.name 0x03) a attrs
  unfolding first_raw
  first_by a attrs = refl

  abbrev Finds : List RawAttr → Type 0
  Finds attrs = (ds : List (Attr ℕ)) (b : Attr ℕ) → attrs_meaning s (without_siblings attrs) ≡ Ok ds → first_named 0x03 ds ≡ Some b
      → HasFirst s attrs b

  passed : (a : RawAttr) (attrs : List RawAttr) (b : Attr ℕ) → eqb a.pair.name 0x03 ≡ false → HasFirst s attrs b → HasFirst s (a ∷ attrs) b
  passed a attrs b isnt n = record {
    a = n.a;
    v = n.v;
    first = first_by a attrs ∙ ap (λ (test : Bool). by_test test a attrs) isnt ∙ n.first;
    named = n.named;
    means = n.means;
    is = n.is;
  }

  none_found : Finds []
  unfolding attrs_meaning without_siblings first_named
  none_found ds b means found = (let e : [] ≡ ds = cc in absurd (let z : None ≡ Some b = ap (first_named 0x03) e ∙ found in cc))

  one_found : (a : RawAttr) (attrs : List RawAttr) → Finds attrs → (ds : List (Attr ℕ)) (b : Attr ℕ)
      → attrs_meaning s (a ∷ without_siblings attrs) ≡ Ok ds → first_named 0x03 ds ≡ Some b → HasFirst s (a ∷ attrs) b
  unfolding attrs_meaning first_named
  one_found a attrs rest ds b means found =
      let x = bind_ok (meaning s a) (λ v. attrs_meaning s (without_siblings attrs) >>= with_attr a v) ds means in
      let y = bind_ok (attrs_meaning s (without_siblings attrs)) (with_attr a x.0) ds x.2 in
      let z : attr_with a x.0 ∷ y.0 ≡ ds = cc in
      go x.0 y.0 x.1 (rest y.0 b y.1) (eqb a.pair.name 0x03) refl (ap (first_named 0x03) z ∙ found) where
        go : (v : Value ℕ) (left : List (Attr ℕ)) → meaning s a ≡ Ok v → (first_named 0x03 left ≡ Some b → HasFirst s attrs b)
            → (test : Bool) → eqb a.pair.name 0x03 ≡ test → cond test (Some (attr_with a v)) (first_named 0x03 left) ≡ Some b
            → HasFirst s (a ∷ attrs) b
        go v left m more true e f = record {
          a = a;
          v = v;
          first = first_by a attrs ∙ ap (λ (test : Bool). by_test test a attrs) e;
          named = eqb-true a.pair.name 0x03 e;
          means = m;
          is = (let w : attr_with a v ≡ b = cc in w);
        }
        go v left m more false e f = passed a attrs b e (more f)

  pub first_found : (attrs : List RawAttr) → Finds attrs
  first_found [] = none_found
  first_found (a ∷ attrs) = λ ds b means found. go (first_found attrs) ds b means found (eqb a.pair.name 0x01) refl where
    go : Finds attrs → (ds : List (Attr ℕ)) (b : Attr ℕ) → attrs_meaning s (without_siblings (a ∷ attrs)) ≡ Ok ds
        → first_named 0x03 ds ≡ Some b
        → (test : Bool) → eqb a.pair.name 0x01 ≡ test → HasFirst s (a ∷ attrs) b
    go rest ds b means found true e =
        let one = eqb-true a.pair.name 0x01 e in
        let isnt : eqb a.pair.name 0x03 ≡ false = ap (λ (n : ℕ). eqb n 0x03) one in
        passed a attrs b isnt (rest ds b (ap (attrs_meaning s) (sym (skipped a attrs one)) ∙ means) found)
    go rest ds b means found false e =
        let other : a.pair.name ≡ 0x01 → ⊥ = eqb-false a.pair.name 0x01 e in
        one_found a attrs rest ds b (ap (attrs_meaning s) (sym (taken a attrs other)) ∙ means) found
