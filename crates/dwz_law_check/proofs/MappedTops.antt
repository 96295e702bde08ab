-- Where other things stand for places, imports, tops and spaces are those of the same units.
use Rattle.std.proofs.Common.{◌≡◌, ℕ, zero, suc, List, [], ◌∷◌, map, refl, sym, ap, subst, ◌∙◌, inl, inr}
use Rattle.dwz_def_reading.specs.Lists.{In}
use Rattle.dwz_def_reading.proofs.ListFacts.{in_map}
use Rattle.dwz_def_reading.specs.Documents.{Compile, DwUnit, Entries, Kind, Node, OfType, Partial, entries_map, kind_map, node_map, ref, unit_map}
use Rattle.dwz_def_reading.specs.Trees.{End, Entry}
use Rattle.dwz_def_reading.proofs.NamedAgain.{in_map as in_back}
use Rattle.dwz_def_tops.specs.Seen.{IsChild, IsImport, IsPartial, Named, named_map, named_value}
use Rattle.dwz_def_tops.specs.Spaces.{IsSpace, IsUnder, space_text}
use Rattle.dwz_def_tops.proofs.SeenLemmas.{names_map}
use Rattle.dwz_def_tops.proofs.SpaceLemmas.{text_map}
use Rattle.dwz_def_cross.specs.Tops.{CrossTop, IsExpanded, IsNthChild, IsPlainTop, StandsAlong, StandsUnder}
use Rattle.dwz_def_check.specs.CrossLabels.{cross_top_map}
use Rattle.dwz_law_check.specs.MappedRows.{TellsApart}
use Rattle.dwz_law_check.proofs.Apart.{named_apart}

module _ {P A : Type 0} (f : P → A) where
  partial_to : (k : Kind P) → IsPartial k → IsPartial (kind_map f k)
  partial_to Compile h = h
  partial_to (OfType signature main) h = h
  partial_to Partial h = h

  partial_back : (k : Kind P) → IsPartial (kind_map f k) → IsPartial k
  partial_back Compile h = h
  partial_back (OfType signature main) h = h
  partial_back Partial h = h

  -- ---- what has images

  abbrev pub naming : P → Named P
  naming p = record { name = 0x18; value = ref p }

  pub import_to : (units : List (DwUnit P)) (e : Node P) (v : DwUnit P) → IsImport units e v → IsImport (map (unit_map f) units) (node_map f e) (unit_map f v)
  import_to units e v h = record {
    unit = in_map (unit_map f) v units h.unit;
    partial = partial_to v.kind h.partial;
    tag = h.tag;
    names =
        subst (λ (w : List (Named A)). In (record { name = 0x18; value = ref (f v.root.at) }) w) (sym (names_map f e.attrs))
        (in_map (named_map f) (naming v.root.at) (map named_value e.attrs) h.names);
  }

  under_to : (names : List (List ℕ)) (t : CrossTop P) (g : Entries P) → StandsUnder names t g → StandsUnder names (cross_top_map f t) (entries_map f g)
  unfolding entries_map
  under_to names t End h = absurd h
  under_to names t (Entry d c n) (inl h) = inl (h.0, text_map f d ∙ h.1, (λ j. node_map f (h.2 j)), (λ j. entries_map f (h.3 j)))
  under_to names t (Entry d c n) (inr (inl h)) = inr (inl (h.0, h.1, text_map f d ∙ h.2, h.3, under_to h.1 t c h.4))
  under_to names t (Entry d c n) (inr (inr h)) = inr (inr (under_to names t n h))

  child_to : (e : Node P) (g : Entries P) → IsChild e g → IsChild (node_map f e) (entries_map f g)
  unfolding entries_map
  child_to e End h = absurd h
  child_to e (Entry d c n) (inl h) = inl (λ j. node_map f (h j))
  child_to e (Entry d c n) (inr r) = inr (child_to e n r)

  is_under_to : (names : List (List ℕ)) (e : Node P) (g : Entries P) → IsUnder names e g → IsUnder names (node_map f e) (entries_map f g)
  unfolding entries_map
  is_under_to names e End h = absurd h
  is_under_to names e (Entry d c n) (inl h) = inl (h.0, λ j. node_map f (h.1 j))
  is_under_to names e (Entry d c n) (inr (inl h)) = inr (inl (h.0, h.1, text_map f d ∙ h.2, h.3, is_under_to h.1 e c h.4))
  is_under_to names e (Entry d c n) (inr (inr h)) = inr (inr (is_under_to names e n h))

  pub space_to : (names : List (List ℕ)) (e : Node P) (g : Entries P) → IsSpace names e g → IsSpace names (node_map f e) (entries_map f g)
  space_to names e g h = record { outer = h.outer; text = h.text; under = is_under_to h.outer e g h.under; own = text_map f e ∙ h.own; names_are = h.names_are }

  nth_child_to : (i : ℕ) (e : Node P) (b g : Entries P) → IsNthChild i e b g → IsNthChild i (node_map f e) (entries_map f b) (entries_map f g)
  unfolding entries_map
  nth_child_to i e b End h = absurd h
  nth_child_to zero e b (Entry d c n) h = ((λ j. node_map f (h.0 j)), λ j. entries_map f (h.1 j))
  nth_child_to (suc i) e b (Entry d c n) h = nth_child_to i e b n h

  pub along_to : (path : List ℕ) (e : Node P) (g : Entries P) (p : P) → StandsAlong path e g p → StandsAlong path (node_map f e) (entries_map f g) (f p)
  along_to [] e g p h = ap f h
  along_to (i ∷ path) e g p h = (node_map f h.0, entries_map f h.1, nth_child_to i h.0 h.1 g h.2, along_to path h.0 h.1 p h.3)

  -- ---- what images come from

  under_back : (names : List (List ℕ)) (x : CrossTop A) (g : Entries P) → StandsUnder names x (entries_map f g) → (t : CrossTop P) × StandsUnder names t g × (cross_top_map f t ≡ x)
  unfolding entries_map
  under_back names x End h = absurd h
  under_back names x (Entry d c n) (inl h) =
      (record { names = x.names; node = d; below = c }, inl (h.0, sym (text_map f d) ∙ h.1, refl, refl), λ j. record { names = x.names; node = h.2 j; below = h.3 j })
  under_back names x (Entry d c n) (inr (inl h)) = let o = under_back h.1 x c h.4 in (o.0, inr (inl (h.0, h.1, sym (text_map f d) ∙ h.2, h.3, o.1)), o.2)
  under_back names x (Entry d c n) (inr (inr h)) = let o = under_back names x n h in (o.0, inr (inr o.1), o.2)

  child_back : (x : Node A) (g : Entries P) → IsChild x (entries_map f g) → (e : Node P) × IsChild e g × (node_map f e ≡ x)
  unfolding entries_map
  child_back x End h = absurd h
  child_back x (Entry d c n) (inl h) = (d, inl refl, h)
  child_back x (Entry d c n) (inr r) = let o = child_back x n r in (o.0, inr o.1, o.2)

  is_under_back : (names : List (List ℕ)) (x : Node A) (g : Entries P) → IsUnder names x (entries_map f g) → (e : Node P) × IsUnder names e g × (node_map f e ≡ x)
  unfolding entries_map
  is_under_back names x End h = absurd h
  is_under_back names x (Entry d c n) (inl h) = (d, inl (h.0, refl), h.1)
  is_under_back names x (Entry d c n) (inr (inl h)) = let o = is_under_back h.1 x c h.4 in (o.0, inr (inl (h.0, h.1, sym (text_map f d) ∙ h.2, h.3, o.1)), o.2)
  is_under_back names x (Entry d c n) (inr (inr h)) = let o = is_under_back names x n h in (o.0, inr (inr o.1), o.2)

  pub space_back : (names : List (List ℕ)) (x : Node A) (g : Entries P) → IsSpace names x (entries_map f g) → (e : Node P) × IsSpace names e g × (node_map f e ≡ x)
  space_back names x g h =
      let o = is_under_back h.outer x g h.under in
      (o.0, record { outer = h.outer; text = h.text; under = o.1; own = sym (text_map f o.0) ∙ ap (λ (w : Node A). space_text w) o.2 ∙ h.own; names_are = h.names_are }, o.2)

  module _ (apart : TellsApart f) where
    import_back : (units : List (DwUnit P)) (e : Node P) (x : DwUnit A) → IsImport (map (unit_map f) units) (node_map f e) x
        → (v : DwUnit P) × IsImport units e v × (unit_map f v ≡ x)
    import_back units e x h =
        let o = in_back (unit_map f) x units h.unit in
        let v = o.0 in
        let at : x.root.at ≡ f v.root.at = λ j. (sym o.2 j).root.at in
        let there : In (record { name = 0x18; value = ref (f v.root.at) }) (map (named_map f) (map named_value e.attrs)) =
        subst (λ (w : List (Named A)). In (record { name = 0x18; value = ref (f v.root.at) }) w) (names_map f e.attrs)
        (subst (λ (q : A). In (record { name = 0x18; value = ref q }) (map named_value (node_map f e).attrs)) at h.names) in
        let a = in_back (named_map f) (record { name = 0x18; value = ref (f v.root.at) }) (map named_value e.attrs) there in
        let same : a.0 ≡ naming v.root.at = named_apart f apart a.0 (naming v.root.at) a.2 in (
          v,
          record {
            unit = o.1;
            partial = partial_back v.kind (subst (λ (w : DwUnit A). IsPartial w.kind) (sym o.2) h.partial);
            tag = h.tag;
            names = subst (λ (w : Named P). In w (map named_value e.attrs)) same a.1;
          },
          o.2,
        )

    pub plain_to : (units : List (DwUnit P)) (g : Entries P) (t : CrossTop P) → IsPlainTop units g t → IsPlainTop (map (unit_map f) units) (entries_map f g) (cross_top_map f t)
    plain_to units g t h = (under_to t.names t g h.0, λ x i. let o = import_back units t.node x i in h.1 o.0 o.1)

    plain_back : (units : List (DwUnit P)) (g : Entries P) (x : CrossTop A) → IsPlainTop (map (unit_map f) units) (entries_map f g) x
        → (t : CrossTop P) × IsPlainTop units g t × (cross_top_map f t ≡ x)
    plain_back units g x h =
        let o = under_back x.names x g h.0 in
        let names : x.names ≡ o.0.names = λ j. (sym o.2 j).names in (
          o.0,
          (
            subst (λ (w : List (List ℕ)). StandsUnder w o.0 g) names o.1,
            λ v i. h.1 (unit_map f v) (subst (λ (w : CrossTop A). IsImport (map (unit_map f) units) w.node (unit_map f v)) o.2 (import_to units o.0.node v i)),
          ),
          o.2,
        )

    pub expanded_to : (units : List (DwUnit P)) (u : DwUnit P) (t : CrossTop P) → IsExpanded units u t → IsExpanded (map (unit_map f) units) (unit_map f u) (cross_top_map f t)
    expanded_to units u t (inl h) = inl (plain_to units u.below t h)
    expanded_to units u t (inr h) =
        inr (node_map f h.0, unit_map f h.1, child_to h.0 u.below h.2, import_to units h.0 h.1 h.3, plain_to units h.1.below t h.4)

    pub expanded_back : (units : List (DwUnit P)) (u : DwUnit P) (x : CrossTop A) → IsExpanded (map (unit_map f) units) (unit_map f u) x
        → (t : CrossTop P) × IsExpanded units u t × (cross_top_map f t ≡ x)
    expanded_back units u x (inl h) = let o = plain_back units u.below x h in (o.0, inl o.1, o.2)
    expanded_back units u x (inr h) =
        let e = child_back h.0 u.below h.2 in
        let v = import_back units e.0 h.1 (subst (λ (w : Node A). IsImport (map (unit_map f) units) w h.1) (sym e.2) h.3) in
        let o = plain_back units v.0.below x (subst (λ (w : DwUnit A). IsPlainTop (map (unit_map f) units) w.below x) (sym v.2) h.4) in
        (o.0, inr (e.0, v.0, e.1, v.1, o.1), o.2)

    nth_child_back : (i : ℕ) (e : Node A) (b : Entries A) (g : Entries P) → IsNthChild i e b (entries_map f g)
        → (d : Node P) × (c : Entries P) × IsNthChild i d c g × (node_map f d ≡ e) × (entries_map f c ≡ b)
    unfolding entries_map
    nth_child_back i e b End h = absurd h
    nth_child_back zero e b (Entry d c n) h = (d, c, (refl, refl), h.0, h.1)
    nth_child_back (suc i) e b (Entry d c n) h = nth_child_back i e b n h

    pub along_back : (path : List ℕ) (e : Node P) (g : Entries P) (p : P) → StandsAlong path (node_map f e) (entries_map f g) (f p) → StandsAlong path e g p
    along_back [] e g p h = apart e.at p h
    along_back (i ∷ path) e g p h =
        let o = nth_child_back i h.0 h.1 g h.2 in
        let on : StandsAlong path (node_map f o.0) (entries_map f o.1) (f p) =
        subst (λ (w : Entries A). StandsAlong path (node_map f o.0) w (f p)) (sym o.4) (subst (λ (w : Node A). StandsAlong path w h.1 (f p)) (sym o.3) h.3) in
        (o.0, o.1, o.2, along_back path o.0 o.1 p on)
