-- Tops and spaces of the sources of a unit: those of the unit, and those of the partial units that it imports.
use Rattle.std.proofs.Common.{◌≡◌, ◌⊎◌, ℕ, Bool, true, false, List, [], ◌∷◌, ◌==◌, Option, Some, None, refl, sym, ap, subst, ◌∙◌, inl, inr, arith, ne_eqb}
use Rattle.dwz_def_reading.specs.Lists.{In, NoneTwice}
use Rattle.dwz_def_reading.specs.Documents.{Compile, DwUnit, Entries, Kind, Node, first_named}
use Rattle.dwz_def_reading.specs.Trees.{End, Entry}
use Rattle.dwz_def_tops.specs.Seen.{IsChild, IsImport, IsShown}
use Rattle.dwz_def_tops.specs.Shown.{AreShown, unit_keys, units_keys}
use Rattle.dwz_def_tops.specs.Spaces.{IsSpace, IsUnder, space_text, text_value}
use Rattle.dwz_def_tops.proofs.SpaceLemmas.{shown_text}
use Rattle.dwz_def_cross.specs.Tops.{CrossTop, IsExpanded, StandsUnder}
use Rattle.dwz_def_expand.specs.ExpandLaws.{IsTest}
use Rattle.dwz_def_expand.specs.Source.{followed_by, imported_by, imported_in, inside, source_unit, sources_below, unless_import, without_imports}
use Rattle.dwz_def_expand.proofs.ChildrenLemmas.{imported_from, in_imported, in_once, no_parts, once_from}
use Rattle.dwz_def_expand.proofs.SourceLemmas.{unit_one}
use Rattle.dwz_law_expand.proofs.SiteLemmas.{parts_of}

-- ---- entries and others behind them

under_left : {P : Type 0} (names : List (List ℕ)) (e : Node P) (f last : Entries P) → IsUnder names e f → IsUnder names e (followed_by f last)
unfolding followed_by
under_left names e End last h = absurd h
under_left names e (Entry d c n) last (inl x) = inl x
under_left names e (Entry d c n) last (inr (inl i)) = inr (inl i)
under_left names e (Entry d c n) last (inr (inr r)) = inr (inr (under_left names e n last r))

under_from : {P : Type 0} (names : List (List ℕ)) (e : Node P) (f last : Entries P) → IsUnder names e (followed_by f last) → IsUnder names e f ⊎ IsUnder names e last
unfolding followed_by
under_from names e End last h = inr h
under_from names e (Entry d c n) last (inl x) = inl (inl x)
under_from names e (Entry d c n) last (inr (inl i)) = inl (inr (inl i))
under_from names e (Entry d c n) last (inr (inr r)) = elim (under_from names e n last r) [ inl a ↦ inl (inr (inr a)) | inr b ↦ inr b ]

stands_left : {P : Type 0} (names : List (List ℕ)) (t : CrossTop P) (f last : Entries P) → StandsUnder names t f → StandsUnder names t (followed_by f last)
unfolding followed_by
stands_left names t End last h = absurd h
stands_left names t (Entry d c n) last (inl x) = inl x
stands_left names t (Entry d c n) last (inr (inl i)) = inr (inl i)
stands_left names t (Entry d c n) last (inr (inr r)) = inr (inr (stands_left names t n last r))

stands_right : {P : Type 0} (names : List (List ℕ)) (t : CrossTop P) (f last : Entries P) → StandsUnder names t last → StandsUnder names t (followed_by f last)
unfolding followed_by
stands_right names t End last h = h
stands_right names t (Entry d c n) last h = inr (inr (stands_right names t n last h))

stands_from : {P : Type 0} (names : List (List ℕ)) (t : CrossTop P) (f last : Entries P) → StandsUnder names t (followed_by f last) → StandsUnder names t f ⊎ StandsUnder names t last
unfolding followed_by
stands_from names t End last h = inr h
stands_from names t (Entry d c n) last (inl x) = inl (inl x)
stands_from names t (Entry d c n) last (inr (inl i)) = inl (inr (inl i))
stands_from names t (Entry d c n) last (inr (inr r)) = elim (stands_from names t n last r) [ inl a ↦ inl (inr (inr a)) | inr b ↦ inr b ]

under_inside : {P : Type 0} (names : List (List ℕ)) (e : Node P) (parts : List (DwUnit P)) → IsUnder names e (inside parts) → (v : DwUnit P) × In v parts × IsUnder names e v.below
unfolding inside
under_inside names e [] h = absurd h
under_inside names e (v ∷ parts) h = elim (under_from names e v.below (inside parts) h) [
  | inl a ↦ (v, inl refl, a)
  | inr b ↦ (let o = under_inside names e parts b in (o.0, inr o.1, o.2))
]

stands_inside : {P : Type 0} (names : List (List ℕ)) (t : CrossTop P) (parts : List (DwUnit P)) → StandsUnder names t (inside parts) → (v : DwUnit P) × In v parts × StandsUnder names t v.below
unfolding inside
stands_inside names t [] h = absurd h
stands_inside names t (v ∷ parts) h = elim (stands_from names t v.below (inside parts) h) [
  | inl a ↦ (v, inl refl, a)
  | inr b ↦ (let o = stands_inside names t parts b in (o.0, inr o.1, o.2))
]

in_inside : {P : Type 0} (names : List (List ℕ)) (t : CrossTop P) (parts : List (DwUnit P)) (v : DwUnit P) → In v parts → StandsUnder names t v.below → StandsUnder names t (inside parts)
unfolding inside
in_inside names t [] v is h = absurd is
in_inside {P} names t (x ∷ parts) v (inl e) h = stands_left names t x.below (inside parts) (subst (λ (w : DwUnit P). StandsUnder names t w.below) (sym e) h)
in_inside names t (x ∷ parts) v (inr r) h = stands_right names t x.below (inside parts) (in_inside names t parts v r h)

-- ---- a space is no import

space_tag : {P : Type 0} (d : Node P) (text : List ℕ) → space_text d ≡ Some text → d.tag ≡ 0x3d → ⊥
unfolding space_text
space_tag d text e tag = by (d.tag == 0x39) refl e where
  other : (d.tag == 0x39) ≡ false
  other = ne_eqb d.tag 0x39 (λ q. omega (arith, q, tag))

  by : (b : Bool) → (d.tag == 0x39) ≡ b → (elim b as (λ _. Option (List ℕ)) [ true ↦ text_value (first_named 0x03 d.attrs) | false ↦ None ]) ≡ Some text
      → ⊥
  by true q r = (let both : true ≡ false = sym q ∙ other in cc)
  by false q r = cc

module _ {P : Type 0} (same : P → P → Bool) (test : IsTest same) (units : List (DwUnit P)) (apart : NoneTwice (units_keys units)) where
  abbrev kept : Entries P → Entries P
  kept f = without_imports same units f

  no_import : (d : Node P) (text : List ℕ) → space_text d ≡ Some text → imported_by same units d ≡ []
  no_import d text e = no_parts same test units d (λ v is. space_tag d text e is.tag)

  -- what stands in a space is kept
  kept_entry : (d : Node P) (c n : Entries P) → imported_by same units d ≡ [] → kept (Entry d c n) ≡ Entry d c (kept n)
  unfolding without_imports
  kept_entry d c n e = ap (λ (parts : List (DwUnit P)). unless_import parts d c (without_imports same units n)) e

  abbrev Skips : Node P → Entries P → Entries P → Type 0
  Skips d c n = (kept (Entry d c n) ≡ Entry d c (kept n)) ⊎ (kept (Entry d c n) ≡ kept n)

  skips : (d : Node P) (c n : Entries P) → Skips d c n
  unfolding without_imports
  skips d c n = by (imported_by same units d) where
    by : (parts : List (DwUnit P)) → (unless_import parts d c (without_imports same units n) ≡ Entry d c (without_imports same units n)) ⊎ (unless_import parts d c (without_imports same units n) ≡ without_imports same units n)
    by [] = inl refl
    by (v ∷ parts) = inr refl

  stands_later : (names : List (List ℕ)) (t : CrossTop P) (d : Node P) (c n : Entries P) → StandsUnder names t (kept n) → StandsUnder names t (kept (Entry d c n))
  stands_later names t d c n h = elim (skips d c n) [
    | inl e ↦ subst (λ (g : Entries P). StandsUnder names t g) (sym e) (inr (inr h))
    | inr e ↦ subst (λ (g : Entries P). StandsUnder names t g) (sym e) h
  ]

  under_later : (names : List (List ℕ)) (e : Node P) (d : Node P) (c n : Entries P) → IsUnder names e (kept n) → IsUnder names e (kept (Entry d c n))
  under_later names e d c n h = elim (skips d c n) [
    | inl q ↦ subst (λ (g : Entries P). IsUnder names e g) (sym q) (inr (inr h))
    | inr q ↦ subst (λ (g : Entries P). IsUnder names e g) (sym q) h
  ]

  stands_kept : (names : List (List ℕ)) (t : CrossTop P) (f : Entries P) → StandsUnder names t f → ((v : DwUnit P) → ¬ IsImport units t.node v) → StandsUnder names t (kept f)
  stands_kept names t End h none = absurd h
  stands_kept names t (Entry d c n) (inl x) none =
      let own : imported_by same units d ≡ [] = subst (λ (w : Node P). imported_by same units w ≡ []) (sym x.2) (no_parts same test units t.node none) in
      subst (λ (g : Entries P). StandsUnder names t g) (sym (kept_entry d c n own)) (inl x)
  stands_kept names t (Entry d c n) (inr (inl i)) none = subst (λ (g : Entries P). StandsUnder names t g) (sym (kept_entry d c n (no_import d i.0 i.2))) (inr (inl i))
  stands_kept names t (Entry d c n) (inr (inr r)) none = stands_later names t d c n (stands_kept names t n r none)

  under_kept : (names : List (List ℕ)) (e : Node P) (text : List ℕ) → space_text e ≡ Some text → (f : Entries P) → IsUnder names e f → IsUnder names e (kept f)
  under_kept names e text own End h = absurd h
  under_kept names e text own (Entry d c n) (inl x) =
      subst (λ (g : Entries P). IsUnder names e g) (sym (kept_entry d c n (no_import d text (ap (λ (w : Node P). space_text w) x.1 ∙ own)))) (inl x)
  under_kept names e text own (Entry d c n) (inr (inl i)) = subst (λ (g : Entries P). IsUnder names e g) (sym (kept_entry d c n (no_import d i.0 i.2))) (inr (inl i))
  under_kept names e text own (Entry d c n) (inr (inr r)) = under_later names e d c n (under_kept names e text own n r)

  from_kept : (names : List (List ℕ)) (t : CrossTop P) (f : Entries P) → StandsUnder names t (kept f) → StandsUnder names t f
  unfolding without_imports
  from_kept names t End h = h
  from_kept names t (Entry d c n) h = by (imported_by same units d) h (from_kept names t n) where
    by : (parts : List (DwUnit P)) → StandsUnder names t (unless_import parts d c (without_imports same units n)) → (StandsUnder names t (without_imports same units n) → StandsUnder names t n)
        → StandsUnder names t (Entry d c n)
    by [] (inl x) more = inl x
    by [] (inr (inl i)) more = inr (inl i)
    by [] (inr (inr r)) more = inr (inr (more r))
    by (v ∷ parts) r more = inr (inr (more r))

  under_from_kept : (names : List (List ℕ)) (e : Node P) (f : Entries P) → IsUnder names e (kept f) → IsUnder names e f
  unfolding without_imports
  under_from_kept names e End h = h
  under_from_kept names e (Entry d c n) h = by (imported_by same units d) h (under_from_kept names e n) where
    by : (parts : List (DwUnit P)) → IsUnder names e (unless_import parts d c (without_imports same units n)) → (IsUnder names e (without_imports same units n) → IsUnder names e n) → IsUnder names e (Entry d c n)
    by [] (inl x) more = inl x
    by [] (inr (inl i)) more = inr (inl i)
    by [] (inr (inr r)) more = inr (inr (more r))
    by (v ∷ parts) r more = inr (inr (more r))

  -- ---- of a compile unit

  abbrev below_of : DwUnit P → Entries P
  below_of u = (source_unit same units u).below

  compile_is : (u : DwUnit P) → u.kind ≡ Compile → below_of u ≡ followed_by (kept u.below) (inside (parts_of same test units apart u))
  compile_is u e = ap (λ (k : Kind P). sources_below same units k u.below) e

  -- a partial unit that is imported, and the import
  pub record PartOf (u v : DwUnit P) : Type 0 where
    pub entry : Node P
    pub child : IsChild entry u.below
    pub import : IsImport units entry v

  part_of : (u v : DwUnit P) → In v (parts_of same test units apart u) → PartOf u v
  part_of u v is =
      let o = imported_from same test units u.below v (once_from same test units (imported_in same units u.below) v is) in
      record { entry = o.0; child = o.1; import = o.2 }

  pub top_in : (u : DwUnit P) → u.kind ≡ Compile → (t : CrossTop P) → IsExpanded units u t → StandsUnder t.names t (below_of u)
  unfolding unit_keys
  top_in u kind t (inl plain) =
      subst (λ (g : Entries P). StandsUnder t.names t g) (sym (compile_is u kind)) (stands_left t.names t (kept u.below) (inside (parts_of same test units apart u)) (stands_kept t.names t u.below plain.0 plain.1))
  top_in u kind t (inr x) =
      let v = x.1 in
      let o = in_once same test units (imported_in same units u.below) v (in_imported same test units u.below x.0 v x.2 x.3) in
      let p = part_of u o.one o.there in
      let one : o.one ≡ v = unit_one units apart o.one v p.import.unit x.3.unit v.at (inl o.at) (inl refl) in
      subst (λ (g : Entries P). StandsUnder t.names t g) (sym (compile_is u kind))
      (stands_right t.names t (kept u.below) (inside (parts_of same test units apart u))
      (in_inside t.names t (parts_of same test units apart u) o.one o.there (subst (λ (w : DwUnit P). StandsUnder t.names t w.below) (sym one) x.4.0)))

  abbrev pub TopFrom : DwUnit P → CrossTop P → Type 0
  TopFrom u t = StandsUnder t.names t u.below ⊎ ((v : DwUnit P) × PartOf u v × StandsUnder t.names t v.below)

  pub top_from : (u : DwUnit P) → u.kind ≡ Compile → (t : CrossTop P) → StandsUnder t.names t (below_of u) → TopFrom u t
  top_from u kind t h = elim (stands_from t.names t (kept u.below) (inside (parts_of same test units apart u)) (subst (λ (g : Entries P). StandsUnder t.names t g) (compile_is u kind) h)) [
    | inl a ↦ inl (from_kept t.names t u.below a)
    | inr b ↦ (let o = stands_inside t.names t (parts_of same test units apart u) b in inr (o.0, part_of u o.0 o.1, o.2))
  ]

  pub space_in : (u : DwUnit P) → u.kind ≡ Compile → (names : List (List ℕ)) (e : Node P) → IsSpace names e u.below → IsSpace names e (below_of u)
  space_in u kind names e s = record {
    outer = s.outer;
    text = s.text;
    under = subst (λ (g : Entries P). IsUnder s.outer e g) (sym (compile_is u kind)) (under_left s.outer e (kept u.below) (inside (parts_of same test units apart u)) (under_kept s.outer e s.text s.own u.below s.under));
    own = s.own;
    names_are = s.names_are;
  }

  abbrev pub SpaceFrom : DwUnit P → List (List ℕ) → Node P → Type 0
  SpaceFrom u names e = IsSpace names e u.below ⊎ ((v : DwUnit P) × PartOf u v × IsSpace names e v.below)

  pub space_from : (u : DwUnit P) → u.kind ≡ Compile → (names : List (List ℕ)) (e : Node P) → IsSpace names e (below_of u) → SpaceFrom u names e
  space_from u kind names e s = elim (under_from s.outer e (kept u.below) (inside (parts_of same test units apart u)) (subst (λ (g : Entries P). IsUnder s.outer e g) (compile_is u kind) s.under)) [
    | inl a ↦ inl (record { outer = s.outer; text = s.text; under = under_from_kept s.outer e u.below a; own = s.own; names_are = s.names_are })
    | inr b ↦
        let o = under_inside s.outer e (parts_of same test units apart u) b in
        inr (o.0, part_of u o.0 o.1, record { outer = s.outer; text = s.text; under = o.2; own = s.own; names_are = s.names_are })
  ]

-- ---- tops that are shown

pub record TopShown {P Q : Type 0} (g : P → Q) (names : List (List ℕ)) (t : CrossTop P) (f : Entries Q) : Type 0 where
  pub top : CrossTop Q
  pub stands : StandsUnder names top f
  pub names_are : top.names ≡ t.names
  pub node : IsShown g t.node top.node
  pub below : AreShown g t.below top.below

pub top_to : {P Q : Type 0} (g : P → Q) (names : List (List ℕ)) (t : CrossTop P) (f : Entries P) (f' : Entries Q) → AreShown g f f' → StandsUnder names t f → TopShown g names t f'
top_to g names t End End h s = absurd s
top_to g names t End (Entry b f' k') h s = absurd h
top_to g names t (Entry a f k) End h s = absurd h
top_to {P} {Q} g names t (Entry a f k) (Entry b f' k') h (inl x) = record {
  top = record { names = t.names; node = b; below = f' };
  stands = inl (x.0, shown_text g a b h.0 ∙ x.1, refl, refl);
  names_are = refl;
  node = subst (λ (y : Node P). IsShown g y b) x.2 h.0;
  below = subst (λ (y : Entries P). AreShown g y f') x.3 h.1;
}
top_to g names t (Entry a f k) (Entry b f' k') h (inr (inl i)) =
    let o = top_to g i.1 t f f' h.1 i.4 in
    record { top = o.top; stands = inr (inl (i.0, i.1, shown_text g a b h.0 ∙ i.2, i.3, o.stands)); names_are = o.names_are; node = o.node; below = o.below }
top_to g names t (Entry a f k) (Entry b f' k') h (inr (inr r)) =
    let o = top_to g names t k k' h.2 r in record { top = o.top; stands = inr (inr o.stands); names_are = o.names_are; node = o.node; below = o.below }

pub record TopBack {P Q : Type 0} (g : P → Q) (names : List (List ℕ)) (t : CrossTop Q) (f : Entries P) : Type 0 where
  pub top : CrossTop P
  pub stands : StandsUnder names top f
  pub names_are : top.names ≡ t.names
  pub node : IsShown g top.node t.node
  pub below : AreShown g top.below t.below

pub top_back : {P Q : Type 0} (g : P → Q) (names : List (List ℕ)) (t : CrossTop Q) (f : Entries P) (f' : Entries Q) → AreShown g f f' → StandsUnder names t f' → TopBack g names t f
top_back g names t End End h s = absurd s
top_back g names t End (Entry b f' k') h s = absurd h
top_back g names t (Entry a f k) End h s = absurd h
top_back {P} {Q} g names t (Entry a f k) (Entry b f' k') h (inl x) = record {
  top = record { names = t.names; node = a; below = f };
  stands = inl (x.0, sym (shown_text g a b h.0) ∙ x.1, refl, refl);
  names_are = refl;
  node = subst (λ (y : Node Q). IsShown g a y) x.2 h.0;
  below = subst (λ (y : Entries Q). AreShown g f y) x.3 h.1;
}
top_back g names t (Entry a f k) (Entry b f' k') h (inr (inl i)) =
    let o = top_back g i.1 t f f' h.1 i.4 in
    record { top = o.top; stands = inr (inl (i.0, i.1, sym (shown_text g a b h.0) ∙ i.2, i.3, o.stands)); names_are = o.names_are; node = o.node; below = o.below }
top_back g names t (Entry a f k) (Entry b f' k') h (inr (inr r)) =
    let o = top_back g names t k k' h.2 r in record { top = o.top; stands = inr (inr o.stands); names_are = o.names_are; node = o.node; below = o.below }
