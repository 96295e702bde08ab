-- What stands in a compile unit after, by what imports it; and that entries are their sources.
use Rattle.std.proofs.Common.{◌≡◌, ℕ, suc, Bool, true, false, List, [], ◌∷◌, ◌==◌, ◌&&◌, map, refl, sym, ap, subst, ◌∙◌, inl, inr, eq-eqb}
use Rattle.std.specs.Prelude.{◌↔◌, ◌⊎◌, not}
use Rattle.std.specs.List.{list_any}
use Rattle.std.proofs.lemmas.Bool.{and_parts, eqb-true}
use Rattle.dwz_def_reading.specs.Documents.{Attr, Compile, DwUnit, Entries, Kind, Node, OfType, Partial, Plain, Ref, Value, attr_map, entries_map, kind_map, node_map, ref, unit_map, value_map}
use Rattle.dwz_def_reading.specs.Documents as document
use Rattle.dwz_def_reading.specs.Lists.{In, NoneTwice}
use Rattle.dwz_def_reading.specs.Trees.{End, Entry}
use Rattle.dwz_def_reading.proofs.ListFacts.{in_cases, in_left, in_map, in_right}
use Rattle.dwz_def_reading.proofs.Members.{any_from, any_true, in_filter, in_filter_from, in_map_from}
use Rattle.dwz_def_tops.specs.Seen.{IsChild, IsImport, IsPartial, Named, named_value}
use Rattle.dwz_def_tops.specs.Shown.{unit_keys, units_keys}
use Rattle.dwz_def_cross.specs.Tops.{WithCommon}
use Rattle.dwz_def_expand.specs.ExpandLaws.{IsChildAfter, IsTest}
use Rattle.dwz_def_expand.specs.Source.{Copy, copies, copy_for, expanded, followed_by, imported_by, imported_in, inside, is_entry, is_import, is_import_attr, is_partial, once, source_unit, source_units, source_places, unless_import, without_imports}
use Rattle.dwz_def_expand.proofs.SourceLemmas.{unit_one}

-- ---- entries are their sources

module _ {P : Type 0} (f : P → Copy P) (same : (p : P) → (f p).source ≡ p) where
  abbrev back : Copy P → P
  back k = k.source

  refs_back : (refs : List P) → map back (map f refs) ≡ refs
  refs_back [] = refl
  refs_back (p ∷ refs) = ap (λ (q : P). q ∷ map back (map f refs)) (same p) ∙ ap (λ (w : List P). p ∷ w) (refs_back refs)

  attrs_back : (attrs : List (Attr P)) → map (attr_map back) (map (attr_map f) attrs) ≡ attrs
  attrs_back [] = refl
  attrs_back (a ∷ attrs) =
      ap (λ (refs : List P). record { name = a.name; form = a.form; raw = a.raw; value = record { plain = a.value.plain; refs = refs; address = a.value.address } } ∷ map (attr_map back) (map (attr_map f) attrs)) (refs_back a.value.refs)
      ∙ ap (λ (w : List (Attr P)). a ∷ w) (attrs_back attrs)

  node_back : (e : Node P) → node_map back (node_map f e) ≡ e
  node_back e =
      ap (λ (p : P). record { at = p; tag = e.tag; attrs = map (attr_map back) (map (attr_map f) e.attrs) }) (same e.at)
      ∙ ap (λ (w : List (Attr P)). record { at = e.at; tag = e.tag; attrs = w }) (attrs_back e.attrs)

  entries_back : (g : Entries P) → entries_map back (entries_map f g) ≡ g
  unfolding entries_map
  entries_back End = refl
  entries_back (Entry e g h) =
      ap (λ (d : Node P). Entry d (entries_map back (entries_map f g)) (entries_map back (entries_map f h))) (node_back e)
      ∙ ap (λ (w : Entries P). Entry e w (entries_map back (entries_map f h))) (entries_back g) ∙ ap (λ (w : Entries P). Entry e g w) (entries_back h)

  kind_back : (k : Kind P) → kind_map back (kind_map f k) ≡ k
  kind_back Compile = refl
  kind_back (OfType s m) = ap (λ (p : P). OfType s p) (same m)
  kind_back Partial = refl

  unit_back : (u : DwUnit P) → unit_map back (unit_map f u) ≡ u
  unit_back u =
      ap (λ (p : P). record { at = p; kind = kind_map back (kind_map f u.kind); root = node_map back (node_map f u.root); below = entries_map back (entries_map f u.below) }) (same u.at)
      ∙ ap (λ (k : Kind P). record { at = u.at; kind = k; root = node_map back (node_map f u.root); below = entries_map back (entries_map f u.below) }) (kind_back u.kind)
      ∙ ap (λ (e : Node P). record { at = u.at; kind = u.kind; root = e; below = entries_map back (entries_map f u.below) }) (node_back u.root)
      ∙ ap (λ (g : Entries P). record { at = u.at; kind = u.kind; root = u.root; below = g }) (entries_back u.below)

units_back : {P : Type 0} (same : P → P → Bool) (places : List (List P)) (n : ℕ) (units : List (DwUnit P)) → map (unit_map (λ (k : Copy P). k.source)) (copies same places n units) ≡ units
unfolding copies
units_back same places n [] = refl
units_back {P} same places n (u ∷ units) =
    ap (λ (v : DwUnit P). v ∷ map (unit_map (λ (k : Copy P). k.source)) (copies same places (suc n) units)) (unit_back (copy_for same places n) (λ p. refl) u)
    ∙ ap (λ (w : List (DwUnit P)). u ∷ w) (units_back same places (suc n) units)

pub sources_back : {P : Type 0} (same : P → P → Bool) (w : WithCommon P) → map (unit_map (λ (k : Copy P). k.source)) (expanded same w) ≡ source_units same w
sources_back same w = units_back same (source_places same w) 0 (source_units same w)

-- ---- children of entries beside each other

followed_from : {P : Type 0} (e : Node P) (f last : Entries P) → IsChild e (followed_by f last) → IsChild e f ⊎ IsChild e last
unfolding followed_by
followed_from e End last h = inr h
followed_from e (Entry d c n) last (inl x) = inl (inl x)
followed_from e (Entry d c n) last (inr r) = elim (followed_from e n last r) [ inl a ↦ inl (inr a) | inr b ↦ inr b ]

followed_left : {P : Type 0} (e : Node P) (f last : Entries P) → IsChild e f → IsChild e (followed_by f last)
unfolding followed_by
followed_left e End last h = absurd h
followed_left e (Entry d c n) last (inl x) = inl x
followed_left e (Entry d c n) last (inr r) = inr (followed_left e n last r)

followed_right : {P : Type 0} (e : Node P) (f last : Entries P) → IsChild e last → IsChild e (followed_by f last)
unfolding followed_by
followed_right e End last h = h
followed_right e (Entry d c n) last h = inr (followed_right e n last h)

inside_from : {P : Type 0} (e : Node P) (parts : List (DwUnit P)) → IsChild e (inside parts) → (v : DwUnit P) × In v parts × IsChild e v.below
unfolding inside
inside_from e [] h = absurd h
inside_from e (v ∷ parts) h = elim (followed_from e v.below (inside parts) h) [
  | inl a ↦ (v, inl refl, a)
  | inr b ↦ (let o = inside_from e parts b in (o.0, inr o.1, o.2))
]

in_inside : {P : Type 0} (e : Node P) (parts : List (DwUnit P)) (v : DwUnit P) → In v parts → IsChild e v.below → IsChild e (inside parts)
unfolding inside
in_inside e [] v is h = absurd is
in_inside {P} e (x ∷ parts) v (inl same) h = followed_left e x.below (inside parts) (subst (λ (w : DwUnit P). IsChild e w.below) (sym same) h)
in_inside e (x ∷ parts) v (inr r) h = followed_right e x.below (inside parts) (in_inside e parts v r h)

-- ---- imports, by the test and by what they are

module _ {P : Type 0} (same : P → P → Bool) (test : IsTest same) (units : List (DwUnit P)) where
  partial_is : (k : Kind P) → is_partial k ≡ true → IsPartial k
  partial_is Compile h = absurd cc
  partial_is (OfType s m) h = absurd cc
  partial_is Partial h = tt

  is_part : (k : Kind P) → IsPartial k → is_partial k ≡ true
  is_part Compile h = absurd h
  is_part (OfType s m) h = absurd h
  is_part Partial h = refl

  ref_is : (p : P) (plain : Plain) (refs : List P) (address : Bool) → is_entry same p plain refs address ≡ true → record { plain = plain; refs = refs; address = address } ≡ ref p
  ref_is p document.Ref (q ∷ []) false h = ap (λ (x : P). ref x) (test.yes q p h)
  ref_is p document.Ref (q ∷ []) true h = absurd cc
  ref_is p document.Ref [] address h = absurd cc
  ref_is p document.Ref (q ∷ r ∷ refs) address h = absurd cc
  ref_is p (document.Num w n) refs address h = absurd cc
  ref_is p (document.Flag b) refs address h = absurd cc
  ref_is p (document.Block b) refs address h = absurd cc
  ref_is p (document.Text t) refs address h = absurd cc
  ref_is p (document.File o) refs address h = absurd cc
  ref_is p (document.Sig s) refs address h = absurd cc
  ref_is p (document.Addr n) refs address h = absurd cc
  ref_is p (document.Index n) refs address h = absurd cc
  ref_is p (document.Sec n) refs address h = absurd cc
  ref_is p (document.Expr x) refs address h = absurd cc
  ref_is p (document.Loc x) refs address h = absurd cc

  by_value : (p : P) (v : Value P) → v ≡ ref p → is_entry same p v.plain v.refs v.address ≡ true
  by_value p v e = subst (λ (x : Value P). is_entry same p x.plain x.refs x.address ≡ true) (sym e) (test.no p)

  pub import_from : (e : Node P) (v : DwUnit P) → In v (imported_by same units e) → IsImport units e v
  unfolding imported_by
  import_from e v is =
      let o = in_filter_from (λ (x : DwUnit P). is_partial x.kind && is_import same x.root.at e) v units is in
      let two = and_parts (is_partial v.kind) (is_import same v.root.at e) o.1 in
      let tag = and_parts (e.tag == 0x3d) (list_any (is_import_attr same v.root.at) e.attrs) two.1 in
      let a = any_from (is_import_attr same v.root.at) e.attrs tag.1 in
      let name = and_parts (a.one.name == 0x18) (is_entry same v.root.at a.one.value.plain a.one.value.refs a.one.value.address) a.passes in
      record {
        unit = o.0;
        partial = partial_is v.kind two.0;
        tag = eqb-true e.tag 0x3d tag.0;
        names = subst (λ (n : Named P). In n (map named_value e.attrs))
            (named (a.one) (eqb-true a.one.name 0x18 name.0) (ref_is v.root.at a.one.value.plain a.one.value.refs a.one.value.address name.1)) (in_map named_value a.one e.attrs a.there);
      }
    where
      named : (x : Attr P) → x.name ≡ 0x18 → x.value ≡ ref v.root.at → named_value x ≡ record { name = 0x18; value = ref v.root.at }
      named x n r = ap (λ (m : ℕ). record { name = m; value = x.value }) n ∙ ap (λ (y : Value P). record { name = 0x18; value = y }) r

  import_in : (e : Node P) (v : DwUnit P) → IsImport units e v → In v (imported_by same units e)
  unfolding imported_by
  import_in e v h =
      let a = in_map_from named_value (record { name = 0x18; value = ref v.root.at }) e.attrs h.names in
      let name : a.source.name ≡ 0x18 = ap (λ (n : Named P). n.name) a.is in
      let value : a.source.value ≡ ref v.root.at = ap (λ (n : Named P). n.value) a.is in
      let attr : is_import_attr same v.root.at a.source ≡ true = rw (eq-eqb a.source.name 0x18 name, by_value v.root.at a.source.value value) refl in
      let any = any_true (is_import_attr same v.root.at) a.source e.attrs a.there attr in
      in_filter (λ (x : DwUnit P). is_partial x.kind && is_import same x.root.at e) v units h.unit (rw (is_part v.kind h.partial, eq-eqb e.tag 0x3d h.tag, any) refl)

  pub imported_from : (f : Entries P) (v : DwUnit P) → In v (imported_in same units f) → (d : Node P) × IsChild d f × IsImport units d v
  unfolding imported_in
  imported_from End v h = absurd h
  imported_from (Entry d c n) v h = elim (in_cases v (imported_by same units d) (imported_in same units n) h) [
    | inl a ↦ (d, inl refl, import_from d v a)
    | inr b ↦ (let o = imported_from n v b in (o.0, inr o.1, o.2))
  ]

  pub in_imported : (f : Entries P) (d : Node P) (v : DwUnit P) → IsChild d f → IsImport units d v → In v (imported_in same units f)
  unfolding imported_in
  in_imported End d v h i = absurd h
  in_imported (Entry x c n) d v (inl e) i = in_left v (imported_by same units x) (imported_in same units n) (import_in x v (subst (λ (y : Node P). IsImport units y v) (sym e) i))
  in_imported (Entry x c n) d v (inr r) i = in_right v (imported_by same units x) (imported_in same units n) (in_imported n d v r i)

  -- ---- each once

  pub once_from : (vs : List (DwUnit P)) (v : DwUnit P) → In v (once same vs) → In v vs
  unfolding once
  once_from [] v h = h
  once_from (x ∷ vs) v (inl e) = inl e
  once_from (x ∷ vs) v (inr r) = inr (once_from vs v (in_filter_from (λ (w : DwUnit P). not (same w.at x.at)) v (once same vs) r).0)

  pub record OnceIn (vs : List (DwUnit P)) (v : DwUnit P) : Type 0 where
    pub one : DwUnit P
    pub there : In one (once same vs)
    pub at : one.at ≡ v.at

  pub in_once : (vs : List (DwUnit P)) (v : DwUnit P) → In v vs → OnceIn vs v
  unfolding once
  in_once [] v h = absurd h
  in_once (x ∷ vs) v (inl e) = record { one = x; there = inl refl; at = ap (λ (w : DwUnit P). w.at) e }
  in_once (x ∷ vs) v (inr r) = let o = in_once vs v r in by (same o.one.at x.at) o.one refl o.there o.at where
    by : (b : Bool) (one : DwUnit P) → same one.at x.at ≡ b → In one (once same vs) → one.at ≡ v.at → OnceIn (x ∷ vs) v
    by true one e there at = record { one = x; there = inl refl; at = sym (test.yes one.at x.at e) ∙ at }
    by false one e there at = record { one = one; there = inr (in_filter (λ (w : DwUnit P). not (same w.at x.at)) one (once same vs) there (ap not e)); at = at }

  -- ---- what is kept

  kept_from : (e : Node P) (f : Entries P) → IsChild e (without_imports same units f) → IsChild e f × (imported_by same units e ≡ [])
  unfolding without_imports
  kept_from e End h = absurd h
  kept_from e (Entry d c n) h = by (imported_by same units d) refl h (kept_from e n) where
    by : (parts : List (DwUnit P)) → imported_by same units d ≡ parts → IsChild e (unless_import parts d c (without_imports same units n))
        → (IsChild e (without_imports same units n) → IsChild e n × (imported_by same units e ≡ [])) → IsChild e (Entry d c n) × (imported_by same units e ≡ [])
    by [] none (inl x) more = (inl x, subst (λ (y : Node P). imported_by same units y ≡ []) x none)
    by [] none (inr r) more = (inr (more r).0, (more r).1)
    by (v ∷ parts) some r more = (inr (more r).0, (more r).1)

  in_kept : (e : Node P) (f : Entries P) → IsChild e f → imported_by same units e ≡ [] → IsChild e (without_imports same units f)
  unfolding without_imports
  in_kept e End h none = absurd h
  in_kept e (Entry d c n) h none = by (imported_by same units d) refl h (λ r. in_kept e n r none) where
    by : (parts : List (DwUnit P)) → imported_by same units d ≡ parts → IsChild e (Entry d c n) → (IsChild e n → IsChild e (without_imports same units n))
        → IsChild e (unless_import parts d c (without_imports same units n))
    by [] is (inl x) more = inl x
    by [] is (inr r) more = inr (more r)
    by (v ∷ parts) is (inl x) more = absurd (let same_parts = sym is ∙ ap (λ (y : Node P). imported_by same units y) x ∙ none in cc)
    by (v ∷ parts) is (inr r) more = more r

  pub none_imported : (e : Node P) → imported_by same units e ≡ [] → (v : DwUnit P) → ¬ IsImport units e v
  none_imported e none v i = subst (λ (w : List (DwUnit P)). In v w) none (import_in e v i)

  pub no_parts : (e : Node P) → ((v : DwUnit P) → ¬ IsImport units e v) → imported_by same units e ≡ []
  no_parts e none = by (imported_by same units e) (λ v is. none v (import_from e v is)) where
    by : (parts : List (DwUnit P)) → ((v : DwUnit P) → In v parts → ⊥) → parts ≡ []
    by [] h = refl
    by (v ∷ parts) h = absurd (h v (inl refl))

  -- ---- all of it

  pub children_after : NoneTwice (units_keys units) → (u : DwUnit P) → u.kind ≡ Compile → (e : Node P) → IsChild e (source_unit same units u).below ↔ IsChildAfter units u e
  unfolding unit_keys
  children_after apart u kind e = rw kind (to, from) where
    parts : List (DwUnit P)
    parts = once same (imported_in same units u.below)

    to : IsChild e (followed_by (without_imports same units u.below) (inside (once same (imported_in same units u.below)))) → IsChildAfter units u e
    to h = elim (followed_from e (without_imports same units u.below) (inside (once same (imported_in same units u.below))) h) [
      | inl a ↦ (let o = kept_from e u.below a in inl (o.0, none_imported e o.1))
      | inr b ↦
          let v = inside_from e (once same (imported_in same units u.below)) b in
          let d = imported_from u.below v.0 (once_from (imported_in same units u.below) v.0 v.1) in
          inr (d.0, v.0, d.1, d.2, v.2)
    ]

    from : IsChildAfter units u e → IsChild e (followed_by (without_imports same units u.below) (inside (once same (imported_in same units u.below))))
    from (inl a) = followed_left e (without_imports same units u.below) (inside (once same (imported_in same units u.below))) (in_kept e u.below a.0 (no_parts e a.1))
    from (inr b) =
        let v = b.1 in
        let o = in_once (imported_in same units u.below) v (in_imported u.below b.0 v b.2 b.3) in
        let i = imported_from u.below o.one (once_from (imported_in same units u.below) o.one o.there) in
        let one : o.one ≡ v = unit_one units apart o.one v i.2.unit b.3.unit v.at (inl o.at) (inl refl) in
        followed_right e (without_imports same units u.below) (inside (once same (imported_in same units u.below)))
        (in_inside e (once same (imported_in same units u.below)) o.one o.there (subst (λ (w : DwUnit P). IsChild e w.below) (sym one) b.4))
