-- What holds of units by names holds of them by places: imports, where one place is of one name, and whole units.
use Rattle.std.proofs.Common.{◌≡◌, ℕ, Bool, false, List, [], ◌∷◌, map, refl, sym, ap, subst, ◌∙◌, inl, inr}
use Rattle.dwz_def_reading.specs.Documents.{Compile, DwUnit, Entries, Kind, Node, OfType, Partial, Plain, Ref, kind_map, ref}
use Rattle.dwz_def_reading.specs.Lists.{In}
use Rattle.dwz_def_reading.proofs.ListFacts.{in_map}
use Rattle.dwz_def_tops.specs.Seen.{Closed, EntriesSame, Expands, HasAt, HasImage, InCompile, InsideSame, IsChild, IsImport, IsPartial, IsShown, Named, Seen, TypesSame, UnitsSame}
use Rattle.dwz_def_tops.specs.Seen.{named_map, named_value, see, seen_below, seen_inner, seen_map, seen_roots}
use Rattle.dwz_def_tops.specs.Shown.{IsShownUnit, OnePlace, UnitsShown}
use Rattle.dwz_def_tops.proofs.SpaceLemmas.{child_under, shown_text}
use Rattle.dwz_def_tops.proofs.ShownLemmas.{EntryWith, attr_from, child_from, child_to, entry_under, inner_shown, kind_then, ref_key, root_key, see_shown, seen_then, shown_from, shown_in, shown_node}
use Rattle.dwz_def_tops.proofs.ShownLemmas.{space_from, space_to, under_from, under_to}

-- ---- imports, where one place is of one name

abbrev named_ref : {K : Type 0} → ℕ → K → Named K
named_ref name p = record { name = name; value = ref p }

partial_to : {K P : Type 0} (g : K → P) (k : Kind K) → IsPartial k → IsPartial (kind_map g k)
partial_to g Compile h = h
partial_to g (OfType signature main) h = h
partial_to g Partial h = h

partial_back : {K P : Type 0} (g : K → P) (k : Kind K) → IsPartial (kind_map g k) → IsPartial k
partial_back g Compile h = h
partial_back g (OfType signature main) h = h
partial_back g Partial h = h

-- what maps to an attribute with one reference has one
single_refs : {K P : Type 0} (g : K → P) (refs : List K) (q : P) (p : K) → map g refs ≡ q ∷ [] → In p refs → refs ≡ p ∷ []
single_refs g [] q p e h = absurd h
single_refs {K} g (r ∷ []) q p e (inl x) = ap (λ (w : K). w ∷ []) x
single_refs g (r ∷ []) q p e (inr y) = absurd y
single_refs g (r ∷ s ∷ refs) q p e h = absurd cc

single : {K P : Type 0} (g : K → P) (a : Named K) (name : ℕ) (q : P) (p : K) → named_map g a ≡ named_ref name q → In p a.value.refs → a ≡ named_ref name p
single {K} {P} g a name q p e h =
    let n : a.name ≡ name = ap (λ (w : Named P). w.name) e in
    let v : a.value.plain ≡ Ref = ap (λ (w : Named P). w.value.plain) e in
    let r = single_refs g a.value.refs q p (ap (λ (w : Named P). w.value.refs) e) h in
    let none : a.value.address ≡ false = ap (λ (w : Named P). w.value.address) e in
    ap (λ (w : ℕ). record { name = w; value = a.value }) n
    ∙ ap (λ (w : Plain). record { name = name; value = record { plain = w; refs = a.value.refs; address = a.value.address } }) v
    ∙ ap (λ (w : List K). record { name = name; value = record { plain = Ref; refs = w; address = a.value.address } }) r
    ∙ ap (λ (w : Bool). record { name = name; value = record { plain = Ref; refs = p ∷ []; address = w } }) none

module _ {K P : Type 0} (g : K → P) (units : List (DwUnit K)) (placed : List (DwUnit P)) (shown : UnitsShown g units placed) where
  import_to : (e : Node K) (d : Node P) → IsShown g e d → (w : DwUnit K) (v : DwUnit P) → In v placed → IsShownUnit g w v → IsImport units e w → IsImport placed d v
  import_to e d h w v there s is = record {
    unit = there;
    partial = subst IsPartial (sym s.kind) (partial_to g w.kind is.partial);
    tag = h.tag ∙ is.tag;
    names = subst (λ (q : P). In (named_ref 0x18 q) (map named_value d.attrs)) (sym s.root.at)
        (subst (In (named_ref 0x18 (g w.root.at))) (sym h.attrs) (in_map (named_map g) (named_ref 0x18 w.root.at) (map named_value e.attrs) is.names));
  }

  -- an import after is one before
  import_back : Closed units → OnePlace g units → (e : Node K) → EntryWith units e.attrs → (d : Node P) → IsShown g e d → (w : DwUnit K) → In w units → (v : DwUnit P) → IsShownUnit g w v
      → IsImport placed d v → IsImport units e w
  import_back closed one e c d h w there v s im =
      let names = subst (λ (q : P). In (named_ref 0x18 q) (map named_value d.attrs)) s.root.at im.names in
      let a = attr_from g (map named_value e.attrs) (named_ref 0x18 (g w.root.at)) (g w.root.at) (subst (In (named_ref 0x18 (g w.root.at))) h.attrs names) (inl refl) in
      let key = ref_key units closed c.entry c.there a.attr (subst (In a.attr) (sym c.attrs_are) a.there) a.place a.refs in
      let same = one a.place w.root.at key (root_key units w there) a.image_is in
      let single_attr : a.attr ≡ named_ref 0x18 a.place = single g a.attr 0x18 (g w.root.at) a.place a.is a.refs in
      record {
        unit = there;
        partial = partial_back g w.kind (subst IsPartial s.kind im.partial);
        tag = sym h.tag ∙ im.tag;
        names = subst (λ (x : K). In (named_ref 0x18 x) (map named_value e.attrs)) same (subst (λ (x : Named K). In x (map named_value e.attrs)) single_attr a.there);
      }

  has_up : Closed units → OnePlace g units → (u : DwUnit K) → In u units → (v : DwUnit P) → IsShownUnit g u v → (names : List (List ℕ)) (q : K) → HasAt units names u.below q
      → HasAt placed names v.below (g q)
  has_up closed one u is v s names q c =
      let d = under_to g names u.below v.below s.below c.entry c.under in
      record {
        entry = d.0;
        under = d.1;
        no_space = shown_text g c.entry d.0 d.2 ∙ c.no_space;
        no_import = λ w im. (
            let o = shown_from g units placed shown w im.unit in
            c.no_import o.unit (import_back closed one c.entry (entry_under units u names c.entry is c.under) d.0 d.2 o.unit o.there w o.shown im));
        at = d.2.at ∙ ap g c.at;
      }

  has_down : Closed units → OnePlace g units → (u : DwUnit K) → In u units → (v : DwUnit P) → IsShownUnit g u v → (names : List (List ℕ)) (p : P) → HasAt placed names v.below p
      → (q : K) × HasAt units names u.below q × (g q ≡ p)
  has_down closed one u is v s names p c =
      let e = under_from g names u.below v.below s.below c.entry c.under in (
        e.0.at,
        record {
          entry = e.0;
          under = e.1;
          no_space = sym (shown_text g e.0 c.entry e.2) ∙ c.no_space;
          no_import = λ w im. (
              let o = shown_in g units placed shown w im.unit in
              c.no_import o.unit (import_to e.0 c.entry e.2 w o.unit o.there o.shown im));
          at = refl;
        },
        sym e.2.at ∙ c.at,
      )

  expands_up : Closed units → OnePlace g units → (u : DwUnit K) → In u units → (v : DwUnit P) → IsShownUnit g u v → (names : List (List ℕ)) (q : K) → Expands units u names q
      → Expands placed v names (g q)
  expands_up closed one u is v s names q (inl c) = inl (has_up closed one u is v s names q c)
  expands_up closed one u is v s names q (inr c) =
      let d = child_to g u.below v.below s.below c.0 c.2 in
      let w = shown_in g units placed shown c.1 c.3.unit in
      inr (d.0, w.unit, d.1, import_to c.0 d.0 d.2 c.1 w.unit w.there w.shown c.3, has_up closed one c.1 c.3.unit w.unit w.shown names q c.4)

  -- an import of a unit after is one of the unit before
  pub record ImportBack (u : DwUnit K) (d : Node P) (v : DwUnit P) : Type 0 where
    pub entry : Node K
    pub child : IsChild entry u.below
    pub shown_is : IsShown g entry d
    pub unit : DwUnit K
    pub there : In unit units
    pub unit_shown : IsShownUnit g unit v
    pub imports : IsImport units entry unit

  import_was : Closed units → OnePlace g units → (u : DwUnit K) → In u units → (v : DwUnit P) → IsShownUnit g u v → (d : Node P) → IsChild d v.below → (w : DwUnit P) → IsImport placed d w
      → ImportBack u d w
  import_was closed one u is v s d child w im =
      let e = child_from g u.below v.below s.below d child in
      let o = shown_from g units placed shown w im.unit in
      record {
        entry = e.0;
        child = e.1;
        shown_is = e.2;
        unit = o.unit;
        there = o.there;
        unit_shown = o.shown;
        imports = import_back closed one e.0 (entry_under units u [] e.0 is (child_under e.0 u.below e.1)) d e.2 o.unit o.there w o.shown im;
      }

  expands_down : Closed units → OnePlace g units → (u : DwUnit K) → In u units → (v : DwUnit P) → IsShownUnit g u v → (names : List (List ℕ)) (p : P) → Expands placed v names p
      → (q : K) × Expands units u names q × (g q ≡ p)
  expands_down closed one u is v s names p (inl c) = let o = has_down closed one u is v s names p c in (o.0, inl o.1, o.2)
  expands_down closed one u is v s names p (inr c) =
      let b = import_was closed one u is v s c.0 c.2 c.1 c.3 in
      let o = has_down closed one b.unit b.there c.1 b.unit_shown names p c.4 in
      (o.0, inr (b.entry, b.unit, b.child, b.imports, o.1), o.2)

-- ---- units, by places

in_compile : {P Q : Type 0} (g : P → Q) (k : Kind P) (l : Kind Q) (S T : Type 0) → l ≡ kind_map g k → (S → T) → InCompile l S → InCompile k T
in_compile {P} {Q} g Compile l S T e f h = f (subst (λ (w : Kind Q). InCompile w S) e h)
in_compile g (OfType signature main) l S T e f h = tt
in_compile g Partial l S T e f h = tt

compile_more : {P : Type 0} (k : Kind P) (S T : Type 0) → (S → T) → InCompile k S → InCompile k T
compile_more Compile S T f h = f h
compile_more (OfType signature main) S T f h = tt
compile_more Partial S T f h = tt

image_then : {A K P : Type 0} (g : K → P) (f : A → K) (names : List (List ℕ)) (below : Entries A) (q : K) (p : P) → g q ≡ p → HasImage f names below q → HasImage (λ x. g (f x)) names below p
image_then g f names below q p e h = (h.0, h.1, h.2, ap g h.3 ∙ e)

inside_placed : {A K P : Type 0} (g : K → P) (f : A → K) (after : List (DwUnit K)) (placed : List (DwUnit P)) → UnitsShown g after placed → Closed after → OnePlace g after
    → (u : DwUnit A) (v : DwUnit K) → In v after → (w : DwUnit P) → IsShownUnit g v w → InsideSame f after u v → InsideSame (λ x. g (f x)) placed u w
inside_placed {A} {K} {P} g f after placed shown closed one u v is w s h = record {
  spaces = λ names d space. (
      let o = h.spaces names d space in
      let r = space_to g names v.below w.below s.below o.0 o.1 in
      (r.0, r.1, shown_node f g d o.0 r.0 o.2 r.2));
  no_more = λ names e space. (
      let r = space_from g names v.below w.below s.below e space in
      let o = h.no_more names r.0 r.1 in
      (o.0, o.1, shown_node f g o.0 r.0 e o.2 r.2));
  children = λ names p. (
    (λ x. (let d = expands_down g after placed shown closed one v is w s names p x in image_then g f names u.below d.0 p d.2 ((h.children names d.0).0 d.1))),
    (λ x. (let q = f x.0.at in subst (Expands placed w names) x.3 (expands_up g after placed shown closed one v is w s names q ((h.children names q).1 (x.0, x.1, x.2, refl))))),
  );
  imported = λ e x child im names b space. (
      let o = import_was g after placed shown closed one v is w s e child x im in
      let r = space_from g names o.unit.below x.below o.unit_shown.below b space in
      h.imported o.entry o.unit o.child o.imports names r.0 r.1);
}

-- units that are the same along names are so along places
pub units_placed : {A K P : Type 0} (g : K → P) (f : A → K) (before : List (DwUnit A)) (after : List (DwUnit K)) (placed : List (DwUnit P)) → UnitsShown g after placed → Closed after
    → OnePlace g after → UnitsSame f before after → UnitsSame (λ x. g (f x)) before placed
units_placed {A} {K} {P} g f before after placed shown closed one h = λ u is.
    let o = h u is in
    let s = o.1 in
    let v = shown_in g after placed shown o.0 s.there in
    let r = v.shown in (
      v.unit,
      record {
        there = v.there;
        kind = r.kind ∙ ap (kind_map g) s.kind ∙ kind_then f g u.kind;
        root = shown_node f g u.root o.0.root v.unit.root s.root r.root;
        inside = compile_more u.kind (InsideSame f after u o.0) (InsideSame (λ x. g (f x)) placed u v.unit) (inside_placed g f after placed shown closed one u o.0 s.there v.unit r) s.inside;
      },
    )

-- ---- places before, in place of names

inside_named : {A K P : Type 0} (name : A → K) (f : K → P) (after : List (DwUnit P)) (u : DwUnit A) (v : DwUnit K) → IsShownUnit name u v → (w : DwUnit P) → InsideSame f after v w
    → InsideSame (λ x. f (name x)) after u w
inside_named {A} {K} {P} name f after u v s w h = record {
  spaces = λ names d space. (
      let r = space_to name names u.below v.below s.below d space in
      let o = h.spaces names r.0 r.1 in
      (o.0, o.1, shown_node name f d r.0 o.0 r.2 o.2));
  no_more = λ names e space. (
      let o = h.no_more names e space in
      let r = space_from name names u.below v.below s.below o.0 o.1 in
      (r.0, r.1, shown_node name f r.0 o.0 e r.2 o.2));
  children = λ names q. (
    (λ x.
        let o = (h.children names q).0 x in
        let r = under_from name names u.below v.below s.below o.0 o.1 in
        (r.0, r.1, sym (shown_text name r.0 o.0 r.2) ∙ o.2, sym (ap f r.2.at) ∙ o.3)),
    (λ x.
        let r = under_to name names u.below v.below s.below x.0 x.1 in
        (h.children names q).1 (r.0, r.1, shown_text name x.0 r.0 r.2 ∙ x.2, ap f r.2.at ∙ x.3)),
  );
  imported = λ e x child im names b space. (
      let o = h.imported e x child im names b space in
      let r = space_from name names u.below v.below s.below o.0 o.1 in
      (r.0, r.1));
}

pub units_named : {A K P : Type 0} (name : A → K) (f : K → P) (before : List (DwUnit A)) (named : List (DwUnit K)) (after : List (DwUnit P)) → UnitsShown name before named → UnitsSame f named after
    → UnitsSame (λ x. f (name x)) before after
units_named {A} {K} {P} name f before named after shown h = λ u is.
    let v = shown_in name before named shown u is in
    let o = h v.unit v.there in
    let s = o.1 in
    let r = v.shown in (
      o.0,
      record {
        there = s.there;
        kind = s.kind ∙ ap (kind_map f) r.kind ∙ kind_then name f u.kind;
        root = shown_node name f u.root v.unit.root o.0.root r.root s.root;
        inside = in_compile name u.kind v.unit.kind (InsideSame f after v.unit o.0) (InsideSame (λ x. f (name x)) after u o.0) r.kind (inside_named name f after u v.unit r o.0) s.inside;
      },
    )

pub entries_named : {A K P : Type 0} (name : A → K) (f : K → P) (before : List (DwUnit A)) (named : List (DwUnit K)) (after : List (DwUnit P)) → UnitsShown name before named
    → EntriesSame f named after → EntriesSame (λ x. f (name x)) before after
entries_named {A} {K} {P} name f before named after shown h = λ e is.
    let there = subst (In (seen_map name e)) (sym (inner_shown name before named shown)) (in_map (seen_map name) e (seen_inner before) is) in
    subst (λ (w : Seen P). In w (seen_below after)) (seen_then name f e) (h (seen_map name e) there)

pub types_named : {A K P : Type 0} (name : A → K) (f : K → P) (before : List (DwUnit A)) (named : List (DwUnit K)) (after : List (DwUnit P)) → UnitsShown name before named → TypesSame f named after
    → TypesSame (λ x. f (name x)) before after
types_named {A} {K} {P} name f before named after shown h = λ u signature main is kind.
    let v = shown_in name before named shown u is in
    let there = h v.unit signature (name main) v.there (v.shown.kind ∙ ap (kind_map name) kind) in
    let same = see_shown name u.root v.unit.root u.below v.unit.below v.shown.root v.shown.below in
    subst (λ (w : Seen P). In w (seen_roots after)) (ap (seen_map f) same ∙ seen_then name f (see u.root u.below)) there
