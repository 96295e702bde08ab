-- What a unit has, imports expanded, where one name may stand for several entries, but for one root of a partial unit.
use Rattle.std.proofs.Common.{◌≡◌, ℕ, Bool, false, List, [], ◌∷◌, map, refl, sym, ap, subst, ◌∙◌, inl, inr}
use Rattle.dwz_def_reading.specs.Documents.{Compile, DwUnit, Kind, Node, OfType, Partial, Plain, Ref, kind_map, ref}
use Rattle.dwz_def_reading.specs.Lists.{In}
use Rattle.dwz_def_reading.proofs.ListFacts.{in_map}
use Rattle.dwz_def_tops.specs.Seen.{Closed, Expands, HasAt, IsImport, IsPartial, IsShown, Named, Seen, all_seen, named_map, named_value}
use Rattle.dwz_def_tops.specs.Shown.{IsShownUnit, UnitsShown}
use Rattle.dwz_def_tops.proofs.SpaceLemmas.{child_under, shown_text}
use Rattle.dwz_def_tops.proofs.ShownLemmas.{EntryWith, attr_from, child_from, child_to, entry_under, shown_from, shown_in, under_from, under_to}

abbrev named_ref : {K : Type 0} → ℕ → K → Named K
named_ref name p = record { name = name; value = ref p }

partial_to : {K P : Type 0} (g : K → P) (k : Kind K) → IsPartial k → IsPartial (kind_map g k)
partial_to g Compile h = h
partial_to g (OfType signature main) h = h
partial_to g Partial h = h

pub partial_back : {K P : Type 0} (g : K → P) (k : Kind K) → IsPartial (kind_map g k) → IsPartial k
partial_back g Compile h = h
partial_back g (OfType signature main) h = h
partial_back g Partial h = h

-- what maps to an attribute with one reference has one
single_refs : {K P : Type 0} (g : K → P) (refs : List K) (q : P) (p : K) → map g refs ≡ q ∷ [] → In p refs → refs ≡ p ∷ []
single_refs g [] q p e h = absurd h
single_refs {K} g (r ∷ []) q p e (inl x) = ap (λ (w : K). w ∷ []) x
single_refs g (r ∷ []) q p e (inr y) = absurd y
single_refs g (r ∷ s ∷ refs) q p e h = absurd cc

single : {K P : Type 0} (g : K → P) (a : Named K) (name : ℕ) (q : P) (p : K) → named_map g a ≡ named_ref name q → In p a.value.refs → a ≡ named_ref name p
single {K} {P} g a name q p e h =
    let n : a.name ≡ name = ap (λ (w : Named P). w.name) e in
    let v : a.value.plain ≡ Ref = ap (λ (w : Named P). w.value.plain) e in
    let r = single_refs g a.value.refs q p (ap (λ (w : Named P). w.value.refs) e) h in
    let none : a.value.address ≡ false = ap (λ (w : Named P). w.value.address) e in
    ap (λ (w : ℕ). record { name = w; value = a.value }) n
    ∙ ap (λ (w : Plain). record { name = name; value = record { plain = w; refs = a.value.refs; address = a.value.address } }) v
    ∙ ap (λ (w : List K). record { name = name; value = record { plain = Ref; refs = w; address = a.value.address } }) r
    ∙ ap (λ (w : Bool). record { name = name; value = record { plain = Ref; refs = p ∷ []; address = w } }) none

-- the place is that of an entry of these units
abbrev pub KnownIn : {P : Type 0} → List (DwUnit P) → P → Type 0
KnownIn {P} units p = (d : Seen P) × In d (all_seen units) × (d.at ≡ p)

-- no other entry has the name of the root of a partial unit
abbrev pub RootsApart : {K P : Type 0} → (K → P) → List (DwUnit K) → Type 0
RootsApart {K} g units = (p : K) (w : DwUnit K) → KnownIn units p → In w units → IsPartial w.kind → g p ≡ g w.root.at → p ≡ w.root.at

module _ {K P : Type 0} (g : K → P) (units : List (DwUnit K)) (placed : List (DwUnit P)) (shown : UnitsShown g units placed) (closed : Closed units) (apart : RootsApart g units) where
  import_to : (e : Node K) (d : Node P) → IsShown g e d → (w : DwUnit K) (v : DwUnit P) → In v placed → IsShownUnit g w v → IsImport units e w → IsImport placed d v
  import_to e d h w v there s is = record {
    unit = there;
    partial = subst IsPartial (sym s.kind) (partial_to g w.kind is.partial);
    tag = h.tag ∙ is.tag;
    names = subst (λ (q : P). In (named_ref 0x18 q) (map named_value d.attrs)) (sym s.root.at)
        (subst (In (named_ref 0x18 (g w.root.at))) (sym h.attrs) (in_map (named_map g) (named_ref 0x18 w.root.at) (map named_value e.attrs) is.names));
  }

  -- an import after is one before
  import_back : (e : Node K) → EntryWith units e.attrs → (d : Node P) → IsShown g e d → (w : DwUnit K) → In w units → (v : DwUnit P) → IsShownUnit g w v → IsImport placed d v → IsImport units e w
  import_back e c d h w there v s im =
      let names = subst (λ (q : P). In (named_ref 0x18 q) (map named_value d.attrs)) s.root.at im.names in
      let a = attr_from g (map named_value e.attrs) (named_ref 0x18 (g w.root.at)) (g w.root.at) (subst (In (named_ref 0x18 (g w.root.at))) h.attrs names) (inl refl) in
      let key = closed c.entry a.attr a.place c.there (subst (In a.attr) (sym c.attrs_are) a.there) a.refs in
      let partial = partial_back g w.kind (subst IsPartial s.kind im.partial) in
      let same = apart a.place w key there partial a.image_is in
      let single_attr : a.attr ≡ named_ref 0x18 a.place = single g a.attr 0x18 (g w.root.at) a.place a.is a.refs in
      record {
        unit = there;
        partial = partial;
        tag = sym h.tag ∙ im.tag;
        names = subst (λ (x : K). In (named_ref 0x18 x) (map named_value e.attrs)) same (subst (λ (x : Named K). In x (map named_value e.attrs)) single_attr a.there);
      }

  has_up : (u : DwUnit K) → In u units → (v : DwUnit P) → IsShownUnit g u v → (names : List (List ℕ)) (q : K) → HasAt units names u.below q → HasAt placed names v.below (g q)
  has_up u is v s names q c =
      let d = under_to g names u.below v.below s.below c.entry c.under in
      record {
        entry = d.0;
        under = d.1;
        no_space = shown_text g c.entry d.0 d.2 ∙ c.no_space;
        no_import = λ w im. (
            let o = shown_from g units placed shown w im.unit in
            c.no_import o.unit (import_back c.entry (entry_under units u names c.entry is c.under) d.0 d.2 o.unit o.there w o.shown im));
        at = d.2.at ∙ ap g c.at;
      }

  has_down : (u : DwUnit K) → (v : DwUnit P) → IsShownUnit g u v → (names : List (List ℕ)) (p : P) → HasAt placed names v.below p → (q : K) × HasAt units names u.below q × (g q ≡ p)
  has_down u v s names p c =
      let e = under_from g names u.below v.below s.below c.entry c.under in (
        e.0.at,
        record {
          entry = e.0;
          under = e.1;
          no_space = sym (shown_text g e.0 c.entry e.2) ∙ c.no_space;
          no_import = λ w im. (
              let o = shown_in g units placed shown w im.unit in
              c.no_import o.unit (import_to e.0 c.entry e.2 w o.unit o.there o.shown im));
          at = refl;
        },
        sym e.2.at ∙ c.at,
      )

  -- a name that stands in a unit, imports expanded, has its place there
  pub expanded_up : (u : DwUnit K) → In u units → (v : DwUnit P) → IsShownUnit g u v → (names : List (List ℕ)) (q : K) → Expands units u names q → Expands placed v names (g q)
  expanded_up u is v s names q (inl c) = inl (has_up u is v s names q c)
  expanded_up u is v s names q (inr c) =
      let d = child_to g u.below v.below s.below c.0 c.2 in
      let w = shown_in g units placed shown c.1 c.3.unit in
      inr (d.0, w.unit, d.1, import_to c.0 d.0 d.2 c.1 w.unit w.there w.shown c.3, has_up c.1 c.3.unit w.unit w.shown names q c.4)

  -- and each place there is that of such a name
  pub expanded_down : (u : DwUnit K) → In u units → (v : DwUnit P) → IsShownUnit g u v → (names : List (List ℕ)) (p : P) → Expands placed v names p
      → (q : K) × Expands units u names q × (g q ≡ p)
  expanded_down u is v s names p (inl c) = let o = has_down u v s names p c in (o.0, inl o.1, o.2)
  expanded_down u is v s names p (inr (d, w, child, im, c)) =
      let e = child_from g u.below v.below s.below d child in
      let b = shown_from g units placed shown w im.unit in
      let imports = import_back e.0 (entry_under units u [] e.0 is (child_under e.0 u.below e.1)) d e.2 b.unit b.there w b.shown im in
      let o = has_down b.unit w b.shown names p c in
      (o.0, inr (e.0, b.unit, e.1, imports, o.1), o.2)
