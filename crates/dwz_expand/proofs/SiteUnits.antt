-- A value that names a location list stands in the unit of which its new unit is made.
use Rattle.std.proofs.Common.{◌≡◌, ℕ, suc, Bool, true, false, List, [], ◌∷◌, ◌++◌, ◌==◌, cond, if◌then◌else◌, Option, Some, None, slice_get, refl, sym, ap, subst, ◌∙◌, inl, inr, arith}
use Rattle.std.proofs.lemmas.Bool.{eq-eqb, eqb-true}
use Rattle.std.proofs.lemmas.Option.{same_Some}
use Rattle.dwz_codes.specs.Rows.{has}
use Rattle.dwz_model.specs.Lists.{Each, In, NoneTwice, Nth}
use Rattle.dwz_model.proofs.ListFacts.{got_in, in_cases, in_left, in_right}
use Rattle.dwz_model.proofs.Members.{each_in, nth_in}
use Rattle.dwz_model.proofs.OnceLemmas.{none_append, none_both, none_left, none_right}
use Rattle.dwz_def_reading.specs.Classes.{Class, OfListIndex, OfOffset, class_of}
use Rattle.dwz_def_reading.specs.Documents.{Attr, Compile, DwUnit, Entries, Kind, Node, OfType, Partial}
use Rattle.dwz_def_reading.specs.Entries.{RawAttr, RawEntry}
use Rattle.dwz_def_reading.specs.Meanings.{Around, MeanEntries, MeanUnits, MeaningContext, MeansKind, MeansNode, MeansUnit, scope_of, without_siblings}
use Rattle.dwz_def_reading.specs.Modes.{binding_forms}
use Rattle.dwz_def_reading.specs.NamedLists.{NamesAs, list_of_attr, lists_as}
use Rattle.dwz_def_reading.specs.Places.{Place, at_file}
use Rattle.dwz_def_reading.specs.Shared.{NamedList}
use Rattle.dwz_def_reading.specs.Trees.{End, Entry, Forest}
use Rattle.dwz_def_reading.specs.Units.{CompileUnit, PartialUnit, RawKind, RawUnit, TypeUnit, root_tag}
use Rattle.dwz_def_reading.proofs.NamedLemmas.{attr_is}
use Rattle.dwz_def_tops.specs.Shown.{unit_keys, units_keys}
use Rattle.dwz_def_tops.proofs.ShownLemmas.{unit_key}
use Rattle.dwz_def_tops.proofs.UnitKeys.{keys_joined}
use Rattle.dwz_def_cross.specs.Tops.{WithCommon, unless_partial, units_with_common, whole_units}
use Rattle.dwz_def_expand.specs.OneFile.{IsStoredAmong, IsStoredIn, OneFile, ReadsOne, StoredAttr, around, rule_for, said_by_file, same_place, stored_attr, with_scope}
use Rattle.dwz_def_expand.specs.Output.{number_of_unit, sites_of_file, unit_number}
use Rattle.dwz_def_expand.specs.Refusals.{Site, nodes, sites_from, sites_in, sites_of}
use Rattle.dwz_def_expand.specs.Source.{is_partial, source_unit, source_units}
use Rattle.dwz_def_expand.proofs.FileLemmas.{common_keys, own_place, places_apart, read_keys, same_both, test}
use Rattle.dwz_def_expand.proofs.SourceLemmas.{in_whole}
use Rattle.dwz_def_expand.proofs.StoredLemmas.{attr_stored}
use Rattle.dwz_law_expand.proofs.CopyLemmas.{nth_map}
use Rattle.dwz_law_expand.proofs.ListLemmas.{class_bound, is_list_class}
use Rattle.dwz_law_expand.proofs.SiteLemmas.{node_from, node_key}
use Rattle.dwz_expand.proofs.MayLemmas.{file_may}

-- ---- numbers of units

-- no two of these units begin at one place of the file
number_is : (s : ℕ) (units : List (DwUnit Place)) → NoneTwice (units_keys units) → ((u : DwUnit Place) → In u units → u.at.file ≡ 0) → (n : ℕ) (u : DwUnit Place) → Nth s units n u
    → unit_number s units u.at.at ≡ n
unfolding unit_number units_keys unit_keys
number_is s [] once file n u h = absurd h
number_is s (x ∷ units) once file n u (inl e) = rw (eq-eqb x.at.at u.at.at (ap (λ (w : DwUnit Place). w.at.at) e.1)) e.0
number_is s (x ∷ units) once file n u (inr r) =
    by (x.at.at == u.at.at) refl (number_is (suc s) units (none_right (unit_keys x) (units_keys units) once) (λ v is. file v (inr is)) n u r)
  where
    there : In u units
    there = nth_in (suc s) units n u r

    by : (b : Bool) → (x.at.at == u.at.at) ≡ b → unit_number (suc s) units u.at.at ≡ n → (if b then s else unit_number (suc s) units u.at.at) ≡ n
    by true e rest =
        let same : x.at ≡ u.at = same_both x.at u.at (file x (inl refl) ∙ sym (file u (inr there))) (eqb-true x.at.at u.at.at e) in
        absurd (none_both (unit_keys x) (units_keys units) once u.at (inl same) (unit_key units u u.at there (inl refl)))
    by false e rest = rest

-- the keys of the units that aren't partial are among those of all
fewer_keys : {P : Type 0} (some : List (DwUnit P)) (k : P) → In k (units_keys (whole_units some)) → In k (units_keys some)
unfolding whole_units units_keys
fewer_keys [] k is = is
fewer_keys {P} (y ∷ some) k is = go y.kind is (fewer_keys some k) where
  kept : (In k (units_keys (whole_units some)) → In k (units_keys some)) → In k (unit_keys y ++ units_keys (whole_units some)) → In k (unit_keys y ++ units_keys some)
  kept more is = elim (in_cases k (unit_keys y) (units_keys (whole_units some)) is) [ inl a ↦ in_left k (unit_keys y) (units_keys some) a | inr b ↦ in_right k (unit_keys y) (units_keys some) (more b) ]

  go : (kind : Kind P) → In k (units_keys (unless_partial kind y (whole_units some))) → (In k (units_keys (whole_units some)) → In k (units_keys some)) → In k (unit_keys y ++ units_keys some)
  go Compile is more = kept more is
  go (OfType s m) is more = kept more is
  go Partial is more = in_right k (unit_keys y) (units_keys some) (more is)

whole_once : {P : Type 0} (units : List (DwUnit P)) → NoneTwice (units_keys units) → NoneTwice (units_keys (whole_units units))
unfolding whole_units units_keys
whole_once [] h = h
whole_once {P} (x ∷ units) h = by x.kind (whole_once units (none_right (unit_keys x) (units_keys units) h)) where
  stays : NoneTwice (units_keys (whole_units units)) → NoneTwice (unit_keys x ++ units_keys (whole_units units))
  stays rest =
      none_append (unit_keys x) (units_keys (whole_units units)) (none_left (unit_keys x) (units_keys units) h) rest
      (λ k a b. none_both (unit_keys x) (units_keys units) h k a (fewer_keys units k b))

  by : (kind : Kind P) → NoneTwice (units_keys (whole_units units)) → NoneTwice (units_keys (unless_partial kind x (whole_units units)))
  by Compile rest = stays rest
  by (OfType s m) rest = stays rest
  by Partial rest = rest

-- ---- the entry of a value

record SiteAt (k : ℕ) (us : List (DwUnit Place)) (s : Site Place) : Type 0 where
  su : DwUnit Place
  nth : Nth k us s.unit su
  d : Node Place
  there : In d (su.root ∷ nodes su.below)
  at : s.source ≡ d.at

one_site : (n i : ℕ) (p : Place) (attrs : List (Attr Place)) (s : Site Place) → In s (sites_of n p i attrs) → (s.unit ≡ n) × (s.source ≡ p)
one_site n i p [] s there = absurd there
one_site n i p (a ∷ attrs) s (inl is) = (sym (ap (λ (t : Site Place). t.unit) is), sym (ap (λ (t : Site Place). t.source) is))
one_site n i p (a ∷ attrs) s (inr later) = one_site n (suc i) p attrs s later

in_nodes : (n : ℕ) (ds : List (Node Place)) (s : Site Place) → In s (sites_in n ds) → (s.unit ≡ n) × (d : Node Place) × In d ds × (s.source ≡ d.at)
unfolding sites_in
in_nodes n [] s there = absurd there
in_nodes n (d ∷ ds) s there = elim (in_cases s (sites_of n d.at 0 d.attrs) (sites_in n ds) there) [
  | inl here ↦ (let o = one_site n 0 d.at d.attrs s here in (o.0, d, inl refl, o.1))
  | inr later ↦ (let o = in_nodes n ds s later in (o.0, o.1, inr o.2, o.3))
]

site_at : (k : ℕ) (us : List (DwUnit Place)) (s : Site Place) → In s (sites_from k us) → SiteAt k us s
unfolding sites_from
site_at k [] s there = absurd there
site_at k (u ∷ us) s there = elim (in_cases s (sites_in k (u.root ∷ nodes u.below)) (sites_from (suc k) us) there) [
  | inl here ↦ (let o = in_nodes k (u.root ∷ nodes u.below) s here in record { su = u; nth = inl (sym o.0, refl); d = o.1; there = o.2; at = o.3 })
  | inr later ↦ (let o = site_at (suc k) us s later in record { su = o.su; nth = inr o.nth; d = o.d; there = o.there; at = o.at })
]

-- ---- units as they are stored

record SaidBy (a : Around Place) (raw : List RawUnit) (v : DwUnit Place) : Type 0 where
  u : RawUnit
  there : In u raw
  means : MeansUnit a u v

said_by : (a : Around Place) (raw : List RawUnit) (units : List (DwUnit Place)) → MeanUnits a raw units → (v : DwUnit Place) → In v units → SaidBy a raw v
said_by a [] [] h v there = absurd there
said_by a [] (x ∷ units) h v there = absurd h
said_by a (u ∷ raw) [] h v there = absurd h
said_by a (u ∷ raw) (x ∷ units) h v (inl e) = record { u = u; there = inl refl; means = subst (λ (w : DwUnit Place). MeansUnit a u w) e h.0 }
said_by a (u ∷ raw) (x ∷ units) h v (inr r) = (let o = said_by a raw units h.1 v r in record { u = o.u; there = inr o.there; means = o.means })

below_said : (s : MeaningContext Place) (g : Forest RawEntry) (e : Entries Place) → MeanEntries s g e → (d : Node Place) → In d (nodes e) → (raw : RawEntry) × IsStoredAmong raw g × MeansNode s raw d
unfolding nodes
below_said s End End h d there = absurd there
below_said s End (Entry x c n) h d there = absurd h
below_said s (Entry r f g) End h d there = absurd h
below_said s (Entry r f g) (Entry x c n) h d (inl e) = (r, inl refl, subst (λ (w : Node Place). MeansNode s r w) e h.0)
below_said s (Entry r f g) (Entry x c n) h d (inr k) = elim (in_cases d (nodes c) (nodes n) k) [
  | inl a ↦ (let o = below_said s f c h.1 d a in (o.0, inr (inl o.1), o.2))
  | inr b ↦ (let o = below_said s g n h.2 d b in (o.0, inr (inr o.1), o.2))
]

raw_partial : (s : MeaningContext Place) (k : RawKind) (m : Kind Place) → MeansKind s k m → is_partial m ≡ true → root_tag k ≡ 0x3c
raw_partial s CompileUnit m h e = absurd (let z : is_partial m ≡ false = ap is_partial h in cc)
raw_partial s PartialUnit m h e = refl
raw_partial s (TypeUnit signature offset) m h e = absurd (let z : is_partial m ≡ false = ap is_partial h.1 in cc)

-- ---- lists of attributes

-- an attribute that names a list has a form of one
listed : (c : Class) (s : MeaningContext Place) (a : RawAttr) (l : NamedList) → In l (lists_as c s a) → is_list_class c ≡ true
listed OfOffset s a l there = refl
listed OfListIndex s a l there = refl
listed _ s a l there = absurd there

unit_as : (s : MeaningContext Place) (l : NamedList) (c : Class) (a : RawAttr) → NamesAs c s a l → l.unit ≡ s.unit
unit_as s l OfOffset a n = n.1.unit
unit_as s l OfListIndex a n = n.named.unit
unit_as s l _ a n = absurd n

form_bound : (s : MeaningContext Place) (a : RawAttr) (l : NamedList) → In l (list_of_attr s a) → has a.pair.form binding_forms ≡ true
unfolding list_of_attr
form_bound s a l there = class_bound a.pair.form (listed (class_of a.pair.form) s a l there)

pub list_unit : (s : MeaningContext Place) (a : RawAttr) (l : NamedList) → In l (list_of_attr s a) → l.unit ≡ s.unit
list_unit s a l there = unit_as s l (class_of a.pair.form) a ((attr_is s a l).0 there)

others : (P : RawAttr → Type 0) (attrs : List RawAttr) → Each P attrs → Each P (without_siblings attrs)
unfolding without_siblings
others P [] h = tt
others P (a ∷ attrs) h = go (a.pair.name == 0x01) (others P attrs h.1) where
  go : (t : Bool) → Each P (without_siblings attrs) → Each P (cond t (without_siblings attrs) (a ∷ without_siblings attrs))
  go true rest = rest
  go false rest = (h.0, rest)

-- ---- of a file

module _ (f : OneFile) (reads : ReadsOne f) where
  abbrev w : WithCommon Place
  w = said_by_file f

  abbrev all : List (DwUnit Place)
  all = units_with_common w

  apart : NoneTwice (units_keys all)
  apart = places_apart f reads

  own_once : NoneTwice (units_keys w.own)
  own_once = none_left (units_keys w.own) (units_keys w.common) (subst NoneTwice (keys_joined w.own w.common) apart)

  own_file : (p : Place) → In p (units_keys w.own) → p.file ≡ 0
  own_file = (read_keys (rule_for f 0) 0 _ f.file.bytes f.file.raw f.file.doc (own_place f.common f.file) reads.file).file

  unit_file : (u : DwUnit Place) → In u w.own → u.at.file ≡ 0
  unfolding unit_keys
  unit_file u is = own_file u.at (unit_key w.own u u.at is (inl refl))

  unit_numbered : (n : ℕ) (u : DwUnit Place) → Nth 0 (whole_units w.own) n u → number_of_unit f u.at.at ≡ n
  unit_numbered n u nth = number_is 0 (whole_units w.own) (whole_once w.own own_once) (λ v is. unit_file v (in_whole w.own v is).0) n u nth

  place_is : (n : ℕ) → (around f 0).place n ≡ at_file 0 n
  place_is n = ap (λ (g : ℕ → Place). g n) (own_place f.common f.file)

  -- the value of an entry of a unit of the file
  value_scope : (u : RawUnit) (e : RawEntry) (d : Node Place) → In u f.file.raw → IsStoredIn e u → MeansNode (scope_of (around f 0) u) e d → (index : ℕ) (v : StoredAttr) → stored_attr f d.at index ≡ Some v
      → (v.scope ≡ scope_of (around f 0) u) × In v.attr (without_siblings e.attrs)
  value_scope u e d there stored means index v is =
      let at : d.at ≡ at_file 0 e.at = means.place ∙ place_is e.at in
      let found : stored_attr f d.at index ≡ with_scope (scope_of (around f 0) u) (slice_get (without_siblings e.attrs) index) =
      ap (λ (p : Place). stored_attr f p index) at ∙ attr_stored f reads 0 u e there stored index in
      by (slice_get (without_siblings e.attrs) index) refl (sym found ∙ is)
    where
      by : (o : Option RawAttr) → slice_get (without_siblings e.attrs) index ≡ o → with_scope (scope_of (around f 0) u) o ≡ Some v
          → (v.scope ≡ scope_of (around f 0) u) × In v.attr (without_siblings e.attrs)
      by None got h = absurd (let z : None ≡ Some v = h in cc)
      by (Some a) got h =
          let made : StoredAttr = record { scope = scope_of (around f 0) u; attr = a } in
          let same : made ≡ v = same_Some made v h in (
            sym (ap (λ (x : StoredAttr). x.scope) same),
            subst (λ (x : StoredAttr). In x.attr (without_siblings e.attrs)) same (got_in (without_siblings e.attrs) index a got),
          )

  module _ (s : Site Place) (there : In s (sites_of_file f)) (own : s.source.file ≡ 0) (v : StoredAttr) (stored : stored_attr f s.source s.index ≡ Some v) (l : NamedList)
      (named : In l (list_of_attr v.scope v.attr)) where
    at : SiteAt 0 (source_units same_place w) s
    at = site_at 0 (source_units same_place w) s there

    unit : (u : DwUnit Place) × Nth 0 (whole_units w.own) s.unit u × (source_unit same_place all u ≡ at.su)
    unit = nth_map (source_unit same_place all) 0 (whole_units w.own) s.unit at.su at.nth

    Numbered : Type 0
    Numbered = number_of_unit f v.scope.unit ≡ s.unit

    -- in the unit itself
    from_own : (d : Node Place) → s.source ≡ d.at → In d (unit.0.root ∷ nodes unit.0.below) → Numbered
    unfolding Numbered
    from_own d is node =
        let u = unit.0 in
        let whole = in_whole w.own u (nth_in 0 (whole_units w.own) s.unit u unit.1) in
        let said = said_by (around f 0) f.file.raw f.file.doc.units reads.file.means u whole.0 in
        let scope = scope_of (around f 0) said.u in
        let e : (e : RawEntry) × IsStoredIn e said.u × MeansNode scope e d = elim node [
          | inl root ↦ (said.u.root, inl refl, subst (λ (x : Node Place). MeansNode scope said.u.root x) root said.means.root)
          | inr below ↦ (let o = below_said scope said.u.below u.below said.means.below d below in (o.0, inr o.1, o.2))
        ] in
        let value = value_scope said.u e.0 d said.there e.1 e.2 s.index v (ap (λ (p : Place). stored_attr f p s.index) (sym is) ∙ stored) in
        let begins : u.at ≡ at_file 0 said.u.at = said.means.place ∙ place_is said.u.at in
        let place : v.scope.unit ≡ u.at.at = ap (λ (x : MeaningContext Place). x.unit) value.0 ∙ sym (ap (λ (p : Place). p.at) begins) in
        ap (number_of_unit f) place ∙ unit_numbered s.unit u unit.1

    -- none in a partial unit
    from_part : (d : Node Place) → s.source ≡ d.at → (u : DwUnit Place) → In u w.own → is_partial u.kind ≡ true → In d (nodes u.below) → ⊥
    from_part d is u mine partial node =
        let said = said_by (around f 0) f.file.raw f.file.doc.units reads.file.means u mine in
        let scope = scope_of (around f 0) said.u in
        let e = below_said scope said.u.below u.below said.means.below d node in
        let value = value_scope said.u e.0 d said.there (inr e.1) e.2 s.index v (ap (λ (p : Place). stored_attr f p s.index) (sym is) ∙ stored) in
        let may = others (λ a. root_tag said.u.kind ≡ 0x3c → false ≡ false → has a.pair.form binding_forms ≡ false) e.0.attrs (file_may f.file f.common reads said.u said.there e.0 e.1) in
        let free : has v.attr.pair.form binding_forms ≡ false =
        each_in (λ a. root_tag said.u.kind ≡ 0x3c → false ≡ false → has a.pair.form binding_forms ≡ false) v.attr (without_siblings e.0.attrs) may value.1
        (raw_partial scope said.u.kind u.kind said.means.kind partial) refl in
        let bound : has v.attr.pair.form binding_forms ≡ true = form_bound v.scope v.attr l named in
        (let both : true ≡ false = sym bound ∙ free in cc)

    numbered : Numbered
    unfolding unit_keys
    numbered =
        let mine : In at.d (unit.0.root ∷ nodes (source_unit same_place all unit.0).below) = subst (λ (x : DwUnit Place). In at.d (x.root ∷ nodes x.below)) (sym unit.2) at.there in
        elim mine [
          | inl root ↦ from_own at.d at.at (inl root)
          | inr below ↦ elim (node_from same_place test all apart unit.0 at.d below) [
            | inl here ↦ from_own at.d at.at (inr here)
            | inr x ↦ elim (in_cases x.0 w.own w.common x.1.there) [
              | inl o ↦ absurd (from_part at.d at.at x.0 o x.1.partial x.2)
              | inr k ↦
                  let other : at.d.at.file ≡ 1 = (common_keys f.common reads.common).file at.d.at (unit_key w.common x.0 at.d.at k (inr (inr (node_key x.0.below at.d x.2)))) in
                  let zero : at.d.at.file ≡ 0 = ap (λ (p : Place). p.file) (sym at.at) ∙ own in
                  absurd (omega (arith, other, zero))
            ]
          ]
        ]

    pub site_numbered : number_of_unit f l.unit ≡ s.unit
    unfolding Numbered
    site_numbered = ap (number_of_unit f) (list_unit v.scope v.attr l named) ∙ numbered
