-- What of an entry's values doesn't bind, and what is left.
use Rattle.std.proofs.Common.{◌≡◌, ◌≢◌, ℕ, zero, suc, ◌+◌, ◌≤◌, Bool, true, false, List, [], ◌∷◌, ◌++◌, Option, drop, length, map, Some, Ok, slice_get, refl, sym, ap, subst, ◌∙◌, arith}
use Rattle.std.specs.Prelude.{◌||◌}
use Rattle.std.specs.List.{list_any}
use Rattle.std.proofs.lemmas.Bool.{eq-eqb, ne_eqb}
use Rattle.std.proofs.lemmas.List.{drop_all}
use Rattle.dwz_def_tops.specs.Alike.{any_attr, attr_binds, entry_binds}
use Rattle.dwz_def_tops.specs.Spots.{EntryName, Top}
use Rattle.dwz_def_reading.specs.Entries.{RawAttr}
use Rattle.dwz_def_reading.specs.Units.{RawUnit}
use Rattle.dwz_def_reading.proofs.ListFacts.{drop_here}
use Rattle.dwz_graph.specs.Rows.{AreAttrsMeant, IsEntryMeant, node_refs}
use Rattle.dwz_graph.proofs.TreeLemmas.{node_attrs}
use Rattle.dwz_graph.proofs.StepLemmas.{entry, no_value, sibling, value}
use Rattle.dwz_def_reading.specs.Documents.{Attr, Node, Value, attr_map, node_map}
use Rattle.dwz_def_reading.specs.Meanings.{MeaningContext}
use Rattle.dwz_def_reading.specs.Meant.{attr_with, meaning}
use Rattle.dwz_graph.specs.Named.{attrs_refs, value_refs}
use Rattle.dwz_unit.specs.declared.rows.RawEntry.{RawEntry as RawEntryOfCode}
use Rattle.dwz_unit.specs.Rows.{EntryRow, shown_entries}
use Rattle.dwz_move.specs.Bound.{AreInto}
use Rattle.dwz_graph.proofs.RowSteps.{shown_row}

-- ---- tops of what is named first, and of what is named behind it

pub into_first : (name : ℕ → EntryName) (into : List (Option ℕ)) (xs ys : List ℕ) → AreInto name into (xs ++ ys) → AreInto name into xs
into_first name into [] ys h = tt
into_first name [] (x ∷ xs) ys h = absurd h
into_first name (t ∷ into) (x ∷ xs) ys h = (h.0, into_first name into xs ys h.1)

pub into_rest : (name : ℕ → EntryName) (into : List (Option ℕ)) (n : ℕ) (xs ys : List ℕ) → AreInto name (drop n into) (xs ++ ys) → AreInto name (drop (n + length xs) into) ys
into_rest name into n [] ys h = let z : n ≡ n + 0 = omega arith in subst (λ (k : ℕ). AreInto name (drop k into) ys) z h
into_rest name [] zero (x ∷ xs) ys h = absurd h
into_rest name [] (suc n) (x ∷ xs) ys h = absurd h
into_rest name (t ∷ into) zero (x ∷ xs) ys h =
    let z : 0 + length xs ≡ length xs = omega arith in
    let y : 0 + suc (length xs) ≡ suc (length xs) = omega arith in
    subst (λ (k : ℕ). AreInto name (drop k (t ∷ into)) ys) (sym y) (subst (λ (k : ℕ). AreInto name (drop k into) ys) z (into_rest name into 0 xs ys h.1))
into_rest name (t ∷ into) (suc n) (x ∷ xs) ys h =
    let y : suc (n + suc (length xs)) ≡ suc n + suc (length xs) = omega arith in
    subst (λ (k : ℕ). AreInto name (drop k (t ∷ into)) ys) y (into_rest name into n (x ∷ xs) ys h)

-- ---- values

abbrev pub binds_in : List Top → ℕ → (ℕ → EntryName) → List (Attr ℕ) → Bool
binds_in tops unit name attrs = list_any (attr_binds tops unit) (map (attr_map name) attrs)

-- These values mean attributes; whether one of these binds is what is asked; and the tops of what they name stand from `next` on.
pub record BindLeft (raw : List RawUnit) (s : MeaningContext ℕ) (tops : List Top) (unit : ℕ) (name : ℕ
    → EntryName) (values : List RawAttr) (into : List (Option ℕ)) (next : ℕ) (all : Bool) : Type 0 where
  pub numbers : List ℕ
  pub attrs : List (Attr ℕ)
  pub meant : AreAttrsMeant raw s numbers values attrs
  pub tops_are : AreInto name (drop next into) (attrs_refs attrs)
  pub asks : binds_in tops unit name attrs ≡ all

module _ (raw : List RawUnit) (s : MeaningContext ℕ) (tops : List Top) (unit : ℕ) (name : ℕ → EntryName) (into : List (Option ℕ)) where
  pub bind_all : (numbers : List ℕ) (i : ℕ) (r : EntryRow) (d : Node ℕ) → IsEntryMeant raw s i numbers r d → AreInto name into (node_refs d)
      → BindLeft raw s tops unit name r.entry.attrs into 0 (any_attr (attr_binds tops unit) (node_map name d))
  bind_all numbers i r d m h = record { numbers = numbers; attrs = d.attrs; meant = entry raw s i numbers r d m; tops_are = h; asks = refl }

  pub bind_sibling : (values : List RawAttr) (j next : ℕ) (a : RawAttr) (all : Bool) → slice_get values j ≡ Some a → a.pair.name ≡ 0x01 → BindLeft raw s tops unit name (drop j values) into next all
      → BindLeft raw s tops unit name (drop (j + 1) values) into next all
  bind_sibling values j next a all is e h = record {
    numbers = h.numbers;
    attrs = h.attrs;
    meant = sibling raw s h.numbers a (drop (j + 1) values) h.attrs e (subst (λ (vs : List RawAttr). AreAttrsMeant raw s h.numbers vs h.attrs) (drop_here values j a is) h.meant);
    tops_are = h.tops_are;
    asks = h.asks;
  }

  -- what the next value means
  pub record NextBinds (values : List RawAttr) (j next : ℕ) (a : RawAttr) (all : Bool) : Type 0 where
    pub v : Value ℕ
    pub means : meaning s a ≡ Ok v
    pub first : AreInto name (drop next into) (value_refs v)
    pub left : List (Attr ℕ)
    pub numbers : List ℕ
    pub meant : AreAttrsMeant raw s numbers (drop (j + 1) values) left
    pub tops_are : AreInto name (drop (next + length (value_refs v)) into) (attrs_refs left)
    pub asks : (attr_binds tops unit (attr_map name (attr_with a v)) || binds_in tops unit name left) ≡ all

  pub bind_next : (values : List RawAttr) (j next : ℕ) (a : RawAttr) (all : Bool) → slice_get values j ≡ Some a → a.pair.name ≢ 0x01 → BindLeft raw s tops unit name (drop j values) into next all
      → NextBinds values j next a all
  bind_next values j next a all is ne h =
      let n = value raw s h.numbers a (drop (j + 1) values) h.attrs ne (subst (λ (vs : List RawAttr). AreAttrsMeant raw s h.numbers vs h.attrs) (drop_here values j a is) h.meant) in
      let both : AreInto name (drop next into) (value_refs n.value ++ attrs_refs n.left) = subst (λ (as' : List (Attr ℕ)). AreInto name (drop next into) (attrs_refs as')) n.parts h.tops_are in
      record {
        v = n.value;
        means = n.means;
        first = into_first name (drop next into) (value_refs n.value) (attrs_refs n.left) both;
        left = n.left;
        numbers = drop (length (value_refs n.value)) h.numbers;
        meant = n.rest;
        tops_are = into_rest name into next (value_refs n.value) (attrs_refs n.left) both;
        asks = sym (ap (binds_in tops unit name) n.parts) ∙ h.asks;
      }

  -- it binds
  pub bind_here : (values : List RawAttr) (j next : ℕ) (a : RawAttr) (all : Bool) → (n : NextBinds values j next a all) → true ≡ attr_binds tops unit (attr_map name (attr_with a n.v)) → true ≡ all
  bind_here values j next a all n b = (λ i. b i || binds_in tops unit name n.left) ∙ n.asks

  -- it doesn't
  pub bind_more : (values : List RawAttr) (j next new : ℕ) (a : RawAttr) (all : Bool) → (n : NextBinds values j next a all) → false ≡ attr_binds tops unit (attr_map name (attr_with a n.v))
      → new ≡ next + length (value_refs n.v) → BindLeft raw s tops unit name (drop (j + 1) values) into new all
  bind_more values j next new a all n b e = record {
    numbers = n.numbers;
    attrs = n.left;
    meant = n.meant;
    tops_are = subst (λ (k : ℕ). AreInto name (drop k into) (attrs_refs n.left)) (sym e) n.tops_are;
    asks = (λ i. b i || binds_in tops unit name n.left) ∙ n.asks;
  }

  pub bind_none : (values : List RawAttr) (j next : ℕ) (all : Bool) → length values ≤ j → BindLeft raw s tops unit name (drop j values) into next all → false ≡ all
  bind_none values j next all le h =
      let none = no_value raw s h.numbers h.attrs (subst (λ (vs : List RawAttr). AreAttrsMeant raw s h.numbers vs h.attrs) (drop_all j values le) h.meant) in
      sym (ap (binds_in tops unit name) none) ∙ h.asks

-- ---- an entry, by its tag and its attributes

module _ (s : MeaningContext ℕ) (tops : List Top) (unit : ℕ) (name : ℕ → EntryName) (raw : List RawUnit) (i : ℕ) (numbers : List ℕ) (r : EntryRow) (d : Node ℕ) (m : IsEntryMeant raw s i numbers r d)
    (x : RawEntryOfCode) (shown : slice_get (shown_entries raw) i ≡ Some x) where
  tag_is : d.tag ≡ x.tag
  tag_is = (node_attrs s r.entry d m.means).1 ∙ ap (λ (w : RawEntryOfCode). w.tag) (shown_row raw i r x m.found shown)

  pub by_tag : x.tag ≡ 0x3d → true ≡ entry_binds tops unit (node_map name d)
  by_tag e = sym (ap (λ (b : Bool). b || any_attr (attr_binds tops unit) (node_map name d)) (eq-eqb d.tag 0x3d (tag_is ∙ e)))

  pub by_attrs : (b : Bool) → x.tag ≢ 0x3d → b ≡ any_attr (attr_binds tops unit) (node_map name d) → b ≡ entry_binds tops unit (node_map name d)
  by_attrs b ne e = e ∙ sym (ap (λ (t : Bool). t || any_attr (attr_binds tops unit) (node_map name d)) (ne_eqb d.tag 0x3d (λ q. ne (sym tag_is ∙ q))))
