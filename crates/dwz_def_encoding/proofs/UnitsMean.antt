-- The units that are written, as they are stored, mean the same units with places for keys.
use Rattle.std.proofs.Common.{◌≡◌, ℕ, ◌+◌, ◌-◌, Bool, true, false, List, [], ◌∷◌, ◌++◌, length, map, Some, None, refl, sym, ap, subst, ◌∙◌, arith, cond, eqb, eqb-true, ne_eqb}
use Rattle.std.proofs.Math.Logic.{inl, inr}
use Rattle.std.proofs.lemmas.List.{map-append}
use Rattle.dwz_def_reading.specs.Documents.{Attr, Compile, DwUnit, Entries, Kind, Node, OfType, Partial, first_named, kind_map}
use Rattle.dwz_def_reading.specs.Entries.{RawAttr}
use Rattle.dwz_def_reading.specs.Lists.{Each, In}
use Rattle.dwz_def_reading.specs.Meanings.{Around, MeanAttrs, MeanEntries, MeanUnits, MeaningContext, MeansAttr, MeansKind, MeansNode, MeansUnit, all_places, base_in, first_raw}
use Rattle.dwz_def_reading.specs.Classes.{OfOffset}
use Rattle.dwz_def_reading.specs.Classes.{Class, class_of}
use Rattle.dwz_def_reading.specs.Meanings.{number_of, places_in, places_of, scope_of, without_siblings}
use Rattle.dwz_def_reading.specs.Spelling.{reach}
use Rattle.dwz_def_encoding.specs.Bases.{offset_in}
use Rattle.dwz_def_reading.specs.Trees.{End, Entry}
use Rattle.dwz_def_reading.specs.Values.{value_bytes}
use Rattle.dwz_def_reading.proofs.ListFacts.{in_left, in_map, in_right}
use Rattle.dwz_def_encoding.specs.Fitting.{AttrFits, EntriesFit, KindFits, NodeFits, UnitFits}
use Rattle.dwz_def_encoding.specs.Meant.{AttrSays, EntriesSay, IsAround, KindSays, NodeSays, Own, Tells, own_of, UnitSays, UnitsSay, all_entry_keys, entry_keys, placed_attr, placed_entries, placed_node}
use Rattle.dwz_def_encoding.specs.Meant.{placed_unit, placed_units}
use Rattle.dwz_def_tops.specs.Shown.{keys, unit_keys, units_keys}
use Rattle.dwz_def_encoding.specs.Sound.{SoundAttr, SoundEntries, SoundNode, SoundUnit}
use Rattle.dwz_def_encoding.specs.Writing.{DeclarationShape, Numbering, pair_of, stored, stored_as, table_of}
use Rattle.dwz_def_encoding.proofs.RawUnits.{raw_attrs, raw_entries, raw_entry, raw_kind, raw_unit, raw_units}
use Rattle.dwz_def_encoding.proofs.ScopeIs.{IsScope}
use Rattle.dwz_def_encoding.proofs.ValuesMean.{as_means}
use Rattle.dwz_def_encoding.proofs.StoredClasses.{offset_class}

-- ---- attributes

-- no attribute is left out
pub all_stay : {K : Type 0} (n : Numbering K) (unit : ℕ) (attrs : List (Attr K)) (at : ℕ) → Each SoundAttr attrs → without_siblings (raw_attrs n unit at attrs) ≡ raw_attrs n unit at attrs
unfolding raw_attrs without_siblings
all_stay n unit [] at sound = refl
all_stay n unit (a ∷ attrs) at sound =
    let test : eqb a.name 0x01 ≡ false = ne_eqb a.name 0x01 sound.0.no_sibling in
    let here : RawAttr = record { at = at; end = at + length (value_bytes a.form (stored n unit a)); pair = pair_of a; raw = stored n unit a } in
    let others = raw_attrs n unit (at + length (value_bytes a.form (stored n unit a))) attrs in
    ap (λ (b : Bool). cond b (without_siblings others) (here ∷ without_siblings others)) test ∙ ap (λ (w : List RawAttr). here ∷ w) (all_stay n unit attrs _ sound.1)

module _ {K P : Type 0} (n : Numbering K) (g : K → P) (unit : ℕ) (t : Tells K) (own : Own K) (s : MeaningContext P) (is : IsScope n g unit t own s) where
  attr_means : (a : Attr K) (at end : ℕ) → SoundAttr a → AttrFits n unit a → AttrSays t own a
      → MeansAttr s (record { at = at; end = end; pair = pair_of a; raw = stored n unit a }) (placed_attr n g unit a)
  attr_means a at end sound fits says = record { name = refl; form = refl; raw = refl; value = as_means n g unit t own s is (class_of a.form) a at end refl sound.known sound.value fits says }

  attrs_mean : (attrs : List (Attr K)) (at : ℕ) → Each SoundAttr attrs → Each (AttrFits n unit) attrs → Each (AttrSays t own) attrs
      → MeanAttrs s (raw_attrs n unit at attrs) (map (placed_attr n g unit) attrs)
  unfolding raw_attrs
  attrs_mean [] at sound fits says = tt
  attrs_mean (a ∷ attrs) at sound fits says = (attr_means a at _ sound.0 fits.0 says.0, attrs_mean attrs _ sound.1 fits.1 says.1)

  node_means : (table : List DeclarationShape) (e : Node K) (children : Entries K) → g e.at ≡ s.around.place (n.place e.at) → SoundNode e → NodeFits n unit e → NodeSays t own e
      → MeansNode s (raw_entry n unit table e children) (placed_node n g unit e)
  node_means table e children place sound fits says = record {
    place = place;
    tag = refl;
    attrs = subst (λ (w : List RawAttr). MeanAttrs s w (map (placed_attr n g unit) e.attrs)) (sym (all_stay n unit e.attrs _ sound.attrs)) (attrs_mean e.attrs _ sound.attrs fits says);
  }

  entries_mean : (table : List DeclarationShape) (f : Entries K) → ((k : K) → In k (keys f) → In k own.keys) → SoundEntries f → EntriesFit n unit f → EntriesSay t own f
      → MeanEntries s (raw_entries n unit table f) (placed_entries n g unit f)
  unfolding raw_entries placed_entries keys
  entries_mean table End inside sound fits says = tt
  entries_mean table (Entry e children next) inside sound fits says = (
    node_means table e children (sym (is.place_own e.at (inside e.at (inl refl)))) sound.0 fits.0 says.0,
    entries_mean table children (λ k there. inside k (inr (in_left k (keys children) (keys next) there))) sound.1 fits.1 says.1,
    entries_mean table next (λ k there. inside k (inr (in_right k (keys children) (keys next) there))) sound.2 fits.2 says.2,
  )

  kind_means : (kind : Kind K) → KindFits n unit kind → KindSays own.keys kind → MeansKind s (raw_kind n unit kind) (kind_map g kind)
  kind_means Compile fits says = refl
  kind_means Partial fits says = refl
  kind_means (OfType signature main) fits says =
      let place : n.place main ≡ s.unit + (n.place main - unit) = omega (arith, is.unit, fits.0) in
      let among : In (n.place main) s.own = subst (In (n.place main)) (sym is.own_are) (in_map n.place main own.keys says) in
      (subst (λ (p : ℕ). In p s.own) place among, ap (λ (p : P). OfType signature p) (sym (is.place_own main says)) ∙ ap (λ (p : ℕ). OfType signature (s.around.place p)) place)

-- ---- what a root says

-- an offset that is stored is the one that the attribute has
offset_raw : {K : Type 0} (n : Numbering K) (unit : ℕ) (a : Attr K) (at end : ℕ) → base_in (Some (record { at = at; end = end; pair = pair_of a; raw = stored n unit a })) ≡ offset_in (Some a)
offset_raw n unit a at end = by (eqb a.form 0x17) refl where
  by : (b : Bool) → eqb a.form 0x17 ≡ b → cond b (Some (reach (number_of (stored n unit a)))) None ≡ cond b (Some (reach a.raw)) None
  by true e = (let same : class_of a.form ≡ OfOffset = ap class_of (eqb-true a.form 0x17 e) ∙ offset_class in ap (λ (c : Class). Some (reach (number_of (stored_as c n unit a)))) same)
  by false e = refl

pub base_raw : {K : Type 0} (n : Numbering K) (unit name : ℕ) (attrs : List (Attr K)) (at : ℕ) → base_in (first_raw name (raw_attrs n unit at attrs)) ≡ offset_in (first_named name attrs)
unfolding raw_attrs first_raw first_named
base_raw n unit name [] at = refl
base_raw {K} n unit name (a ∷ attrs) at =
    by (record { at = at; end = at + length (value_bytes a.form (stored n unit a)); pair = pair_of a; raw = stored n unit a })
    (raw_attrs n unit (at + length (value_bytes a.form (stored n unit a))) attrs)
    (offset_raw n unit a at (at + length (value_bytes a.form (stored n unit a)))) (base_raw n unit name attrs (at + length (value_bytes a.form (stored n unit a)))) (eqb a.name name) where
      by : (here : RawAttr) (others : List RawAttr) → base_in (Some here) ≡ offset_in (Some a) → base_in (first_raw name others) ≡ offset_in (first_named name attrs)
          → (b : Bool) → base_in (cond b (Some here) (first_raw name others)) ≡ offset_in (cond b (Some a) (first_named name attrs))
      by here others this rest true = this
      by here others this rest false = rest

-- ---- places

places_raw : {K : Type 0} (n : Numbering K) (unit : ℕ) (table : List DeclarationShape) (f : Entries K) → places_in (raw_entries n unit table f) ≡ map n.place (keys f)
unfolding raw_entries places_in keys
places_raw n unit table End = refl
places_raw n unit table (Entry e children next) =
    rw (map-append n.place (keys children) (keys next), places_raw n unit table children, places_raw n unit table next) refl

pub own_raw : {K : Type 0} (n : Numbering K) (tables : List (List ℕ)) (u : DwUnit K) → places_of (raw_unit n tables u) ≡ map n.place (entry_keys u)
own_raw n tables u = ap (λ (w : List ℕ). n.place u.root.at ∷ w) (places_raw n (n.place u.at) (table_of u) u.below)

pub all_raw : {K : Type 0} (n : Numbering K) (tables : List (List ℕ)) (units : List (DwUnit K)) → all_places (raw_units n tables units) ≡ map n.place (all_entry_keys units)
unfolding all_places raw_units all_entry_keys
all_raw n tables [] = refl
all_raw n tables (u ∷ units) =
    ap (λ (w : List ℕ). w ++ all_places (raw_units n tables units)) (own_raw n tables u)
    ∙ ap (λ (w : List ℕ). map n.place (entry_keys u) ++ w) (all_raw n tables units)
    ∙ sym (map-append n.place (entry_keys u) (all_entry_keys units))

-- ---- units

module _ {K P : Type 0} (n : Numbering K) (g : K → P) (tables : List (List ℕ)) (t : Tells K) (keys : List K) (around : Around P) (is : IsAround n g t keys around)
    (within : (k : K) → In k t.all → In k keys) where
  -- what is known where one of the units is read
  abbrev pub unit_scope : (u : DwUnit K) → ((k : K) → In k (entry_keys u) → In k keys) → IsScope n g (n.place u.at) t (own_of u) (scope_of around (raw_unit n tables u))
  unit_scope u inside = record {
    strs = is.strs;
    line_strs = is.line_strs;
    offsets = is.offsets;
    line = is.line;
    common_strs = is.common_strs;
    slots = base_raw n (n.place u.at) 0x72 u.root.attrs _;
    table = base_raw n (n.place u.at) 0x10 u.root.attrs _;
    lists_base = base_raw n (n.place u.at) 0x8c u.root.attrs _;
    own_at = refl;
    none_shared = is.none_shared;
    lists = is.lists;
    unit = refl;
    own_are = own_raw n tables u;
    all_are = is.all;
    place_own = λ k there. is.place k (inside k there);
    place_all = λ k there. is.place k (within k there);
    common = is.common;
  }

  unit_means : (u : DwUnit K) → ((k : K) → In k (unit_keys u) → In k keys) → SoundUnit u → UnitFits n u → UnitSays t u → MeansUnit around (raw_unit n tables u) (placed_unit n g u)
  unfolding unit_keys
  unit_means u inside sound fits says =
      let unit = n.place u.at in
      let s = scope_of around (raw_unit n tables u) in
      let scope = unit_scope u (λ k there. inside k (inr there)) in
      record {
        place = sym (is.place u.at (inside u.at (inl refl)));
        kind = kind_means n g unit t (own_of u) s scope u.kind fits.kind says.kind;
        root = node_means n g unit t (own_of u) s scope (table_of u) u.root u.below (sym (is.place u.root.at (inside u.root.at (inr (inl refl))))) sound.root fits.root says.root;
        below = entries_mean n g unit t (own_of u) s scope (table_of u) u.below (λ k there. inr there) sound.below fits.below says.below;
      }

  pub units_mean : (units : List (DwUnit K)) → ((k : K) → In k (units_keys units) → In k keys) → Each SoundUnit units → Each (UnitFits n) units → UnitsSay t units
      → MeanUnits around (raw_units n tables units) (placed_units n g units)
  unfolding raw_units units_keys
  units_mean [] inside sound fits says = tt
  units_mean (u ∷ units) inside sound fits says = (
    unit_means u (λ k there. inside k (in_left k (unit_keys u) (units_keys units) there)) sound.0 fits.0 says.0,
    units_mean units (λ k there. inside k (in_right k (unit_keys u) (units_keys units) there)) sound.1 fits.1 says.1,
  )
