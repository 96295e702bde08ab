-- The spaces around a top, from one outward, and items by their numbers.
use Rattle.std.proofs.Common.{◌≡◌, ℕ, suc, ◌+◌, ◌-◌, ◌<◌, ◌≤◌, Bool, true, false, List, [], ◌∷◌, ◌++◌, map, Option, Some, None, Ok, slice_get, refl, sym, ap, subst, ◌∙◌, arith}
use Rattle.std.specs.Prelude.{nat_lt, if◌then◌else◌}
use Rattle.std.proofs.lemmas.Bool.{le-ltb, ltb-false, ne_eqb}
use Rattle.std.proofs.lemmas.List.{append-nil, append_assoc}
use Rattle.dwz_def_reading.proofs.ListFacts.{got_below, same_got}
use Rattle.dwz_def_reading.proofs.MeaningUnits.{node_agrees}
use Rattle.dwz_def_reading.specs.Documents.{Node}
use Rattle.dwz_def_reading.specs.Files.{Limits, around_of}
use Rattle.dwz_def_reading.specs.Meanings.{MeaningContext, scope_of}
use Rattle.dwz_def_reading.specs.Meant.{node_meaning}
use Rattle.dwz_def_reading.specs.Units.{RawUnit, entries_in}
use Rattle.dwz_def_tops.specs.Spaces.{space_text}
use Rattle.dwz_def_tops.specs.Spots.{SpaceName}
use Rattle.dwz_graph.specs.declared.file.File.{File}
use Rattle.dwz_graph.specs.Here.{Here}
use Rattle.dwz_graph.specs.declared.index.SpaceEntry.{SpaceEntry}
use Rattle.dwz_graph.specs.Chains.{AreSpacesAt, IsOut, IsSpaceAt}
use Rattle.dwz_graph.specs.Files.{IsRead}
use Rattle.dwz_graph.specs.Index.{Index}
use Rattle.dwz_graph.specs.Resolved.{IsHere, IsUnitHere}
use Rattle.dwz_graph.specs.Spaces.{IsOwn}
use Rattle.dwz_unit.proofs.RowsFound.{row_is, rows-length}
use Rattle.dwz_unit.specs.declared.rows.RawEntry.{RawEntry as EntryOfCode}
use Rattle.dwz_unit.specs.declared.rows.RawUnit.{RawUnit as UnitOfCode}
use Rattle.dwz_unit.specs.Rows.{EntryRow, rows_of, shown_entries, units_of}
use Rattle.dwz_graph_view.specs.SpaceRows.{IsWayOut, item_with, space_before}
use Rattle.dwz_label_entries.proofs.NamesLemmas.{space_named}

-- ---- items by their numbers

pub item_there : {X : Type 0} (first : ℕ) (items : List X) (number k : ℕ) → number ≡ first + k → item_with first items number ≡ slice_get items k
item_there {X} first items number k is =
    let place : number - first ≡ k = omega (arith, is) in
    ap (λ (b : Bool). if b then None else slice_get items (number - first)) (le-ltb number first (omega (arith, is))) ∙ ap (slice_get items) place

-- where an item has a number
pub record IsThere {X : Type 0} (first : ℕ) (items : List X) (number : ℕ) (x : X) : Type 0 where
  pub from : first ≤ number
  pub item : slice_get items (number - first) ≡ Some x

pub there_is : {X : Type 0} (first : ℕ) (items : List X) (number : ℕ) (x : X) → item_with first items number ≡ Some x → IsThere first items number x
there_is {X} first items number x e = by (nat_lt number first) refl e where
  by : (b : Bool) → nat_lt number first ≡ b → (if b then None else slice_get items (number - first)) ≡ Some x → IsThere first items number x
  by true is h = absurd cc
  by false is h = record { from = ltb-false number first is; item = h }

-- ---- the name of a space

module _ (l : Limits) (number : ℕ) (bytes : List ℕ) (f : File) (read : IsRead l number bytes f) (unit entry : ℕ) (name : SpaceName)
    (is : IsSpaceAt (units_of f.units) (around_of bytes (units_of f.units)) unit entry name) where
  abbrev raw : List RawUnit
  raw = units_of f.units

  abbrev s : MeaningContext ℕ
  s = scope_of (around_of bytes raw) is.u

  pub entry_low : entry < entries_in raw
  entry_low = (let low = got_below (rows_of raw) entry is.row is.found in let many = rows-length raw in omega arith)

  base_of : (x : EntryOfCode) (u : UnitOfCode) (h : Here) → slice_get (shown_entries raw) entry ≡ Some x → IsUnitHere raw x.unit u h → IsOwn f.sections h.offsets s
  base_of x u h shown here =
      let same : x.unit ≡ unit = sym (ap (λ (w : EntryOfCode). w.unit) (row_is raw entry x is.row shown is.found)) ∙ is.of_unit in
      let own : IsHere raw is.u h = subst (λ (w : RawUnit). IsHere raw w h) (same_got raw x.unit here.u is.u here.is_unit (ap (slice_get raw) same ∙ is.is_unit)) here.here in
      record { sources = sym read.sections; common = refl; base_is = own.base }

  pub name_is : (x : EntryOfCode) (u : UnitOfCode) (h : Here) (o : Option (List ℕ)) → slice_get (shown_entries raw) entry ≡ Some x → IsUnitHere raw x.unit u h
      → ((s : MeaningContext ℕ) (row : EntryRow) (d : Node ℕ) (text : List ℕ) → IsOwn f.sections h.offsets s → slice_get (rows_of raw) entry ≡ Some row → node_meaning s row.entry ≡ Ok d
      → space_text d ≡ Some text → o ≡ Some text)
      → o ≡ Some name.text
  name_is x u h o shown here tells =
      tells s is.row is.d is.text (base_of x u h shown here) is.found (((node_agrees s is.row.entry).ok is.d).1 is.means) is.is_space
      ∙ ap Some (space_named raw (around_of bytes raw) unit entry name is)

-- ---- outward

space_there : (x : Index) (at j : ℕ) (e : SpaceEntry) → at ≡ suc (x.starts.space + j) → slice_get x.spaces j ≡ Some e → space_before x at ≡ Some e
space_there x at j e is got =
    let before : at - 1 ≡ x.starts.space + j = omega (arith, is) in
    ap (λ (b : Bool). if b then None else item_with x.starts.space x.spaces (at - 1)) (ne_eqb at 0 (λ no. omega (arith, no, is))) ∙ item_there x.starts.space x.spaces (at - 1) j before ∙ got

none_at_zero : (x : Index) (at : ℕ) (e : SpaceEntry) → at ≡ 0 → space_before x at ≡ Some e → ⊥
none_at_zero x at e is h = let no : space_before x 0 ≡ Some e = ap (space_before x) (sym is) ∙ h in cc

module _ (bytes : List ℕ) (f : File) (x : Index) where
  abbrev Names : ℕ → List SpaceName → List ℕ → Type 0
  Names unit names entries = AreSpacesAt (units_of f.units) (around_of bytes (units_of f.units)) unit names entries

  none_out : (at unit : ℕ) (names : List SpaceName) (entries : List ℕ) → space_before x at ≡ None → IsOut x.starts.space x.spaces at entries → Names unit names entries → names ≡ []
  none_out at unit [] entries none out named = refl
  none_out at unit (name ∷ names) [] none out named = absurd named
  none_out at unit (name ∷ names) (e ∷ entries) none out named = absurd (let some = space_there x at out.0 out.1 out.2 out.3 in let both : None ≡ Some out.1 = sym none ∙ some in cc)

  -- the next one
  record Next (at : ℕ) (e : SpaceEntry) (names : List SpaceName) : Type 0 where
    unit : ℕ
    name : SpaceName
    rest : List SpaceName
    are : names ≡ name ∷ rest
    is : IsSpaceAt (units_of f.units) (around_of bytes (units_of f.units)) unit e.entry name
    less : e.outer < at
    way : IsWayOut bytes f x e.outer rest

  next_out : (at unit : ℕ) (e : SpaceEntry) (names : List SpaceName) (entries : List ℕ) → space_before x at ≡ Some e → IsOut x.starts.space x.spaces at entries → Names unit names entries → Next at e names
  next_out at unit e [] [] some out named = absurd (none_at_zero x at e out some)
  next_out at unit e [] (d ∷ entries) some out named = absurd named
  next_out at unit e (name ∷ names) [] some out named = absurd named
  next_out at unit e (name ∷ names) (d ∷ entries) some out named =
      let both : Some out.1 ≡ Some e = sym (space_there x at out.0 out.1 out.2 out.3) ∙ some in
      let same : out.1 ≡ e = cc in
      let entry : d ≡ e.entry = sym out.4 ∙ ap (λ (w : SpaceEntry). w.entry) same in
      record {
        unit = unit;
        name = name;
        rest = names;
        are = refl;
        is = subst (λ (w : ℕ). IsSpaceAt (units_of f.units) (around_of bytes (units_of f.units)) unit w name) entry named.0;
        less = subst (λ (w : SpaceEntry). w.outer < at) same out.5;
        way = record { unit = unit; entries = entries; out = subst (λ (w : SpaceEntry). IsOut x.starts.space x.spaces w.outer entries) same out.6; named = named.1 };
      }

  -- those that are left
  pub record OutLeft (at : ℕ) (done all : List (List ℕ)) : Type 0 where
    pub rest : List SpaceName
    pub way : IsWayOut bytes f x at rest
    pub whole : done ++ map (λ name. name.text) rest ≡ all

  pub none_left : (at : ℕ) (done all : List (List ℕ)) → space_before x at ≡ None → OutLeft at done all → done ≡ all
  none_left at done all none h =
      sym (append-nil done) ∙ ap (λ (w : List SpaceName). done ++ map (λ name. name.text) w) (sym (none_out at h.way.unit h.rest h.way.entries none h.way.out h.way.named)) ∙ h.whole

  pub outer_less : (at : ℕ) (e : SpaceEntry) (done all : List (List ℕ)) → space_before x at ≡ Some e → OutLeft at done all → e.outer < at
  outer_less at e done all some h = (next_out at h.way.unit e h.rest h.way.entries some h.way.out h.way.named).less

  pub one_more : (at : ℕ) (e : SpaceEntry) (text : List ℕ) (done new all : List (List ℕ)) → space_before x at ≡ Some e
      → ((unit : ℕ) (name : SpaceName) → IsSpaceAt (units_of f.units) (around_of bytes (units_of f.units)) unit e.entry name → text ≡ name.text) → new ≡ done ++ text ∷ [] → OutLeft at done all
      → OutLeft e.outer new all
  one_more at e text done new all some says is h =
      let n = next_out at h.way.unit e h.rest h.way.entries some h.way.out h.way.named in
      let left = map (λ (name : SpaceName). name.text) n.rest in
      record {
        rest = n.rest;
        way = n.way;
        whole = ap (λ (w : List (List ℕ)). w ++ left) is ∙ append_assoc done (text ∷ []) left ∙ ap (λ (w : List ℕ). done ++ (w ∷ left)) (says n.unit n.name n.is)
            ∙ ap (λ (w : List SpaceName). done ++ map (λ name. name.text) w) (sym n.are) ∙ h.whole;
      }
