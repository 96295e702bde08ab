-- Units that are written, none of them partial, and without forms that lead to a supplementary file, read as a file by itself.
use Rattle.std.proofs.Common.{◌≡◌, ◌≢◌, ℕ, ◌+◌, ◌<◌, ◌≤◌, Bool, true, false, List, [], ◌∷◌, ◌==◌, length, refl, sym, ap, subst, ◌∙◌}
use Rattle.std.proofs.lemmas.Bool.{eqb-true}
use Rattle.dwz_def_reading.specs.Forms.{form_rows}
use Rattle.dwz_def_reading.specs.Documents.{Attr, Compile, DwUnit, Entries, Kind, Node, OfType, Partial}
use Rattle.dwz_def_reading.specs.Entries.{Mode, RawEntry, SpellsEntry, SpellsFront, UnitContext, own_forms, root_position}
use Rattle.dwz_def_reading.specs.Lists.{Each}
use Rattle.dwz_def_reading.specs.Trees.{EachEntry, End, Entry, Forest, IfChildren, Position, SpellsForest, behind, first_below}
use Rattle.dwz_def_reading.specs.Units.{EachEntryOf, RawUnit, SpellsUnit, SpellsUnits}
use Rattle.dwz_def_reading.specs.Values.{shape_of, written_rows}
use Rattle.dwz_def_tops.specs.Seen.{IsPartial}
use Rattle.dwz_def_encoding.specs.Fitting.{AreWritable, EachAttr, UnitFits, all_forms, mode_for}
use Rattle.dwz_def_encoding.specs.Writing.{Numbering, DeclarationShape, table_of, tables_of}
use Rattle.dwz_def_encoding.specs.Placing.{sections}
use Rattle.dwz_def_encoding.proofs.RawUnits.{raw_attrs, raw_entries, raw_entry, raw_kind, raw_unit, raw_units}
use Rattle.dwz_def_encoding.proofs.UnitsMean.{all_raw}
use Rattle.dwz_def_encoding.proofs.WriteLaws.{is_roomy, means, spelled}
use Rattle.dwz_def_expand.proofs.AgainLemmas.{EntryMay, KindMay, UnitsMay, units_again}
use Rattle.dwz_def_expand.specs.Alone.{IsByItself, LeadsNowhere, ReadsAlone}

-- ---- where entries that are spelled stand

abbrev Stands : Mode → Position → RawEntry → Type 0
Stands m p e = (p.depth ≤ m.depth) × (p.before < m.entries)

abbrev has : RawEntry → Bool
has e = e.children

module _ (m : Mode) (c : UnitContext) (same : c.mode ≡ m) where
  entry_stands : (p : Position) (e : RawEntry) (start : ℕ) (bytes : List ℕ) → SpellsEntry c p e start bytes → Stands m p e
  entry_stands p e start bytes is = (subst (λ (o : Mode). p.depth ≤ o.depth) same is.stands.depth, subst (λ (o : Mode). p.before < o.entries) same is.stands.room)

  if_stand : (flag : Bool) (f : Forest RawEntry) (p : Position) (bytes : List ℕ) (Spelled : Type 0) → (Spelled → EachEntry (Stands m) p f) → IfChildren flag f Spelled bytes → EachEntry (Stands m) p f
  if_stand true f p bytes Spelled to is = to is
  if_stand false f p bytes Spelled to is = subst (λ (g : Forest RawEntry). EachEntry (Stands m) p g) (sym is.0) tt

  list_stands : (f : Forest RawEntry) (p : Position) (start : ℕ) (bytes : List ℕ) → SpellsForest has (SpellsFront c) f p start bytes → EachEntry (Stands m) p f
  list_stands End p start bytes is = tt
  list_stands (Entry e children next) p start bytes is = (
    entry_stands p e start is.first_bytes is.first,
    if_stand e.children children (first_below p) is.second_bytes _ (λ q. list_stands children (first_below p) (start + length is.first_bytes) is.second_bytes q) is.second,
    list_stands next (behind p children) (start + length is.first_bytes + length is.second_bytes) is.third_bytes is.third,
  )

unit_stands : (abbrevs : List ℕ) (m : Mode) (before : ℕ) (u : RawUnit) (start : ℕ) (bytes : List ℕ) → SpellsUnit abbrevs m before u start bytes → EachEntryOf (Stands m) before u
unit_stands abbrevs m before u start bytes is =
    let t = is.is_tree in
    let same = is.is_context.same_mode in
    (entry_stands m is.context same (root_position before) u.root _ _ t.first, if_stand m is.context same u.root.children u.below (first_below (root_position before)) t.second_bytes _ (λ q. list_stands m is.context same u.below (first_below (root_position before)) _ t.second_bytes q) t.second)

-- ---- forms

pub row_later : (code form : ℕ) (b : Bool) → (code == form) ≡ b → form ≢ code → b ≡ false
row_later code form true e ne = absurd (ne (let h : code ≡ form = eqb-true code form e in sym h))
row_later code form false e ne = refl

pub same_shape : (form : ℕ) → form ≢ 0x1c → form ≢ 0x1d → shape_of form_rows form ≡ shape_of written_rows form
same_shape form a b =
    let x : (0x1c == form) ≡ false = row_later 0x1c form (0x1c == form) refl a in
    let y : (0x1d == form) ≡ false = row_later 0x1d form (0x1d == form) refl b in
    rw (x, y) refl

module _ {K : Type 0} (n : Numbering K) (m alone : Mode) (forms : m.forms ≡ (all_forms)) (own : alone.forms ≡ own_forms) (depth : alone.depth ≡ m.depth) (entries : alone.entries ≡ m.entries) where
  attrs_may : (unit tag : ℕ) (root : Bool) (attrs : List (Attr K)) (at : ℕ) → Each LeadsNowhere attrs
      → Each (λ a. shape_of (alone.forms tag root) a.pair.form ≡ shape_of (m.forms tag root) a.pair.form) (raw_attrs n unit at attrs)
  unfolding raw_attrs
  attrs_may unit tag root [] at h = tt
  attrs_may unit tag root (a ∷ attrs) at h = (
    (let x = same_shape a.form h.0.0 h.0.1 in
        let y : alone.forms tag root ≡ form_rows = ap (λ f. f tag root) own in
        let z : m.forms tag root ≡ written_rows = ap (λ f. f tag root) forms in
        ap (λ rows. shape_of rows a.form) y ∙ x ∙ sym (ap (λ rows. shape_of rows a.form) z)),
    attrs_may unit tag root attrs _ h.1,
  )

  entry_may : (unit tag : ℕ) (table : List DeclarationShape) (e : Node K) (f : Entries K) (p : Position) → Stands m p (raw_entry n unit table e f) → Each LeadsNowhere e.attrs → EntryMay m alone tag p (raw_entry n unit table e f)
  entry_may unit tag table e f p s h = record {
    depth = subst (λ (d : ℕ). p.depth ≤ d) (sym depth) s.0;
    room = subst (λ (d : ℕ). p.before < d) (sym entries) s.1;
    forms = attrs_may unit tag (p.depth == 1) e.attrs _ h;
  }

  entries_may : (unit tag : ℕ) (table : List DeclarationShape) (f : Entries K) (p : Position) → EachEntry (Stands m) p (raw_entries n unit table f) → EachAttr LeadsNowhere f → EachEntry (EntryMay m alone tag) p (raw_entries n unit table f)
  unfolding raw_entries
  entries_may unit tag table End p s h = tt
  entries_may unit tag table (Entry e children next) p s h = (
    entry_may unit tag table e children p s.0 h.0,
    entries_may unit tag table children _ s.1 h.1,
    entries_may unit tag table next _ s.2 h.2,
  )

  kind_may : alone.whole ≡ true → (unit : ℕ) (k : Kind K) → (IsPartial k → ⊥) → KindMay alone (raw_kind n unit k)
  kind_may whole unit Compile h = whole
  kind_may whole unit (OfType s t) h = whole
  kind_may whole unit Partial h = absurd (h tt)

  units_may : alone.whole ≡ true → (abbrevs : List ℕ) (tables : List (List ℕ)) (units : List (DwUnit K)) (before start : ℕ) (bytes : List ℕ) → SpellsUnits abbrevs m before (raw_units n tables units) start bytes
      → Each IsByItself units → UnitsMay m alone before (raw_units n tables units)
  unfolding raw_units
  units_may whole abbrevs tables [] before start bytes is h = tt
  units_may whole abbrevs tables (u ∷ units) before start bytes is h =
      let s = unit_stands abbrevs m before (raw_unit n tables u) start is.first_bytes is.first in (
        record {
          kind = kind_may whole (n.place u.at) u.kind h.0.0;
          entries = (
            entry_may (n.place u.at) _ (table_of u) u.root u.below (root_position before) s.0 h.0.1,
            entries_may (n.place u.at) _ (table_of u) u.below (first_below (root_position before)) s.1 h.0.2,
          );
        },
        units_may whole abbrevs tables units _ _ is.second_bytes is.second h.1,
      )

-- how such units are read
abbrev pub alone_mode : {K : Type 0} → List (DwUnit K) → Mode
alone_mode units = record { entries = (mode_for units).entries; depth = (mode_for units).depth; whole = true; partial = false; forms = own_forms }

pub alone_spelled : {K : Type 0} (n : Numbering K) (common : List K) (units : List (DwUnit K)) → AreWritable n common units → Each (UnitFits n) units → Each IsByItself units
    → SpellsUnits (sections n units).abbrevs (alone_mode units) 0 (raw_units n (tables_of [] units) units) 0 (sections n units).info
alone_spelled n common units w fit alone =
    let m = mode_for units in
    let raw = raw_units n (tables_of [] units) units in
    let is = spelled n common units m w fit (is_roomy units) in
    units_again (sections n units).abbrevs m (alone_mode units) raw 0 0 (sections n units).info is
    (units_may n m (alone_mode units) refl refl refl refl refl (sections n units).abbrevs (tables_of [] units) units 0 0 (sections n units).info is alone)

pub reads_alone : {K : Type 0} (n : Numbering K) (common : List K) (units : List (DwUnit K)) → AreWritable n common units → Each (UnitFits n) units → Each IsByItself units → ReadsAlone n units
reads_alone n common units w fit alone = record {
  mode = alone_mode units;
  whole = refl;
  partial = refl;
  forms = refl;
  spells = record {
    raw = raw_units n (tables_of [] units) units;
    spelled = alone_spelled n common units w fit alone;
    places = all_raw n (tables_of [] units) units;
    means = λ place t around all about says. means n place units t around all about w.sound fit says;
  };
}
