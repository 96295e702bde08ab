-- What is written is stored in one way.
use Rattle.std.proofs.Common.{◌≡◌, ℕ, ◌+◌, ◌<◌, ◌≤◌, Bool, true, false, List, [], ◌∷◌, ◌==◌, length, refl, sym, ap, subst, ◌∙◌, arith}
use Rattle.dwz_def_reading.specs.Rows.{RowView, shape_of}
use Rattle.dwz_def_reading.specs.Lists.{Each}
use Rattle.dwz_def_reading.specs.Entries.{Mode, RawAttr, RawEntry, SpellsEntry, SpellsFront, UnitContext, root_position}
use Rattle.dwz_def_reading.specs.Files.{debug_abbrev, debug_info}
use Rattle.dwz_def_reading.specs.Trees.{EachEntry, End, Entry, Forest, IfChildren, Position, SpellsForest, behind, first_below}
use Rattle.dwz_def_reading.specs.Units.{CompileUnit, PartialUnit, RawKind, RawUnit, SpellsUnit, SpellsUnits, TypeUnit, entry_count, root_tag}
use Rattle.dwz_def_reading.proofs.UnitListLemmas.{units_one}
use Rattle.dwz_def_encoding.specs.Fitting.{all_forms}
use Rattle.dwz_def_expand.proofs.AgainLemmas.{EntryMay, KindMay, UnitMay, UnitsMay, units_again}
use Rattle.dwz_law_cross.specs.StoredLaws.{StoredLaw}

-- a mode of all units and all forms
pub record IsOfAll (m : Mode) : Type 0 where
  pub whole : m.whole ≡ true
  pub partial : m.partial ≡ true
  pub forms : m.forms ≡ all_forms

-- with room for what another has room for
abbrev pub with_room : Mode → Mode → Mode
with_room m k = record { entries = m.entries + k.entries; depth = m.depth + k.depth; whole = true; partial = true; forms = all_forms }

module _ (m k : Mode) (is : IsOfAll m) (c : UnitContext) (same : c.mode ≡ m) (tag : ℕ) where
  abbrev May : Position → RawEntry → Type 0
  May = EntryMay m (with_room m k) tag

  forms_may : (root : Bool) (attrs : List RawAttr) → Each (λ a. shape_of (all_forms tag root) a.pair.form ≡ shape_of (m.forms tag root) a.pair.form) attrs
  forms_may root [] = tt
  forms_may root (a ∷ attrs) = (sym (ap (λ (forms : ℕ → Bool → List RowView). shape_of (forms tag root) a.pair.form) is.forms), forms_may root attrs)

  entry_may : (p : Position) (e : RawEntry) (start : ℕ) (bytes : List ℕ) → SpellsEntry c p e start bytes → May p e
  entry_may p e start bytes h =
      let deep = subst (λ (o : Mode). p.depth ≤ o.depth) same h.stands.depth in
      let room = subst (λ (o : Mode). p.before < o.entries) same h.stands.room in
      record { depth = omega (arith, deep); room = omega (arith, room); forms = forms_may (p.depth == 1) e.attrs }

  if_may : (flag : Bool) (f : Forest RawEntry) (p : Position) (bytes : List ℕ) (Spelled : Type 0) → (Spelled → EachEntry May p f) → IfChildren flag f Spelled bytes → EachEntry May p f
  if_may true f p bytes Spelled to h = to h
  if_may false f p bytes Spelled to h = subst (λ (g : Forest RawEntry). EachEntry May p g) (sym h.0) tt

  list_may : (f : Forest RawEntry) (p : Position) (start : ℕ) (bytes : List ℕ) → SpellsForest (λ e. e.children) (SpellsFront c) f p start bytes → EachEntry May p f
  list_may End p start bytes h = tt
  list_may (Entry e children next) p start bytes h = (
    entry_may p e start h.first_bytes h.first,
    if_may e.children children (first_below p) h.second_bytes _ (λ q. list_may children (first_below p) (start + length h.first_bytes) h.second_bytes q) h.second,
    list_may next (behind p children) (start + length h.first_bytes + length h.second_bytes) h.third_bytes h.third,
  )

module _ (abbrevs : List ℕ) (m k : Mode) (is : IsOfAll m) where
  kind_may : (kind : RawKind) → KindMay (with_room m k) kind
  kind_may CompileUnit = refl
  kind_may (TypeUnit signature type_offset) = refl
  kind_may PartialUnit = refl

  unit_may : (before : ℕ) (u : RawUnit) (start : ℕ) (bytes : List ℕ) → SpellsUnit abbrevs m before u start bytes → UnitMay m (with_room m k) before u
  unit_may before u start bytes h =
      let t = h.is_tree in
      let same = h.is_context.same_mode in
      let tag = root_tag u.kind in
      record {
        kind = kind_may u.kind;
        entries = (
          entry_may m k is h.context same tag (root_position before) u.root _ _ t.first,
          if_may m k is h.context same tag u.root.children u.below (first_below (root_position before)) t.second_bytes _
              (λ q. list_may m k is h.context same tag u.below (first_below (root_position before)) _ t.second_bytes q) t.second,
        );
      }

  units_may : (units : List RawUnit) (before start : ℕ) (bytes : List ℕ) → SpellsUnits abbrevs m before units start bytes → UnitsMay m (with_room m k) before units
  units_may [] before start bytes h = tt
  units_may (u ∷ units) before start bytes h = (
    unit_may before u start h.first_bytes h.first,
    units_may units (before + entry_count u) (start + length h.first_bytes) h.second_bytes h.second,
  )

  -- what is spelled in it is so with more room
  pub roomier : (units : List RawUnit) (bytes : List ℕ) → SpellsUnits abbrevs m 0 units 0 bytes → SpellsUnits abbrevs (with_room m k) 0 units 0 bytes
  roomier units bytes h = units_again abbrevs m (with_room m k) units 0 0 bytes h (units_may units 0 0 bytes h)

-- units that such a mode spells are the units that are spelled with more room than it has
pub one_raw : (abbrevs : List ℕ) (m k : Mode) → IsOfAll m → (units others : List RawUnit) (bytes : List ℕ) → SpellsUnits abbrevs m 0 units 0 bytes
    → SpellsUnits abbrevs (with_room m k) 0 others 0 bytes
    → units ≡ others
one_raw abbrevs m k is units others bytes h more = units_one abbrevs (with_room m k) 0 0 units others bytes (roomier abbrevs m k is units bytes h) more

-- whichever is given more room by the other
with_either : (m k : Mode) → with_room k m ≡ with_room m k
with_either m k =
    let entries : k.entries + m.entries ≡ m.entries + k.entries = omega arith in
    let depth : k.depth + m.depth ≡ m.depth + k.depth = omega arith in
    ap (λ (n : ℕ). record { entries = n; depth = k.depth + m.depth; whole = true; partial = true; forms = all_forms }) entries
    ∙ ap (λ (n : ℕ). record { entries = m.entries + k.entries; depth = n; whole = true; partial = true; forms = all_forms }) depth

-- so two such modes spell the same units
pub stored_once : StoredLaw
stored_once bytes units others h more =
    let own : IsOfAll h.mode = record { whole = h.whole; partial = h.partial; forms = h.forms } in
    let other : IsOfAll more.mode = record { whole = more.whole; partial = more.partial; forms = more.forms } in
    one_raw (debug_abbrev bytes) h.mode more.mode own units others (debug_info bytes) h.spelled
    (subst (λ (m : Mode). SpellsUnits (debug_abbrev bytes) m 0 others 0 (debug_info bytes)) (with_either h.mode more.mode)
    (roomier (debug_abbrev bytes) more.mode h.mode other others (debug_info bytes) more.spelled))
