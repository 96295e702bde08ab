-- The values of the rows of units that bytes spell are stored there: declaration by declaration, entry by entry, unit by unit.
use Rattle.std.proofs.Common.{◌≡◌, ℕ, zero, suc, ◌+◌, ◌∙◌, Bool, true, false, List, [], ◌∷◌, ◌++◌, ◌==◌, length, Some, slice_get, refl, sym, subst, cond, eqb}
use Rattle.std.proofs.lemmas.Bool.{eqb-false}
use Rattle.dwz_def_reading.specs.Forms.{form_rows}
use Rattle.dwz_def_reading.specs.Rows.{RowView}
use Rattle.dwz_def_reading.specs.Abbrevs.{Declaration, EndsTable, IsDeclared, SpellsTable, find_decl}
use Rattle.dwz_def_reading.specs.Entries.{Mode, RawAttr, RawEntry, SpellsAttrs, SpellsEntry, SpellsFront, UnitContext, own_forms}
use Rattle.dwz_def_reading.specs.Lists.{Each}
use Rattle.dwz_def_reading.specs.Items.{SpellsItems}
use Rattle.dwz_def_reading.specs.Trees.{End, Entry, Forest, IfChildren, Position, SpellsForest, behind, first_below}
use Rattle.dwz_def_reading.specs.Units.{RawUnit, SpellsUnit, SpellsUnits}
use Rattle.dwz_def_reading.specs.Values.{AreBytes, SpellsValue}
use Rattle.dwz_def_reading.proofs.WrittenLemmas.{front_bytes}
use Rattle.dwz_def_reading.specs.Meanings.{without_siblings}
use Rattle.dwz_def_reading.proofs.StandLemmas.{bytes_right}
use Rattle.dwz_def_reading.specs.Pair.{Pair}
use Rattle.dwz_def_tops.proofs.Members.{each_append}
use Rattle.dwz_unit.specs.Rows.{EntryRow, rows_below, rows_from, rows_in, rows_of}
use Rattle.dwz_def_encoding.specs.Carried.{IsStored}
use Rattle.dwz_def_encoding.proofs.ReadAgain.{HasPair, have_pairs}

-- ---- declarations

found_pairs : (table earlier : List Declaration) (bytes : List ℕ) (code : ℕ) (d : Declaration) → SpellsItems IsDeclared EndsTable earlier table bytes → find_decl table code ≡ Some d
    → Each HasPair d.pairs
found_pairs [] earlier bytes code d is e = absurd cc
found_pairs (t ∷ table) earlier bytes code d is e = go (found_pairs table (earlier ++ t ∷ []) is.back code d is.second) (eqb t.code code) e where
  go : (find_decl table code ≡ Some d → Each HasPair d.pairs) → (b : Bool) → cond b (Some t) (find_decl table code) ≡ Some d → Each HasPair d.pairs
  go rest true r =
      let same : t ≡ d = cc in
      let spelled = is.first.spelled in
      subst (λ (w : Declaration). Each HasPair w.pairs) same (have_pairs t.pairs [] spelled.pairs_bytes spelled.pairs)
  go rest false r = rest r

-- ---- values

stored_if : (a : RawAttr) (values : List RawAttr) (t : Bool) → eqb a.pair.name 0x01 ≡ t → HasPair a.pair → (bytes : List ℕ) → AreBytes bytes → SpellsValue form_rows a.pair bytes a.raw
    → Each IsStored values → Each IsStored (cond t values (a ∷ values))
stored_if a values true e pair bytes are spelled rest = rest
stored_if a values false e pair bytes are spelled rest =
    (record { pair_bytes = pair.0; pair = pair.1; no_sibling = eqb-false a.pair.name 0x01 e; bytes = bytes; are_bytes = are; spelled = spelled }, rest)

are_stored : (pairs : List Pair) (attrs : List RawAttr) (start : ℕ) (bytes : List ℕ) → SpellsAttrs form_rows pairs attrs start bytes → Each HasPair pairs → AreBytes bytes
    → Each IsStored (without_siblings attrs)
unfolding without_siblings
are_stored [] [] start bytes is have are = tt
are_stored [] (a ∷ attrs) start bytes is have are = absurd is
are_stored (p ∷ pairs) [] start bytes is have are = absurd is
are_stored (p ∷ pairs) (a ∷ attrs) start bytes is have are =
    let all = subst AreBytes is.parts are in
    let same = is.first.same in
    stored_if a (without_siblings attrs) (eqb a.pair.name 0x01) refl (subst HasPair (sym same) have.0) is.first_bytes (front_bytes is.first_bytes is.second_bytes all)
    (subst (λ (q : Pair). SpellsValue form_rows q is.first_bytes a.raw) (sym same) is.first.value)
    (are_stored pairs attrs (start + length is.first_bytes) is.second_bytes is.second have.1 (bytes_right is.first_bytes is.second_bytes all))

-- ---- entries

abbrev RowStored : EntryRow → Type 0
RowStored r = Each IsStored (without_siblings r.entry.attrs)

module _ (c : UnitContext) (forms : c.mode.forms ≡ own_forms) (table_bytes : List ℕ) (table : SpellsTable table_bytes c.table) where
  entry_stored : (p : Position) (e : RawEntry) (start : ℕ) (bytes : List ℕ) → SpellsEntry c p e start bytes → AreBytes bytes → Each IsStored (without_siblings e.attrs)
  entry_stored p e start bytes is are =
      let parts = is.parts in
      let code = parts.first in
      let pairs = found_pairs c.table [] table_bytes code.code is.decl table code.declared in
      let all = subst AreBytes parts.parts are in
      let values = subst (λ (f : ℕ → Bool → List RowView). SpellsAttrs (f c.root_tag (p.depth == 1)) is.decl.pairs e.attrs (start + length parts.first_bytes) parts.second_bytes) forms parts.second in
      are_stored is.decl.pairs e.attrs (start + length parts.first_bytes) parts.second_bytes values pairs (bytes_right parts.first_bytes parts.second_bytes all)

  if_stored : (flag : Bool) (f : Forest RawEntry) (unit : ℕ) (q : Position) (b : List ℕ) (Spelled : Type 0) → IfChildren flag f Spelled b → (Spelled → Each RowStored (rows_below f unit q))
      → Each RowStored (rows_below f unit q)
  unfolding rows_below
  if_stored true f unit q b Spelled is deep = deep is
  if_stored false f unit q b Spelled is deep = subst (λ (x : Forest RawEntry). Each RowStored (rows_below x unit q)) (sym is.0) tt

  forest_stored : (f : Forest RawEntry) (unit : ℕ) (q p : Position) (start : ℕ) (bytes : List ℕ) → SpellsForest (λ e. e.children) (SpellsFront c) f p start bytes → AreBytes bytes
      → Each RowStored (rows_below f unit q)
  unfolding rows_below
  forest_stored End unit q p start bytes is are = tt
  forest_stored (Entry e children next) unit q p start bytes is are =
      let all = subst AreBytes is.parts are in
      let rest = bytes_right is.first_bytes (is.second_bytes ++ is.third_bytes) all in (
        entry_stored p e start is.first_bytes is.first (front_bytes is.first_bytes _ all),
        each_append RowStored (rows_below children unit (first_below q)) (rows_below next unit (behind q children))
            (if_stored e.children children unit (first_below q) is.second_bytes _ is.second (λ s. forest_stored children unit (first_below q) _ _ is.second_bytes s (front_bytes is.second_bytes
            is.third_bytes rest)))
            (forest_stored next unit (behind q children) _ _ is.third_bytes is.third (bytes_right is.second_bytes is.third_bytes rest)),
      )

-- ---- units

module _ (abbrevs : List ℕ) (mode : Mode) (forms : mode.forms ≡ own_forms) where
  unit_stored : (u : RawUnit) (number at before start : ℕ) (bytes : List ℕ) → SpellsUnit abbrevs mode before u start bytes → AreBytes bytes → Each RowStored (rows_in u number at)
  unfolding rows_below
  unit_stored u number at before start bytes is are =
      let c = is.context in
      let its = is.is_context in
      let same_forms : c.mode.forms ≡ own_forms = (λ i. (let m : Mode = its.same_mode i in m.forms)) ∙ forms in
      let parts = subst AreBytes is.parts are in
      let tree = front_bytes is.tree is.padding (bytes_right is.header (is.tree ++ is.padding) parts) in
      let t = is.is_tree in
      let in_tree = subst AreBytes t.parts tree in (
        entry_stored c same_forms its.stands.front its.stands.spelled _ u.root _ t.first_bytes t.first (front_bytes t.first_bytes t.second_bytes in_tree),
        each_append RowStored (rows_below u.below number _) []
            (if_stored c same_forms its.stands.front its.stands.spelled u.root.children u.below number _ t.second_bytes _ t.second
            (λ s. forest_stored c same_forms its.stands.front its.stands.spelled u.below number _ _ _ t.second_bytes s (bytes_right t.first_bytes t.second_bytes in_tree)))
            tt,
      )

  pub units_stored : (raw : List RawUnit) (number at before start : ℕ) (bytes : List ℕ) → SpellsUnits abbrevs mode before raw start bytes → AreBytes bytes → Each RowStored (rows_from raw number at)
  unfolding rows_from
  units_stored [] number at before start bytes is are = tt
  units_stored (u ∷ raw) number at before start bytes is are =
      let parts = subst AreBytes is.parts are in
      each_append RowStored (rows_in u number at) (rows_from raw (number + 1) _)
      (unit_stored u number at before start is.first_bytes is.first (front_bytes is.first_bytes is.second_bytes parts))
      (units_stored raw (number + 1) _ _ _ is.second_bytes is.second (bytes_right is.first_bytes is.second_bytes parts))

each_at : (rows : List EntryRow) (i : ℕ) (r : EntryRow) → Each RowStored rows → slice_get rows i ≡ Some r → RowStored r
each_at [] zero r all e = absurd cc
each_at [] (suc i) r all e = absurd cc
each_at (x ∷ rows) zero r all e = (let same : x ≡ r = cc in subst RowStored same all.0)
each_at (x ∷ rows) (suc i) r all e = each_at rows i r all.1 e

pub rows_stored : (abbrevs info : List ℕ) (mode : Mode) (raw : List RawUnit) → mode.forms ≡ own_forms → SpellsUnits abbrevs mode 0 raw 0 info → AreBytes info → (i : ℕ) (r : EntryRow)
    → slice_get (rows_of raw) i ≡ Some r → Each IsStored (without_siblings r.entry.attrs)
rows_stored abbrevs info mode raw forms is are i r found = each_at (rows_of raw) i r (units_stored abbrevs mode forms raw 0 0 0 0 info is are) found
