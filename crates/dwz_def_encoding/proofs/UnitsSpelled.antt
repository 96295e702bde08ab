-- The two sections spell the units as they are stored.
use Rattle.std.proofs.Common.{◌≡◌, ℕ, suc, ◌+◌, ◌-◌, ◌<◌, ◌≤◌, ◌^◌, true, List, [], ◌∷◌, ◌++◌, length, refl, sym, ap, subst, ◌∙◌, arith, Bool, false, cond, ltb}
use Rattle.std.proofs.lemmas.List.{append-nil, length-append}
use Rattle.dwz_def_reading.specs.Spelling.{groups_in, uleb}
use Rattle.dwz_def_reading.proofs.PaddedLemmas.{padded_len}
use Rattle.dwz_def_reading.specs.Documents.{Compile, DwUnit, Entries, Kind, Node, OfType, Partial}
use Rattle.dwz_def_reading.specs.Entries.{Mode, SpellsFront, UnitContext, root_position}
use Rattle.dwz_def_reading.specs.Trees.{End, Entry, SpellsForest, first_below, size}
use Rattle.dwz_def_reading.specs.Units.{SpellsHeader, SpellsTree, SpellsUnit, SpellsUnits, entry_count, root_tag}
use Rattle.dwz_def_reading.specs.Lists.{Each}
use Rattle.dwz_def_encoding.specs.Fitting.{UnitFits, all_forms, depth, entry_total}
use Rattle.dwz_def_encoding.specs.Placing.{UnitStands, UnitsStand}
use Rattle.dwz_def_encoding.specs.Sound.{SoundKind, SoundUnit}
use Rattle.dwz_def_encoding.specs.Writing.{DeclarationShape, Numbering, abbrevs_of, attrs_bytes, declaration_shape, if_any, joined, node_bytes, spelled, table_of, table_offset, tree_bytes, unit_bytes}
use Rattle.dwz_def_encoding.specs.Writing.{written_header_size, written_unit_size}
use Rattle.dwz_def_encoding.specs.Writing.{units_bytes}
use Rattle.dwz_def_encoding.proofs.RawHeaders.{header_bytes, header_len, header_spelled, unit_len, unit_parts}
use Rattle.dwz_def_encoding.proofs.RawSpelled.{context, entry_spelled, forest_spelled, if_spelled, size_raw}
use Rattle.dwz_def_encoding.proofs.RawUnits.{raw_entries, raw_entry, raw_kind, raw_unit, raw_units}
use Rattle.dwz_def_encoding.proofs.WriteCodes.{Covers, Has, is_table}
use Rattle.dwz_def_encoding.proofs.WriteTables.{HasTable, HasTables, table_inside, unit_table}

-- ---- each entry has a byte at least

some_groups : (t : Bool) (k : ℕ) → 1 ≤ cond t 1 (suc k)
some_groups true k = omega arith
some_groups false k = omega arith

uleb_some : (n : ℕ) → 1 ≤ length (uleb n)
unfolding groups_in
uleb_some n = subst (λ (k : ℕ). 1 ≤ k) (sym (padded_len _ n)) (some_groups (ltb n 128) _)

module _ {K : Type 0} (n : Numbering K) (unit : ℕ) (table : List DeclarationShape) where
  pub node_some : (e : Node K) (children : Entries K) → Has table (declaration_shape e children) → 1 ≤ length (node_bytes n unit table e children)
  unfolding node_bytes
  node_some e children h = rw h.is (omega (arith, uleb_some h.code, length-append (uleb h.code) (attrs_bytes n unit e.attrs)))

  pub if_most : (children : Entries K) (bytes : List ℕ) → size children ≤ length bytes → size children ≤ length (if_any children bytes)
  if_most End bytes le = omega arith
  if_most (Entry e c d) bytes le = le

  pub size_most : (f : Entries K) → Covers table f → size f ≤ length (spelled n unit table f)
  unfolding spelled
  size_most End covers = omega arith
  size_most (Entry e children next) covers =
      let a = node_some e children covers.0 in
      let b = if_most children (spelled n unit table children) (size_most children covers.1) in
      let c = size_most next covers.2 in
      simp length-append (omega (arith, a, b, c))

-- a unit has no more entries than bytes
pub unit_most : {K : Type 0} (n : Numbering K) (unit : ℕ) (u : DwUnit K) → size u.below + 1 ≤ length (tree_bytes n unit u)
unfolding tree_bytes
unit_most n unit u =
    let t = is_table u in
    let a = node_some n unit (table_of u) u.root u.below t.root in
    let b = if_most n unit (table_of u) u.below (spelled n unit (table_of u) u.below) (size_most n unit (table_of u) u.below t.below) in
    simp length-append (omega (arith, a, b))

-- ---- a unit

root_tag_of : {K : Type 0} (n : Numbering K) (unit : ℕ) (kind : Kind K) (tag : ℕ) → SoundKind kind tag → tag ≡ root_tag (raw_kind n unit kind)
root_tag_of n unit Compile tag s = s
root_tag_of n unit (OfType signature main) tag s = s.0
root_tag_of n unit Partial tag s = s

pub header_some : {K : Type 0} (kind : Kind K) → 12 ≤ written_header_size kind
header_some Compile = omega arith
header_some (OfType signature main) = omega arith
header_some Partial = omega arith

-- what a unit's bytes rest on
pub record Writes {K : Type 0} (n : Numbering K) (tables : List (List ℕ)) (mode : Mode) (before : ℕ) (u : DwUnit K) : Type 0 where
  pub sound : SoundUnit u
  pub fits : UnitFits n u
  pub whole : mode.whole ≡ true
  pub partial : mode.partial ≡ true
  pub forms : mode.forms ≡ all_forms
  pub deep : suc (depth u.below) ≤ mode.depth
  pub room : before + (size u.below + 1) ≤ mode.entries
  pub small : written_unit_size n (n.place u.at) u < 2 ^ 32 - 16
  pub has : HasTable tables (abbrevs_of u)
  pub tables_small : length (joined tables) < 2 ^ 32

module _ {K : Type 0} (n : Numbering K) (tables : List (List ℕ)) (mode : Mode) (before : ℕ) (u : DwUnit K) where
  abbrev unit : ℕ
  unit = n.place u.at

  abbrev c : UnitContext
  c = context (table_of u) (root_tag (raw_kind n unit u.kind)) (unit + written_unit_size n unit u) mode

  few_entries : Writes n tables mode before u → size u.below < 2 ^ 62
  few_entries w = (let most = unit_most n unit u in omega (arith, most, w.small))

  few_shapes : Writes n tables mode before u → length (table_of u) < 2 ^ 63
  few_shapes w = (let len = (is_table u).len in omega (arith, len, few_entries w))

  tree_spelled : Writes n tables mode before u → UnitStands n u unit → SpellsTree c before (raw_entry n unit (table_of u) u.root u.below) (raw_entries n unit (table_of u) u.below)
      (unit + written_header_size u.kind) (tree_bytes n unit u)
  unfolding tree_bytes
  tree_spelled w stands =
      let t = is_table u in
      let front = node_bytes n unit (table_of u) u.root u.below in
      let p = root_position before in
      let deep = w.deep in
      let room = w.room in
      let below = forest_spelled n unit (table_of u) (root_tag (raw_kind n unit u.kind)) (unit + written_unit_size n unit u) mode w.forms u.below (first_below p) (unit + written_header_size u.kind +
      length front)
      (few_shapes w) t.below w.sound.below w.fits.below stands.below (omega arith) (omega (arith, deep)) (omega (arith, room)) in
      record {
        first_bytes = front;
        first = entry_spelled n unit (table_of u) (root_tag (raw_kind n unit u.kind)) (unit + written_unit_size n unit u) mode w.forms u.root u.below p (unit + written_header_size u.kind) t.root
            (few_shapes w)
            w.sound.root w.fits.root stands.root (λ e. root_tag_of n unit u.kind u.root.tag w.sound.kind) (omega (arith, deep)) (omega (arith, room));
        second_bytes = if_any u.below (spelled n unit (table_of u) u.below);
        second = if_spelled n unit (table_of u) (root_tag (raw_kind n unit u.kind)) (unit + written_unit_size n unit u) mode w.forms u.below (spelled n unit (table_of u) u.below)
            (λ b. SpellsForest (λ e. e.children) (SpellsFront c) (raw_entries n unit (table_of u) u.below) (first_below p) (unit + written_header_size u.kind + length front) b) below;
        parts = refl;
      }

  offset_small : Writes n tables mode before u → table_offset tables u < 2 ^ 32
  offset_small w = (let inside = table_inside tables (abbrevs_of u) w.has in rw w.has.is (omega (arith, inside, w.tables_small)))

  pub unit_spelled : Writes n tables mode before u → UnitStands n u unit → SpellsUnit (joined tables) mode before (raw_unit n tables u) unit (unit_bytes n (table_offset tables u) unit u)
  unfolding tree_bytes
  unit_spelled w stands =
      let offset = table_offset tables u in
      let size = written_unit_size n unit u in
      let header = header_bytes n unit offset size u.kind in
      let tree = tree_bytes n unit u in
      let bytes = unit_bytes n offset unit u in
      let len : size ≡ length bytes = sym (unit_len n unit offset u) in
      let head = header_spelled n unit u.kind u.root.tag mode size offset w.sound.kind w.fits.kind w.whole w.partial (omega (arith, header_some u.kind)) w.small (offset_small w) in
      record {
        place = refl;
        end = ap (λ (k : ℕ). unit + k) len;
        context = c;
        is_context = record {
          stands = rw w.has.is (unit_table tables u w.has w.sound (omega (arith, few_entries w)));
          same_root = refl;
          same_end = refl;
          same_mode = refl;
        };
        header = header;
        is_header = subst (λ (k : ℕ). SpellsHeader mode (raw_kind n unit u.kind) k offset header) len head;
        tree = tree;
        is_tree = subst (λ (k : ℕ). SpellsTree c before (raw_entry n unit (table_of u) u.root u.below) (raw_entries n unit (table_of u) u.below) (unit + k) tree)
            (sym (header_len n unit u.kind offset size)) (tree_spelled w stands);
        padding = [];
        zeros = tt;
        parts = unit_parts n unit offset u ∙ ap (λ (b : List ℕ). header ++ b) (sym (append-nil tree));
      }

-- ---- units, one after another

unfoldable pub units_size : {K : Type 0} → Numbering K → List (DwUnit K) → ℕ
units_size n [] = 0
units_size n (u ∷ units) = written_unit_size n (n.place u.at) u + units_size n units

pub units_len : {K : Type 0} (n : Numbering K) (tables : List (List ℕ)) (units : List (DwUnit K)) → length (units_bytes n tables units) ≡ units_size n units
unfolding units_bytes units_size
units_len n tables [] = refl
units_len n tables (u ∷ units) =
    let one = unit_len n (n.place u.at) (table_offset tables u) u in
    let others = units_len n tables units in
    simp length-append (omega (arith, one, others))

module _ {K : Type 0} (n : Numbering K) (tables : List (List ℕ)) (mode : Mode) where
  pub units_spelled : (units : List (DwUnit K)) (at before : ℕ) → UnitsStand n units at → Each SoundUnit units → Each (UnitFits n) units → HasTables tables units
      → mode.whole ≡ true → mode.partial ≡ true → mode.forms ≡ all_forms → Each (λ u. suc (depth u.below) ≤ mode.depth) units → before + entry_total units ≤ mode.entries
      → units_size n units < 2 ^ 32 - 16 → length (joined tables) < 2 ^ 32
      → SpellsUnits (joined tables) mode before (raw_units n tables units) at (units_bytes n tables units)
  unfolding units_bytes raw_units units_size entry_total
  units_spelled [] at before stands s fits has whole partial forms deep room small tables_small = refl
  units_spelled (u ∷ units) at before stands s fits has whole partial forms deep room small tables_small =
      let unit = n.place u.at in
      let bytes = unit_bytes n (table_offset tables u) unit u in
      let place = stands.0.unit in
      let w : Writes n tables mode before u =
      record {
        sound = s.0;
        fits = fits.0;
        whole = whole;
        partial = partial;
        forms = forms;
        deep = deep.0;
        room = omega (arith, room);
        small = omega (arith, small);
        has = has.0;
        tables_small =
            tables_small;
      } in
      let here : UnitStands n u unit = subst (UnitStands n u) (sym place) stands.0 in
      let raw = raw_unit n tables u in
      let one : SpellsUnit (joined tables) mode before raw at bytes = subst (λ (k : ℕ). SpellsUnit (joined tables) mode before raw k bytes) place (unit_spelled n tables mode before u w here) in
      let len : at + written_unit_size n at u ≡ at + length bytes = ap (λ (k : ℕ). at + written_unit_size n k u) (sym place)
      ∙ ap (λ (k : ℕ). at + k) (sym (unit_len n unit (table_offset tables u) u)) in
      let count : before + (size u.below + 1) ≡ before + entry_count raw = ap (λ (k : ℕ). before + (k + 1)) (sym (size_raw n unit (table_of u) 0 0 mode forms u.below)) in
      let others = units_spelled units (at + written_unit_size n at u) (before + (size u.below + 1)) stands.1 s.1 fits.1 has.1 whole partial forms deep.1 (omega (arith, room)) (omega (arith, small))
      tables_small in
      record {
        first_bytes = bytes;
        first = one;
        second_bytes = units_bytes n tables units;
        second = subst (λ (k : ℕ). SpellsUnits (joined tables) mode k (raw_units n tables units) (at + length bytes) (units_bytes n tables units)) count
            (subst (λ (k : ℕ). SpellsUnits (joined tables) mode (before + (size u.below + 1)) (raw_units n tables units) k (units_bytes n tables units)) len others);
        parts = refl;
      }
