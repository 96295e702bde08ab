-- What is read behind so many entries, where so many may come, is read as well behind others, where others may come, if there is room for it.
use Rattle.std.proofs.Common.{◌≡◌, ℕ, ◌+◌, ◌<◌, ◌≤◌, Bool, true, false, List, [], ◌∷◌, length, ap, arith}
use Rattle.dwz_def_reading.specs.Entries.{Mode, RawEntry, SpellsEntry, UnitContext, root_position}
use Rattle.dwz_def_reading.specs.Trees.{End, Entry, Forest, IfChildren, Position, behind, first_below, size}
use Rattle.dwz_def_reading.specs.Units.{RawUnit, SpellsSiblings, SpellsTree, SpellsUnit, SpellsUnits, entries_in, entry_count}

-- the same, where so many entries may come
abbrev pub roomy : ℕ → Mode → Mode
roomy room m = record { entries = room; depth = m.depth; whole = m.whole; partial = m.partial; forms = m.forms }

abbrev with_room : ℕ → UnitContext → UnitContext
with_room room c = record { table = c.table; root_tag = c.root_tag; end = c.end; mode = roomy room c.mode }

abbrev position : ℕ → ℕ → Position
position before depth = record { before = before; depth = depth }

if_children : (flag : Bool) (f : Forest RawEntry) (bytes : List ℕ) (Old New : Type 0) → IfChildren flag f Old bytes → (Old → New) → IfChildren flag f New bytes
if_children true f bytes Old New is go = go is
if_children false f bytes Old New is go = is

module _ (room : ℕ) (c : UnitContext) where
  entry_fits : (e : RawEntry) (before other depth start : ℕ) (bytes : List ℕ) → other < room → SpellsEntry c (position before depth) e start bytes
      → SpellsEntry (with_room room c) (position other depth) e start bytes
  entry_fits e before other depth start bytes here is = record {
    place = is.place;
    decl = is.decl;
    tag = is.tag;
    children = is.children;
    stands = record { root = is.stands.root; depth = is.stands.depth; room = here };
    parts = is.parts;
  }

  list_fits : (f : Forest RawEntry) (before other depth start : ℕ) (bytes : List ℕ) → other + size f ≤ room → SpellsSiblings c (position before depth) f start bytes
      → SpellsSiblings (with_room room c) (position other depth) f start bytes
  list_fits End before other depth start bytes few is = is
  list_fits (Entry e children next) before other depth start bytes few is =
      let a = is.first_bytes in
      let b = is.second_bytes in
      record {
        first_bytes = a;
        first = entry_fits e before other depth start a (omega arith) is.first;
        second_bytes = b;
        second = if_children e.children children b _ _ is.second (λ below. list_fits children (before + 1) (other + 1) (depth + 1) (start + length a) b (omega arith) below);
        third_bytes = is.third_bytes;
        third = list_fits next (before + 1 + size children) (other + 1 + size children) depth (start + length a + length b) is.third_bytes (omega arith) is.third;
        parts = is.parts;
      }

  tree_fits : (before other : ℕ) (root : RawEntry) (below : Forest RawEntry) (start : ℕ) (bytes : List ℕ) → other + 1 + size below ≤ room → SpellsTree c before root below start bytes
      → SpellsTree (with_room room c) other root below start bytes
  tree_fits before other root below start bytes few is =
      let a = is.first_bytes in
      let b = is.second_bytes in
      record {
        first_bytes = a;
        first = entry_fits root before other 1 start a (omega arith) is.first;
        second_bytes = b;
        second = if_children root.children below b _ _ is.second (λ deep. list_fits below (before + 1) (other + 1) 2 (start + length a) b (omega arith) deep);
        parts = is.parts;
      }

module _ (room : ℕ) (abbrevs : List ℕ) (mode : Mode) where
  unit_fits : (before other : ℕ) (u : RawUnit) (start : ℕ) (bytes : List ℕ) → other + entry_count u ≤ room → SpellsUnit abbrevs mode before u start bytes
      → SpellsUnit abbrevs (roomy room mode) other u start bytes
  unit_fits before other u start bytes few is =
      let h = is.is_header in
      let k = is.is_context in
      record {
        place = is.place;
        end = is.end;
        context = with_room room is.context;
        is_context = record { stands = k.stands; same_root = k.same_root; same_end = k.same_end; same_mode = ap (roomy room) k.same_mode };
        header = is.header;
        is_header = record {
          size = h.size;
          unit_length = h.unit_length;
          is_32_bit = h.is_32_bit;
          version = h.version;
          unit_type = h.unit_type;
          of_kind = h.of_kind;
          address_size = h.address_size;
          names_table = h.names_table;
        };
        tree = is.tree;
        is_tree = tree_fits room is.context before other u.root u.below (start + length is.header) is.tree (omega arith) is.is_tree;
        padding = is.padding;
        zeros = is.zeros;
        parts = is.parts;
      }

  pub units_fit : (before other : ℕ) (units : List RawUnit) (start : ℕ) (bytes : List ℕ) → other + entries_in units ≤ room → SpellsUnits abbrevs mode before units start bytes
      → SpellsUnits abbrevs (roomy room mode) other units start bytes
  unfolding entries_in
  units_fit before other [] start bytes few is = is
  units_fit before other (u ∷ units) start bytes few is = record {
    first_bytes = is.first_bytes;
    first = unit_fits before other u start is.first_bytes (omega arith) is.first;
    second_bytes = is.second_bytes;
    second = units_fit (before + entry_count u) (other + entry_count u) units (start + length is.first_bytes) is.second_bytes (omega arith) is.second;
    parts = is.parts;
  }
