-- What is spelled in one mode is spelled in another that lets each entry stand.
use Rattle.std.proofs.Common.{◌≡◌, ℕ, ◌+◌, ◌<◌, ◌≤◌, length, Bool, true, false, List, [], ◌∷◌, refl, sym, subst}
use Rattle.std.specs.Prelude.{◌==◌, ◌&&◌, ◌||◌}
use Rattle.dwz_def_reading.specs.Rows.{RowView}
use Rattle.dwz_def_reading.specs.Shape.{Shape}
use Rattle.dwz_def_reading.specs.Pair.{Pair}
use Rattle.dwz_def_reading.specs.Entries.{Mode, RawAttr, RawEntry, SpellsAttrs, SpellsEntry, SpellsFront, UnitContext, root_position}
use Rattle.dwz_def_reading.specs.Lists.{Each}
use Rattle.dwz_def_reading.specs.Trees.{EachEntry, End, Entry, Forest, IfChildren, Position, SpellsForest, first_below}
use Rattle.dwz_def_reading.specs.Units.{CompileUnit, EachEntryOf, PartialUnit, RawKind, RawUnit, TypeUnit, entry_count, SpellsTree, SpellsUnit, SpellsUnits, is_read, kind_by, kind_of, root_tag, unit_type}
use Rattle.dwz_def_reading.specs.Values.{SpellsShape, SpellsValue, constant_of, shape_of}

-- ---- from one mode to another

-- the other mode lets an entry stand there, too, and its forms occupy what they did
pub record EntryMay (m n : Mode) (tag : ℕ) (p : Position) (e : RawEntry) : Type 0 where
  pub depth : p.depth ≤ n.depth
  pub room : p.before < n.entries
  pub forms : Each (λ a. shape_of (n.forms tag (p.depth == 1)) a.pair.form ≡ shape_of (m.forms tag (p.depth == 1)) a.pair.form) e.attrs

abbrev pub KindMay : Mode → RawKind → Type 0
KindMay n CompileUnit = n.whole ≡ true
KindMay n (TypeUnit signature type_offset) = n.whole ≡ true
KindMay n PartialUnit = n.partial ≡ true

pub record UnitMay (m n : Mode) (before : ℕ) (u : RawUnit) : Type 0 where
  pub kind : KindMay n u.kind
  pub entries : EachEntryOf (EntryMay m n (root_tag u.kind)) before u

abbrev pub UnitsMay : Mode → Mode → ℕ → List RawUnit → Type 0
UnitsMay m n before [] = Unit {0}
UnitsMay m n before (u ∷ units) = UnitMay m n before u × UnitsMay m n (before + entry_count u) units

value_again : (rows others : List RowView) (pair : Pair) (a : RawAttr) (bytes : List ℕ) → a.pair ≡ pair → shape_of others a.pair.form ≡ shape_of rows a.pair.form → SpellsValue rows pair bytes a.raw → SpellsValue others pair bytes a.raw
value_again rows others pair a bytes same shape is =
    subst (λ (s : Shape). SpellsShape s (constant_of pair) bytes a.raw) (sym (subst (λ (p : Pair). shape_of others p.form ≡ shape_of rows p.form) same shape)) is

attrs_again : (rows others : List RowView) (pairs : List Pair) (attrs : List RawAttr) (start : ℕ) (bytes : List ℕ) → Each (λ a. shape_of others a.pair.form ≡ shape_of rows a.pair.form) attrs
    → SpellsAttrs rows pairs attrs start bytes → SpellsAttrs others pairs attrs start bytes
attrs_again rows others [] [] start bytes may is = is
attrs_again rows others (pair ∷ pairs) (a ∷ attrs) start bytes may is = record {
  first_bytes = is.first_bytes;
  first = record { place = is.first.place; end = is.first.end; same = is.first.same; value = value_again rows others pair a is.first_bytes is.first.same may.0 is.first.value };
  second_bytes = is.second_bytes;
  second = attrs_again rows others pairs attrs _ is.second_bytes may.1 is.second;
  parts = is.parts;
}
attrs_again rows others [] (a ∷ attrs) start bytes may is = absurd is
attrs_again rows others (pair ∷ pairs) [] start bytes may is = absurd is

abbrev has : RawEntry → Bool
has e = e.children

if_again : (flag : Bool) (f : Forest RawEntry) (bytes : List ℕ) (Old New : Type 0) → (Old → New) → IfChildren flag f Old bytes → IfChildren flag f New bytes
if_again true f bytes Old New to is = to is
if_again false f bytes Old New to is = is

module _ (m n : Mode) (c : UnitContext) (same : c.mode ≡ m) (tag : ℕ) (root : c.root_tag ≡ tag) where
  abbrev again : UnitContext
  again = record c { mode = n }

  entry_again : (p : Position) (e : RawEntry) (start : ℕ) (bytes : List ℕ) → EntryMay m n tag p e → SpellsEntry c p e start bytes → SpellsEntry again p e start bytes
  entry_again p e start bytes may is =
      let b = is.parts in
      let at = start + length b.first_bytes in
      let old = subst (λ (t : ℕ). SpellsAttrs (m.forms t (p.depth == 1)) is.decl.pairs e.attrs at b.second_bytes) root
      (subst (λ (o : Mode). SpellsAttrs (o.forms c.root_tag (p.depth == 1)) is.decl.pairs e.attrs at b.second_bytes) same b.second) in
      let new = attrs_again (m.forms tag (p.depth == 1)) (n.forms tag (p.depth == 1)) is.decl.pairs e.attrs at b.second_bytes may.forms old in
      record {
        place = is.place;
        decl = is.decl;
        tag = is.tag;
        children = is.children;
        stands = record { root = is.stands.root; depth = may.depth; room = may.room };
        parts = record {
          first_bytes = b.first_bytes;
          first = b.first;
          second_bytes = b.second_bytes;
          second = subst (λ (t : ℕ). SpellsAttrs (n.forms t (p.depth == 1)) is.decl.pairs e.attrs at b.second_bytes) (sym root) new;
          parts = b.parts;
        };
      }

  list_again : (f : Forest RawEntry) (p : Position) (start : ℕ) (bytes : List ℕ) → EachEntry (EntryMay m n tag) p f → SpellsForest has (SpellsFront c) f p start bytes → SpellsForest has (SpellsFront again) f p start bytes
  list_again End p start bytes may is = is
  list_again (Entry e children next) p start bytes may is = record {
    first_bytes = is.first_bytes;
    first = entry_again p e start is.first_bytes may.0 is.first;
    second_bytes = is.second_bytes;
    second = if_again e.children children is.second_bytes _ _ (λ q. list_again children _ _ is.second_bytes may.1 q) is.second;
    third_bytes = is.third_bytes;
    third = list_again next _ _ is.third_bytes may.2 is.third;
    parts = is.parts;
  }

  tree_again : (before : ℕ) (u : RawUnit) (start : ℕ) (bytes : List ℕ) → UnitMay m n before u → tag ≡ root_tag u.kind → SpellsTree c before u.root u.below start bytes → SpellsTree again before u.root u.below start bytes
  tree_again before u start bytes may of_tag is =
      let each = subst (λ (t : ℕ). EntryMay m n t (root_position before) u.root × EachEntry (EntryMay m n t) (first_below (root_position before)) u.below) (sym of_tag) may.entries in
      record {
        first_bytes = is.first_bytes;
        first = entry_again (root_position before) u.root start is.first_bytes each.0 is.first;
        second_bytes = is.second_bytes;
        second = if_again u.root.children u.below is.second_bytes _ _ (λ q. list_again u.below (first_below (root_position before)) (start + length is.first_bytes) is.second_bytes each.1 q) is.second;
        parts = is.parts;
      }

read_again : (m n : Mode) (bytes : List ℕ) (kind : RawKind) → kind ≡ kind_of bytes → KindMay n kind → is_read m (unit_type bytes) ≡ true → is_read n (unit_type bytes) ≡ true
read_again m n bytes kind of_kind may is = by (unit_type bytes == 1) (unit_type bytes == 2) (unit_type bytes == 3) m.whole m.partial n.whole n.partial (subst (KindMay n) of_kind may) is where
  by : (a b c : Bool) (w p w' p' : Bool) → KindMay (record n { whole = w'; partial = p' }) (kind_by b c bytes) → ((w && (a || b)) || (p && c)) ≡ true → ((w' && (a || b)) || (p' && c)) ≡ true
  by a true c w p true p' k e = by_or a where
    by_or : (a : Bool) → ((true && (a || true)) || (p' && c)) ≡ true
    by_or true = refl
    by_or false = refl
  by a true c w p false p' k e = absurd cc
  by a false true w p w' true k e = or_true (w' && (a || false)) where
    or_true : (x : Bool) → (x || (true && true)) ≡ true
    or_true true = refl
    or_true false = refl
  by a false true w p w' false k e = absurd cc
  by true false false w p true p' k e = refl
  by true false false w p false p' k e = absurd cc
  by false false false true true w' p' k e = absurd cc
  by false false false true false w' p' k e = absurd cc
  by false false false false true w' p' k e = absurd cc
  by false false false false false w' p' k e = absurd cc

module _ (abbrevs : List ℕ) (m n : Mode) where
  unit_again : (before : ℕ) (u : RawUnit) (start : ℕ) (bytes : List ℕ) → UnitMay m n before u → SpellsUnit abbrevs m before u start bytes → SpellsUnit abbrevs n before u start bytes
  unit_again before u start bytes may is =
      let h = is.is_header in
      let at = is.is_context in
      record {
        place = is.place;
        end = is.end;
        context = again m n is.context at.same_mode (root_tag u.kind) at.same_root;
        is_context = record { stands = at.stands; same_root = at.same_root; same_end = at.same_end; same_mode = refl };
        header = is.header;
        is_header = record {
          size = h.size;
          unit_length = h.unit_length;
          is_32_bit = h.is_32_bit;
          version = h.version;
          unit_type = read_again m n is.header u.kind h.of_kind may.kind h.unit_type;
          of_kind = h.of_kind;
          address_size = h.address_size;
          names_table = h.names_table;
        };
        tree = is.tree;
        is_tree = tree_again m n is.context at.same_mode (root_tag u.kind) at.same_root before u _ is.tree may refl is.is_tree;
        padding = is.padding;
        zeros = is.zeros;
        parts = is.parts;
      }

  pub units_again : (units : List RawUnit) (before start : ℕ) (bytes : List ℕ) → SpellsUnits abbrevs m before units start bytes → UnitsMay m n before units → SpellsUnits abbrevs n before units start bytes
  units_again [] before start bytes is may = is
  units_again (u ∷ units) before start bytes is may = record {
    first_bytes = is.first_bytes;
    first = unit_again before u start is.first_bytes may.0 is.first;
    second_bytes = is.second_bytes;
    second = units_again units _ _ is.second_bytes is.second may.1;
    parts = is.parts;
  }
