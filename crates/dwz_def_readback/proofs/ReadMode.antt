-- What is spelled by itself is spelled where units may be partial and forms may lead to a supplementary file.
use Rattle.std.proofs.Common.{◌≡◌, ℕ, ◌+◌, length, Bool, true, false, List, [], ◌∷◌, refl, ap, subst, ◌∙◌}
use Rattle.std.specs.Prelude.{◌==◌, ◌&&◌, ◌||◌}
use Rattle.dwz_def_reading.specs.Forms.{form_rows}
use Rattle.dwz_def_reading.specs.Rows.{RowView}
use Rattle.dwz_def_reading.specs.Pair.{Pair}
use Rattle.dwz_def_reading.specs.Entries.{Mode, RawAttr, RawEntry, SpellsAttrs, SpellsEntry, SpellsFront, UnitContext, own_forms}
use Rattle.dwz_def_reading.specs.Trees.{End, Entry, Forest, IfChildren, Position, SpellsForest}
use Rattle.dwz_def_reading.specs.Units.{RawUnit, SpellsTree, SpellsUnit, SpellsUnits, is_read, unit_type}
use Rattle.dwz_def_reading.specs.Values.{constant_of, written_rows}
use Rattle.dwz_def_reading.proofs.WrittenLemmas.{same_shape}
use Rattle.dwz_def_encoding.specs.Fitting.{all_forms}

-- the same limits
abbrev pub wider : Mode → Mode
wider mode = record { entries = mode.entries; depth = mode.depth; whole = mode.whole; partial = true; forms = all_forms }

abbrev again : UnitContext → UnitContext
again c = record c { mode = wider c.mode }

attrs_again : (pairs : List Pair) (attrs : List RawAttr) (start : ℕ) (bytes : List ℕ) → SpellsAttrs form_rows pairs attrs start bytes → SpellsAttrs written_rows pairs attrs start bytes
attrs_again [] [] start bytes is = is
attrs_again (pair ∷ pairs) (a ∷ attrs) start bytes is = record {
  first_bytes = is.first_bytes;
  first = record { place = is.first.place; end = is.first.end; same = is.first.same; value = same_shape pair.form (constant_of pair) is.first_bytes a.raw is.first.value };
  second_bytes = is.second_bytes;
  second = attrs_again pairs attrs _ is.second_bytes is.second;
  parts = is.parts;
}
attrs_again [] (a ∷ attrs) start bytes is = absurd is
attrs_again (pair ∷ pairs) [] start bytes is = absurd is

abbrev has : RawEntry → Bool
has e = e.children

module _ (c : UnitContext) (own : c.mode.forms ≡ own_forms) where
  entry_again : (p : Position) (e : RawEntry) (start : ℕ) (bytes : List ℕ) → SpellsEntry c p e start bytes → SpellsEntry (again c) p e start bytes
  entry_again p e start bytes is =
      let b = is.parts in
      record {
        place = is.place;
        decl = is.decl;
        tag = is.tag;
        children = is.children;
        stands = record { root = is.stands.root; depth = is.stands.depth; room = is.stands.room };
        parts = record {
          first_bytes = b.first_bytes;
          first = b.first;
          second_bytes = b.second_bytes;
          second = attrs_again is.decl.pairs e.attrs (start + length b.first_bytes) b.second_bytes
              (subst (λ (forms : ℕ → Bool → List RowView). SpellsAttrs (forms c.root_tag (p.depth == 1)) is.decl.pairs e.attrs (start + length b.first_bytes) b.second_bytes) own b.second);
          parts = b.parts;
        };
      }

  if_again : (flag : Bool) (f : Forest RawEntry) (bytes : List ℕ) (Old New : Type 0) → (Old → New) → IfChildren flag f Old bytes → IfChildren flag f New bytes
  if_again true f bytes Old New to is = to is
  if_again false f bytes Old New to is = is

  list_again : (f : Forest RawEntry) (p : Position) (start : ℕ) (bytes : List ℕ) → SpellsForest has (SpellsFront c) f p start bytes → SpellsForest has (SpellsFront (again c)) f p start bytes
  list_again End p start bytes is = is
  list_again (Entry e children next) p start bytes is = record {
    first_bytes = is.first_bytes;
    first = entry_again p e start is.first_bytes is.first;
    second_bytes = is.second_bytes;
    second = if_again e.children children is.second_bytes _ _ (λ q. list_again children _ _ is.second_bytes q) is.second;
    third_bytes = is.third_bytes;
    third = list_again next _ _ is.third_bytes is.third;
    parts = is.parts;
  }

  tree_again : (before : ℕ) (root : RawEntry) (below : Forest RawEntry) (start : ℕ) (bytes : List ℕ) → SpellsTree c before root below start bytes → SpellsTree (again c) before root below start bytes
  tree_again before root below start bytes is = record {
    first_bytes = is.first_bytes;
    first = entry_again _ root start is.first_bytes is.first;
    second_bytes = is.second_bytes;
    second = if_again root.children below is.second_bytes _ _ (λ q. list_again below _ _ is.second_bytes q) is.second;
    parts = is.parts;
  }

read_again : (mode : Mode) (type : ℕ) → is_read mode type ≡ true → is_read (wider mode) type ≡ true
read_again mode type is = by (mode.whole && (type == 1 || type == 2)) (type == 3) mode.partial is where
  by : (a c partial : Bool) → (a || (partial && c)) ≡ true → (a || (true && c)) ≡ true
  by true c partial e = refl
  by false c true e = e
  by false c false e = absurd cc

module _ (abbrevs : List ℕ) (mode : Mode) (own : mode.forms ≡ own_forms) where
  unit_again : (before : ℕ) (u : RawUnit) (start : ℕ) (bytes : List ℕ) → SpellsUnit abbrevs mode before u start bytes → SpellsUnit abbrevs (wider mode) before u start bytes
  unit_again before u start bytes is =
      let h = is.is_header in
      let at = is.is_context in
      record {
        place = is.place;
        end = is.end;
        context = again is.context;
        is_context = record { stands = at.stands; same_root = at.same_root; same_end = at.same_end; same_mode = ap wider at.same_mode };
        header = is.header;
        is_header = record {
          size = h.size;
          unit_length = h.unit_length;
          is_32_bit = h.is_32_bit;
          version = h.version;
          unit_type = read_again mode (unit_type is.header) h.unit_type;
          of_kind = h.of_kind;
          address_size = h.address_size;
          names_table = h.names_table;
        };
        tree = is.tree;
        is_tree = tree_again is.context (ap (λ (m : Mode). m.forms) at.same_mode ∙ own) before u.root u.below _ is.tree is.is_tree;
        padding = is.padding;
        zeros = is.zeros;
        parts = is.parts;
      }

  pub units_again : (raw : List RawUnit) (before start : ℕ) (bytes : List ℕ) → SpellsUnits abbrevs mode before raw start bytes → SpellsUnits abbrevs (wider mode) before raw start bytes
  units_again [] before start bytes is = is
  units_again (u ∷ raw) before start bytes is = record {
    first_bytes = is.first_bytes;
    first = unit_again before u start is.first_bytes is.first;
    second_bytes = is.second_bytes;
    second = units_again raw _ _ is.second_bytes is.second;
    parts = is.parts;
  }
