-- A finished common file that was read says what it said where it is read back: its forms are among those that are read there.
use Rattle.std.proofs.Common.{◌≡◌, ℕ, ℤ, ◌+◌, length, Bool, true, false, cond, List, [], ◌∷◌, refl, sym, ap, subst, ◌∙◌}
use Rattle.std.specs.Prelude.{◌==◌, ◌&&◌, ◌||◌}
use Rattle.std.specs.List.{filter}
use Rattle.std.proofs.lemmas.Bool.{eqb-true}
use Rattle.dwz_def_reading.specs.Forms.{form_rows}
use Rattle.dwz_def_reading.specs.Rows.{RowView, has, shape_of}
use Rattle.dwz_def_reading.specs.Pair.{Pair}
use Rattle.dwz_def_reading.specs.Shape.{Shape}
use Rattle.dwz_def_reading.specs.Entries.{Mode, RawAttr, RawEntry, SpellsAttrs, SpellsEntry, SpellsFront, UnitContext, codes_of_common, forms_of_common}
use Rattle.dwz_def_reading.specs.Trees.{End, Entry, Forest, IfChildren, Position, SpellsForest}
use Rattle.dwz_def_reading.specs.Units.{RawUnit, SpellsTree, SpellsUnit, SpellsUnits, is_read, unit_type}
use Rattle.dwz_def_reading.specs.Values.{Raw, SpellsShape, constant_of, written_rows}
use Rattle.dwz_def_reading.proofs.WrittenLemmas.{same_shape}
use Rattle.dwz_def_encoding.specs.Fitting.{all_forms}

-- ---- some rows of a table, by their codes

module _ (codes : List ℕ) (number : ℤ) (bytes : List ℕ) (raw : Raw) where
  abbrev some : List RowView → List RowView
  some rows = filter (λ row. has row.code codes) rows

  -- where a code isn't among them none of its rows is
  none_spelled : (rows : List RowView) (form : ℕ) → has form codes ≡ false → SpellsShape (shape_of (some rows) form) number bytes raw → ⊥
  none_spelled [] form none is = is
  none_spelled (r ∷ rows) form none is = by (λ s. none_spelled rows form none s) (has r.code codes) refl is where
    here : (SpellsShape (shape_of (some rows) form) number bytes raw → ⊥) → has r.code codes ≡ true → (t : Bool) → (r.code == form) ≡ t → SpellsShape (shape_of (r ∷ some rows) form) number bytes raw → ⊥
    here rest e true q s = absurd (let z : true ≡ false = sym e ∙ ap (λ (n : ℕ). has n codes) (eqb-true r.code form q) ∙ none in cc)
    here rest e false q s =
        let less : shape_of (r ∷ some rows) form ≡ shape_of (some rows) form = rw q refl in
        rest (subst (λ (h : Shape). SpellsShape h number bytes raw) less s)

    by : (SpellsShape (shape_of (some rows) form) number bytes raw → ⊥) → (b : Bool) → has r.code codes ≡ b
        → SpellsShape (shape_of (cond b (r ∷ some rows) (some rows)) form) number bytes raw → ⊥
    by rest false e s = rest s
    by rest true e s = here rest e (r.code == form) refl s

  -- what is of one of them is of the table
  pub some_shape : (rows : List RowView) (form : ℕ) → SpellsShape (shape_of (some rows) form) number bytes raw → SpellsShape (shape_of rows form) number bytes raw
  some_shape [] form is = is
  some_shape (r ∷ rows) form is = by (λ s. some_shape rows form s) (has r.code codes) refl is where
    kept : (SpellsShape (shape_of (some rows) form) number bytes raw → SpellsShape (shape_of rows form) number bytes raw) → (t : Bool) → (r.code == form) ≡ t
        → SpellsShape (shape_of (r ∷ some rows) form) number bytes raw → SpellsShape (shape_of (r ∷ rows) form) number bytes raw
    kept rest true q s = let own : shape_of (r ∷ some rows) form ≡ shape_of (r ∷ rows) form = rw q refl in subst (λ (h : Shape). SpellsShape h number bytes raw) own s
    kept rest false q s =
        let less : shape_of (r ∷ some rows) form ≡ shape_of (some rows) form = rw q refl in
        let more : shape_of rows form ≡ shape_of (r ∷ rows) form = rw q refl in
        subst (λ (h : Shape). SpellsShape h number bytes raw) more (rest (subst (λ (h : Shape). SpellsShape h number bytes raw) less s))

    left : (SpellsShape (shape_of (some rows) form) number bytes raw → SpellsShape (shape_of rows form) number bytes raw) → has r.code codes ≡ false → (t : Bool) → (r.code == form) ≡ t
        → SpellsShape (shape_of (some rows) form) number bytes raw → SpellsShape (shape_of (r ∷ rows) form) number bytes raw
    left rest e true q s = absurd (none_spelled rows form (ap (λ (n : ℕ). has n codes) (sym (eqb-true r.code form q)) ∙ e) s)
    left rest e false q s = let more : shape_of rows form ≡ shape_of (r ∷ rows) form = rw q refl in subst (λ (h : Shape). SpellsShape h number bytes raw) more (rest s)

    by : (SpellsShape (shape_of (some rows) form) number bytes raw → SpellsShape (shape_of rows form) number bytes raw) → (b : Bool) → has r.code codes ≡ b
        → SpellsShape (shape_of (cond b (r ∷ some rows) (some rows)) form) number bytes raw → SpellsShape (shape_of (r ∷ rows) form) number bytes raw
    by rest true e s = kept rest (r.code == form) refl s
    by rest false e s = left rest e (r.code == form) refl s

-- ---- units

-- all units and all forms, within the same limits
abbrev pub whole_mode : Mode → Mode
whole_mode mode = record { entries = mode.entries; depth = mode.depth; whole = true; partial = true; forms = all_forms }

abbrev again : UnitContext → UnitContext
again c = record c { mode = whole_mode c.mode }

common_again : (is_root : Bool) (pairs : List Pair) (attrs : List RawAttr) (start : ℕ) (bytes : List ℕ) → SpellsAttrs (filter (λ row. has row.code (codes_of_common is_root)) form_rows) pairs attrs start bytes
    → SpellsAttrs written_rows pairs attrs start bytes
common_again is_root [] [] start bytes is = is
common_again is_root (pair ∷ pairs) (a ∷ attrs) start bytes is = record {
  first_bytes = is.first_bytes;
  first = record {
    place = is.first.place;
    end = is.first.end;
    same = is.first.same;
    value = same_shape pair.form (constant_of pair) is.first_bytes a.raw (some_shape (codes_of_common is_root) (constant_of pair) is.first_bytes a.raw form_rows pair.form is.first.value);
  };
  second_bytes = is.second_bytes;
  second = common_again is_root pairs attrs _ is.second_bytes is.second;
  parts = is.parts;
}
common_again is_root [] (a ∷ attrs) start bytes is = absurd is
common_again is_root (pair ∷ pairs) [] start bytes is = absurd is

abbrev holds : RawEntry → Bool
holds e = e.children

module _ (c : UnitContext) (own : c.mode.forms ≡ forms_of_common) where
  entry_again : (p : Position) (e : RawEntry) (start : ℕ) (bytes : List ℕ) → SpellsEntry c p e start bytes → SpellsEntry (again c) p e start bytes
  entry_again p e start bytes is =
      let b = is.parts in
      record {
        place = is.place;
        decl = is.decl;
        tag = is.tag;
        children = is.children;
        stands = record { root = is.stands.root; depth = is.stands.depth; room = is.stands.room };
        parts = record {
          first_bytes = b.first_bytes;
          first = b.first;
          second_bytes = b.second_bytes;
          second = common_again (p.depth == 1) is.decl.pairs e.attrs (start + length b.first_bytes) b.second_bytes
              (subst (λ (forms : ℕ → Bool → List RowView). SpellsAttrs (forms c.root_tag (p.depth == 1)) is.decl.pairs e.attrs (start + length b.first_bytes) b.second_bytes) own b.second);
          parts = b.parts;
        };
      }

  if_again : (flag : Bool) (f : Forest RawEntry) (bytes : List ℕ) (Old New : Type 0) → (Old → New) → IfChildren flag f Old bytes → IfChildren flag f New bytes
  if_again true f bytes Old New to is = to is
  if_again false f bytes Old New to is = is

  list_again : (f : Forest RawEntry) (p : Position) (start : ℕ) (bytes : List ℕ) → SpellsForest holds (SpellsFront c) f p start bytes → SpellsForest holds (SpellsFront (again c)) f p start bytes
  list_again End p start bytes is = is
  list_again (Entry e children next) p start bytes is = record {
    first_bytes = is.first_bytes;
    first = entry_again p e start is.first_bytes is.first;
    second_bytes = is.second_bytes;
    second = if_again e.children children is.second_bytes _ _ (λ q. list_again children _ _ is.second_bytes q) is.second;
    third_bytes = is.third_bytes;
    third = list_again next _ _ is.third_bytes is.third;
    parts = is.parts;
  }

  tree_again : (before : ℕ) (root : RawEntry) (below : Forest RawEntry) (start : ℕ) (bytes : List ℕ) → SpellsTree c before root below start bytes → SpellsTree (again c) before root below start bytes
  tree_again before root below start bytes is = record {
    first_bytes = is.first_bytes;
    first = entry_again _ root start is.first_bytes is.first;
    second_bytes = is.second_bytes;
    second = if_again root.children below is.second_bytes _ _ (λ q. list_again below _ _ is.second_bytes q) is.second;
    parts = is.parts;
  }

read_again : (mode : Mode) (type : ℕ) → mode.whole ≡ false → is_read mode type ≡ true → is_read (whole_mode mode) type ≡ true
read_again mode type none is = by mode.whole (type == 1 || type == 2) (type == 3) mode.partial none is where
  by : (whole a c partial : Bool) → whole ≡ false → ((whole && a) || (partial && c)) ≡ true → ((true && a) || (true && c)) ≡ true
  by whole true c partial n e = refl
  by whole false true partial n e = refl
  by true false false partial n e = absurd cc
  by false false false true n e = absurd cc
  by false false false false n e = absurd cc

module _ (abbrevs : List ℕ) (mode : Mode) (own : mode.forms ≡ forms_of_common) (partial : mode.whole ≡ false) where
  unit_again : (before : ℕ) (u : RawUnit) (start : ℕ) (bytes : List ℕ) → SpellsUnit abbrevs mode before u start bytes → SpellsUnit abbrevs (whole_mode mode) before u start bytes
  unit_again before u start bytes is =
      let h = is.is_header in
      let at = is.is_context in
      record {
        place = is.place;
        end = is.end;
        context = again is.context;
        is_context = record { stands = at.stands; same_root = at.same_root; same_end = at.same_end; same_mode = ap whole_mode at.same_mode };
        header = is.header;
        is_header = record {
          size = h.size;
          unit_length = h.unit_length;
          is_32_bit = h.is_32_bit;
          version = h.version;
          unit_type = read_again mode (unit_type is.header) partial h.unit_type;
          of_kind = h.of_kind;
          address_size = h.address_size;
          names_table = h.names_table;
        };
        tree = is.tree;
        is_tree = tree_again is.context (ap (λ (m : Mode). m.forms) at.same_mode ∙ own) before u.root u.below _ is.tree is.is_tree;
        padding = is.padding;
        zeros = is.zeros;
        parts = is.parts;
      }

  pub common_units_again : (raw : List RawUnit) (before start : ℕ) (bytes : List ℕ) → SpellsUnits abbrevs mode before raw start bytes → SpellsUnits abbrevs (whole_mode mode) before raw start bytes
  common_units_again [] before start bytes is = is
  common_units_again (u ∷ raw) before start bytes is = record {
    first_bytes = is.first_bytes;
    first = unit_again before u start is.first_bytes is.first;
    second_bytes = is.second_bytes;
    second = common_units_again raw _ _ is.second_bytes is.second;
    parts = is.parts;
  }
