-- The rows of a top stand among those of the sibling list that it is in, and those of its spaces around them: by induction over the list.
use Rattle.std.proofs.Common.{◌≡◌, ℕ, ℤ, suc, ◌+◌, ◌<◌, ◌≤◌, List, [], ◌∷◌, ◌++◌, length, map, drop, Option, Some, Ok, slice_get, refl, sym, ap, subst, ◌∙◌, inl, inr, arith}
use Rattle.std.specs.Prelude.{◌==◌, if◌then◌else◌, Bool, true, false}
use Rattle.std.proofs.lemmas.List.{append-nil, append_assoc}
use Rattle.dwz_def_reading.specs.Reading.{◌>>=◌}
use Rattle.dwz_def_reading.specs.Entries.{RawEntry}
use Rattle.dwz_def_reading.specs.Lists.{In}
use Rattle.dwz_def_reading.specs.Trees.{End, Entry, Forest, Position, behind, first_below, size}
use Rattle.dwz_def_reading.proofs.ListFacts.{drop_first, in_cases}
use Rattle.dwz_def_tops.specs.Spaces.{space_text, tops_under}
use Rattle.dwz_def_tops.proofs.SpaceLemmas.{text_map}
use Rattle.dwz_def_tops.specs.Spots.{ASpace, ATop, EntryName, Nothing, Row, SpaceName, Top, name_by, name_of, row_in, row_tops}
use Rattle.dwz_def_tops.proofs.RowLemmas.{RowIs, row_is}
use Rattle.dwz_graph.specs.FlatTops.{AreSpaceRows, HasTop}
use Rattle.dwz_graph.proofs.TreeLemmas.{Parts, no_more, parts}
use Rattle.dwz_def_reading.specs.Documents.{Attr, Entries, Node, attr_map, entries_map, first_named, node_map}
use Rattle.dwz_def_reading.specs.Meanings.{MeaningContext}
use Rattle.dwz_def_reading.specs.Meant.{entries_meaning, node_meaning, with_next}
use Rattle.dwz_unit.specs.Rows.{EntryRow, rows_below}
use Rattle.dwz_unit.proofs.RowLemmas.{shown-length}

pub alone_means : (s : MeaningContext ℕ) (e : RawEntry) (c : Forest RawEntry) (d : Node ℕ) (g : Entries ℕ) → node_meaning s e ≡ Ok d → entries_meaning s c ≡ Ok g
    → entries_meaning s (Entry e c End) ≡ Ok (Entry d g End)
unfolding entries_meaning
alone_means s e c d g one below = λ i. one i >>= λ d'. below i >>= λ g'. Ok End >>= with_next d' g'

alone_rows : (e : RawEntry) (c n : Forest RawEntry) (unit : ℕ) (p : Position) → rows_below (Entry e c n) unit p ≡ rows_below (Entry e c End) unit p ++ rows_below n unit (behind p c)
unfolding rows_below
alone_rows e c n unit p =
    let row : EntryRow = record { entry = e; unit = unit; depth = p.depth; end = (behind p c).before } in
    ap (λ (w : List EntryRow). row ∷ (w ++ rows_below n unit (behind p c))) (sym (append-nil (rows_below c unit (first_below p))))

-- what is left behind some of the first items
pub left_behind : {X : Type 0} (xs : List X) (i j : ℕ) (front rest : List X) → drop i xs ≡ front ++ rest → i + length front ≡ j → drop j xs ≡ rest
left_behind xs i j [] rest e n = ap (λ (k : ℕ). drop k xs) (let z : j ≡ i = omega (arith, n) in z) ∙ e
left_behind xs i j (x ∷ front) rest e n = left_behind xs (i + 1) j front rest (drop_first xs i x (front ++ rest) e).1 (omega (arith, n))

-- ---- the name of a space

pub named_same : (text : List ℕ) (name : ℕ → EntryName) (attrs : List (Attr ℕ)) → name_by text (first_named 0x03 (map (attr_map name) attrs)) ≡ name_by text (first_named 0x03 attrs)
unfolding first_named
named_same text name [] = refl
named_same text name (a ∷ attrs) = go (named_same text name attrs) (a.name == 0x03) where
  go : name_by text (first_named 0x03 (map (attr_map name) attrs)) ≡ name_by text (first_named 0x03 attrs) → (b : Bool)
      → name_by text (if b then Some (attr_map name a) else first_named 0x03 (map (attr_map name) attrs)) ≡ name_by text (if b then Some a else first_named 0x03 attrs)
  go more true = refl
  go more false = more

name_same : (text : List ℕ) (name : ℕ → EntryName) (d : Node ℕ) → name_of text (node_map name d) ≡ name_of text d
name_same text name d = named_same text name d.attrs

-- ---- a top and its spaces

-- the top stands between these numbers, in these spaces
pub record Stands (s : MeaningContext ℕ) (name : ℕ → EntryName) (rows : List EntryRow) (unit depth : ℕ) (outer : List SpaceName) (low high : ℕ) (t : Top) : Type 0 where
  pub inner : List SpaceName
  pub spaces : t.spaces ≡ outer ++ inner
  pub top : HasTop s name rows unit depth inner t
  pub from : low ≤ top.p.before
  pub to : top.p.before < high

-- the rows of an entry, those below it and those behind it
record Split (rows : List EntryRow) (e : RawEntry) (c k : Forest RawEntry) (unit : ℕ) (from : Position) (after : List EntryRow) : Type 0 where
  pub row : EntryRow
  pub is : row ≡ record { entry = e; unit = unit; depth = from.depth; end = (behind from c).before }
  pub found : slice_get rows from.before ≡ Some row
  pub below : drop (first_below from).before rows ≡ rows_below c unit (first_below from) ++ (rows_below k unit (behind from c) ++ after)
  pub later : drop (behind from c).before rows ≡ rows_below k unit (behind from c) ++ after

split : (rows : List EntryRow) (e : RawEntry) (c k : Forest RawEntry) (unit : ℕ) (from : Position) (after : List EntryRow) → drop from.before rows ≡ rows_below (Entry e c k) unit from ++ after
    → Split rows e c k unit from after
unfolding rows_below
split rows e c k unit from after h =
    let row : EntryRow = record { entry = e; unit = unit; depth = from.depth; end = (behind from c).before } in
    let inside = rows_below c unit (first_below from) in
    let others = rows_below k unit (behind from c) in
    let f = drop_first rows from.before row ((inside ++ others) ++ after) h in
    let below = f.1 ∙ append_assoc inside others after in
    record {
      row = row;
      is = refl;
      found = f.0;
      below = below;
      later = left_behind rows (from.before + 1) (behind from c).before inside (others ++ after) below (omega (arith, shown-length c unit (first_below from)));
    }

here : (s : MeaningContext ℕ) (name : ℕ
    → EntryName) (rows : List EntryRow) (e : RawEntry) (c k : Forest RawEntry) (g : Entries ℕ) (x : Parts s e c k g) (unit : ℕ) (outer : List SpaceName) (from : Position)
    (after : List EntryRow) (t : Top) → drop from.before rows ≡ rows_below (Entry e c k) unit from ++ after
    → t.spaces ≡ outer → t.node ≡ node_map name x.d → t.below ≡ entries_map name x.below → Stands s name rows unit from.depth outer from.before (from.before + size (Entry e c k)) t
here s name rows e c k g x unit outer from after t h spaces node below = record {
  inner = [];
  spaces = spaces ∙ sym (append-nil outer);
  top = record {
    e = e;
    c = c;
    d = x.d;
    g = x.below;
    p = from;
    after = rows_below k unit (behind from c) ++ after;
    above = [];
    stand = h ∙ ap (λ (w : List EntryRow). w ++ after) (alone_rows e c k unit from) ∙ append_assoc (rows_below (Entry e c End) unit from) (rows_below k unit (behind from c)) after;
    means = alone_means s e c x.d x.below x.node x.of_below;
    node = node;
    below = below;
    spaces_are = tt;
    deep = omega arith;
  };
  from = omega arith;
  to = omega arith;
}

later : (s : MeaningContext ℕ) (name : ℕ → EntryName) (rows : List EntryRow) (e : RawEntry) (c k : Forest RawEntry) (unit : ℕ) (outer : List SpaceName) (from : Position) (t : Top)
    → Stands s name rows unit (behind from c).depth outer (behind from c).before ((behind from c).before + size k) t
    → Stands s name rows unit from.depth outer from.before (from.before + size (Entry e c k)) t
later s name rows e c k unit outer from t r = record {
  inner = r.inner;
  spaces = r.spaces;
  top = r.top;
  from = omega (arith, r.from);
  to = omega (arith, r.to);
}

inside : (s : MeaningContext ℕ) (name : ℕ
    → EntryName) (rows : List EntryRow) (e : RawEntry) (c k : Forest RawEntry) (g : Entries ℕ) (x : Parts s e c k g) (unit : ℕ) (outer : List SpaceName) (from : Position)
    (after : List EntryRow) (t : Top) (text : List ℕ) → Split rows e c k unit from after → space_text x.d ≡ Some text
    → Stands s name rows unit (first_below from).depth (outer ++ name_of text (node_map name x.d) ∷ []) (first_below from).before ((first_below from).before + size c) t
    → Stands s name rows unit from.depth outer from.before (from.before + size (Entry e c k)) t
inside s name rows e c k g x unit outer from after t text h is r =
    let own = name_of text (node_map name x.d) in
    let one : from.depth + 1 ≡ suc from.depth = omega arith in
    let p = r.top.p in
    record {
      inner = own ∷ r.inner;
      spaces = r.spaces ∙ append_assoc outer (own ∷ []) r.inner;
      top = record {
        e = r.top.e;
        c = r.top.c;
        d = r.top.d;
        g = r.top.g;
        p = p;
        after = r.top.after;
        above = from.before ∷ r.top.above;
        stand = r.top.stand;
        means = r.top.means;
        node = r.top.node;
        below = r.top.below;
        spaces_are = (
          record {
            row = h.row;
            d = x.d;
            text = text;
            found = h.found;
            means = ap (λ (w : EntryRow). node_meaning s w.entry) h.is ∙ x.node;
            is_space = is;
            name = name_same text name x.d;
            deep = ap (λ (w : EntryRow). w.depth) h.is;
            before = omega (arith, r.from);
            over = (let end = ap (λ (w : EntryRow). w.end) h.is in omega (arith, r.to, end));
          },
          subst (λ (n : ℕ). AreSpaceRows s rows n p.before r.inner r.top.above) one r.top.spaces_are,
        );
        deep = omega (arith, r.top.deep);
      };
      from = omega (arith, r.from);
      to = omega (arith, r.to);
    }

module _ (s : MeaningContext ℕ) (name : ℕ → EntryName) (rows : List EntryRow) (file number unit : ℕ) (language : Option ℤ) where
  by_parts : (e : RawEntry) (c k : Forest RawEntry) (g : Entries ℕ) (x : Parts s e c k g) (r : Row) (outer : List SpaceName) (n : ℕ) (from : Position) (after : List EntryRow) (t : Top)
      → drop from.before rows ≡ rows_below (Entry e c k) unit from ++ after
      → ((own : SpaceName) (r' : Row) → RowIs file number language (outer ++ own ∷ []) n r' (entries_map name x.below) → In t (row_tops r')
      → Stands s name rows unit (first_below from).depth (outer ++ own ∷ []) (first_below from).before ((first_below from).before + size c) t)
      → ((n' : ℕ) (r' : Row) → RowIs file number language outer n' r' (entries_map name x.next) → In t (row_tops r')
      → Stands s name rows unit (behind from c).depth outer (behind from c).before ((behind from c).before + size k) t)
      → RowIs file number language outer n r (Entry (node_map name x.d) (entries_map name x.below) (entries_map name x.next)) → In t (row_tops r)
      → Stands s name rows unit from.depth outer from.before (from.before + size (Entry e c k)) t
  unfolding row_tops
  by_parts e c k g x Nothing outer n from after t h deeper further is in_row = absurd is
  by_parts e c k g x (ATop u row) outer n from after t h deeper further is (inl same) =
      here s name rows e c k g x unit outer from after t h
      (ap (λ (w : Top). w.spaces) (sym same) ∙ ap (λ (w : Top). w.spaces) (sym is.1))
      (ap (λ (w : Top). w.node) (sym same) ∙ ap (λ (w : Top). w.node) (sym is.1))
      (ap (λ (w : Top). w.below) (sym same) ∙ ap (λ (w : Top). w.below) (sym is.1))
  by_parts e c k g x (ATop u row) outer n from after t h deeper further is (inr z) = later s name rows e c k unit outer from t (further (suc n) row is.2 z)
  by_parts e c k g x (ASpace q inner row) outer n from after t h deeper further is in_row = elim (in_cases t (row_tops inner) (row_tops row) in_row) [
    | inl a ↦ inside s name rows e c k g x unit outer from after t is.0 (split rows e c k unit from after h) (sym (text_map name x.d) ∙ is.1) (deeper (name_of is.0 (node_map name x.d)) inner is.3 a)
    | inr b ↦ later s name rows e c k unit outer from t (further (n + tops_under (entries_map name x.below)) row is.4 b)
  ]

  none : (r : Row) (outer : List SpaceName) (n : ℕ) (t : Top) → RowIs file number language outer n r End → In t (row_tops r) → ⊥
  unfolding row_tops
  none Nothing outer n t is in_row = in_row
  none (ATop u row) outer n t is in_row = is
  none (ASpace q inner row) outer n t is in_row = is

  stands : (f : Forest RawEntry) (g : Entries ℕ) (r : Row) (outer : List SpaceName) (n : ℕ) (from : Position) (after : List EntryRow) (t : Top) → entries_meaning s f ≡ Ok g
      → RowIs file number language outer n r (entries_map name g) → drop from.before rows ≡ rows_below f unit from ++ after
      → In t (row_tops r) → Stands s name rows unit from.depth outer from.before (from.before + size f) t
  unfolding entries_map
  stands End g r outer n from after t means is h in_row =
      absurd (none r outer n t (subst (λ (w : Entries ℕ). RowIs file number language outer n r (entries_map name w)) (sym (no_more s g means)) is) in_row)
  stands (Entry e c k) g r outer n from after t means is h in_row =
      let x = parts s e c k g means in
      let z = split rows e c k unit from after h in
      by_parts e c k g x r outer n from after t h
      (λ own r' is' in'. stands c x.below r' (outer ++ own ∷ []) n (first_below from) (rows_below k unit (behind from c) ++ after) t x.of_below is' z.below in')
      (λ n' r' is' in'. stands k x.next r' outer n' (behind from c) after t x.of_next is' z.later in')
      (subst (λ (w : Entries ℕ). RowIs file number language outer n r (entries_map name w)) (sym x.is) is) in_row

  pub has_top : (f : Forest RawEntry) (g : Entries ℕ) (n : ℕ) (outer : List SpaceName) (from : Position) (after : List EntryRow) (t : Top) → entries_meaning s f ≡ Ok g
      → drop from.before rows ≡ rows_below f unit from ++ after
      → In t (row_tops (row_in file number language outer n (entries_map name g))) → (inner : List SpaceName) × (t.spaces ≡ outer ++ inner) × HasTop s name rows unit from.depth inner t
  has_top f g n outer from after t means h in_row =
      let r = stands f g (row_in file number language outer n (entries_map name g)) outer n from after t means (row_is file number language outer n (entries_map name g)) h in_row in
      (r.inner, r.spaces, r.top)

  -- a top in the row has the language of the unit
  row_language : (r : Row) (g : Entries EntryName) (outer : List SpaceName) (n : ℕ) (t : Top) → RowIs file number language outer n r g → In t (row_tops r) → t.language ≡ language
  unfolding row_tops
  row_language Nothing g outer n t is in_row = absurd in_row
  row_language (ATop u row) End outer n t is in_row = absurd is
  row_language (ATop u row) (Entry d f g) outer n t is (inl same) = ap (λ (w : Top). w.language) (sym same) ∙ ap (λ (w : Top). w.language) (sym is.1)
  row_language (ATop u row) (Entry d f g) outer n t is (inr z) = row_language row g outer (suc n) t is.2 z
  row_language (ASpace q inner row) End outer n t is in_row = absurd is
  row_language (ASpace q inner row) (Entry d f g) outer n t is in_row = elim (in_cases t (row_tops inner) (row_tops row) in_row) [
    | inl a ↦ row_language inner f (outer ++ name_of is.0 d ∷ []) n t is.3 a
    | inr b ↦ row_language row g outer (n + tops_under f) t is.4 b
  ]

  pub has_language : (g : Entries ℕ) (n : ℕ) (outer : List SpaceName) (t : Top) → In t (row_tops (row_in file number language outer n (entries_map name g))) → t.language ≡ language
  has_language g n outer t in_row = row_language (row_in file number language outer n (entries_map name g)) (entries_map name g) outer n t (row_is file number language outer n (entries_map name g))
      in_row
