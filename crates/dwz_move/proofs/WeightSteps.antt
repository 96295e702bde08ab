-- What is weighed of an entry's values, and what is left.
use Rattle.std.proofs.lemmas.List.{drop_all}
use Rattle.std.proofs.Common.{◌≡◌, ◌≢◌, ℕ, Bool, true, false, if◌then◌else◌, ◌+◌, ◌<◌, ◌≤◌, List, drop, length, map, Some, Ok, slice_get, refl, sym, ap, subst, ◌∙◌, arith}
use Rattle.std.specs.Prelude.{nat_lt}
use Rattle.dwz_def_tops.specs.Spots.{EntryName}
use Rattle.dwz_def_reading.specs.Entries.{RawAttr}
use Rattle.dwz_def_reading.specs.Units.{RawUnit}
use Rattle.dwz_def_reading.proofs.ListFacts.{drop_here}
use Rattle.dwz_graph.specs.Rows.{AreAttrsMeant, AreRowsMeant, IsEntryMeant, node_refs}
use Rattle.dwz_graph.proofs.StepLemmas.{entry, no_row, no_value, row, sibling, value}
use Rattle.dwz_def_reading.specs.Documents.{Attr, Node, Value, attr_map, node_map}
use Rattle.dwz_def_reading.specs.Meanings.{MeaningContext, number_of}
use Rattle.dwz_def_reading.specs.Meant.{meaning}
use Rattle.dwz_def_plan.specs.Gain.{attrs_weight, value_weight}
use Rattle.dwz_graph.specs.Named.{value_refs}
use Rattle.dwz_unit.specs.Rows.{EntryRow}
use Rattle.dwz_move.specs.Weights.{capped, node_weight, rows_weight}
use Rattle.dwz_move.proofs.WeightLemmas.{capped_add}

abbrev pub named_weight : (ℕ → EntryName) → List (Attr ℕ) → ℕ
named_weight name attrs = attrs_weight (map (attr_map name) attrs)

-- These values mean attributes, and with their weight it is all.
pub record AreLeft (raw : List RawUnit) (s : MeaningContext ℕ) (name : ℕ → EntryName) (values : List RawAttr) (weight all : ℕ) : Type 0 where
  pub numbers : List ℕ
  pub attrs : List (Attr ℕ)
  pub meant : AreAttrsMeant raw s numbers values attrs
  pub weighs : capped (weight + named_weight name attrs) ≡ capped all
  pub low : capped weight ≡ weight

pub own_low : (b : Bool) → let own : ℕ = if b then 2 else 1 in capped own ≡ own
own_low true = refl
own_low false = refl

module _ (raw : List RawUnit) (s : MeaningContext ℕ) (name : ℕ → EntryName) where
  pub left_all : (numbers : List ℕ) (i : ℕ) (row : EntryRow) (d : Node ℕ) (weight own : ℕ) → IsEntryMeant raw s i numbers row d → weight ≡ own → capped own ≡ own
      → AreLeft raw s name row.entry.attrs weight (own + named_weight name d.attrs)
  left_all numbers i row d weight own m e low = record {
    numbers = numbers;
    attrs = d.attrs;
    meant = entry raw s i numbers row d m;
    weighs = ap (λ (w : ℕ). capped (w + named_weight name d.attrs)) e;
    low = subst (λ (w : ℕ). capped w ≡ w) (sym e) low;
  }

  pub left_sibling : (values : List RawAttr) (j : ℕ) (a : RawAttr) (weight all : ℕ) → slice_get values j ≡ Some a → a.pair.name ≡ 0x01 → AreLeft raw s name (drop j values) weight all
      → AreLeft raw s name (drop (j + 1) values) weight all
  left_sibling values j a weight all is e h = record {
    numbers = h.numbers;
    attrs = h.attrs;
    meant = sibling raw s h.numbers a (drop (j + 1) values) h.attrs e (subst (λ (vs : List RawAttr). AreAttrsMeant raw s h.numbers vs h.attrs) (drop_here values j a is) h.meant);
    weighs = h.weighs;
    low = h.low;
  }

  pub left_more : (values : List RawAttr) (j : ℕ) (a : RawAttr) (weight more new all : ℕ) → slice_get values j ≡ Some a → a.pair.name ≢ 0x01
      → ((v : Value ℕ) → meaning s a ≡ Ok v → more ≡ value_weight a.pair.form (number_of a.raw) v.plain) → new ≡ capped (weight + more)
      → AreLeft raw s name (drop j values) weight all → AreLeft raw s name (drop (j + 1) values) new all
  unfolding attrs_weight
  left_more values j a weight more new all is ne weigh made h =
      let n = value raw s h.numbers a (drop (j + 1) values) h.attrs ne (subst (λ (vs : List RawAttr). AreAttrsMeant raw s h.numbers vs h.attrs) (drop_here values j a is) h.meant) in
      let own : more ≡ value_weight a.pair.form (number_of a.raw) n.value.plain = weigh n.value n.means in
      let split : named_weight name h.attrs ≡ more + named_weight name n.left = ap (named_weight name) n.parts ∙ ap (λ (w : ℕ). w + named_weight name n.left) (sym own) in
      let joined : weight + named_weight name h.attrs ≡ weight + more + named_weight name n.left = omega arith in
      record {
        numbers = drop (length (value_refs n.value)) h.numbers;
        attrs = n.left;
        meant = n.rest;
        weighs = ap (λ (w : ℕ). capped (w + named_weight name n.left)) made ∙ capped_add (weight + more) (named_weight name n.left) ∙ ap capped (sym joined) ∙ h.weighs;
        low = ap capped made ∙ twice (weight + more) ∙ sym made;
      }
    where
      twice : (n : ℕ) → capped (capped n) ≡ capped n
      twice n = grind arith

  pub left_none : (values : List RawAttr) (j : ℕ) (weight all : ℕ) → length values ≤ j → AreLeft raw s name (drop j values) weight all → weight ≡ capped all
  unfolding attrs_weight
  left_none values j weight all le h =
      let none = no_value raw s h.numbers h.attrs (subst (λ (vs : List RawAttr). AreAttrsMeant raw s h.numbers vs h.attrs) (drop_all j values le) h.meant) in
      let empty : weight + named_weight name h.attrs ≡ weight = ap (λ (as' : List (Attr ℕ)). weight + named_weight name as') none ∙ (let z : weight + 0 ≡ weight = omega arith in z) in
      sym h.low ∙ sym (ap capped empty) ∙ h.weighs

-- ---- rows

-- The rows from number i on mean entries, and with their weight it is all.
pub record RowsLeft (raw : List RawUnit) (s : MeaningContext ℕ) (name : ℕ → EntryName) (i end weight all : ℕ) : Type 0 where
  pub numbers : List ℕ
  pub rows : List EntryRow
  pub after : List EntryRow
  pub ds : List (Node ℕ)
  pub meant : AreRowsMeant raw s i end numbers rows after ds
  pub weighs : capped (weight + rows_weight name i rows ds) ≡ capped all
  pub low : capped weight ≡ weight

module _ (raw : List RawUnit) (s : MeaningContext ℕ) (name : ℕ → EntryName) (end : ℕ) where
  pub rows_all : (first : ℕ) (numbers : List ℕ) (rows after : List EntryRow) (ds : List (Node ℕ)) → AreRowsMeant raw s first end numbers rows after ds
      → RowsLeft raw s name first end 0 (rows_weight name first rows ds)
  rows_all first numbers rows after ds m =
      record {
        numbers = numbers;
        rows = rows;
        after = after;
        ds = ds;
        meant = m;
        weighs = (let z : 0 + rows_weight name first rows ds ≡ rows_weight name first rows ds = omega arith in ap capped z);
        low = refl;
      }

  pub rows_more : (i weight more new all : ℕ) → i < end
      → ((numbers : List ℕ) (r : EntryRow) (d : Node ℕ) → IsEntryMeant raw s i numbers r d → more ≡ capped (node_weight (nat_lt (i + 1) r.end) (node_map name d))) → new ≡ capped (weight + more)
      → RowsLeft raw s name i end weight all → RowsLeft raw s name (i + 1) end new all
  unfolding rows_weight
  rows_more i weight more new all lt weigh made h =
      let n = row raw s i end h.numbers h.rows h.after h.ds lt h.meant in
      let own = node_weight (nat_lt (i + 1) n.row.end) (node_map name n.d) in
      let is : more ≡ capped own = weigh h.numbers n.row n.d n.entry in
      let rest = rows_weight name (i + 1) n.others n.left in
      let split : rows_weight name i h.rows h.ds ≡ own + rest = (λ k. rows_weight name i (n.rows_are k) (n.ds_are k)) in
      record {
        numbers = drop (length (node_refs n.d)) h.numbers;
        rows = n.others;
        after = h.after;
        ds = n.left;
        meant = n.rest;
        weighs = ap (λ (w : ℕ). capped (w + rest)) made ∙ capped_add (weight + more) rest ∙ ap (λ (w : ℕ). capped (weight + w + rest)) is ∙ both weight own rest
            ∙ ap (λ (w : ℕ). capped (weight + w)) (sym split) ∙ h.weighs;
        low = ap capped made ∙ twice (weight + more) ∙ sym made;
      }
    where
      twice : (n : ℕ) → capped (capped n) ≡ capped n
      twice n = grind arith

      both : (a b c : ℕ) → capped (a + capped b + c) ≡ capped (a + (b + c))
      both a b c = grind arith

  pub rows_none : (i weight all : ℕ) → end ≤ i → RowsLeft raw s name i end weight all → weight ≡ capped all
  unfolding rows_weight
  rows_none i weight all le h =
      let none = no_row raw s i end h.numbers h.rows h.after h.ds le h.meant in
      let empty : weight + rows_weight name i h.rows h.ds ≡ weight = (λ k. weight + rows_weight name i (none.0 k) (none.1 k)) ∙ (let z : weight + 0 ≡ weight = omega arith in z) in
      sym h.low ∙ sym (ap capped empty) ∙ h.weighs

  -- more than 64 makes no difference
  pub rows_heavy : (i weight all : ℕ) → weight ≡ 64 → RowsLeft raw s name i end weight all → weight ≡ capped all
  rows_heavy i weight all e h = full weight (rows_weight name i h.rows h.ds) e ∙ h.weighs where
    full : (w n : ℕ) → w ≡ 64 → w ≡ capped (w + n)
    full w n e = grind arith
