-- The attributes of an entry, value by value.
use Rattle.std.proofs.Common.{◌≡◌, ℕ, suc, ◌+◌, ◌≤◌, List, [], ◌∷◌, ◌++◌, length, map, drop, Option, Some, None, Ok, slice_get, refl, sym, ap, subst, ◌∙◌, inl, inr, arith}
use Rattle.std.proofs.lemmas.List.{append-nil, append_assoc, drop_all, length-map}
use Rattle.dwz_def_tops.specs.Spots.{EntryName}
use Rattle.dwz_label_entries.specs.Plain.{KnowsLine}
use Rattle.dwz_label_entries.specs.Sources.{TellsAttr, TellsAttrs, attrs_label}
use Rattle.dwz_def_reading.specs.Reading.{◌>>=◌}
use Rattle.dwz_def_reading.specs.Entries.{RawAttr, RawEntry}
use Rattle.dwz_def_reading.specs.Lists.{In}
use Rattle.dwz_def_reading.specs.Trees.{End, Entry, Forest, Position, behind, first_below}
use Rattle.dwz_def_reading.specs.Entries.{root_position}
use Rattle.dwz_def_reading.specs.Units.{RawUnit, entry_count}
use Rattle.dwz_def_reading.proofs.PartLemmas.{bind_ok}
use Rattle.dwz_def_reading.proofs.ListFacts.{drop_here, got_in, in_cases, in_left, in_right}
use Rattle.dwz_graph.specs.Rows.{AreAttrsMeant}
use Rattle.dwz_graph.proofs.StepLemmas.{no_value}
use Rattle.dwz_label.specs.Labels.{attr_label, each_counted, number}
use Rattle.dwz_def_reading.specs.Documents.{Attr, attr_map}
use Rattle.dwz_def_reading.specs.LineTables.{FileTable}
use Rattle.dwz_def_reading.specs.Meanings.{Around, MeaningContext, scope_of, without_siblings}
use Rattle.dwz_def_reading.specs.Meant.{attr_with, attrs_meaning, meaning, with_attr}
use Rattle.dwz_graph.specs.Named.{attrs_refs, entries_of, preorder}
use Rattle.dwz_graph.specs.Parts.{HasLine}
use Rattle.dwz_unit.specs.Rows.{EntryRow, rows_below, rows_from, rows_in, rows_of}

-- ---- what is left

-- some values were written, and the others are left; all of them say this
pub record AreLeft (raw : List RawUnit) (s : MeaningContext ℕ) (values : List RawAttr) (name : ℕ → EntryName) (attrs : List (Attr ℕ)) (refs others out all : List ℕ) : Type 0 where
  pub left : List (Attr ℕ)
  pub rest : AreAttrsMeant raw s others values left
  pub bytes : out ++ attrs_label name left ≡ all
  pub ends : drop (length (attrs_refs left)) others ≡ drop (length (attrs_refs attrs)) refs

-- as many are meant as there are
as_many : (s : MeaningContext ℕ) (raw : List RawAttr) (attrs : List (Attr ℕ)) → attrs_meaning s raw ≡ Ok attrs → length attrs ≡ length raw
unfolding attrs_meaning
as_many s [] attrs e = let z : [] ≡ attrs = cc in sym (ap (λ (w : List (Attr ℕ)). length w) z)
as_many s (a ∷ raw) attrs e =
    let x = bind_ok (meaning s a) (λ v. attrs_meaning s raw >>= with_attr a v) attrs e in
    let y = bind_ok (attrs_meaning s raw) (with_attr a x.0) attrs x.2 in
    let z : attr_with a x.0 ∷ y.0 ≡ attrs = cc in
    let l : length (attr_with a x.0 ∷ y.0) ≡ length attrs = ap (λ (w : List (Attr ℕ)). length w) z in
    omega (arith, l, as_many s raw y.0 y.1)

pub left_all : (raw : List RawUnit) (s : MeaningContext ℕ) (values : List RawAttr) (name : ℕ → EntryName) (attrs : List (Attr ℕ)) (refs old out : List ℕ) (n : ℕ)
    → AreAttrsMeant raw s refs values attrs
    → n ≡ length (without_siblings values) → out ≡ old ++ number n
    → AreLeft raw s values name attrs refs refs out (old ++ each_counted attr_label (map (attr_map name) attrs))
left_all raw s values name attrs refs old out n h count is = record {
  left = attrs;
  rest = h;
  bytes = (
      let many : n ≡ length (map (attr_map name) attrs) = count ∙ sym (as_many s (without_siblings values) attrs h.means) ∙ sym (length-map attrs (attr_map name)) in
      ap (λ (w : List ℕ). w ++ attrs_label name attrs) (is ∙ ap (λ (k : ℕ). old ++ number k) many) ∙ append_assoc old (number (length (map (attr_map name) attrs))) (attrs_label name attrs));
  ends = refl;
}

pub left_more : (raw : List RawUnit) (s : MeaningContext ℕ) (more values : List RawAttr) (name : ℕ → EntryName) (attrs : List (Attr ℕ)) (refs mid others out new all : List ℕ)
    (h : AreLeft raw s more name attrs refs mid out all)
    → TellsAttr raw s values name h.left mid others out new → AreLeft raw s values name attrs refs others new all
left_more raw s more values name attrs refs mid others out new all h t = record { left = t.left; rest = t.rest; bytes = t.bytes ∙ h.bytes; ends = t.ends ∙ h.ends }

-- what is left, as the next value and those behind it
pub left_means : (raw : List RawUnit) (s : MeaningContext ℕ) (refs : List ℕ) (values : List RawAttr) (j : ℕ) (a : RawAttr) (left : List (Attr ℕ)) → slice_get values j ≡ Some a
    → AreAttrsMeant raw s refs (drop j values) left → AreAttrsMeant raw s refs (a ∷ drop (j + 1) values) left
left_means raw s refs values j a left is h = subst (λ (w : List RawAttr). AreAttrsMeant raw s refs w left) (drop_here values j a is) h

pub left_none : (raw : List RawUnit) (s : MeaningContext ℕ) (values : List RawAttr) (j : ℕ) (name : ℕ → EntryName) (attrs : List (Attr ℕ)) (refs others out old : List ℕ) → length values ≤ j
    → AreLeft raw s (drop j values) name attrs refs others out (old ++ each_counted attr_label (map (attr_map name) attrs))
    → TellsAttrs name attrs refs others old out
left_none raw s values j name attrs refs others out old l h =
    let none = no_value raw s others h.left (subst (λ (w : List RawAttr). AreAttrsMeant raw s others w h.left) (drop_all j values l) h.rest) in
    record {
      bytes = sym (append-nil out) ∙ ap (λ (w : List (Attr ℕ)). out ++ attrs_label name w) (sym none) ∙ h.bytes;
      ends = ap (λ (w : List (Attr ℕ)). drop (length (attrs_refs w)) others) (sym none) ∙ h.ends;
    }

-- ---- the unit of a row

below_in : (f : Forest RawEntry) (unit : ℕ) (p : Position) (row : EntryRow) → In row (rows_below f unit p) → (row.unit ≡ unit) × In row.entry (preorder f)
unfolding rows_below preorder
below_in End unit p row h = absurd h
below_in (Entry e c n) unit p row (inl same) = (sym (ap (λ (w : EntryRow). w.unit) same), inl (ap (λ (w : EntryRow). w.entry) same))
below_in (Entry e c n) unit p row (inr later) = elim (in_cases row (rows_below c unit (first_below p)) (rows_below n unit (behind p c)) later) [
  | inl a ↦ let r = below_in c unit (first_below p) row a in (r.0, inr (in_left row.entry (preorder c) (preorder n) r.1))
  | inr b ↦ let r = below_in n unit (behind p c) row b in (r.0, inr (in_right row.entry (preorder c) (preorder n) r.1))
]

unit_in : (u : RawUnit) (unit before : ℕ) (row : EntryRow) → In row (rows_in u unit before) → (row.unit ≡ unit) × In row.entry (entries_of u)
unfolding preorder
unit_in u unit before row h =
    let r = below_in (Entry u.root u.below End) unit (root_position before) row h in
    (r.0, subst (λ (w : List RawEntry). In row.entry (u.root ∷ w)) (append-nil (preorder u.below)) r.1)

record IsOf (us : List RawUnit) (k : ℕ) (row : EntryRow) : Type 0 where
  pub n : ℕ
  pub u : RawUnit
  pub number : row.unit ≡ k + n
  pub is_unit : slice_get us n ≡ Some u
  pub entry : In row.entry (entries_of u)

from_in : (us : List RawUnit) (k before : ℕ) (row : EntryRow) → In row (rows_from us k before) → IsOf us k row
unfolding rows_from
from_in [] k before row h = absurd h
from_in (u ∷ us) k before row h = elim (in_cases row (rows_in u k before) (rows_from us (k + 1) (before + entry_count u)) h) [
  | inl a ↦ let r = unit_in u k before row a in record { n = 0; u = u; number = omega (arith, r.0); is_unit = refl; entry = r.1 }
  | inr b ↦ let r = from_in us (k + 1) (before + entry_count u) row b in record { n = suc r.n; u = r.u; number = omega (arith, r.number); is_unit = r.is_unit; entry = r.entry }
]

-- the entry is one of that unit
pub entry_in : (raw : List RawUnit) (i n : ℕ) (row : EntryRow) (u : RawUnit) → slice_get (rows_of raw) i ≡ Some row → row.unit ≡ n → slice_get raw n ≡ Some u → In row.entry (entries_of u)
entry_in raw i n row u found number is =
    let r = from_in raw 0 0 row (got_in (rows_of raw) i row found) in
    let same : r.n ≡ n = omega (arith, r.number, number) in
    let both : Some r.u ≡ Some u = sym r.is_unit ∙ ap (λ (k : ℕ). slice_get raw k) same ∙ is in
    let one : r.u ≡ u = cc in
    subst (λ (w : RawUnit). In row.entry (entries_of w)) one r.entry

-- ---- the line table for a value

pub line_for : (around : Around ℕ) (u : RawUnit) (tables : List FileTable) (number : Option ℕ) (e : RawEntry) (j : ℕ) (a : RawAttr) → HasLine around u tables number → In e (entries_of u)
    → slice_get e.attrs j ≡ Some a → KnowsLine (scope_of around u) a tables number
line_for around u tables None e j a h in_unit is = λ so. h e a in_unit (got_in e.attrs j a is) so
line_for around u tables (Some number) e j a h in_unit is = h
