-- Entries row by row.
use Rattle.std.proofs.Common.{◌≡◌, ℕ, ◌+◌, ◌-◌, ◌<◌, ◌≤◌, List, ◌∷◌, ◌++◌, map, sym, ap, subst, ◌∙◌}
use Rattle.std.proofs.lemmas.List.{append-nil, append_assoc}
use Rattle.dwz_def_tops.specs.Spots.{EntryName}
use Rattle.dwz_label_entries.specs.Sources.{TellsAttrs, TellsEntry, rows_label}
use Rattle.dwz_def_reading.specs.Units.{RawUnit}
use Rattle.dwz_graph.specs.Rows.{AreRowsMeant, IsEntryMeant, NextRow}
use Rattle.dwz_graph.proofs.StepLemmas.{no_row, row}
use Rattle.dwz_label.specs.Labels.{attr_label, each_counted, node_label, number}
use Rattle.dwz_def_reading.specs.Documents.{Node, attr_map, node_map}
use Rattle.dwz_def_reading.specs.Meanings.{MeaningContext}
use Rattle.dwz_def_reading.specs.Lists.{Each}
use Rattle.dwz_unit.specs.Rows.{EntryRow}

-- an entry: how many are below it, its tag, its attributes
pub entry_told : (name : ℕ → EntryName) (below tag : ℕ) (d : Node ℕ) (refs others old one two new : List ℕ) → one ≡ old ++ number below → two ≡ one ++ number tag → d.tag ≡ tag
    → TellsAttrs name d.attrs refs others two new → TellsEntry name below d refs others old new
entry_told name below tag d refs others old one two new is_one is_two tagged t =
    let said = each_counted attr_label (map (attr_map name) d.attrs) in
    record {
      bytes = t.bytes ∙ ap (λ (w : List ℕ). w ++ said) (is_two ∙ ap (λ (w : List ℕ). w ++ number tag) is_one ∙ ap (λ (n : ℕ). (old ++ number below) ++ number n) (sym tagged))
          ∙ append_assoc (old ++ number below) (number d.tag) said ∙ append_assoc old (number below) (number d.tag ++ said);
      ends = t.ends;
    }

-- the entries that are left
pub record RowsLeft (raw : List RawUnit) (s : MeaningContext ℕ) (name : ℕ → EntryName) (n i end : ℕ) (numbers : List ℕ) (after : List EntryRow) (out all : List ℕ) : Type 0 where
  pub rows : List EntryRow
  pub ds : List (Node ℕ)
  pub own : Each (λ row. row.unit ≡ n) rows
  pub are : AreRowsMeant raw s i end numbers rows after ds
  pub bytes : out ++ rows_label name i rows ds ≡ all

pub record RowNext (raw : List RawUnit) (s : MeaningContext ℕ) (name : ℕ → EntryName) (n i end : ℕ) (numbers : List ℕ) (after : List EntryRow) (out all : List ℕ) : Type 0 where
  pub row : EntryRow
  pub d : Node ℕ
  pub own : row.unit ≡ n
  pub entry : IsEntryMeant raw s i numbers row d
  pub more : (others new : List ℕ) → TellsEntry name (row.end - i - 1) d numbers others out new → RowsLeft raw s name n (i + 1) end others after new all

from_row : (raw : List RawUnit) (s : MeaningContext ℕ) (name : ℕ → EntryName) (n i end : ℕ) (numbers : List ℕ) (after : List EntryRow) (out all : List ℕ) (rows : List EntryRow) (ds : List (Node ℕ))
    (x : NextRow raw s i end numbers rows after ds) → Each (λ row. row.unit ≡ n) (x.row ∷ x.others)
    → out ++ rows_label name i (x.row ∷ x.others) (x.d ∷ x.left) ≡ all → RowNext raw s name n i end numbers after out all
unfolding rows_label
from_row raw s name n i end numbers after out all rows ds x own bytes = record {
  row = x.row;
  d = x.d;
  own = own.0;
  entry = x.entry;
  more = λ others new t. record {
    rows = x.others;
    ds = x.left;
    own = own.1;
    are = subst (λ (w : List ℕ). AreRowsMeant raw s (i + 1) end w x.others after x.left) (sym t.ends) x.rest;
    bytes = (
        let here = node_label (x.row.end - i - 1) (node_map name x.d) in
        let rest = rows_label name (i + 1) x.others x.left in
        ap (λ (w : List ℕ). w ++ rest) t.bytes ∙ append_assoc out here rest ∙ bytes);
  };
}

pub next : (raw : List RawUnit) (s : MeaningContext ℕ) (name : ℕ → EntryName) (n i end : ℕ) (numbers : List ℕ) (after : List EntryRow) (out all : List ℕ) → i < end
    → RowsLeft raw s name n i end numbers after out all → RowNext raw s name n i end numbers after out all
next raw s name n i end numbers after out all lt h =
    let x = row raw s i end numbers h.rows after h.ds lt h.are in
    from_row raw s name n i end numbers after out all h.rows h.ds x (subst (λ (w : List EntryRow). Each (λ row. row.unit ≡ n) w) x.rows_are h.own)
    ((λ k. out ++ rows_label name i (sym x.rows_are k) (sym x.ds_are k)) ∙ h.bytes)

pub done : (raw : List RawUnit) (s : MeaningContext ℕ) (name : ℕ → EntryName) (n i end : ℕ) (numbers : List ℕ) (after : List EntryRow) (out all : List ℕ) → end ≤ i
    → RowsLeft raw s name n i end numbers after out all → out ≡ all
unfolding rows_label
done raw s name n i end numbers after out all le h =
    let e = no_row raw s i end numbers h.rows after h.ds le h.are in
    sym (append-nil out) ∙ (λ k. out ++ rows_label name i (sym e.0 k) (sym e.1 k)) ∙ h.bytes
