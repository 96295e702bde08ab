-- Entries that are told, row by row.
use Rattle.std.proofs.Common.{◌≡◌, ℕ, ◌+◌, ◌-◌, ◌<◌, ◌≤◌, List, [], ◌∷◌, ◌++◌, refl, sym, subst, ◌∙◌}
use Rattle.std.proofs.lemmas.List.{append-nil, append_assoc}
use Rattle.dwz_def_reading.specs.Documents.{Node, node_map}
use Rattle.dwz_def_reading.specs.Lists.{Each}
use Rattle.dwz_def_reading.specs.Meanings.{MeaningContext}
use Rattle.dwz_def_reading.specs.Units.{RawUnit}
use Rattle.dwz_def_tops.specs.Spots.{EntryName}
use Rattle.dwz_graph.specs.Rows.{AreRowsMeant, IsEntryMeant, NextRow}
use Rattle.dwz_graph.proofs.StepLemmas.{no_row, row}
use Rattle.dwz_label_marks.specs.Marks.{Mark, node_marks}
use Rattle.dwz_label_marks.specs.Told.{Adds, Keeps}
use Rattle.dwz_label_words.specs.Told.{AreUsual, IsUsual, TellsEntry, rows_marks}
use Rattle.dwz_label_marks.proofs.AddsLemmas.{adds_both, adds_kept, adds_none}
use Rattle.dwz_unit.specs.Rows.{EntryRow}

module _ (raw : List RawUnit) (s : MeaningContext ℕ) (name : ℕ → EntryName) (n end : ℕ) (after : List EntryRow) (old : List ℕ) (all : List Mark) where
  -- some entries were told, and the others are left
  pub record RowsLeft (i : ℕ) (numbers : List ℕ) (names : List (List ℕ)) (out : List ℕ) : Type 0 where
    pub rows : List EntryRow
    pub ds : List (Node ℕ)
    pub own : Each (λ row. row.unit ≡ n) rows
    pub are : AreRowsMeant raw s i end numbers rows after ds
    pub usual_are : Each AreUsual ds
    pub told : List Mark
    pub marks : Adds names told old out
    pub whole : told ++ rows_marks name i rows ds ≡ all

  pub record RowNext (i : ℕ) (numbers : List ℕ) (names : List (List ℕ)) (out : List ℕ) : Type 0 where
    pub row : EntryRow
    pub d : Node ℕ
    pub own : row.unit ≡ n
    pub entry : IsEntryMeant raw s i numbers row d
    pub usual_are : Each IsUsual d.attrs
    pub more : (others new : List ℕ) (names' : List (List ℕ)) → Keeps names names' → TellsEntry name (row.end - i - 1) d names' numbers others out new
        → RowsLeft (i + 1) others names' new

  from_row : (i : ℕ) (numbers : List ℕ) (names : List (List ℕ)) (out : List ℕ) (rows : List EntryRow) (ds : List (Node ℕ)) (told : List Mark)
      (x : NextRow raw s i end numbers rows after ds) → Each (λ row. row.unit ≡ n) (x.row ∷ x.others) → Each AreUsual (x.d ∷ x.left) → Adds names told old out
      → told ++ rows_marks name i (x.row ∷ x.others) (x.d ∷ x.left) ≡ all → RowNext i numbers names out
  unfolding rows_marks
  from_row i numbers names out rows ds told x own usual marks whole =
      let here = node_marks (x.row.end - i - 1) (node_map name x.d) in
      let rest = rows_marks name (i + 1) x.others x.left in
      record {
        row = x.row;
        d = x.d;
        own = own.0;
        entry = x.entry;
        usual_are = usual.0;
        more = λ others new names' k t. record {
          rows = x.others;
          ds = x.left;
          own = own.1;
          are = subst (λ (w : List ℕ). AreRowsMeant raw s (i + 1) end w x.others after x.left) (sym t.ends) x.rest;
          usual_are = usual.1;
          told = told ++ here;
          marks = adds_both names' told here old out new (adds_kept names names' told old out k marks) t.marks;
          whole = append_assoc told here rest ∙ whole;
        };
      }

  pub next : (i : ℕ) (numbers : List ℕ) (names : List (List ℕ)) (out : List ℕ) → i < end → RowsLeft i numbers names out → RowNext i numbers names out
  next i numbers names out lt h =
      let x = row raw s i end numbers h.rows after h.ds lt h.are in
      from_row i numbers names out h.rows h.ds h.told x (subst (λ (w : List EntryRow). Each (λ row. row.unit ≡ n) w) x.rows_are h.own)
      (subst (λ (w : List (Node ℕ)). Each AreUsual w) x.ds_are h.usual_are) h.marks
      ((λ k. h.told ++ rows_marks name i (sym x.rows_are k) (sym x.ds_are k)) ∙ h.whole)

  pub done : (i : ℕ) (numbers : List ℕ) (names : List (List ℕ)) (out : List ℕ) → end ≤ i → RowsLeft i numbers names out → Adds names all old out
  unfolding rows_marks
  done i numbers names out le h =
      let e = no_row raw s i end numbers h.rows after h.ds le h.are in
      let same = sym (append-nil h.told) ∙ (λ k. h.told ++ rows_marks name i (sym e.0 k) (sym e.1 k)) ∙ h.whole in
      subst (λ (m : List Mark). Adds names m old out) same h.marks

pub begin : (raw : List RawUnit) (s : MeaningContext ℕ) (name : ℕ → EntryName) (n i end : ℕ) (numbers : List ℕ) (rows after : List EntryRow) (ds : List (Node ℕ)) (names : List (List ℕ))
    (old : List ℕ) → Each (λ row. row.unit ≡ n) rows → AreRowsMeant raw s i end numbers rows after ds → Each AreUsual ds
    → RowsLeft raw s name n end after old (rows_marks name i rows ds) i numbers names old
begin raw s name n i end numbers rows after ds names old own are usual = record {
  rows = rows;
  ds = ds;
  own = own;
  are = are;
  usual_are = usual;
  told = [];
  marks = adds_none names old;
  whole = refl;
}
