-- What of a top's entries doesn't bind, and what is left; and its references, one after the other.
use Rattle.std.proofs.Common.{◌≡◌, ℕ, zero, suc, ◌+◌, ◌<◌, ◌≤◌, Bool, true, false, List, [], ◌∷◌, ◌++◌, Option, None, drop, take, get_or, length, map, refl, sym, ap, subst, ◌∙◌, arith}
use Rattle.std.specs.Prelude.{◌||◌, slice_index}
use Rattle.std.specs.List.{list_any}
use Rattle.std.proofs.lemmas.List.{append-nil, append_assoc, map-append}
use Rattle.dwz_def_tops.specs.Alike.{entry_binds}
use Rattle.dwz_def_tops.specs.Spots.{EntryName, Top}
use Rattle.dwz_def_reading.specs.Units.{RawUnit}
use Rattle.dwz_graph.specs.Rows.{AreRowsMeant, IsEntryMeant, node_refs}
use Rattle.dwz_graph.proofs.StepLemmas.{no_row, row}
use Rattle.dwz_groups.specs.declared.groups.Edge.{Edge}
use Rattle.dwz_def_reading.specs.Documents.{Node, node_map}
use Rattle.dwz_def_reading.specs.Meanings.{MeaningContext}
use Rattle.dwz_unit.specs.Rows.{EntryRow}
use Rattle.dwz_move.specs.Bound.{AreInto, EachInto, some_of, somes, target_of}

-- ---- entries

abbrev rows_bind : List Top → ℕ → (ℕ → EntryName) → List (Node ℕ) → Bool
rows_bind tops unit name ds = list_any (entry_binds tops unit) (map (node_map name) ds)

-- The rows from number i on mean entries, and whether one of these binds is what is asked.
pub record RowsBindLeft (raw : List RawUnit) (s : MeaningContext ℕ) (tops : List Top) (unit : ℕ) (name : ℕ
    → EntryName) (into : List (Option ℕ)) (starts : List ℕ) (i end : ℕ) (all : Bool) : Type 0 where
  pub numbers : List ℕ
  pub rows : List EntryRow
  pub after : List EntryRow
  pub ds : List (Node ℕ)
  pub meant : AreRowsMeant raw s i end numbers rows after ds
  pub tops_are : EachInto name into starts i ds
  pub asks : rows_bind tops unit name ds ≡ all

module _ (raw : List RawUnit) (s : MeaningContext ℕ) (tops : List Top) (unit : ℕ) (name : ℕ → EntryName) (into : List (Option ℕ)) (starts : List ℕ) (end : ℕ) where
  pub bind_all_rows : (first : ℕ) (numbers : List ℕ) (rows after : List EntryRow) (ds : List (Node ℕ)) → AreRowsMeant raw s first end numbers rows after ds → EachInto name into starts first ds
      → RowsBindLeft raw s tops unit name into starts first end (rows_bind tops unit name ds)
  bind_all_rows first numbers rows after ds m h = record { numbers = numbers; rows = rows; after = after; ds = ds; meant = m; tops_are = h; asks = refl }

  -- the next row
  pub record NextRowBinds (i : ℕ) (all : Bool) : Type 0 where
    pub numbers : List ℕ
    pub r : EntryRow
    pub d : Node ℕ
    pub meant : IsEntryMeant raw s i numbers r d
    pub tops_are : AreInto name (drop (slice_index starts i) into) (node_refs d)
    pub more : (b : Bool) → b ≡ entry_binds tops unit (node_map name d) → b ≡ false → RowsBindLeft raw s tops unit name into starts (i + 1) end all
    pub here : (b : Bool) → b ≡ entry_binds tops unit (node_map name d) → b ≡ true → true ≡ all

  pub bind_next_row : (i : ℕ) (all : Bool) → i < end → RowsBindLeft raw s tops unit name into starts i end all → NextRowBinds i all
  bind_next_row i all lt h =
      let n = row raw s i end h.numbers h.rows h.after h.ds lt h.meant in
      let both : EachInto name into starts i (n.d ∷ n.left) = subst (λ (ds : List (Node ℕ)). EachInto name into starts i ds) n.ds_are h.tops_are in
      let asks : (entry_binds tops unit (node_map name n.d) || rows_bind tops unit name n.left) ≡ all = sym (ap (rows_bind tops unit name) n.ds_are) ∙ h.asks in
      record {
        numbers = h.numbers;
        r = n.row;
        d = n.d;
        meant = n.entry;
        tops_are = both.0;
        more = λ b is no. record {
          numbers = drop (length (node_refs n.d)) h.numbers;
          rows = n.others;
          after = h.after;
          ds = n.left;
          meant = n.rest;
          tops_are = both.1;
          asks = (λ k. (sym no ∙ is) k || rows_bind tops unit name n.left) ∙ asks;
        };
        here = λ b is yes. (λ k. (sym yes ∙ is) k || rows_bind tops unit name n.left) ∙ asks;
      }

  pub bind_no_row : (i : ℕ) (all : Bool) → end ≤ i → RowsBindLeft raw s tops unit name into starts i end all → false ≡ all
  bind_no_row i all le h =
      let none = no_row raw s i end h.numbers h.rows h.after h.ds le h.meant in
      sym (ap (rows_bind tops unit name) none.1) ∙ h.asks

-- ---- references

somes_more : (into : List (Option ℕ)) (i : ℕ) → i < length into → somes (take (suc i) into) ≡ somes (take i into) ++ some_of (get_or into i None)
somes_more [] i l = absurd (omega arith)
somes_more (t ∷ into) zero l = append-nil (some_of t)
somes_more (t ∷ into) (suc i) l = ap (λ (ts : List ℕ). some_of t ++ ts) (somes_more into i (omega arith)) ∙ sym (append_assoc (some_of t) (somes (take i into)) (some_of (get_or into i None)))

pub targets_more : (top : ℕ) (into : List (Option ℕ)) (i : ℕ) (old now new : List Edge) → i < length into → now ≡ old ++ map (target_of top) (somes (take i into))
    → new ≡ now ++ map (target_of top) (some_of (get_or into i None)) → new ≡ old ++ map (target_of top) (somes (take (i + 1) into))
targets_more top into i old now new l e f =
    let one : suc i ≡ i + 1 = omega arith in
    f ∙ ap (λ (w : List Edge). w ++ map (target_of top) (some_of (get_or into i None))) e
    ∙ append_assoc old (map (target_of top) (somes (take i into))) (map (target_of top) (some_of (get_or into i None)))
    ∙ ap (λ (w : List Edge). old ++ w) (sym (map-append (target_of top) (somes (take i into)) (some_of (get_or into i None)))
    ∙ ap (map (target_of top)) (sym (somes_more into i l) ∙ ap (λ (k : ℕ). somes (take k into)) one))
