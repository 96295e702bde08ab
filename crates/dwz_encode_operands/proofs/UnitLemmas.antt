-- The rows of a unit, and units one after the other.
use Rattle.std.proofs.Common.{◌≡◌, ℕ, zero, suc, ◌+◌, ◌≤◌, List, [], ◌∷◌, ◌++◌, drop, get_or, length, map, Option, None, Some, Ok, slice_get, refl, sym, ap, ◌∙◌, arith}
use Rattle.std.proofs.lemmas.List.{append-nil, drop_all, drop_at, map-append}
use Rattle.std.proofs.lemmas.List.Concat.{flat_map-append}
use Rattle.dwz_def_reading.specs.Reading.{◌>>=◌}
use Rattle.dwz_def_reading.specs.Entries.{RawEntry, root_position}
use Rattle.dwz_def_reading.specs.Trees.{End, Entry, Forest, Position, behind, first_below}
use Rattle.dwz_def_reading.specs.Units.{RawUnit, entry_count}
use Rattle.dwz_def_reading.proofs.PartLemmas.{bind_ok}
use Rattle.dwz_def_reading.proofs.ListFacts.{drop_here}
use Rattle.dwz_graph.specs.Rows.{RowsMean, nodes, nodes_refs}
use Rattle.dwz_graph.proofs.TreeLemmas.{tree_means, tree_refs}
use Rattle.dwz_def_reading.specs.declared.exprs.Operand.{Operand}
use Rattle.dwz_def_reading.specs.Documents.{DwUnit}
use Rattle.dwz_def_reading.specs.Meanings.{Around, MeaningContext, scope_of, without_siblings}
use Rattle.dwz_def_reading.specs.Meant.{unit_meaning, unit_then, units_meaning}
use Rattle.dwz_def_reading.proofs.UnitMeans.{root_is}
use Rattle.dwz_encode_operands.specs.First.{first_over, first_of_two}
use Rattle.dwz_encode_operands.specs.Narrow.{FirstPlace, number_by}
use Rattle.dwz_encode_operands.specs.Walked.{NotesOperands, row_operands, rows_operands}
use Rattle.dwz_encode_operands.proofs.FirstLemmas.{Noted, first_so, noted_end, noted_some}
use Rattle.dwz_def_output.specs.Refusals.{all_of_unit, operands_of_attrs, operands_of_entries, operands_of_unit, operands_of_units}
use Rattle.dwz_graph.specs.Named.{attrs_refs, entries_refs, unit_refs, units_refs}
use Rattle.dwz_graph.specs.Resolved.{IsUnitHere}
use Rattle.dwz_graph.specs.Here.{Here}
use Rattle.dwz_graph.proofs.UnitThere.{same_unit}
use Rattle.dwz_unit.proofs.UnitThere.{unit_there}
use Rattle.dwz_unit.specs.declared.rows.RawUnit.{RawUnit as UnitOfCode}
use Rattle.dwz_unit.specs.Rows.{EntryRow, rows_below, rows_in, rows_of, shown_units}
use Rattle.dwz_unit.proofs.ShownLemmas.{rows_in-length}

-- ---- trees and rows

rows_are : (s : MeaningContext ℕ) (f : Forest RawEntry) (unit : ℕ) (p : Position) → rows_operands s (rows_below f unit p) ≡ operands_of_entries s f
unfolding rows_below operands_of_entries
rows_are s End unit p = refl
rows_are s (Entry e c n) unit p =
    ap (λ (w : List Operand). operands_of_attrs s (without_siblings e.attrs) ++ w)
    (flat_map-append (row_operands s) (rows_below c unit (first_below p)) (rows_below n unit (behind p c)) ∙ (λ i. rows_are s c unit (first_below p) i ++ rows_are s n unit (behind p c) i))

unit_rows : (around : Around ℕ) (u : RawUnit) (unit first : ℕ) → rows_operands (scope_of around u) (rows_in u unit first) ≡ operands_of_unit around u
unfolding operands_of_entries
unit_rows around u unit first =
    let s = scope_of around u in
    rows_are s (Entry u.root u.below End) unit (root_position first)
    ∙ ap (λ (w : List Operand). operands_of_attrs s (without_siblings u.root.attrs) ++ w) (append-nil (operands_of_entries s u.below))

refs_of : (v : DwUnit ℕ) → nodes_refs (nodes (Entry v.root v.below End)) ≡ unit_refs v
unfolding entries_refs
refs_of v = tree_refs (Entry v.root v.below End) ∙ ap (λ (w : List ℕ). attrs_refs v.root.attrs ++ w) (append-nil (entries_refs v.below))

-- ---- a unit

pub record UnitNotes (around : Around ℕ) (raw : List RawUnit) (u : RawUnit) (v : DwUnit ℕ) (h : Here) : Type 0 where
  pub rows : List EntryRow
  pub after_them : List EntryRow
  pub found : drop h.first (rows_of raw) ≡ rows ++ after_them
  pub count : h.first + length rows ≡ h.end
  pub means : RowsMean (scope_of around u) rows (nodes (Entry v.root v.below End))
  pub operands : rows_operands (scope_of around u) rows ≡ operands_of_unit around u
  pub refs : nodes_refs (nodes (Entry v.root v.below End)) ≡ unit_refs v

pub unit_notes : (around : Around ℕ) (raw : List RawUnit) (n : ℕ) (x : UnitOfCode) (u : RawUnit) (v : DwUnit ℕ) (h : Here) → slice_get raw n ≡ Some u
    → unit_meaning around u ≡ Ok v → slice_get (shown_units raw) n ≡ Some x → IsUnitHere raw n x h → UnitNotes around raw u v h
unit_notes around raw n x u v h is_unit means shown here =
    let place = unit_there raw n x shown in
    let own : here.u ≡ u = same_unit raw n here.u u here.is_unit is_unit in
    let same : place.u ≡ u = same_unit raw n place.u u place.is_unit is_unit in
    let rows = rows_in u place.unit x.first in
    let many : length place.before ≡ x.first = (let m = place.many in omega arith) in
    let long = rows_in-length u place.unit x.first in
    let first = here.first in
    let end : h.end ≡ x.first + entry_count u = here.end ∙ ap (λ (w : RawUnit). x.first + entry_count w) own in
    record {
      rows = rows;
      after_them = place.after;
      found = ap (λ (k : ℕ). drop k (rows_of raw)) here.first
          ∙ ap (drop x.first) (place.rows ∙ ap (λ (w : RawUnit). place.before ++ (rows_in w place.unit x.first ++ place.after)) same)
          ∙ drop_at place.before (rows ++ place.after) x.first many;
      count = omega arith;
      means = tree_means (scope_of around u) (Entry u.root u.below End) (Entry v.root v.below End) place.unit (root_position x.first) (root_is around u v means);
      operands = unit_rows around u place.unit x.first;
      refs = refs_of v;
    }

pub unit_noted : (around : Around ℕ) (raw : List RawUnit) (u : RawUnit) (v : DwUnit ℕ) (h : Here) (n : UnitNotes around raw u v h) (after : ℕ → ℕ) (old new : Option ℕ) (more left : List ℕ)
    → NotesOperands after u.at (rows_operands (scope_of around u) n.rows) old new more left → NotesOperands after u.at (operands_of_unit around u) old new more left
unit_noted around raw u v h n after old new more left k =
    record { first = k.first ∙ ap (λ (w : List Operand). first_of_two old (first_over (number_by after) (all_of_unit u.at w))) n.operands; behind = k.behind }

-- ---- units

module _ (around : Around ℕ) (after : ℕ → ℕ) (raw : List RawUnit) where
  pub record UnitsLeft (n : ℕ) (now : Option ℕ) (left : List ℕ) : Type 0 where
    pub said : List (DwUnit ℕ)
    pub means : units_meaning around (drop n raw) ≡ Ok said
    pub targets : left ≡ map after (units_refs said)
    pub noted : Noted (number_by after) None (operands_of_units around raw) now (operands_of_units around (drop n raw))

  pub units_all : (said : List (DwUnit ℕ)) (targets : List ℕ) → units_meaning around raw ≡ Ok said → targets ≡ map after (units_refs said) → UnitsLeft 0 None targets
  units_all said targets means are = record { said = said; means = means; targets = are; noted = refl }

  pub units_more : (n : ℕ) (u : RawUnit) (now new : Option ℕ) (left rest_left : List ℕ) → slice_get raw n ≡ Some u → UnitsLeft n now left
      → ((v : DwUnit ℕ) (more : List ℕ) → unit_meaning around u ≡ Ok v → left ≡ map after (unit_refs v) ++ more → NotesOperands after u.at (operands_of_unit around u) now new more rest_left)
      → UnitsLeft (n + 1) new rest_left
  unfolding units_meaning operands_of_units
  units_more n u now new left rest_left is h notes =
      let rest = drop (n + 1) raw in
      let split : drop n raw ≡ u ∷ rest = drop_here raw n u is in
      let m = ap (units_meaning around) (sym split) ∙ h.means in
      let x = bind_ok (unit_meaning around u) (λ v. units_meaning around rest >>= unit_then v) h.said m in
      let y = bind_ok (units_meaning around rest) (unit_then x.0) h.said x.2 in
      let made : x.0 ∷ y.0 ≡ h.said = cc in
      let targets : left ≡ map after (unit_refs x.0) ++ map after (units_refs y.0) = h.targets ∙ ap (λ (w : List (DwUnit ℕ)). map after (units_refs w)) (sym made)
      ∙ map-append after (unit_refs x.0) (units_refs y.0) in
      let k = notes x.0 (map after (units_refs y.0)) x.1 targets in
      record {
        said = y.0;
        means = y.1;
        targets = k.behind;
        noted = noted_some (number_by after) (operands_of_units around raw) (operands_of_units around (drop n raw)) (all_of_unit u.at (operands_of_unit around u)) (operands_of_units around rest) None
            now new
            (ap (operands_of_units around) split) k.first h.noted;
      }

  pub units_end : (n : ℕ) (now : Option ℕ) (left : List ℕ) → length raw ≤ n → UnitsLeft n now left → FirstPlace (number_by after) (operands_of_units around raw) now
  unfolding operands_of_units
  units_end n now left le h =
      first_so (number_by after) (operands_of_units around raw) now
      (noted_end (number_by after) (operands_of_units around raw) (operands_of_units around (drop n raw)) None now (ap (operands_of_units around) (drop_all n raw le)) h.noted)

-- ---- what is found by a number

-- the place after of the unit with a number
pub place_of : (f : RawUnit → ℕ) (raw : List RawUnit) (n : ℕ) (u : RawUnit) (places : List ℕ) → places ≡ map f raw → slice_get raw n ≡ Some u → get_or places n 0 ≡ f u
place_of f raw n u places are is = ap (λ (w : List ℕ). get_or w n 0) are ∙ by raw n is where
  by : (us : List RawUnit) (k : ℕ) → slice_get us k ≡ Some u → get_or (map f us) k 0 ≡ f u
  by [] k e = absurd cc
  by (w ∷ us) zero e = (let same : w ≡ u = cc in ap f same)
  by (w ∷ us) (suc k) e = by us k e
