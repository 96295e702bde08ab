-- The rows of a unit, with the tops that its references go into.
use Rattle.std.proofs.Common.{◌≡◌, ℕ, zero, suc, ◌+◌, List, [], ◌∷◌, ◌++◌, Option, length, drop, Some, Ok, slice_get, refl, sym, ap, ◌∙◌, arith}
use Rattle.std.specs.Prelude.{slice_index}
use Rattle.std.proofs.lemmas.List.{append_assoc, drop_at, length-append}
use Rattle.dwz_def_tops.specs.Alike.{any_attr}
use Rattle.dwz_def_tops.specs.Spots.{EntryName}
use Rattle.dwz_def_reading.specs.Entries.{root_position}
use Rattle.dwz_def_reading.specs.Trees.{End, Entry}
use Rattle.dwz_def_reading.specs.Units.{RawUnit, entry_count}
use Rattle.dwz_graph.specs.Rows.{AreRowsMeant, RowsMean, nodes}
use Rattle.dwz_graph.proofs.PartLemmas.{part_meant, rows_unit}
use Rattle.dwz_graph.proofs.TreeLemmas.{tree_means}
use Rattle.dwz_def_reading.specs.Documents.{DwUnit, Node, unit_map}
use Rattle.dwz_def_reading.specs.Meanings.{Around, scope_of}
use Rattle.dwz_def_reading.specs.Meant.{unit_meaning}
use Rattle.dwz_def_reading.proofs.UnitMeans.{root_is}
use Rattle.dwz_unit.specs.declared.rows.RawUnit.{RawUnit as UnitOfCode}
use Rattle.dwz_unit.specs.Rows.{EntryRow, rows_from, rows_in, rows_of, shown_from, shown_units, unit_shown}
use Rattle.dwz_unit.proofs.ShownLemmas.{rows_in-length}
use Rattle.dwz_move.specs.Bound.{EachInto}
use Rattle.dwz_move.specs.Known.{KnowsRefs, in_unit}
use Rattle.dwz_move.proofs.FileSteps.{each_into}
use Rattle.dwz_move.proofs.MarkSteps.{Test}
use Rattle.dwz_move.proofs.RowMarks.{rows_said}
use Rattle.dwz_move.proofs.TreeBinds.{any_whole}

-- ---- where a unit's rows stand

pub record UnitRows (all : List EntryRow) (raw : List RawUnit) (k before n : ℕ) (x : UnitOfCode) : Type 0 where
  pub u : RawUnit
  pub is_unit : slice_get raw n ≡ Some u
  pub front : List EntryRow
  pub after : List EntryRow
  pub rows : all ≡ front ++ (rows_in u (k + n) x.first ++ after)
  pub many : before + length front ≡ x.first

pub rows_at : (raw : List RawUnit) (k before n : ℕ) (x : UnitOfCode) → slice_get (shown_from raw before) n ≡ Some x → UnitRows (rows_from raw k before) raw k before n x
unfolding shown_from rows_from
rows_at [] k before n x e = absurd cc
rows_at (u ∷ raw) k before zero x e =
    let is : unit_shown before u ≡ x = cc in
    let first : before ≡ x.first = ap (λ (w : UnitOfCode). w.first) is in
    let z : k ≡ k + 0 = omega arith in record {
      u = u;
      is_unit = refl;
      front = [];
      after = rows_from raw (k + 1) (before + entry_count u);
      rows = (λ i. rows_in u (z i) (first i) ++ rows_from raw (k + 1) (before + entry_count u));
      many = omega arith;
    }
rows_at (u ∷ raw) k before (suc n) x e =
    let r = rows_at raw (k + 1) (before + entry_count u) n x e in
    let here = rows_in u k before in
    let len = rows_in-length u k before in
    let many = r.many in
    let both = length-append here r.front in
    let z : k + 1 + n ≡ k + suc n = omega arith in record {
      u = r.u;
      is_unit = r.is_unit;
      front = here ++ r.front;
      after = r.after;
      rows = ap (λ (w : List EntryRow). here ++ w) (r.rows ∙ ap (λ (j : ℕ). r.front ++ (rows_in r.u j x.first ++ r.after)) z)
          ∙ sym (append_assoc here r.front (rows_in r.u (k + suc n) x.first ++ r.after));
      many = omega arith;
    }

-- ---- a unit that means something

module _ (around : Around ℕ) (raw : List RawUnit) (name : ℕ → EntryName) (refs starts : List ℕ) (into : List (Option ℕ)) (knows : KnowsRefs around raw name refs starts into) (n : ℕ) (u : RawUnit)
    (v : DwUnit ℕ) (x : UnitOfCode) (is_unit : slice_get raw n ≡ Some u) (means : unit_meaning around u ≡ Ok v) (shown : slice_get (shown_units raw) n ≡ Some x) (end : ℕ)
    (to : x.first + entry_count u ≡ end) where
  abbrev pub there : UnitRows (rows_of raw) raw 0 0 n x
  there = rows_at raw 0 0 n x shown

  same_u : there.u ≡ u
  same_u = let q : Some there.u ≡ Some u = sym there.is_unit ∙ is_unit in cc

  abbrev rows : List EntryRow
  rows = rows_in u n x.first

  abbrev ds : List (Node ℕ)
  ds = nodes (Entry v.root v.below End)

  found : drop x.first (rows_of raw) ≡ rows ++ there.after
  found =
      let z : 0 + n ≡ n = omega arith in
      let many : length there.front ≡ x.first = (let m = there.many in omega arith) in
      ap (drop x.first) (there.rows ∙ (λ i. there.front ++ (rows_in (same_u i) (z i) x.first ++ there.after))) ∙ drop_at there.front (rows ++ there.after) x.first many

  rows_mean : RowsMean (scope_of around u) rows ds
  rows_mean = tree_means (scope_of around u) (Entry u.root u.below End) (Entry v.root v.below End) n (root_position x.first) (root_is around u v means)

  pub unit_meant : AreRowsMeant raw (scope_of around u) x.first end (drop (slice_index starts x.first) refs) rows there.after ds
  unit_meant = part_meant around raw refs starts knows.parted knows.entries n u is_unit x.first end rows there.after ds (rows_unit (Entry u.root u.below End) n (root_position x.first)) found
      (let many = rows_in-length u n x.first in omega arith) rows_mean

  pub unit_into : EachInto name into starts x.first ds
  unit_into = each_into around raw name refs starts into knows n u is_unit x.first rows there.after ds (rows_unit (Entry u.root u.below End) n (root_position x.first)) found rows_mean

  pub unit_said : (test : Test) (t : ℕ) → rows_said test name ds t ≡ in_unit (any_attr (test t)) (unit_map name v)
  unit_said test t = sym (any_whole (any_attr (test t)) name v.root v.below)
