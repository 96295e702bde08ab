-- The root of a unit stands behind all entries of the units before it, and the unit's place is counted from the root's.
use Rattle.std.proofs.Common.{◌≡◌, ℕ, zero, suc, ◌+◌, ◌-◌, List, [], ◌∷◌, ◌++◌, Some, slice_get, refl, sym, ap, ◌∙◌, arith}
use Rattle.std.specs.Prelude.{slice_index}
use Rattle.dwz_def_reading.specs.Entries.{root_position}
use Rattle.dwz_def_reading.specs.Trees.{behind}
use Rattle.dwz_def_reading.specs.Units.{RawUnit, entry_count, header_size}
use Rattle.dwz_unit.specs.Rows.{EntryRow, rows_below, rows_from, rows_in}
use Rattle.dwz_unit.proofs.ShownLemmas.{rows_in-length}
use Rattle.dwz_graph.proofs.TopLemmas.{get_later}
use Rattle.dwz_run_files.specs.Spots.{unit_places_from}

-- the row of the root of the unit with a number, and where the unit's place is counted from
pub record HasRoot (us : List RawUnit) (unit before j : ℕ) (u : RawUnit) : Type 0 where
  pub entry : ℕ
  pub row : EntryRow
  pub found : slice_get (rows_from us unit before) entry ≡ Some row
  pub root : row.entry ≡ u.root
  pub place : (first : ℕ) (places : List ℕ)
      → slice_index (unit_places_from first places us) j ≡ slice_index places (first + entry) - header_size u.kind

pub has_root : (us : List RawUnit) (unit before j : ℕ) (u : RawUnit) → slice_get us j ≡ Some u → HasRoot us unit before j u
unfolding rows_from rows_below unit_places_from
has_root [] unit before j u e = absurd cc
has_root (w ∷ us) unit before zero u e =
    let same : w ≡ u = cc in
    record {
      entry = 0;
      row = record {
        entry = w.root;
        unit = unit;
        depth = (root_position before).depth;
        end = (behind (root_position before) w.below).before;
      };
      found = refl;
      root = ap (λ (v : RawUnit). v.root) same;
      place = λ first places.
          (let none : first ≡ first + 0 = omega arith in
          ap (λ (v : RawUnit). slice_index places first - header_size v.kind) same
          ∙ ap (λ (m : ℕ). slice_index places m - header_size u.kind) none);
    }
has_root (w ∷ us) unit before (suc j) u e =
    let o = has_root us (unit + 1) (before + entry_count w) j u e in
    let own = rows_in w unit before in
    let long = rows_in-length w unit before in
    let rest = rows_from us (unit + 1) (before + entry_count w) in
    record {
      entry = entry_count w + o.entry;
      row = o.row;
      found = ap (λ (m : ℕ). slice_get (own ++ rest) (m + o.entry)) (sym long) ∙ get_later own rest o.entry o.row o.found;
      root = o.root;
      place = λ first places.
          (let sum : first + entry_count w + o.entry ≡ first + (entry_count w + o.entry) = omega arith in
          o.place (first + entry_count w) places ∙ ap (λ (m : ℕ). slice_index places m - header_size u.kind) sum);
    }
