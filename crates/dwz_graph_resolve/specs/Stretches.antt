-- What the values of units that stand one behind the other name, read as if these were alone.
use Rattle.std.specs.Prelude.{◌≡◌, ℕ, ◌-◌, ◌≤◌, List, ◌++◌, drop, length, map, slice_range, take, Ok}
use Rattle.dwz_def_reading.specs.Shared.{NamedList}
use Rattle.dwz_def_reading.specs.Units.{RawUnit, entries_in}
use Rattle.dwz_graph_resolve.specs.declared.lists.Lists.{Lists}
use Rattle.dwz_graph_resolve.specs.declared.stretches.Stretch.{Stretch}
use Rattle.dwz_graph_resolve.specs.declared.surroundings.Surroundings.{Surroundings}
use Rattle.dwz_graph_resolve.specs.ListRows.{Shows, raised}
use Rattle.dwz_graph_resolve.specs.Named.{found, units_named}
use Rattle.dwz_graph_resolve.specs.Parts.{GoesOn, HaveLines}
use Rattle.dwz_graph_resolve.specs.Surroundings.{AreAmong, around_in, common_view, place_among}

-- the values of these units name that
pub record IsStretch (s : Surroundings) (raw : List RawUnit) (file : ℕ) (x : Stretch) : Type 0 where
  pub order : x.first ≤ x.end
  pub within : x.end ≤ length raw
  pub lists : List NamedList
  pub named : units_named (around_in s raw) (slice_range raw x.first x.end)
      ≡ Ok (found (map (place_among (common_view s.common) raw) x.refs.items) lists)
  pub among : AreAmong (common_view s.common) raw x.refs.items
  pub starts : GoesOn (around_in s raw) raw (entries_in (take x.first raw)) (entries_in (take x.end raw)) x.refs.items x.starts.items
  pub lines : HaveLines (around_in s raw) (drop x.first raw) (x.end - x.first) x.tables.items x.lines.items
  pub shows : Shows raw file lists x.lists

-- these are all units
pub record IsWhole (s : Surroundings) (raw : List RawUnit) (file : ℕ) (x : Stretch) : Type 0 where
  pub stretch : IsStretch s raw file x
  pub first : x.first ≡ 0
  pub end : x.end ≡ length raw

-- lists, and others behind them
pub record JoinsLists (front next both : Lists) : Type 0 where
  pub rows : both.rows.items ≡ front.rows.items ++ map (raised (length front.operands.items)) next.rows.items
  pub operands : both.operands.items ≡ front.operands.items ++ next.operands.items
  pub slots : both.slots.items ≡ front.slots.items ++ next.slots.items
