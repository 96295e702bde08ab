-- Units that are spelled have no more entries than there may be: there is room for each entry behind those before it.
use Rattle.std.proofs.Common.{ℕ, ◌+◌, ◌≤◌, Bool, true, false, List, [], ◌∷◌, length, sym, ap, subst, arith}
use Rattle.dwz_def_reading.specs.Entries.{Mode, RawEntry, SpellsFront, UnitContext, root_position}
use Rattle.dwz_def_reading.specs.Trees.{End, Entry, Forest, IfChildren, Position, SpellsForest, behind, first_below, size}
use Rattle.dwz_def_reading.specs.Units.{RawUnit, SpellsUnit, SpellsUnits, entries_in, entry_count}

module _ (c : UnitContext) where
  if_few : (b : Bool) (f : Forest RawEntry) (bytes : List ℕ) (Spelled : Type 0) (n : ℕ) → IfChildren b f Spelled bytes → n ≤ c.mode.entries → (Spelled → n + size f ≤ c.mode.entries)
      → n + size f ≤ c.mode.entries
  if_few true f bytes Spelled n is le few = few is
  if_few false f bytes Spelled n is le few = subst (λ (g : Forest RawEntry). n + size g ≤ c.mode.entries) (sym is.0) (omega arith)

  list_few : (f : Forest RawEntry) (p : Position) (start : ℕ) (bytes : List ℕ) → SpellsForest (λ e. e.children) (SpellsFront c) f p start bytes → p.before ≤ c.mode.entries
      → p.before + size f ≤ c.mode.entries
  list_few End p start bytes is le = omega arith
  list_few (Entry e children next) p start bytes is le =
      let room = is.first.stands.room in
      let below = if_few e.children children is.second_bytes _ (p.before + 1) is.second (omega arith)
      (λ q. list_few children (first_below p) (start + length is.first_bytes) is.second_bytes q (omega arith)) in
      let after = list_few next (behind p children) (start + length is.first_bytes + length is.second_bytes) is.third_bytes is.third (omega arith) in
      omega arith

unit_few : (abbrevs : List ℕ) (mode : Mode) (before : ℕ) (u : RawUnit) (start : ℕ) (bytes : List ℕ) → SpellsUnit abbrevs mode before u start bytes → before + entry_count u ≤ mode.entries
unit_few abbrevs mode before u start bytes is =
    let c = is.context in
    let t = is.is_tree in
    let room = t.first.stands.room in
    let below = if_few c u.root.children u.below t.second_bytes _ (before + 1) t.second (omega arith) (λ q. list_few c u.below (first_below (root_position before)) _ t.second_bytes q (omega arith)) in
    let same = ap (λ (m : Mode). m.entries) is.is_context.same_mode in
    omega arith

units_few_from : (abbrevs : List ℕ) (mode : Mode) (before : ℕ) (raw : List RawUnit) (start : ℕ) (bytes : List ℕ) → SpellsUnits abbrevs mode before raw start bytes → before ≤ mode.entries
    → before + entries_in raw ≤ mode.entries
unfolding entries_in
units_few_from abbrevs mode before [] start bytes is le = omega arith
units_few_from abbrevs mode before (u ∷ raw) start bytes is le =
    let one = unit_few abbrevs mode before u start is.first_bytes is.first in
    let more = units_few_from abbrevs mode (before + entry_count u) raw (start + length is.first_bytes) is.second_bytes is.second one in
    omega arith

pub units_few : (abbrevs : List ℕ) (mode : Mode) (raw : List RawUnit) (bytes : List ℕ) → SpellsUnits abbrevs mode 0 raw 0 bytes → entries_in raw ≤ mode.entries
units_few abbrevs mode raw bytes is = let r = units_few_from abbrevs mode 0 raw 0 bytes is (omega arith) in omega arith
