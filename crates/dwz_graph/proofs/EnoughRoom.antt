-- No more entries are read than there is room for: what is read behind some files is read as well where these leave more.
use Rattle.std.proofs.Common.{◌≡◌, ℕ, suc, ◌+◌, ◌≤◌, Bool, true, false, List, [], ◌∷◌, length, Ok, refl, sym, ap, subst, arith}
use Rattle.dwz_def_reading.specs.Entries.{Mode, RawEntry, UnitContext, given, root_position}
use Rattle.dwz_def_reading.specs.Trees.{End, Entry, Forest, IfChildren, Position, behind, first_below, size}
use Rattle.dwz_def_reading.specs.Units.{RawUnit, SpellsSiblings, SpellsUnit, SpellsUnits, entries_in, entry_count}
use Rattle.dwz_def_reading.specs.Documents.{Doc}
use Rattle.dwz_def_reading.specs.Files.{IsForMachine, Limits, debug_abbrev, debug_info, file_meaning, limits_after, no_files_before}
use Rattle.dwz_def_reading.proofs.FileLemmas.{file_agrees}
use Rattle.dwz_graph.specs.Ahead.{IsEnough}
use Rattle.dwz_graph.specs.Files.{AreRead}
use Rattle.dwz_graph.specs.declared.file.File.{File}
use Rattle.dwz_graph.proofs.AheadLemmas.{read_behind}
use Rattle.dwz_unit.specs.Rows.{units_of}

module _ (c : UnitContext) where
  if_room : (flag : Bool) (f : Forest RawEntry) (n : ℕ) (bytes : List ℕ) (Spelled : Type 0) → n ≤ c.mode.entries → IfChildren flag f Spelled bytes → (Spelled → n + size f ≤ c.mode.entries)
      → n + size f ≤ c.mode.entries
  if_room true f n bytes Spelled few is go = go is
  if_room false f n bytes Spelled few is go = subst (λ (g : Forest RawEntry). n + size g ≤ c.mode.entries) (sym is.0) (omega (arith, few))

  list_room : (f : Forest RawEntry) (p : Position) (start : ℕ) (bytes : List ℕ) → p.before ≤ c.mode.entries → SpellsSiblings c p f start bytes → p.before + size f ≤ c.mode.entries
  list_room End p start bytes few is = omega (arith, few)
  list_room (Entry e children next) p start bytes few is =
      let here = is.first.stands.room in
      let below = if_room e.children children (p.before + 1) is.second_bytes _ (omega (arith, here)) is.second
      (λ deep. list_room children (first_below p) (start + length is.first_bytes) is.second_bytes (omega (arith, here)) deep) in
      let rest = list_room next (behind p children) (start + length is.first_bytes + length is.second_bytes) is.third_bytes below is.third in
      omega (arith, rest)

module _ (abbrevs : List ℕ) (mode : Mode) where
  unit_room : (before : ℕ) (u : RawUnit) (start : ℕ) (bytes : List ℕ) → SpellsUnit abbrevs mode before u start bytes → before + entry_count u ≤ mode.entries
  unit_room before u start bytes is =
      let c = is.context in
      let same = ap (λ (m : Mode). m.entries) is.is_context.same_mode in
      let tree = is.is_tree in
      let here = tree.first.stands.room in
      let below = if_room c u.root.children u.below (before + 1) tree.second_bytes _ (omega (arith, here)) tree.second
      (λ deep. list_room c u.below (first_below (root_position before)) (start + length is.header + length tree.first_bytes) tree.second_bytes (omega (arith, here)) deep) in
      omega (arith, below, same)

  units_room : (before : ℕ) (units : List RawUnit) (start : ℕ) (bytes : List ℕ) → before ≤ mode.entries → SpellsUnits abbrevs mode before units start bytes → before + entries_in units ≤ mode.entries
  unfolding entries_in
  units_room before [] start bytes few is = omega (arith, few)
  units_room before (u ∷ units) start bytes few is =
      let one = unit_room before u start is.first_bytes is.first in
      let rest = units_room (before + entry_count u) units (start + length is.first_bytes) is.second_bytes one is.second in
      omega (arith, rest)

-- the one leave at least as much as the others
pub record LeaveMore (l m : Limits) : Type 0 where
  pub bytes : l.bytes ≤ m.bytes
  pub entries : l.entries ≤ m.entries
  pub machine : (k : ℕ) → IsForMachine l.machine k → IsForMachine m.machine k

pub none_leave_more : (b : List ℕ) (raw : List RawUnit) → LeaveMore (limits_after no_files_before b raw) no_files_before
none_leave_more b raw = record { bytes = omega arith; entries = omega arith; machine = λ k h. tt }

more_after : (l m : Limits) (b : List ℕ) (raw : List RawUnit) → LeaveMore l m → LeaveMore (limits_after l b raw) (limits_after m b raw)
more_after l m b raw more = (let bytes = more.bytes in let entries = more.entries in record { bytes = omega (arith, bytes); entries = omega (arith, entries); machine = λ k h. h })

is_enough : (l m : Limits) (b : List ℕ) (raw : List RawUnit) (doc : Doc ℕ) → LeaveMore l m → file_meaning l b ≡ Ok (raw, doc) → IsEnough m b raw
is_enough l m b raw doc more e =
    let r = ((file_agrees l b).ok (raw, doc)).0 e in
    let few = units_room (debug_abbrev b) (given l.entries) 0 raw 0 (debug_info b) (omega arith) r.spelled in
    let size = r.size.files in
    let bytes = more.bytes in
    let entries = more.entries in
    record {
      size = record { file = r.size.file; files = omega (arith, size, bytes) };
      machine = more.machine _ r.same_machine;
      entries = omega (arith, few, entries);
    }

pub read_before : (l m : Limits) (n : ℕ) (xs : List (List ℕ)) (fs : List File) (end : Limits) → LeaveMore l m → AreRead l n xs fs end → (last : Limits) × AreRead m n xs fs last
read_before l m n [] [] end more h = (m, refl)
read_before l m n [] (f ∷ fs) end more h = absurd h
read_before l m n (b ∷ xs) [] end more h = absurd h
read_before l m n (b ∷ xs) (f ∷ fs) end more h =
    let raw = units_of f.units in
    let rest = read_before (limits_after l b raw) (limits_after m b raw) (suc n) xs fs end (more_after l m b raw more) h.1 in
    (rest.0, (read_behind l m n b f (is_enough l m b raw h.0.doc more h.0.means) h.0, rest.1))
