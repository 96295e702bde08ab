-- How a walk over entries goes: the entries that follow each other in a file, and what comes first.
use Rattle.std.specs.Prelude.{◌≡◌, List, [], ◌∷◌, ◌++◌, slice_range, Option, Some, None, ℕ}
use Rattle.std.specs.Option.{option_map_or}
use Rattle.dwz_layout.specs.declared.known.EntryTable.{EntryTable}
use Rattle.dwz_layout.specs.declared.known.Row.{Row}
use Rattle.dwz_layout.specs.declared.order.Sort.{Sort}
use Rattle.dwz_layout.specs.declared.walk.Ahead.{Ahead}
use Rattle.dwz_layout.specs.declared.walk.Run.{Run}
use Rattle.dwz_layout.specs.declared.walk.Slot.{Slot}
use Rattle.dwz_layout.specs.Entries.{items_slots, row_slots, slots_below}
use Rattle.dwz_layout.specs.Known.{row_at, rows_in}

abbrev pub run_slots : EntryTable → Run → List Slot
run_slots k r = row_slots r.file r.depth r.base r.next (slice_range (rows_in k r.file) r.next r.end)

abbrev pub empty_run : Run
empty_run = record { file = 0; next = 0; end = 0; depth = 0; base = 0 }

-- all below an entry that stands so deep
abbrev pub below : EntryTable → ℕ → Row → List Slot
below k depth r = option_map_or (slots_below k depth r) (row_at k r) []

-- what comes behind the next entry of a unit
abbrev pub behind : EntryTable → Sort → Ahead → List Slot
behind k sort a = run_slots k a.run ++ items_slots k sort a.items.now

-- where there is no next entry, nothing comes behind it
abbrev pub IsWhole : Option Slot → List Slot → Type 0
IsWhole None rest = rest ≡ []
IsWhole (Some s) rest = Unit {0}

-- the first of them, and the others; or there is none
abbrev pub IsNext : {X : Type 0} → List X → Option X → List X → Type 0
IsNext old None new = (old ≡ []) × (new ≡ [])
IsNext old (Some x) new = old ≡ x ∷ new
