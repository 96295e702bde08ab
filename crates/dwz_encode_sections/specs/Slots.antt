-- Slots of `.debug_str_offsets` that name texts which were pruned (DWARF 5, 7.26).
use Rattle.std.specs.Prelude.{ℕ, List, All, Contains, IsSome}
use Rattle.std.specs.Option.{unwrap_or}
use Rattle.dwz_def_reading.specs.Lists.{In}
use Rattle.dwz_def_reading.specs.Texts.{text_at}
use Rattle.dwz_strs.specs.Pruned.{IsPruned, Pruning, moved_in}
use Rattle.dwz_def_encoding.specs.Pruned.{AreNewSlots, known_slots, slot_after, slot_uses}

-- the new number of a use, and of any other number the same
abbrev pub moved_or_same : Pruning → ℕ → ℕ
moved_or_same p n = unwrap_or (moved_in p n) n

-- Where the uses name texts, and the numbers of all slots that do are among them, just these slots have new numbers.
abbrev pub SlotsLaw : Type 0
SlotsLaw =
    (strs offsets uses new : List ℕ) (p : Pruning) → IsPruned strs uses p → All (λ used. IsSome (text_at strs used)) uses
    → ((n : ℕ) → In n (slot_uses strs offsets (known_slots offsets)) → Contains uses n)
    → AreNewSlots (moved_or_same p) (known_slots offsets) offsets new
    → AreNewSlots (slot_after strs uses) (known_slots offsets) offsets new
