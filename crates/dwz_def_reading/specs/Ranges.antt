-- Sets of address ranges (DWARF 5, 6.1.2): which units they are of.
use Rattle.std.specs.Prelude.{◌≡◌, ◌≢◌, ◌⊎◌, ℕ, ◌+◌, ◌<◌, ◌≤◌, Bool, true, false, List, length, Result, Ok, ◌==◌, ◌||◌, not, nat_lt}
use Rattle.dwz_model.specs.declared.fault.Fault.{Fault}
use Rattle.dwz_model.specs.declared.fault.Reason.TheVariants.{BadAranges}
use Rattle.dwz_bytes.specs.Input.{Input, past}
use Rattle.dwz_bytes.specs.Reading.{◌>>=◌}
use Rattle.dwz_def_reading.specs.Entries.{unless_so}
use Rattle.dwz_def_reading.specs.Sequences.{BehindItems, FaultAt, Reader, Spelling, SpellsAll, WithBytes, all_at}
use Rattle.dwz_def_reading.specs.Units.{field}

-- where a set begins, and the offset of its unit
pub record RangeSet : Type 0 where
  pub at : ℕ
  pub unit : ℕ

-- unit_length, version, debug_info_offset
abbrev pub set_length : List ℕ → ℕ
set_length bytes = field 0 4 bytes

abbrev pub set_version : List ℕ → ℕ
set_version bytes = field 4 2 bytes

abbrev pub set_unit : List ℕ → ℕ
set_unit bytes = field 6 4 bytes

-- a set of version 2 whose unit is one of those asked for; its ranges aren't read
pub record SpellsSet (is_unit : ℕ → Bool) (set : RangeSet) (start : ℕ) (bytes : List ℕ) : Type 0 where
  pub place : set.at ≡ start
  pub whole : set_length bytes + 4 ≡ length bytes
  pub some : 8 ≤ set_length bytes
  pub version : set_version bytes ≡ 2
  pub unit : set.unit ≡ set_unit bytes
  pub known : is_unit (set_unit bytes) ≡ true

-- `.debug_aranges` is a row of sets without gaps
abbrev pub SpellsSets : (ℕ → Bool) → Spelling (List RangeSet)
SpellsSets is_unit = SpellsAll (SpellsSet is_unit)

abbrev pub bad_ranges : ℕ → Fault
bad_ranges at = record { section = 8; at = at; reason = BadAranges }

abbrev pub is_bad_set : (ℕ → Bool) → List ℕ → Bool
is_bad_set is_unit bytes =
    nat_lt (length bytes) 4
    || (nat_lt (length bytes) (set_length bytes + 4)
    || (nat_lt (set_length bytes) 8
    || (not (set_version bytes == 2)
    || not (is_unit (set_unit bytes)))))

abbrev pub set_of : Input → Unit {0} → Result (RangeSet × Input) Fault
set_of i good = Ok (record { at = i.at; unit = set_unit i.rest }, past (set_length i.rest + 4) i)

unfoldable pub set_at : (ℕ → Bool) → Reader RangeSet
set_at is_unit i = unless_so (is_bad_set is_unit i.rest) (bad_ranges i.at) >>= set_of i

abbrev pub sets_at : (ℕ → Bool) → Input → Result (List RangeSet) Fault
sets_at is_unit i = all_at (set_at is_unit) i

-- the set isn't whole, is too short, is of another version, or its unit is none of those
abbrev pub IsBadSet : (ℕ → Bool) → List ℕ → Type 0
IsBadSet is_unit bytes =
    (length bytes < 4)
    ⊎ ((length bytes < set_length bytes + 4)
    ⊎ ((set_length bytes < 8)
    ⊎ ((set_version bytes ≢ 2)
    ⊎ (is_unit (set_unit bytes) ≡ false))))

abbrev pub IsSetFault : (ℕ → Bool) → FaultAt
IsSetFault is_unit start bytes f = (f ≡ bad_ranges start) × IsBadSet is_unit bytes

-- sets stand there, and the one behind them is bad
abbrev pub IsSetsFault : (ℕ → Bool) → FaultAt
IsSetsFault is_unit = BehindItems (SpellsSet is_unit) (WithBytes (IsSetFault is_unit))
