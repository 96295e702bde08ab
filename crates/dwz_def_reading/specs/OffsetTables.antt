-- String offsets tables (DWARF 5, 7.26): where their slots are.
use Rattle.std.specs.Prelude.{◌≡◌, ℕ, zero, suc, ◌+◌, ◌-◌, ◌*◌, ◌/◌, ◌%◌, List, [], ◌∷◌, ◌++◌, length, take, drop, Bool, ◌==◌, ◌&&◌, nat_le}
use Rattle.std.specs.Prelude.{if◌then◌else◌, Option, Some, None}
use Rattle.std.specs.Option.{option_map}
use Rattle.dwz_bytes.specs.Spelling.{SpellsFixed, le_value}
use Rattle.dwz_def_reading.specs.Parts.{Then}

-- ---- how they are spelled

-- A contribution with so many slots: its length without these four bytes, version 5, two bytes of padding, and the slots.
pub record SpellsContribution (bytes : List ℕ) (count : ℕ) : Type 0 where
  pub len : List ℕ
  pub len_is : SpellsFixed 4 len (4 + 4 * count)
  pub version : List ℕ
  pub version_is_5 : SpellsFixed 2 version 5
  pub padding : List ℕ
  pub padding_is : length padding ≡ 2
  pub slots : List ℕ
  pub slots_are : length slots ≡ 4 * count
  pub parts : bytes ≡ len ++ (version ++ (padding ++ slots))

-- contributions without gaps, with so many slots each
abbrev pub SpellContributions : List ℕ → List ℕ → Type 0
SpellContributions [] bytes = bytes ≡ []
SpellContributions (count ∷ counts) bytes = Then (λ front. SpellsContribution front count) (SpellContributions counts) bytes

-- so many places from one on, four bytes apart
abbrev pub places_from : ℕ → ℕ → List ℕ
places_from at zero = []
places_from at (suc count) = at ∷ places_from (at + 4) count

-- where the slots of contributions are, of which the first begins at a place: behind the eight bytes of its header
abbrev pub slot_places : ℕ → List ℕ → List ℕ
slot_places at [] = []
slot_places at (count ∷ counts) = places_from (at + 8) count ++ slot_places (at + (8 + 4 * count)) counts

-- the section is a row of contributions, and these are the places of its slots
abbrev pub AreSlots : List ℕ → List ℕ → Type 0
AreSlots section places = (counts : List ℕ) × SpellContributions counts section × (places ≡ slot_places 0 counts)

-- ---- how they are read

-- how many bytes a contribution says that follow its length
abbrev pub size_at : List ℕ → ℕ
size_at bytes = le_value (take 4 bytes)

-- whether a contribution stands at the front
unfoldable pub is_contribution : List ℕ → Bool
is_contribution bytes =
    nat_le 8 (length bytes)
    && (le_value (take 2 (drop 4 bytes)) == 5
    && (nat_le 4 (size_at bytes)
    && (size_at bytes % 4 == 0
    && nat_le (4 + size_at bytes) (length bytes))))

-- how many slots it has then
unfoldable pub count_at : List ℕ → ℕ
count_at bytes = (size_at bytes - 4) / 4

-- the numbers of slots of contributions up to the end, of which there are no more than that
unfoldable pub counts_in : ℕ → List ℕ → Option (List ℕ)
counts_in most [] = Some []
counts_in zero (b ∷ rest) = None
counts_in (suc most) (b ∷ rest) =
    let bytes = b ∷ rest in
    if is_contribution bytes then option_map (λ counts. count_at bytes ∷ counts) (counts_in most (drop (8 + 4 * count_at bytes) bytes)) else
    None

-- where the slots of a section are, if it is a row of contributions
abbrev pub slots_in : List ℕ → Option (List ℕ)
slots_in section = option_map (slot_places 0) (counts_in (length section) section)
