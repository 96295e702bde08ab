-- The bytes of a unit, once all entries have their places (DWARF 5, 7.5).
use Rattle.std.specs.Prelude.{ℕ, ◌-◌, suc, List, [], ◌∷◌, ◌++◌, replicate, slice_index}
use Rattle.dwz_bytes.specs.Spelling.{le_bytes, uleb}
use Rattle.dwz_layout.specs.declared.known.EntryTable.{EntryTable}
use Rattle.dwz_layout.specs.declared.layout.OutUnit.{OutUnit}
use Rattle.dwz_layout.specs.declared.order.Sort.{Sort}
use Rattle.dwz_layout.specs.declared.order.Sort.TheVariants.{Compile, OfType, Partial}
use Rattle.dwz_layout.specs.declared.order.UnitItems.{UnitItems}
use Rattle.dwz_layout.specs.Attributes.{Call, Numbers, calls_of, here_of}
use Rattle.dwz_layout.specs.Entries.{unit_entries}
use Rattle.dwz_layout.specs.Stored.{values_bytes}

-- an entry under its code, and the ends behind it
abbrev pub entry_page : ℕ → Call → List ℕ
entry_page code c = uleb code ++ (values_bytes c.attrs ++ replicate c.ends 0)

-- entries, each under the code that it was laid with
unfoldable pub entries_page : List ℕ → List Call → List ℕ
entries_page [] calls = []
entries_page (code ∷ codes) [] = []
entries_page (code ∷ codes) (c ∷ calls) = entry_page code c ++ entries_page codes calls

-- DW_UT_compile, DW_UT_type, DW_UT_partial
abbrev pub type_byte : Sort → ℕ
type_byte (Compile root) = 1
type_byte (OfType root signature main) = 2
type_byte (Partial line) = 3

-- a type unit has its signature and the offset of its type besides
abbrev pub sort_page : Numbers → Sort → List ℕ
sort_page n (OfType root signature main) = le_bytes 8 signature ++ le_bytes 4 (slice_index n.places main - n.unit)
sort_page n _ = []

-- the length without its own 4 bytes, version 5, the type, address size 8, the offset of the table
abbrev pub header_page : Numbers → Sort → OutUnit → List ℕ
header_page n sort o = le_bytes 4 (o.end - o.at - 4)
    ++ (le_bytes 2 5 ++ (type_byte sort ∷ 8 ∷ [] ++ (le_bytes 4 o.«abbrev» ++ sort_page n sort)))

-- the numbers of a unit that begins at a place
abbrev pub numbers_in : (places roots : List ℕ) → ℕ → Numbers
numbers_in places roots unit = record { places = places; roots = roots; unit = unit }

-- the unit with that number, once all is laid: of no other unit are bytes needed
abbrev pub unit_page : EntryTable → (places roots : List ℕ) → ℕ → UnitItems → OutUnit → List ℕ
unit_page k places roots here u o =
    let n = numbers_in places roots o.at in
    header_page n u.sort o ++ entries_page o.codes (calls_of k (here_of k here u.sort) n (unit_entries k u))

-- units one behind the other, the first of which has that number
unfoldable pub units_page : EntryTable → (places roots : List ℕ) → ℕ → List UnitItems → List OutUnit → List ℕ
units_page k places roots here [] outs = []
units_page k places roots here (u ∷ units) [] = []
units_page k places roots here (u ∷ units) (o ∷ outs) = unit_page k places roots here u o ++ units_page k places roots (suc here) units outs
