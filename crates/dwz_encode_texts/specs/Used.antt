-- The offsets of texts that are written with DW_FORM_strp (DWARF 5, 7.5.5).
use Rattle.std.specs.Prelude.{ℕ, suc, List, [], ◌∷◌, ◌++◌, ◌==◌, if◌then◌else◌}
use Rattle.std.specs.List.{flat_map}
use Rattle.dwz_def_reading.specs.Spelling.{reach}
use Rattle.dwz_def_reading.specs.Values.{Bytes, Number, Raw}
use Rattle.dwz_layout.specs.declared.known.EntryTable.{EntryTable}
use Rattle.dwz_layout.specs.declared.order.UnitItems.{UnitItems}
use Rattle.dwz_layout.specs.declared.walk.Origin.{Origin}
use Rattle.dwz_layout.specs.declared.walk.Slot.{Slot}
use Rattle.dwz_layout.specs.Attributes.{Content, OfEntry, OfParts, OfRoot, OutAttr, Read, WritingContext, attrs_of, here_of}
use Rattle.dwz_layout.specs.Entries.{items_slots}

-- of a value that is a number of that form
abbrev pub raw_uses : ℕ → Raw → List ℕ
raw_uses form (Number n) = if form == 0x0e then reach n ∷ [] else []
raw_uses form (Bytes bytes) = []

abbrev pub content_uses : ℕ → Content → List ℕ
content_uses form (Read raw) = raw_uses form raw
content_uses form (OfEntry number) = []
content_uses form (OfRoot unit) = []
content_uses form (OfParts parts numbers) = []

abbrev pub out_uses : OutAttr → List ℕ
out_uses a = content_uses a.pair.form a.content

-- of an entry that is written
abbrev pub origin_uses : EntryTable → WritingContext → Origin → List ℕ
origin_uses k here o = flat_map out_uses (attrs_of k here o)

-- of the unit with that number
abbrev pub items_uses : EntryTable → ℕ → UnitItems → List ℕ
items_uses k unit o = flat_map (λ (s : Slot). origin_uses k (here_of k unit o.sort) s.origin) (items_slots k o.sort o.items)

-- of units, the first of which has that number
unfoldable pub order_uses : EntryTable → ℕ → List UnitItems → List ℕ
order_uses k unit [] = []
order_uses k unit (o ∷ order) = items_uses k unit o ++ order_uses k (suc unit) order
