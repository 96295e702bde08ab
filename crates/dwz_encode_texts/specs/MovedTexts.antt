-- Texts that have moved, since just those stay that are used.
use Rattle.std.specs.Prelude.{◌≡◌, ℕ, List, None, Some, Contains}
use Rattle.std.specs.List.{flat_map}
use Rattle.dwz_def_reading.specs.Lists.{In}
use Rattle.dwz_def_reading.specs.Pruning.{new_number}
use Rattle.dwz_def_reading.specs.Documents.{Attr, Node, node_map}
use Rattle.dwz_def_tops.specs.Spaces.{space_text}
use Rattle.dwz_def_tops.specs.Spots.{EntryName, name_of}
use Rattle.dwz_strs.specs.Pruned.{IsPruned, Pruning}
use Rattle.dwz_unit.specs.Rows.{EntryRow, rows_of}
use Rattle.dwz_encode_sections.specs.Slots.{moved_or_same}
use Rattle.dwz_def_encoding.specs.Placing.{UnitForms}
use Rattle.dwz_layout.specs.declared.known.EntryTable.{EntryTable}
use Rattle.dwz_layout.specs.declared.known.SpaceRow.{SpaceRow}
use Rattle.dwz_layout.specs.declared.known.TextAt.{TextAt}
use Rattle.dwz_layout.specs.declared.known.TextAt.TheVariants.{Own, Pooled, Shared}
use Rattle.dwz_layout.specs.declared.walk.Origin.TheVariants.{Read as OfRow}
use Rattle.dwz_layout.specs.declared.ways.Rewrite.TheVariants.{AsText}
use Rattle.dwz_layout.specs.Attributes.{WritingContext, plain_pair, space_attrs}
use Rattle.dwz_layout.specs.Entries.{row}
use Rattle.dwz_layout.specs.Known.{rows_in, text_at, text_held}
use Rattle.dwz_layout.specs.Ways.{rewrite_of}
use Rattle.dwz_law_layout.specs.Knows.{EachFrom, FileRead, IsRead, IsText, firsts_at, name_attr, texts_in}
use Rattle.dwz_encode_texts.specs.Used.{origin_uses, out_uses}

-- a text of the file itself at its new place, where it is a use, and any other where it was
abbrev pub moved_text : Pruning → TextAt → TextAt
moved_text p (Own offset) = Own (moved_or_same p offset)
moved_text p (Shared offset) = Shared offset
moved_text p (Pooled offset) = Pooled offset

-- each text of the file has moved
abbrev pub HaveMoved : Pruning → ℕ → (k moved : EntryTable) → Type 0
HaveMoved p file k moved = (j : ℕ) → text_at moved file j ≡ moved_text p (text_at k file j)

-- where it is written anew, and stands in the file itself, it is a use
abbrev pub IsUse : List ℕ → UnitForms EntryName → Attr EntryName → TextAt → Type 0
IsUse uses ft a t = rewrite_of ft.holder (plain_pair a.name a.form) ≡ AsText → (offset : ℕ) → t ≡ Own offset → Contains uses offset

-- a text of a unit of the common file, whose texts get no new numbers
abbrev pub IsPooled : TextAt → Type 0
IsPooled (Own offset) = ⊥
IsPooled (Shared offset) = ⊥
IsPooled (Pooled offset) = Unit {0}

-- in any other unit a text that stands where the definition of forms says, and is a use, stands where its new number says once it has moved
abbrev pub TextMovedLaw : Type 0
TextMovedLaw =
    (strs uses : List ℕ) (p : Pruning) → IsPruned strs uses p → (ft : UnitForms EntryName) (a : Attr EntryName) (t : TextAt)
    → IsText ft None a t → IsUse uses ft a t → (IsPooled t → ⊥) → IsText ft (Some (new_number strs uses)) a (moved_text p t)

-- so do the texts of an entry, of which all that is written uses these
abbrev pub EntryMovedLaw : Type 0
EntryMovedLaw =
    (strs uses : List ℕ) (p : Pruning) → IsPruned strs uses p → (k moved : EntryTable) (f : FileRead) → HaveMoved p f.number k moved
    → rows_in k f.number ≡ rows_of f.raw → (here : WritingContext) (ft : UnitForms EntryName) → ft.holder ≡ here.holder
    → (i : ℕ) (r : EntryRow) (d : Node ℕ) → IsRead f i r d
    → ((n : ℕ) → In n (origin_uses k here (OfRow (row f.number i))) → Contains uses n)
    → EachFrom (λ j a. IsText ft None a (text_at k f.number j)) (firsts_at k f i).text (texts_in (node_map f.after d).attrs)
    → EachFrom (λ j a. IsPooled (text_at k f.number j) → ⊥) (firsts_at k f i).text (texts_in (node_map f.after d).attrs)
    → EachFrom (λ j a. IsText ft (Some (new_number strs uses)) a (text_at moved f.number j)) (firsts_at k f i).text
    (texts_in (node_map f.after d).attrs)

-- so does the name of a space, of which all that is written uses these
abbrev pub NameMovedLaw : Type 0
NameMovedLaw =
    (strs uses : List ℕ) (p : Pruning) → IsPruned strs uses p → (k : EntryTable) (f : FileRead) → rows_in k f.number ≡ rows_of f.raw
    → (ft : UnitForms EntryName) (space : SpaceRow) (i : ℕ) (r : EntryRow) (d : Node ℕ) (text : List ℕ) → space.row ≡ row f.number i
    → IsRead f i r d
    → space_text d ≡ Some text → ((n : ℕ) → In n (flat_map out_uses (space_attrs k ft.holder space)) → Contains uses n)
    → IsText ft None (name_attr (name_of text d)) (text_held ft.holder space) → (IsPooled (text_held ft.holder space) → ⊥)
    → IsText ft (Some (new_number strs uses)) (name_attr (name_of text d)) (moved_text p (text_held ft.holder space))
