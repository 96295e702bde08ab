-- What is written of new units, entry by entry. Copies are the entries of all new units, numbered from 0, unit by unit, and in each from
-- its root on, in preorder.
use Rattle.std.specs.Prelude.{◌≡◌, ◌≢◌, ◌<◌, ℕ, Bool, List, length, map, slice_range}
use Rattle.std.specs.List.{sum_by}
use Rattle.dwz_def_encoding.specs.Placing.{Reach, ref_form}
use Rattle.dwz_def_reading.specs.Abbrevs.{IsPlainPair}
use Rattle.dwz_def_reading.specs.Exprs.{parts_from}
use Rattle.dwz_def_reading.specs.Lists.{Each}
use Rattle.dwz_def_reading.specs.Patching.{filled}
use Rattle.dwz_def_reading.specs.Values.{HasSpelling}
use Rattle.dwz_forms.specs.RawValues.{raw_view}
use Rattle.dwz_layout.specs.Attributes.{Call, Content, Numbers, OfEntry, OfParts, OutAttr, Read, operand_numbers, stored_all}
use Rattle.dwz_expand_layout.specs.declared.entries.Content.{Content as ContentOfCode}
use Rattle.dwz_expand_layout.specs.declared.entries.Content.TheVariants.{Expression, OfCopy, Stored}
use Rattle.dwz_expand_layout.specs.declared.entries.NewAttr.{NewAttr}
use Rattle.dwz_expand_layout.specs.declared.entries.NewEntry.{NewEntry}
use Rattle.dwz_expand_layout.specs.declared.entries.NewKind.{NewKind}
use Rattle.dwz_expand_layout.specs.declared.entries.NewOperand.{NewOperand}

-- ---- what an attribute stores

-- the parts of an expression that began at a place and has these operands, and the copies that they name
abbrev pub parts_in : ℕ → List ℕ → List NewOperand → Content
parts_in start bytes operands = OfParts (parts_from start bytes (map (λ o. o.operand) operands)) (map (λ o. o.copy) operands)

-- its bytes under numbers
abbrev pub parts_page : Numbers → ℕ → List ℕ → List NewOperand → List ℕ
parts_page n start bytes operands =
    let parts = parts_from start bytes (map (λ o. o.operand) operands) in
    filled parts (operand_numbers n parts (map (λ o. o.copy) operands))

-- what is stored, where these are the operands of the entry; an entry is named by the number of a copy
abbrev pub content_view : List NewOperand → ContentOfCode → Content
content_view operands (Stored raw) = Read (raw_view raw)
content_view operands (OfCopy copy) = OfEntry copy
content_view operands (Expression e) = parts_in e.start e.bytes.now (slice_range operands e.first e.end)

abbrev pub attr_view : List NewOperand → NewAttr → OutAttr
attr_view operands a = record { pair = a.pair; content = content_view operands a.content }

-- the form can store it: that of a reference an entry, DW_FORM_exprloc (18) an expression, and DW_FORM_string (08) any bytes
abbrev pub FitsForm : ℕ → ContentOfCode → Type 0
FitsForm form (Stored raw) = form ≢ 0x08 → HasSpelling form (raw_view raw)
FitsForm form (OfCopy copy) = (r : Reach) × (form ≡ ref_form r)
FitsForm form (Expression e) = form ≡ 0x18

-- it can be declared and stored
pub record CanStore (a : NewAttr) : Type 0 where
  pub declared : IsPlainPair a.pair
  pub fits : FitsForm a.pair.form a.content

-- ---- entries

-- an entry: its tag, whether children follow, its attributes, and how many lists end behind it
pub record NewLine : Type 0 where
  pub tag : ℕ
  pub children : Bool
  pub attrs : List OutAttr
  pub ends : ℕ

abbrev pub line_view : NewEntry → NewLine
line_view e = record { tag = e.tag; children = e.children; attrs = map (attr_view e.operands.now) e.attrs.now; ends = e.ends }

-- it can be written
pub record CanWrite (e : NewEntry) : Type 0 where
  pub tag : 0 < e.tag
  pub attrs : Each CanStore e.attrs.now

-- what it stores under numbers
abbrev pub line_call : Numbers → NewLine → Call
line_call n l = record { tag = l.tag; children = l.children; attrs = stored_all n l.attrs; ends = l.ends }

-- ---- units

-- a unit, with its entries from its root on
pub record UnitLines : Type 0 where
  pub kind : NewKind
  pub lines : List NewLine

-- how many copies units have
abbrev pub line_count : List UnitLines → ℕ
line_count units = sum_by (λ (u : UnitLines). length u.lines) units
