-- A file that may have been written by this tool, and the common file beside which it was read: what they say, and where it stands.
use Rattle.std.specs.Prelude.{◌≡◌, ◌⊎◌, ℕ, Bool, List, [], ◌∷◌, get_or, map, unwrap_or, Option, Some, None, ◌==◌, ◌&&◌, if◌then◌else◌, slice_get}
use Rattle.dwz_def_reading.specs.Documents.{Doc, DwUnit}
use Rattle.dwz_def_reading.specs.declared.exprs.Operand.{Operand}
use Rattle.dwz_def_reading.specs.Entries.{RawAttr, RawEntry}
use Rattle.dwz_def_reading.specs.Files.{Limits, ReadsBy, limits_after, no_files_before}
use Rattle.dwz_def_reading.specs.Finished.{GivenCommon, rule_of_back, rule_of_common}
use Rattle.dwz_def_reading.specs.FirstOf.{of_first, ◌or◌}
use Rattle.dwz_def_reading.specs.Meanings.{Around, MeaningContext, scope_of, without_siblings}
use Rattle.dwz_def_reading.specs.NamedLists.{list_of_attr}
use Rattle.dwz_def_reading.specs.Places.{Place}
use Rattle.dwz_def_reading.specs.Rules.{ReadingRule}
use Rattle.dwz_def_reading.specs.Shared.{NamedList, own_operands}
use Rattle.dwz_def_reading.specs.Trees.{End, Entry, Forest}
use Rattle.dwz_def_reading.specs.Units.{RawUnit}
use Rattle.dwz_def_output.specs.Refusals.{operands_of_attr}
use Rattle.dwz_def_cross.specs.Tops.{WithCommon}
use Rattle.dwz_def_expand.specs.Refusals.{Where}

-- a file: its bytes, its units as they are stored, and what it says
pub record FileRead : Type 0 where
  pub bytes : List ℕ
  pub raw : List RawUnit
  pub doc : Doc Place

-- a file with the number 0, and the common file with the number 1, where one is given
pub record OneFile : Type 0 where
  pub file : FileRead
  pub common : Option FileRead

-- ---- how they are read

abbrev pub given_common : Option FileRead → Option GivenCommon
given_common None = None
given_common (Some c) = Some (record { number = 1; bytes = c.bytes; units = c.raw })

abbrev pub rule_for : OneFile → ℕ → ReadingRule Place
rule_for f number = if number == 0 then rule_of_back (given_common f.common) 0 else rule_of_common number

-- the common file is read first
abbrev pub CommonReads : Option FileRead → Type 0
CommonReads None = Unit {0}
CommonReads (Some c) = ReadsBy (rule_of_common 1) no_files_before c.bytes c.raw c.doc

abbrev pub limits_behind : Option FileRead → Limits
limits_behind None = no_files_before
limits_behind (Some c) = limits_after no_files_before c.bytes c.raw

pub record ReadsOne (f : OneFile) : Type 0 where
  pub common : CommonReads f.common
  pub file : ReadsBy (rule_for f 0) (limits_behind f.common) f.file.bytes f.file.raw f.file.doc

-- ---- what they say

abbrev pub units_read : Option FileRead → List (DwUnit Place)
units_read None = []
units_read (Some c) = c.doc.units

abbrev pub said_by_file : OneFile → WithCommon Place
said_by_file f = record { own = f.file.doc.units; common = units_read f.common }

abbrev pub same_place : Place → Place → Bool
same_place p q = p.file == q.file && p.at == q.at

-- ---- where values stand

-- the file with a number, and what surrounds its units
abbrev pub part : OneFile → ℕ → FileRead
part f number = if number == 0 then f.file else unwrap_or f.common f.file

abbrev pub around : OneFile → ℕ → Around Place
around f number = (rule_for f number).around (part f number).bytes (part f number).raw

abbrev pub entry_if : Bool → RawEntry → Option RawEntry
entry_if b e = if b then Some e else None

-- the entry at a place
unfoldable pub stored_among : ℕ → Forest RawEntry → Option RawEntry
stored_among at End = None
stored_among at (Entry e children next) = entry_if (e.at == at) e or (stored_among at children or stored_among at next)

abbrev pub stored_in : ℕ → RawUnit → Option RawEntry
stored_in at u = entry_if (u.root.at == at) u.root or stored_among at u.below

-- an attribute as it is stored, in its unit
pub record StoredAttr : Type 0 where
  pub scope : MeaningContext Place
  pub attr : RawAttr

abbrev pub with_scope : MeaningContext Place → Option RawAttr → Option StoredAttr
with_scope s None = None
with_scope s (Some a) = Some (record { scope = s; attr = a })

abbrev pub attr_of : MeaningContext Place → ℕ → Option RawEntry → Option StoredAttr
attr_of s index None = None
attr_of s index (Some e) = with_scope s (slice_get (without_siblings e.attrs) index)

-- that of an entry with a number, where DW_AT_sibling isn't counted
unfoldable pub stored_attr : OneFile → Place → ℕ → Option StoredAttr
stored_attr f p index = of_first (λ u. attr_of (scope_of (around f p.file) u) index (stored_in p.at u)) (part f p.file).raw

-- the entry is one of the unit
abbrev pub IsStoredAmong : RawEntry → Forest RawEntry → Type 0
IsStoredAmong e End = ⊥
IsStoredAmong e (Entry d children next) = (d ≡ e) ⊎ (IsStoredAmong e children ⊎ IsStoredAmong e next)

abbrev pub IsStoredIn : RawEntry → RawUnit → Type 0
IsStoredIn e u = (u.root ≡ e) ⊎ IsStoredAmong e u.below

abbrev pub place_of_value : Option StoredAttr → ℕ
place_of_value None = 0
place_of_value (Some v) = v.attr.at

-- that of an operand with a number, or else another place
abbrev pub nth_at : List Operand → ℕ → ℕ → ℕ
nth_at operands number at = get_or (map (λ o. o.at) operands) number at

-- in `.debug_loclists` where the attribute names a list there, and else in `.debug_info`
abbrev pub named_in_attr : List NamedList → List Operand → ℕ → ℕ → (section : ℕ) × ℕ
named_in_attr [] operands number at = (1, nth_at operands number at)
named_in_attr (l ∷ lists) operands number at = (7, nth_at (own_operands l) number at)

abbrev pub where_named : Option StoredAttr → ℕ → (section : ℕ) × ℕ
where_named None number = (1, 0)
where_named (Some v) number = named_in_attr (list_of_attr v.scope v.attr) (operands_of_attr v.scope v.attr) number v.attr.at

abbrev pub stored_where : OneFile → Where Place
stored_where f = record { value = λ p index. place_of_value (stored_attr f p index); named = λ p index number. where_named (stored_attr f p index) number }
