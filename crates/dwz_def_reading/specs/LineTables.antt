-- The directories and files of a line table (DWARF 5, 6.2.4): how its header is spelled, how it is read, and what the rows of files are.
use Rattle.std.specs.Prelude.{◌≡◌, ℕ, pos, zero, suc, ◌+◌, Bool, true, false, List, [], ◌∷◌, ◌++◌, length, map, take, drop, Option, Some}
use Rattle.std.specs.Prelude.{None, Result, Ok, Err, is_some, ◌==◌, ◌&&◌, ◌||◌, not, nat_lt, if◌then◌else◌}
use Rattle.std.specs.List.{list_all}
use Rattle.dwz_model.specs.declared.fault.Fault.{Fault}
use Rattle.dwz_model.specs.declared.fault.Reason.TheVariants.{BadLineTable}
use Rattle.dwz_model.specs.declared.place.Pair.{Pair}
use Rattle.dwz_bytes.specs.Reading.{◌>>=◌, fixed_at, uleb_at}
use Rattle.dwz_bytes.specs.Spelling.{SpellsFixed, SpellsUleb, reach}
use Rattle.dwz_codes.specs.Forms.{form_rows}
use Rattle.dwz_def_reading.specs.Entries.{unless_so}
use Rattle.dwz_def_reading.specs.Exprs.{or_fault}
use Rattle.dwz_codes.specs.Rows.{has}
use Rattle.dwz_def_reading.specs.Sequences.{Both, Reader, Spelling, SpellsTimes, both_at, times_at, value_only}
use Rattle.dwz_def_reading.specs.Texts.{IsTextAt, text_at}
use Rattle.dwz_def_reading.specs.Units.{field}
use Rattle.dwz_def_reading.specs.Values.{Bytes, Number, Raw, SpellsValue, value_at}

-- the sections in which texts stand
pub record TextSections : Type 0 where
  pub strs : List ℕ
  pub line_strs : List ℕ

-- the path of each row of files, by its number, and whether a form names a text in `.debug_str`
pub record FileTable : Type 0 where
  pub paths : List (List ℕ)
  pub has_strp : Bool

-- ---- formats: what a directory or a file consists of (6.2.4.1)

-- DW_LNCT_path is 1, DW_LNCT_directory_index is 2. A path is a text that stands there or in a section; the index of a directory is a small
-- number; anything else is a text, a number or bytes
abbrev pub forms_for : ℕ → List ℕ
forms_for content =
    if content == 1 then 0x08 ∷ 0x0e ∷ 0x1f ∷ []
    else (if content == 2 then 0x0b ∷ 0x05 ∷ 0x0f ∷ []
    else 0x08 ∷ 0x0e ∷ 0x1f ∷ 0x0b ∷ 0x05 ∷ 0x06 ∷ 0x07 ∷ 0x1e ∷ 0x0f ∷ 0x0d ∷ 0x09 ∷ 0x0a ∷ 0x03 ∷ 0x04 ∷ [])

-- the name of a pair is a content type
abbrev pub is_format : Pair → Bool
is_format pair = has pair.form (forms_for pair.name)

abbrev pub format_of : ℕ → ℕ → Pair
format_of content form = record { name = content; form = form; constant = pos 0 }

-- two ULEB128 numbers
abbrev pub SpellsFormat : Spelling Pair
SpellsFormat = Both (λ n start bytes. SpellsUleb bytes n) (λ _ n start bytes. SpellsUleb bytes n) format_of

-- a value for each format, in order
abbrev pub SpellsValues : List Pair → Spelling (List Raw)
SpellsValues [] raws start bytes = (raws ≡ []) × (bytes ≡ [])
SpellsValues (pair ∷ pairs) raws start bytes = Both (λ raw start bytes. SpellsValue form_rows pair bytes raw) (λ _. SpellsValues pairs)
    (λ raw raws. raw ∷ raws) raws start bytes

-- the values with a content type, with their formats
abbrev pub with_content : ℕ → List Pair → List Raw → List (Pair × Raw)
with_content content [] raws = []
with_content content (pair ∷ pairs) [] = []
with_content content (pair ∷ pairs) (raw ∷ raws) = if pair.name == content then (pair, raw) ∷ with_content content pairs raws else
    with_content content pairs raws

-- directories or files, as they are stored
pub record Table : Type 0 where
  pub formats : List Pair
  pub rows : List (List Raw)

abbrev pub table_with : List Pair → List (List Raw) → Table
table_with formats rows = record { formats = formats; rows = rows }

abbrev pub second : {X Y : Type 0} → X → Y → Y
second x y = y

-- a byte says how many formats follow; behind them a ULEB128 number says how many rows do
abbrev pub SpellsFormats : Spelling (List Pair)
SpellsFormats = Both (λ n start bytes. SpellsFixed 1 bytes n) (λ n. SpellsTimes SpellsFormat n) second

abbrev pub SpellsRows : List Pair → Spelling (List (List Raw))
SpellsRows formats = Both (λ n start bytes. SpellsUleb bytes n) (λ n. SpellsTimes (SpellsValues formats) n) second

abbrev pub SpellsPathTable : Spelling Table
SpellsPathTable = Both SpellsFormats SpellsRows table_with

-- the directories, and then the files
pub record Tables : Type 0 where
  pub dirs : Table
  pub files : Table

abbrev pub tables_with : Table → Table → Tables
tables_with dirs files = record { dirs = dirs; files = files }

abbrev pub SpellsTables : Spelling Tables
SpellsTables = Both SpellsPathTable (λ _. SpellsPathTable) tables_with

-- ---- what rows say

-- the text of a value: one that stands there, or at an offset, in `.debug_str` with DW_FORM_strp, else in `.debug_line_str`
abbrev pub IsValueText : TextSections → ℕ → Raw → List ℕ → Type 0
IsValueText s form (Bytes bytes) text = text ≡ bytes
IsValueText s form (Number z) text = IsTextAt (if form == 0x0e then s.strs else s.line_strs) (reach z) text

-- the form is DW_FORM_strp or DW_FORM_line_strp: the value is the offset of a text (7.5.5), whatever its content type
abbrev pub is_text_offset : ℕ → Bool
is_text_offset form = form == 0x0e || form == 0x1f

-- a text stands at such an offset
abbrev pub HasItsText : TextSections → Pair → Raw → Type 0
HasItsText s pair raw = is_text_offset pair.form ≡ true → (text : List ℕ) × IsValueText s pair.form raw text

-- so it is with each value of a row, with its format
abbrev pub HaveTheirTexts : TextSections → List Pair → List Raw → Type 0
HaveTheirTexts s (pair ∷ pairs) (raw ∷ raws) = HasItsText s pair raw × HaveTheirTexts s pairs raws
HaveTheirTexts s _ _ = Unit {0}

abbrev pub index_in : Raw → ℕ
index_in (Number z) = reach z
index_in (Bytes bytes) = 0

-- the index of a directory, and 0 where there is none
abbrev pub first_index : List (Pair × Raw) → ℕ
first_index [] = 0
first_index (x ∷ xs) = index_in x.1

-- there is one at most, and it names one of so many directories
abbrev pub are_indexes : ℕ → List (Pair × Raw) → Bool
are_indexes dirs [] = true
are_indexes dirs (x ∷ []) = nat_lt (index_in x.1) dirs
are_indexes dirs (x ∷ y ∷ xs) = false

-- a row of directories or files: its path, and the number of its directory
pub record PathRow : Type 0 where
  pub path : List ℕ
  pub dir : ℕ

-- all its texts stand, those that are passed over too; one path, and no more than one index, which names one of so many directories
pub record SaysRow (s : TextSections) (dirs : ℕ) (formats : List Pair) (raws : List Raw) (row : PathRow) : Type 0 where
  pub texts : HaveTheirTexts s formats raws
  pub named : Pair × Raw
  pub one_path : with_content 1 formats raws ≡ named ∷ []
  pub path : IsValueText s named.0.form named.1 row.path
  pub indexes : are_indexes dirs (with_content 2 formats raws) ≡ true
  pub dir : row.dir ≡ first_index (with_content 2 formats raws)

abbrev pub SayRows : TextSections → ℕ → List Pair → List (List Raw) → List PathRow → Type 0
SayRows s dirs formats [] [] = Unit {0}
SayRows s dirs formats (raws ∷ table) (row ∷ rows) = SaysRow s dirs formats raws row × SayRows s dirs formats table rows
SayRows s dirs formats _ _ = ⊥

-- a path in a directory: a path that begins with a slash stands for itself
abbrev pub begins_with_slash : List ℕ → Bool
begins_with_slash [] = false
begins_with_slash (b ∷ path) = b == 0x2f

abbrev pub is_no_path : List ℕ → Bool
is_no_path [] = true
is_no_path (b ∷ path) = false

abbrev pub join : List ℕ → List ℕ → List ℕ
join dir path = if begins_with_slash path || is_no_path dir then path else dir ++ 0x2f ∷ path

abbrev pub dir_path : List PathRow → ℕ → List ℕ
dir_path [] n = []
dir_path (row ∷ rows) zero = row.path
dir_path (row ∷ rows) (suc n) = dir_path rows n

-- the first directory is the one in which the unit was compiled; the others are seen from there
abbrev pub full_path : List PathRow → PathRow → List ℕ
full_path dirs row = if row.dir == 0 then join (dir_path dirs 0) row.path else join (join (dir_path dirs 0) (dir_path dirs row.dir))
    row.path

-- each form is one for its content; there is a directory wherever there is a file
abbrev pub are_formats : Tables → Bool
are_formats t = list_all is_format t.dirs.formats
    && (list_all is_format t.files.formats && (not (nat_lt 0 (length t.files.rows)) || nat_lt 0 (length t.dirs.rows)))

abbrev pub names_strs : List Pair → Bool
names_strs [] = false
names_strs (pair ∷ pairs) = pair.form == 0x0e || names_strs pairs

pub record SaysTable (s : TextSections) (t : Tables) (f : FileTable) : Type 0 where
  pub formats : are_formats t ≡ true
  pub dirs : List PathRow
  pub dirs_say : SayRows s (length t.dirs.rows) t.dirs.formats t.dirs.rows dirs
  pub files : List PathRow
  pub files_say : SayRows s (length t.dirs.rows) t.files.formats t.files.rows files
  pub made : f ≡ record { paths = map (full_path dirs) files; has_strp = names_strs t.dirs.formats || names_strs t.files.formats }

-- ---- the header (6.2.4), for the 32-bit format (7.4)

abbrev pub line_length : List ℕ → ℕ
line_length bytes = field 0 4 bytes

abbrev pub header_length : List ℕ → ℕ
header_length bytes = field 8 4 bytes

abbrev pub opcode_base : List ℕ → ℕ
opcode_base bytes = field 17 1 bytes

-- the length is one of the 32-bit format, and the unit is whole, with its header; version, address_size, segment_selector_size; the
-- opcodes begin with another one than 0
abbrev pub is_header : List ℕ → Bool
is_header bytes =
    nat_lt (line_length bytes) 0xfffffff0
    && (not (nat_lt (length bytes) (line_length bytes + 4))
    && (not (nat_lt (line_length bytes + 4) (header_length bytes + 12))
    && (field 4 2 bytes == 5
    && (field 6 1 bytes == 8
    && (field 7 1 bytes == 0
    && not (opcode_base bytes == 0))))))

-- Behind the lengths of the standard opcodes, of which there is one less than opcode_base says, the tables stand. What the header's
-- length says is counted from byte 12, and the unit's from byte 4.
abbrev pub tables_begin : List ℕ → ℕ
tables_begin bytes = 17 + opcode_base bytes

abbrev pub of_header : List ℕ → List ℕ
of_header bytes = take (12 + header_length bytes) (take (4 + line_length bytes) bytes)

abbrev pub tables_bytes : List ℕ → List ℕ
tables_bytes bytes = drop (tables_begin bytes) (of_header bytes)

-- the tables stand at the front of these bytes
pub record BeginsWith {X : Type 0} (Spells : Spelling X) (start : ℕ) (bytes : List ℕ) (x : X) : Type 0 where
  pub front : List ℕ
  pub rest : List ℕ
  pub spelled : Spells x start front
  pub parts : bytes ≡ front ++ rest

-- a line table stands at a place of `.debug_line`
pub record IsFileTable (s : TextSections) (line : List ℕ) (place : ℕ) (f : FileTable) : Type 0 where
  pub header : is_header (drop place line) ≡ true
  pub tables : Tables
  pub stand : BeginsWith SpellsTables (tables_begin (drop place line)) (tables_bytes (drop place line)) tables
  pub says : SaysTable s tables f

-- ---- reading; there is but one fault

abbrev pub bad_line_table : ℕ → Fault
bad_line_table place = record { section = 6; at = place; reason = BadLineTable }

abbrev pub uleb_or : Fault → Reader ℕ
uleb_or bad i = or_fault bad (uleb_at i)

abbrev pub byte_or : Fault → Reader ℕ
byte_or bad i = or_fault bad (fixed_at 1 i)

abbrev pub format_at : Fault → Reader Pair
format_at bad = both_at (uleb_or bad) (λ _. uleb_or bad) format_of

unfoldable pub values_at : List Pair → Reader (List Raw)
values_at [] i = Ok ([], i)
values_at (pair ∷ pairs) i = both_at (value_at form_rows pair) (λ _. values_at pairs) (λ raw raws. raw ∷ raws) i

abbrev pub formats_at : Fault → Reader (List Pair)
formats_at bad = both_at (byte_or bad) (λ n. times_at (format_at bad) n) second

abbrev pub rows_at : Fault → List Pair → Reader (List (List Raw))
rows_at bad formats = both_at (uleb_or bad) (λ n. times_at (values_at formats) n) second

abbrev pub path_table_at : Fault → Reader Table
path_table_at bad = both_at (formats_at bad) (rows_at bad) table_with

unfoldable pub tables_at : Fault → Reader Tables
tables_at bad = both_at (path_table_at bad) (λ _. path_table_at bad) tables_with

abbrev pub value_text : TextSections → ℕ → Raw → Option (List ℕ)
value_text s form (Bytes bytes) = Some bytes
value_text s form (Number z) = text_at (if form == 0x0e then s.strs else s.line_strs) (reach z)

abbrev pub has_its_text : TextSections → Pair → Raw → Bool
has_its_text s pair raw = not (is_text_offset pair.form) || is_some (value_text s pair.form raw)

abbrev pub have_their_texts : TextSections → List Pair → List Raw → Bool
have_their_texts s (pair ∷ pairs) (raw ∷ raws) = has_its_text s pair raw && have_their_texts s pairs raws
have_their_texts s _ _ = true

abbrev pub or_bad : {X : Type 0} → Fault → Option X → Result X Fault
or_bad bad None = Err bad
or_bad bad (Some x) = Ok x

-- the path of a row that has just one
abbrev pub row_path : TextSections → List (Pair × Raw) → Option (List ℕ)
row_path s [] = None
row_path s (x ∷ []) = value_text s x.0.form x.1
row_path s (x ∷ y ∷ xs) = None

abbrev pub row_with : ℕ → List ℕ → Result PathRow Fault
row_with dir path = Ok (record { path = path; dir = dir })

abbrev pub row_after : TextSections → Fault → List Pair → List Raw → Unit {0} → Result PathRow Fault
row_after s bad formats raws good = or_bad bad (row_path s (with_content 1 formats raws)) >>= row_with
    (first_index (with_content 2 formats raws))

abbrev pub row_said : TextSections → Fault → ℕ → List Pair → List Raw → Result PathRow Fault
row_said s bad dirs formats raws =
    unless_so (not (have_their_texts s formats raws && are_indexes dirs (with_content 2 formats raws))) bad
    >>= row_after s bad formats raws

abbrev pub with_row : PathRow → List PathRow → Result (List PathRow) Fault
with_row row rows = Ok (row ∷ rows)

unfoldable pub rows_said : TextSections → Fault → ℕ → List Pair → List (List Raw) → Result (List PathRow) Fault
rows_said s bad dirs formats [] = Ok []
rows_said s bad dirs formats (raws ∷ table) = row_said s bad dirs formats raws >>= λ row. rows_said s bad dirs formats table >>= with_row
    row

abbrev pub file_table : Tables → List PathRow → List PathRow → Result FileTable Fault
file_table t dirs files = Ok (record {
  paths = map (full_path dirs) files;
  has_strp = names_strs t.dirs.formats
      || names_strs t.files.formats;
})

abbrev pub files_after : TextSections → Fault → Tables → List PathRow → Result FileTable Fault
files_after s bad t dirs = rows_said s bad (length t.dirs.rows) t.files.formats t.files.rows >>= file_table t dirs

abbrev pub dirs_after : TextSections → Fault → Tables → Unit {0} → Result FileTable Fault
dirs_after s bad t good = rows_said s bad (length t.dirs.rows) t.dirs.formats t.dirs.rows >>= files_after s bad t

abbrev pub table_said : TextSections → Fault → Tables → Result FileTable Fault
table_said s bad t = unless_so (not (are_formats t)) bad >>= dirs_after s bad t

abbrev pub tables_after : TextSections → Fault → List ℕ → Unit {0} → Result FileTable Fault
tables_after s bad bytes good = tables_at bad (record { at = tables_begin bytes; rest = tables_bytes bytes }) >>= value_only >>= table_said
    s bad

-- the first fault, whichever it is
abbrev pub any_table : TextSections → Fault → List ℕ → Result FileTable Fault
any_table s bad bytes = unless_so (not (is_header bytes)) bad >>= tables_after s bad bytes

abbrev pub one_fault : {X : Type 0} → Fault → Result X Fault → Result X Fault
one_fault bad (Ok x) = Ok x
one_fault bad (Err f) = Err bad

-- the line table at a place
unfoldable pub file_table_at : TextSections → List ℕ → ℕ → Result FileTable Fault
file_table_at s line place = one_fault (bad_line_table place) (any_table s (bad_line_table place) (drop place line))

-- none stands there
abbrev pub IsNoFileTable : TextSections → List ℕ → ℕ → Type 0
IsNoFileTable s line place = (f : FileTable) → IsFileTable s line place f → ⊥

-- the path with a number
unfoldable pub nth_path : List (List ℕ) → ℕ → Option (List ℕ)
nth_path [] n = None
nth_path (path ∷ paths) zero = Some path
nth_path (path ∷ paths) (suc n) = nth_path paths n
