-- The texts on the console, as they are read there. Each line ends with a newline, which is the byte 10.
use Rattle.std.specs.Prelude.{ℕ, ◌*◌, List, [], ◌∷◌, ◌++◌, Option, Some, None, codes, decimal, get_or}
use Rattle.std.specs.List.{flat_map}
use Rattle.dwz_model.specs.declared.fault.Reason.{Reason}
use Rattle.dwz_model.specs.declared.fault.Reason.TheVariants.{NotElf, FileType, SectionTable, Compressed, NoDebugInfo, Index, Layout}
use Rattle.dwz_model.specs.declared.fault.Reason.TheVariants.{TooLarge, BadAbbrev, UnsupportedForm, Truncated, BadNumber, BadString}
use Rattle.dwz_model.specs.declared.fault.Reason.TheVariants.{BadLineTable, BadFile, BadExpr, UnsupportedOp, BadList, SharedList}
use Rattle.dwz_model.specs.declared.fault.Reason.TheVariants.{BadAranges, DwarfFormat, Version, UnitType, AddressSize, NoSuchCode, BadRoot}
use Rattle.dwz_model.specs.declared.fault.Reason.TheVariants.{TooDeep, TooMany, BadReference, BadOperand, Machine, OperandWidth, FileSize, BadSup}
use Rattle.dwz_model.specs.declared.fault.Reason.TheVariants.{Checksum, NotMovable, NotImported, NoRow, SupMissing}
use Rattle.dwz_model.specs.declared.fault.Refusal.{Refusal}
use Rattle.dwz_text.specs.Lines.{Text, hexadecimal, line}
use Rattle.dwz_report.specs.declared.summary.Summary.{Summary}

-- ---- refusals

-- the name of the section of each code, and `file` for the file itself
abbrev pub section_labels : List Text
section_labels = codes "file" ∷ codes ".debug_info" ∷ codes ".debug_abbrev" ∷ codes ".debug_str"
    ∷ codes ".debug_line_str" ∷ codes ".debug_str_offsets" ∷ codes ".debug_line" ∷ codes ".debug_loclists"
    ∷ codes ".debug_aranges" ∷ codes ".debug_sup" ∷ []

abbrev pub section_name : ℕ → Text
section_name code = get_or section_labels code []

-- the words of a reason
abbrev pub reason_words : Reason → Text
reason_words NotElf = codes "not a little-endian ELF64 file"
reason_words FileType = codes "not an executable or shared object"
reason_words SectionTable = codes "bad section table"
reason_words Compressed = codes "compressed section"
reason_words NoDebugInfo = codes "no debug information"
reason_words Index = codes "section cannot be kept"
reason_words Layout = codes "section inside loaded bytes"
reason_words TooLarge = codes "output too large"
reason_words BadAbbrev = codes "bad abbreviation"
reason_words (UnsupportedForm form) = codes "unsupported form 0x"
reason_words Truncated = codes "truncated"
reason_words BadNumber = codes "bad number"
reason_words BadString = codes "bad string"
reason_words BadLineTable = codes "bad line table"
reason_words BadFile = codes "bad file number"
reason_words BadExpr = codes "bad expression"
reason_words (UnsupportedOp op) = codes "unsupported operator 0x"
reason_words BadList = codes "bad location list"
reason_words SharedList = codes "shared location list"
reason_words BadAranges = codes "bad address ranges"
reason_words DwarfFormat = codes "64-bit or reserved unit length"
reason_words Version = codes "unit version is not 5"
reason_words UnitType = codes "unsupported unit type"
reason_words AddressSize = codes "address size is not 8"
reason_words NoSuchCode = codes "no such abbreviation"
reason_words BadRoot = codes "bad unit root"
reason_words TooDeep = codes "entries nested too deep"
reason_words TooMany = codes "too many entries"
reason_words BadReference = codes "bad reference"
reason_words BadOperand = codes "bad operand"
reason_words Machine = codes "files of different machines"
reason_words OperandWidth = codes "operand too narrow"
reason_words FileSize = codes "file too large"
reason_words BadSup = codes "bad supplementary section"
reason_words Checksum = codes "checksum differs"
reason_words NotMovable = codes "no movable entry here"
reason_words NotImported = codes "partial unit not imported"
reason_words NoRow = codes "no row for this path"
reason_words SupMissing = codes "supplementary file not given"

-- and the number behind them
abbrev pub reason_number : Reason → Text
reason_number (UnsupportedForm form) = hexadecimal form
reason_number (UnsupportedOp op) = hexadecimal op
reason_number _ = []

-- a refusal by its parts: the file's name, the section's name, the place in it, the words and the number behind them
abbrev pub refusal_line : Text → Text → Text → Text → Text → Text
refusal_line name section at words number =
    line (codes "dwz: " ∷ name ∷ codes ": " ∷ section ∷ codes "+0x" ∷ at ∷ codes ": " ∷ words ∷ number ∷ [])

-- the refusal of the file of this name
abbrev pub refusal_text : Text → Refusal → Text
refusal_text name r = refusal_line name (section_name r.section) (hexadecimal r.at) (reason_words r.reason) (reason_number r.reason)

-- ---- faults

abbrev pub read_text : Text → Text
read_text name = line (codes "dwz: cannot read " ∷ name ∷ [])

abbrev pub write_text : Text → Text
write_text name = line (codes "dwz: cannot write " ∷ name ∷ [])

abbrev pub memory_text : Text
memory_text = line (codes "dwz: out of memory" ∷ [])

abbrev pub usage_text : Text
usage_text = line (
    codes "usage: dwz [-q] [--dwarf-5] [-m COMMON [-M NAME]] [-o OUT] [-j N] FILE..."
    ∷ codes " | --demo N | --reuse COMMON [-M NAME] [-o OUT] [-j N] FILE... | --batch COMMON [-M NAME] [-j N] FILE... | --explain FILE OFFSET FILE OFFSET | --expand FILE [--sup COMMON] -o OUT | --check OLD NEW [--sup COMMON]" ∷ [])

-- ---- what was done

-- the common file, if it was put, with its length
abbrev pub common_file_text : Option (Text × ℕ) → Text
common_file_text None = []
common_file_text (Some (name, new)) = line (name ∷ codes ": " ∷ decimal new ∷ codes " bytes" ∷ [])

-- a file, its length before, and its length afterwards, if something of it moved
abbrev pub file_text : Text × ℕ × Option ℕ → Text
file_text (name, old, None) = line (name ∷ codes ": nothing moves" ∷ [])
file_text (name, old, Some new) = line (name ∷ codes ": " ∷ decimal old ∷ codes " -> " ∷ decimal new ∷ codes " bytes" ∷ [])

abbrev pub summary_text : Summary → Text
summary_text s = common_file_text s.common ++ flat_map file_text s.files

-- n units in each of two files: their bytes before and after, and the partial units
abbrev pub demo_text : ℕ → ℕ → ℕ → ℕ → Text
demo_text n before after partials =
    line (codes "demo " ∷ decimal n ∷ codes ": " ∷ decimal (2 * n) ∷ codes " units, " ∷ decimal before ∷ codes " -> " ∷ decimal after
    ∷ codes " bytes, " ∷ decimal partials ∷ codes " partial units" ∷ [])
