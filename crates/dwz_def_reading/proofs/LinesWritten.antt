-- A header that is written of paths is a line table with these paths, from row 1 on.
use Rattle.std.proofs.Common.{◌≡◌, ℕ, pos, ◌+◌, ◌<◌, ◌≤◌, ◌^◌, ◌||◌, not, Bool, true, false, List, [], ◌∷◌, ◌++◌, length, map, take, drop, cond, eqb, ltb, refl, sym, ap, subst, ◌∙◌, arith}
use Rattle.std.proofs.Common.{eq-eqb}
use Rattle.std.proofs.lemmas.List.{append-nil, append_assoc, length-append, length-map, take_all}
use Rattle.std.proofs.lemmas.Bool.{and_from, le-ltb, lt-ltb}
use Rattle.dwz_bytes.specs.Spelling.{SpellsFixed, SpellsUleb, le_bytes, uleb}
use Rattle.dwz_bytes.proofs.FixedLemmas.{fixed_written}
use Rattle.dwz_bytes.proofs.PaddedLemmas.{uleb_small, uleb_spells}
use Rattle.dwz_codes.specs.Forms.{form_rows}
use Rattle.dwz_codes.specs.Rows.{has}
use Rattle.dwz_def_reading.specs.Texts.{NoZero}
use Rattle.dwz_def_reading.specs.Units.{field}
use Rattle.dwz_def_reading.specs.Values.{Bytes, Number, Raw, SpellsValue}
use Rattle.dwz_model.specs.declared.place.Pair.{Pair}
use Rattle.dwz_def_reading.specs.LineTables.{FileTable, IsFileTable, PathRow, SayRows, SpellsFormat, SpellsFormats, SpellsPathTable, SpellsValues, Table, Tables, TextSections}
use Rattle.dwz_def_reading.specs.LineTables.{full_path, format_of, header_length, is_header, line_length, of_header, opcode_base, table_with, tables_bytes}
use Rattle.dwz_def_reading.specs.LineTables.{tables_with, are_formats, begins_with_slash}
use Rattle.dwz_def_reading.specs.LinesWritten.{AreTexts, behind_length, file_formats, header_written, one_directory, rows_bytes, standard, tables_written, with_row_0}
use Rattle.dwz_def_reading.specs.Sequences.{SpellsAll}

one_byte : (n : ℕ) → n < 128 → SpellsUleb (n ∷ []) n
one_byte n lt = subst (λ (w : List ℕ). SpellsUleb w n) (uleb_small n lt) (uleb_spells n (omega (arith, lt)))

fixed_byte : (n : ℕ) → SpellsFixed 1 (n ∷ []) n
fixed_byte n = record { len = refl; value = omega arith }

-- ---- the tables

abbrev path_format : Pair
path_format = format_of 1 8

abbrev index_format : Pair
index_format = format_of 2 0x0f

abbrev formats : List Pair
formats = path_format ∷ index_format ∷ []

abbrev row_of : List ℕ → List Raw
row_of path = Bytes path ∷ Number (pos 0) ∷ []

abbrev dirs_table : Table
dirs_table = table_with (path_format ∷ []) ((Bytes [] ∷ []) ∷ [])

abbrev files_table : List (List ℕ) → Table
files_table paths = table_with formats (map row_of paths)

-- a path that stands there
text_spelled : (path : List ℕ) → NoZero path → SpellsValue form_rows path_format (path ++ 0 ∷ []) (Bytes path)
unfolding form_rows
text_spelled path none = record { content = path; spelled = record { no_zero = none; parts = refl }; value = refl }

-- directory 0
index_spelled : SpellsValue form_rows index_format (0 ∷ []) (Number (pos 0))
unfolding form_rows
index_spelled = record { content = 0; spelled = one_byte 0 (omega arith); value = refl }

dir_spelled : (start : ℕ) → SpellsValues (path_format ∷ []) (Bytes [] ∷ []) start (0 ∷ [])
dir_spelled start = record { x = Bytes []; y = []; both = record { first_bytes = 0 ∷ []; first = text_spelled [] tt; second_bytes = []; second = (refl, refl); parts = refl }; made = refl }

row_spelled : (path : List ℕ) → NoZero path → (start : ℕ) → SpellsValues formats (row_of path) start (path ++ 0 ∷ 0 ∷ [])
row_spelled path none start = record {
  x = Bytes path;
  y = Number (pos 0) ∷ [];
  both = record {
    first_bytes = path ++ 0 ∷ [];
    first = text_spelled path none;
    second_bytes = 0 ∷ [];
    second = record { x = Number (pos 0); y = []; both = record { first_bytes = 0 ∷ []; first = index_spelled; second_bytes = []; second = (refl, refl); parts = refl }; made = refl };
    parts = sym (append_assoc path (0 ∷ []) (0 ∷ []));
  };
  made = refl;
}

rows_spelled : (paths : List (List ℕ)) → AreTexts paths → (start : ℕ) → SpellsAll (SpellsValues formats) (map row_of paths) start (rows_bytes paths)
unfolding rows_bytes
rows_spelled [] are start = refl
rows_spelled (path ∷ paths) are start = record {
  first_bytes = path ++ 0 ∷ 0 ∷ [];
  first = row_spelled path are.0 start;
  second_bytes = rows_bytes paths;
  second = rows_spelled paths are.1 _;
  parts = refl;
}

format_spelled : (content form : ℕ) → content < 128 → form < 128 → (start : ℕ) → SpellsFormat (format_of content form) start (content ∷ form ∷ [])
format_spelled content form c f start = record {
  x = content;
  y = form;
  both = record { first_bytes = content ∷ []; first = one_byte content c; second_bytes = form ∷ []; second = one_byte form f; parts = refl };
  made = refl;
}

one_format : (start : ℕ) → SpellsFormats (path_format ∷ []) start (1 ∷ 1 ∷ 8 ∷ [])
one_format start = record {
  x = 1;
  y = path_format ∷ [];
  both = record {
    first_bytes = 1 ∷ [];
    first = fixed_byte 1;
    second_bytes = 1 ∷ 8 ∷ [];
    second = (refl, record { first_bytes = 1 ∷ 8 ∷ []; first = format_spelled 1 8 (omega arith) (omega arith) _; second_bytes = []; second = refl; parts = refl });
    parts = refl;
  };
  made = refl;
}

two_formats : (start : ℕ) → SpellsFormats formats start (2 ∷ 1 ∷ 8 ∷ 2 ∷ 0x0f ∷ [])
two_formats start = record {
  x = 2;
  y = formats;
  both = record {
    first_bytes = 2 ∷ [];
    first = fixed_byte 2;
    second_bytes = 1 ∷ 8 ∷ 2 ∷ 0x0f ∷ [];
    second = (
      refl,
      record {
        first_bytes = 1 ∷ 8 ∷ [];
        first = format_spelled 1 8 (omega arith) (omega arith) _;
        second_bytes = 2 ∷ 0x0f ∷ [];
        second = record { first_bytes = 2 ∷ 0x0f ∷ []; first = format_spelled 2 0x0f (omega arith) (omega arith) _; second_bytes = []; second = refl; parts = refl };
        parts = refl;
      },
    );
    parts = refl;
  };
  made = refl;
}

dirs_spelled : (start : ℕ) → SpellsPathTable dirs_table start (1 ∷ 1 ∷ 8 ∷ 1 ∷ 0 ∷ [])
dirs_spelled start = record {
  x = path_format ∷ [];
  y = (Bytes [] ∷ []) ∷ [];
  both = record {
    first_bytes = 1 ∷ 1 ∷ 8 ∷ [];
    first = one_format start;
    second_bytes = 1 ∷ 0 ∷ [];
    second = record {
      x = 1;
      y = (Bytes [] ∷ []) ∷ [];
      both = record {
        first_bytes = 1 ∷ [];
        first = one_byte 1 (omega arith);
        second_bytes = 0 ∷ [];
        second = (refl, record { first_bytes = 0 ∷ []; first = dir_spelled _; second_bytes = []; second = refl; parts = refl });
        parts = refl;
      };
      made = refl;
    };
    parts = refl;
  };
  made = refl;
}

files_spelled : (paths : List (List ℕ)) → AreTexts paths → length paths < 2 ^ 64 → (start : ℕ)
    → SpellsPathTable (files_table paths) start (2 ∷ 1 ∷ 8 ∷ 2 ∷ 0x0f ∷ [] ++ (uleb (length paths) ++ rows_bytes paths))
files_spelled paths are few start = record {
  x = formats;
  y = map row_of paths;
  both = record {
    first_bytes = 2 ∷ 1 ∷ 8 ∷ 2 ∷ 0x0f ∷ [];
    first = two_formats start;
    second_bytes = uleb (length paths) ++ rows_bytes paths;
    second = record {
      x = length paths;
      y = map row_of paths;
      both = record {
        first_bytes = uleb (length paths);
        first = uleb_spells (length paths) few;
        second_bytes = rows_bytes paths;
        second = (length-map paths row_of, rows_spelled paths are _);
        parts = refl;
      };
      made = refl;
    };
    parts = refl;
  };
  made = refl;
}

-- ---- what they say

abbrev dir_rows : List PathRow
dir_rows = record { path = []; dir = 0 } ∷ []

abbrev file_row : List ℕ → PathRow
file_row path = record { path = path; dir = 0 }

rows_say : (s : TextSections) (paths : List (List ℕ)) → SayRows s 1 formats (map row_of paths) (map file_row paths)
rows_say s [] = tt
rows_say s (path ∷ paths) = (record { texts = ((λ e. absurd cc), ((λ e. absurd cc), tt)); named = (path_format, Bytes path); one_path = refl; path = refl; indexes = refl; dir = refl }, rows_say s paths)

or_so : (b : Bool) → (b || true) ≡ true
or_so true = refl
or_so false = refl

full_is : (path : List ℕ) → full_path dir_rows (file_row path) ≡ path
full_is path = ap (λ (b : Bool). cond b path ([] ++ 0x2f ∷ path)) (or_so (begins_with_slash path))

full_are : (paths : List (List ℕ)) → map (full_path dir_rows) (map file_row paths) ≡ paths
full_are [] = refl
full_are (path ∷ paths) = ap (λ (w : List ℕ). w ∷ map (full_path dir_rows) (map file_row paths)) (full_is path) ∙ ap (λ (w : List (List ℕ)). path ∷ w) (full_are paths)

formats_good : (paths : List (List ℕ)) → are_formats (tables_with dirs_table (files_table paths)) ≡ true
unfolding has
formats_good paths = or_so (not (ltb 0 (length (map row_of paths))))

-- ---- the header

abbrev paths_of : FileTable → List (List ℕ)
paths_of t = t.paths

rows_long : (paths : List (List ℕ)) → length paths ≤ length (rows_bytes paths)
unfolding rows_bytes
rows_long [] = omega arith
rows_long (path ∷ paths) =
    let rest = rows_long paths in
    omega (arith, rest, length-append (path ++ 0 ∷ 0 ∷ []) (rows_bytes paths), length-append path (0 ∷ 0 ∷ []))

paths_long : (paths : List (List ℕ)) → length paths ≤ length (with_row_0 paths)
paths_long [] = omega arith
paths_long (path ∷ paths) = omega arith

module _ (paths : List (List ℕ)) (some : 0 < length paths) (are : AreTexts paths) (short : length (header_written paths) < 0xfffffff0) where
  abbrev rows : List (List ℕ)
  rows = with_row_0 paths

  abbrev tables : List ℕ
  tables = tables_written paths

  abbrev bytes : List ℕ
  bytes = header_written paths

  behind_len : length (behind_length tables) ≡ length tables + 8
  unfolding le_bytes
  behind_len = omega arith

  bytes_len : length bytes ≡ length tables + 12
  unfolding le_bytes
  bytes_len = omega (arith, behind_len)

  unit_is : line_length bytes ≡ length tables + 8
  unfolding le_bytes
  unit_is = sym (fixed_written 4 (length (behind_length tables)) (omega (arith, short, bytes_len, behind_len))).value ∙ behind_len

  header_is : header_length bytes ≡ length tables
  unfolding le_bytes
  header_is = sym (fixed_written 4 (length tables) (omega (arith, short, bytes_len))).value

  version_is : field 4 2 bytes ≡ 5
  unfolding le_bytes
  version_is = refl

  address_is : field 6 1 bytes ≡ 8
  unfolding le_bytes
  address_is = refl

  segment_is : field 7 1 bytes ≡ 0
  unfolding le_bytes
  segment_is = refl

  opcode_is : opcode_base bytes ≡ 0x0d
  unfolding le_bytes standard
  opcode_is = refl

  is_header_is : is_header bytes ≡ true
  is_header_is =
      and_from _ _ (lt-ltb (line_length bytes) 0xfffffff0 (omega (arith, unit_is, short, bytes_len)))
      (and_from _ _ (ap not (le-ltb (length bytes) (line_length bytes + 4) (omega (arith, unit_is, bytes_len))))
      (and_from _ _ (ap not (le-ltb (line_length bytes + 4) (header_length bytes + 12) (omega (arith, unit_is, header_is))))
      (and_from _ _ (eq-eqb _ _ version_is)
      (and_from _ _ (eq-eqb _ _ address_is)
      (and_from _ _ (eq-eqb _ _ segment_is) (ap (λ (n : ℕ). not (eqb n 0)) opcode_is))))))

  whole : of_header bytes ≡ bytes
  whole =
      ap (take (12 + header_length bytes)) (take_all (4 + line_length bytes) bytes (omega (arith, unit_is, bytes_len)))
      ∙ take_all (12 + header_length bytes) bytes (omega (arith, header_is, bytes_len))

  abbrev fronts : List ℕ
  fronts = 1 ∷ 1 ∷ 8 ∷ 1 ∷ 0 ∷ [] ++ (2 ∷ 1 ∷ 8 ∷ 2 ∷ 0x0f ∷ [] ++ (uleb (length rows) ++ rows_bytes rows))

  behind_front : drop 30 bytes ≡ fronts
  unfolding le_bytes standard one_directory file_formats
  behind_front = refl

  tables_are : tables_bytes bytes ≡ fronts
  tables_are = ap (λ (n : ℕ). drop (17 + n) (of_header bytes)) opcode_is ∙ ap (drop 30) whole ∙ behind_front

  row_0 : (paths : List (List ℕ)) → AreTexts paths → AreTexts (with_row_0 paths)
  row_0 [] are = tt
  row_0 (path ∷ paths) are = (are.0, are)

  few_rows : length rows < 2 ^ 64
  few_rows =
      let long = rows_long rows in
      omega (arith, long, bytes_len, short, length-append ((standard ++ one_directory) ++ file_formats) (uleb (length rows) ++ rows_bytes rows), length-append (uleb (length rows)) (rows_bytes rows))

  -- there are few paths
  pub header_many : length paths < 2 ^ 32
  header_many = (let long = paths_long paths in let few = rows_long rows in omega
      (arith, long, few, bytes_len, short, length-append ((standard ++ one_directory) ++ file_formats) (uleb (length rows) ++ rows_bytes rows), length-append (uleb (length rows)) (rows_bytes rows)))

  all_tables : Tables
  all_tables = tables_with dirs_table (files_table rows)

  pub header_table : (s : TextSections) → (t : FileTable) × IsFileTable s bytes 0 t × (t.paths ≡ rows)
  unfolding all_tables
  header_table s = (
    record { paths = map (full_path dir_rows) (map file_row rows); has_strp = false },
    record {
      header = is_header_is;
      tables = all_tables;
      stand = record {
        front = fronts;
        rest = [];
        spelled = record {
          x = dirs_table;
          y = files_table rows;
          both = record {
            first_bytes = 1 ∷ 1 ∷ 8 ∷ 1 ∷ 0 ∷ [];
            first = dirs_spelled _;
            second_bytes = 2 ∷ 1 ∷ 8 ∷ 2 ∷ 0x0f ∷ [] ++ (uleb (length rows) ++ rows_bytes rows);
            second = files_spelled rows (row_0 paths are) few_rows _;
            parts = refl;
          };
          made = refl;
        };
        parts = tables_are ∙ sym (append-nil fronts);
      };
      says = record {
        formats = formats_good rows;
        dirs = dir_rows;
        dirs_say = (record { texts = ((λ e. absurd cc), tt); named = (path_format, Bytes []); one_path = refl; path = refl; indexes = refl; dir = refl }, tt);
        files = map file_row rows;
        files_say = rows_say s rows;
        made = refl;
      };
    },
    full_are rows,
  )
