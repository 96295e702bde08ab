-- What options have to meet beside the rules of single words: which of them may stand together, which words can
-- name a file, and which spell an offset.
use Rattle.std.specs.Prelude.{ℕ, Bool, List, [], ◌∷◌, Option, Some, true, false, not, codes, count_by, drop, length, if◌then◌else◌}
use Rattle.std.specs.Prelude.{IsTrue, is_some, is_none, nat_eq, nat_le, nat_lt, ◌==◌, ◌&&◌, ◌||◌}
use Rattle.std.specs.Char.{is_ascii_hexdigit, is_ascii_uppercase}
use Rattle.std.specs.List.{list_all, list_any, starts_with}
use Rattle.std.specs.Option.{option_map_or}
use Rattle.std.specs.Str.{bytes_eq}
use Rattle.dwz_words.specs.declared.options.Options.{Options}

-- a word of the command line: its bytes
abbrev pub Word : Type 0
Word = List ℕ

-- ---- which stand together

-- the tasks that may be asked for: to make a common file, to write over one that is finished, to do so with each FILE by itself,
-- to explain, to compare, to expand, to demonstrate
abbrev pub tasks : Options → List Bool
tasks o = is_some o.common ∷ is_some o.reuse ∷ is_some o.batch ∷ o.explain ∷ o.check ∷ o.expand ∷ is_some o.demo ∷ []

-- how many of them are asked for; where none is, each FILE is worked on by itself
abbrev pub task_count : Options → ℕ
task_count o = count_by (λ is. is) (tasks o)

-- at most one
abbrev pub has_one_task : Options → Bool
has_one_task o = nat_le (task_count o) 1

-- no FILE with `--demo`, four with `--explain`, two with `--check`, one with `--expand`, and else 1 to 256
abbrev pub has_file_count : Options → Bool
has_file_count o = if is_some o.demo then length o.files == 0
    else (if o.explain then length o.files == 4
    else (if o.check then length o.files == 2
    else (if o.expand then length o.files == 1
    else (nat_lt 0 (length o.files) && nat_le (length o.files) 256))))

-- NAME only with COMMON, of `-m`, of `--reuse` or of `--batch`
abbrev pub has_name_only_with_common : Options → Bool
has_name_only_with_common o = is_none o.name || (is_some o.common || (is_some o.reuse || is_some o.batch))

-- no task but `--reuse` and `--expand` goes with OUT
abbrev pub may_have_out : Options → Bool
may_have_out o = task_count o == 0 || (is_some o.reuse || o.expand)

-- OUT only with one FILE, and where no other task is asked for
abbrev pub has_out_only_for_one : Options → Bool
has_out_only_for_one o = is_none o.out || (length o.files == 1 && may_have_out o)

-- and `--expand` only with OUT
abbrev pub has_out_with_expand : Options → Bool
has_out_with_expand o = not o.expand || is_some o.out

-- the COMMON of `--sup` only where two files are compared, or one is expanded
abbrev pub has_sup_only_with_check_or_expand : Options → Bool
has_sup_only_with_check_or_expand o = is_none o.sup || (o.check || o.expand)

-- ---- names of files

-- the word is among these
abbrev pub is_among : List Word → Word → Bool
is_among words word = list_any (λ other. bytes_eq other word) words

-- no word is among those after it
abbrev pub are_distinct : List Word → Bool
are_distinct [] = true
are_distinct (word ∷ rest) = not (is_among rest word) && are_distinct rest

-- FILEs differ from each other, but for the words behind `--explain`
abbrev pub has_distinct_files : Options → Bool
has_distinct_files o = o.explain || are_distinct o.files

-- no FILE is COMMON
abbrev pub is_apart : List Word → Option Word → Bool
is_apart files common = option_map_or (λ common. not (is_among files common)) common true

-- so it is with that of `-m`, with that of `--reuse`, with that of `--batch`, and with that of `--sup`
abbrev pub has_common_apart : Options → Bool
has_common_apart o = is_apart o.files o.common

abbrev pub has_reuse_apart : Options → Bool
has_reuse_apart o = is_apart o.files o.reuse

abbrev pub has_batch_apart : Options → Bool
has_batch_apart o = is_apart o.files o.batch

abbrev pub has_sup_apart : Options → Bool
has_sup_apart o = is_apart o.files o.sup

-- where both are given, they differ
abbrev pub are_other : Option Word → Option Word → Bool
are_other (Some one) (Some two) = not (bytes_eq one two)
are_other _ _ = true

-- neither the COMMON of `--reuse` is OUT nor that of `--sup`
abbrev pub has_reuse_apart_from_out : Options → Bool
has_reuse_apart_from_out o = are_other o.reuse o.out

abbrev pub has_sup_apart_from_out : Options → Bool
has_sup_apart_from_out o = are_other o.sup o.out

-- the word can name a file: it isn't empty and holds no zero byte
abbrev pub is_file_name : Word → Bool
is_file_name word = nat_lt 0 (length word) && not (list_any (λ byte. byte == 0) word)

-- each FILE, and each COMMON, NAME and OUT where they are given, can name a file
abbrev pub has_file_names : Options → Bool
has_file_names o = list_all is_file_name o.files
    && (option_map_or is_file_name o.common true
    && (option_map_or is_file_name o.name true
    && (option_map_or is_file_name o.out true
    && (option_map_or is_file_name o.reuse true
    && (option_map_or is_file_name o.batch true && option_map_or is_file_name o.sup true)))))

-- ---- places in files

-- a digit of an OFFSET: a hexadecimal one, and no letter in upper case
abbrev pub is_offset_digit : ℕ → Bool
is_offset_digit byte = is_ascii_hexdigit byte && not (is_ascii_uppercase byte)

-- the word is an OFFSET: `0x`, and 1 to 8 such digits
abbrev pub is_offset : Word → Bool
is_offset word = starts_with nat_eq word (codes "0x")
    && (nat_lt 2 (length word) && (nat_le (length word) 10 && list_all is_offset_digit (drop 2 word)))

-- FILE OFFSET FILE OFFSET
abbrev pub are_places : List Word → Bool
are_places (first ∷ first_offset ∷ second ∷ second_offset ∷ []) = is_offset first_offset && is_offset second_offset
are_places _ = false

-- with `--explain` the second FILE and the fourth are OFFSETs
abbrev pub has_offsets : Options → Bool
has_offsets o = not o.explain || are_places o.files

-- all of these conditions
pub record FitTogether (o : Options) : Type 0 where
  pub one_task : IsTrue (has_one_task o)
  pub file_count : IsTrue (has_file_count o)
  pub name_only_with_common : IsTrue (has_name_only_with_common o)
  pub out_only_for_one : IsTrue (has_out_only_for_one o)
  pub out_with_expand : IsTrue (has_out_with_expand o)
  pub sup_only_with_check_or_expand : IsTrue (has_sup_only_with_check_or_expand o)
  pub distinct_files : IsTrue (has_distinct_files o)
  pub common_apart : IsTrue (has_common_apart o)
  pub reuse_apart : IsTrue (has_reuse_apart o)
  pub reuse_apart_from_out : IsTrue (has_reuse_apart_from_out o)
  pub batch_apart : IsTrue (has_batch_apart o)
  pub sup_apart : IsTrue (has_sup_apart o)
  pub sup_apart_from_out : IsTrue (has_sup_apart_from_out o)
  pub file_names : IsTrue (has_file_names o)
  pub offsets : IsTrue (has_offsets o)
