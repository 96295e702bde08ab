-- Inner: plain words, and what they ask for. Nothing here is `clap`'s.
use Rattle.std.specs.Prelude.{◌≡◌, ℕ, Bool, List, [], ◌∷◌, Option, Some, None, true, false, not}
use Rattle.std.specs.Prelude.{IsTrue, length, codes, nat_lt, nat_le, ◌==◌, ◌&&◌, option_map, find, filter, map}
use Rattle.std.specs.Prelude.{is_some}
use Rattle.std.specs.Char.{is_ascii_digit}
use Rattle.std.specs.List.{flat_map, list_all, list_any}
use Rattle.std.specs.Option.{option_map_or}
use Rattle.std.specs.Str.{bytes_eq}
use Rattle.std.specs.Str.Parse.{digits_value}
use Rattle.dwz_words.specs.Conditions.{Word}
use Rattle.dwz_words.specs.declared.options.Options.{Options}

-- what plain words consist of: a flag, an option with its value, or a FILE
pub data Argument : Type 0 where
  quiet : Argument
  dwarf : Argument
  common : Word → Argument
  name : Word → Argument
  out : Word → Argument
  workers : Word → Argument
  demo : Word → Argument
  explain : Argument
  check : Argument
  expand : Argument
  reuse : Word → Argument
  batch : Word → Argument
  sup : Word → Argument
  file : Word → Argument

-- the words of an argument
abbrev pub words_of : Argument → List Word
words_of quiet = codes "-q" ∷ []
words_of dwarf = codes "--dwarf-5" ∷ []
words_of (common word) = codes "-m" ∷ word ∷ []
words_of (name word) = codes "-M" ∷ word ∷ []
words_of (out word) = codes "-o" ∷ word ∷ []
words_of (workers word) = codes "-j" ∷ word ∷ []
words_of (demo word) = codes "--demo" ∷ word ∷ []
words_of explain = codes "--explain" ∷ []
words_of check = codes "--check" ∷ []
words_of expand = codes "--expand" ∷ []
words_of (reuse word) = codes "--reuse" ∷ word ∷ []
words_of (batch word) = codes "--batch" ∷ word ∷ []
words_of (sup word) = codes "--sup" ∷ word ∷ []
words_of (file word) = word ∷ []

-- the word begins with `-`
abbrev pub begins_with_dash : Word → Bool
begins_with_dash [] = false
begins_with_dash (byte ∷ rest) = byte == 45

-- decimal digits alone, of a number in this range
abbrev pub is_plain_number : ℕ → ℕ → Word → Bool
is_plain_number low high word = nat_lt 0 (length word)
    && (list_all is_ascii_digit word
    && (nat_le low (digits_value 10 word) && nat_le (digits_value 10 word) high))

-- a number is plain, and no other value and no FILE begins with a dash
abbrev pub is_plain : Argument → Bool
is_plain quiet = true
is_plain dwarf = true
is_plain (common word) = not (begins_with_dash word)
is_plain (name word) = not (begins_with_dash word)
is_plain (out word) = not (begins_with_dash word)
is_plain (workers word) = is_plain_number 1 64 word
is_plain (demo word) = is_plain_number 2 10000 word
is_plain explain = true
is_plain check = true
is_plain expand = true
is_plain (reuse word) = not (begins_with_dash word)
is_plain (batch word) = not (begins_with_dash word)
is_plain (sup word) = not (begins_with_dash word)
is_plain (file word) = not (begins_with_dash word)

-- the name of the option, of which there may be one; a FILE has none
abbrev pub option_name : Argument → Option Word
option_name quiet = Some (codes "q")
option_name dwarf = Some (codes "dwarf-5")
option_name (common word) = Some (codes "m")
option_name (name word) = Some (codes "M")
option_name (out word) = Some (codes "o")
option_name (workers word) = Some (codes "j")
option_name (demo word) = Some (codes "demo")
option_name explain = Some (codes "explain")
option_name check = Some (codes "check")
option_name expand = Some (codes "expand")
option_name (reuse word) = Some (codes "reuse")
option_name (batch word) = Some (codes "batch")
option_name (sup word) = Some (codes "sup")
option_name (file word) = None

-- the argument is the option of this name
abbrev pub is_option : Word → Argument → Bool
is_option id a = option_map_or (λ other. bytes_eq id other) (option_name a) false

-- both arguments are the same option
abbrev pub same_option : Argument → Argument → Bool
same_option a b = option_map_or (λ id. is_option id b) (option_name a) false

-- no option stands twice
abbrev pub are_once : List Argument → Bool
are_once [] = true
are_once (a ∷ rest) = not (list_any (same_option a) rest) && are_once rest

-- the words are these arguments, each option at most once, with its value as the next word
pub record ArePlain (words : List Word) (arguments : List Argument) : Type 0 where
  pub words_are : words ≡ flat_map words_of arguments
  pub plain : IsTrue (list_all is_plain arguments)
  pub once : IsTrue (are_once arguments)

-- ---- what they ask for

-- the value; of a flag, that it is set
abbrev pub value_of : Argument → Word
value_of quiet = codes "true"
value_of dwarf = codes "true"
value_of (common word) = word
value_of (name word) = word
value_of (out word) = word
value_of (workers word) = word
value_of (demo word) = word
value_of explain = codes "true"
value_of check = codes "true"
value_of expand = codes "true"
value_of (reuse word) = word
value_of (batch word) = word
value_of (sup word) = word
value_of (file word) = word

-- the value of the option of this name, if it is there
abbrev pub value_at : Word → List Argument → Option Word
value_at id arguments = option_map value_of (find (is_option id) arguments)

-- the argument is a FILE
abbrev pub is_file : Argument → Bool
is_file a = not (is_some (option_name a))

-- what the arguments say: each option its value, and the FILEs in order
abbrev pub options_said : List Argument → Options
options_said arguments = record {
  quiet = is_some (value_at (codes "q") arguments);
  common = value_at (codes "m") arguments;
  name = value_at (codes "M") arguments;
  out = value_at (codes "o") arguments;
  workers = option_map_or (digits_value 10) (value_at (codes "j") arguments) 4;
  files = map value_of (filter is_file arguments);
  demo = option_map (digits_value 10) (value_at (codes "demo") arguments);
  explain = is_some (value_at (codes "explain") arguments);
  check = is_some (value_at (codes "check") arguments);
  expand = is_some (value_at (codes "expand") arguments);
  reuse = value_at (codes "reuse") arguments;
  batch = value_at (codes "batch") arguments;
  sup = value_at (codes "sup") arguments;
}
