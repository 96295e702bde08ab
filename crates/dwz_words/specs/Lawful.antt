-- Which words are lawful, and what they ask for.
use Rattle.std.specs.Prelude.{◌≡◌, ℕ, Bool, All, List, [], Option, Some, None, false, codes, map}
use Rattle.std.specs.Prelude.{option_and_then, unwrap_or, if◌then◌else◌}
use Rattle.std.specs.Global.{Vec}
use Rattle.std.specs.Option.{option_map_or}
use Rattle.std.specs.Str.{IsUtf8, bytes_eq}
use Rattle.std.specs.Str.Parse.{digits_value, without_leading_plus}
use Rattle.clap.specs.ValueTests.{is_unsigned_in}
use Rattle.clap.specs.Words.{Row, Text, all_of, fault_of, first_of, matches_of, one_of}
use Rattle.dwz_words.specs.Command.{dwz_command}
use Rattle.dwz_words.specs.Conditions.{FitTogether, Word}
use Rattle.dwz_words.specs.declared.options.Options.{Options}

-- the words, each as its bytes
abbrev pub word_bytes : List (Vec ℕ) → List Word
word_bytes words = map (λ word. word.items) words

-- ---- the values of the matches, by the id of an option

-- the flag is set
abbrev pub is_set : Text → List Row → Bool
is_set id rows = option_map_or (λ text. bytes_eq text (codes "true")) (one_of id rows) false

-- the number below 2^32 that a text spells, in decimal digits, perhaps after a plus
abbrev pub number_of_text : Text → Option ℕ
number_of_text text = if is_unsigned_in 0 4294967295 text
    then Some (digits_value 10 (without_leading_plus text)) else None

-- the number of the option, if it has one
abbrev pub option_number : Text → List Row → Option ℕ
option_number id rows = option_and_then number_of_text (one_of id rows)

-- the options by these matches, which hold the default of `-j` where it was left out
abbrev pub options_of : List Row → Options
options_of rows = record {
  quiet = is_set (codes "q") rows;
  common = first_of (codes "m") rows;
  name = first_of (codes "M") rows;
  out = first_of (codes "o") rows;
  workers = unwrap_or (option_number (codes "j") rows) 4;
  files = unwrap_or (all_of (codes "FILE") rows) [];
  demo = option_number (codes "demo") rows;
  explain = is_set (codes "explain") rows;
  check = is_set (codes "check") rows;
  expand = is_set (codes "expand") rows;
  reuse = first_of (codes "reuse") rows;
  batch = first_of (codes "batch") rows;
  sup = first_of (codes "sup") rows;
}

-- ---- lawful words

-- the words are lawful, and ask for these options
pub record Lawful (words : List Word) (o : Options) : Type 0 where
  -- the words are text,
  pub utf8 : All IsUtf8 words
  -- `clap` has no fault to name in them,
  pub faultless : fault_of dwz_command words ≡ []
  -- the options are the values of its matches,
  pub values : o ≡ options_of (matches_of dwz_command words)
  -- and they meet the conditions that this program has of its own
  pub fit : FitTogether o
