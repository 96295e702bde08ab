-- The command by which `clap` reads the words, as plain data: a rule for each option, in order.
use Rattle.std.specs.Prelude.{ℕ, List, [], ◌∷◌, Some, pos, codes, true}
use Rattle.clap.specs.Lexer.{usize_max}
use Rattle.clap.specs.Words.{App, Rule, Text, new_rule}
use Rattle.clap.specs.Simple.{new_shape}
use Rattle.clap.specs.declared.builder.action.ArgAction.TheVariants.{Set, SetTrue}
use Rattle.clap.specs.declared.builder.value_parser.ValueParser.TheVariants.{Signed}

-- an option with one value, by a letter, as `-m COMMON`
abbrev pub letter_rule : Text → ℕ → Rule
letter_rule id letter = record (new_rule id) { short = Some letter; action = Some Set }

-- a flag, by a name, as `--dwarf-5`
abbrev pub long_flag_rule : Text → Rule
long_flag_rule name = record (new_rule name) { long = Some name; action = Some SetTrue }

-- an option with one value, by a name, as `--sup COMMON`
abbrev pub long_rule : Text → Rule
long_rule name = record (new_rule name) { long = Some name; action = Some Set }

-- `-q`
abbrev pub quiet_rule : Rule
quiet_rule = record (new_rule (codes "q")) { short = Some 113; action = Some SetTrue }

-- `--dwarf-5`
abbrev pub dwarf_rule : Rule
dwarf_rule = long_flag_rule (codes "dwarf-5")

-- `-m COMMON`
abbrev pub common_rule : Rule
common_rule = letter_rule (codes "m") 109

-- `-M NAME`
abbrev pub name_rule : Rule
name_rule = letter_rule (codes "M") 77

-- `-o OUT`
abbrev pub out_rule : Rule
out_rule = letter_rule (codes "o") 111

-- `-j N`, from 1 to 64, and 4 where it is left out
abbrev pub workers_rule : Rule
workers_rule = record (letter_rule (codes "j") 106) {
  parser = Some (Signed (pos 1) (pos 64));
  defaults = codes "4" ∷ [];
}

-- `--demo N`, from 2 to 10,000
abbrev pub demo_rule : Rule
demo_rule = record (new_rule (codes "demo")) {
  long = Some (codes "demo");
  action = Some Set;
  parser = Some (Signed (pos 2) (pos 10000));
}

-- `FILE...`, any number of them
abbrev pub file_rule : Rule
file_rule = record (new_rule (codes "FILE")) {
  range = Some (record { start_inclusive = 0; end_inclusive = usize_max });
}

-- `--explain`
abbrev pub explain_rule : Rule
explain_rule = long_flag_rule (codes "explain")

-- `--check`
abbrev pub check_rule : Rule
check_rule = long_flag_rule (codes "check")

-- `--sup COMMON`
abbrev pub sup_rule : Rule
sup_rule = long_rule (codes "sup")

-- `--expand`
abbrev pub expand_rule : Rule
expand_rule = long_flag_rule (codes "expand")

-- `--reuse COMMON`
abbrev pub reuse_rule : Rule
reuse_rule = long_rule (codes "reuse")

-- `--batch COMMON`
abbrev pub batch_rule : Rule
batch_rule = long_rule (codes "batch")

-- all rules, FILE the only one without a letter or a name
abbrev pub command_rules : List Rule
command_rules = quiet_rule ∷ dwarf_rule ∷ common_rule ∷ name_rule ∷ out_rule ∷ workers_rule ∷ demo_rule
    ∷ file_rule ∷ explain_rule ∷ check_rule ∷ sup_rule ∷ expand_rule ∷ reuse_rule ∷ batch_rule ∷ []

-- the command: no name of the program before the words, and no words for help and version
abbrev pub dwz_command : App
dwz_command = record {
  top = record (new_shape (codes "dwz")) {
    rules = command_rules;
    no_binary_name = true;
    disable_help_flag = true;
    disable_version_flag = true;
  };
  subs = [];
}
