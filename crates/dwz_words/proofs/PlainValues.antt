-- What plain words ask for: the values of `clap`'s matches are those that the arguments say.
use Rattle.std.proofs.Common.{◌≡◌, ◌∙◌, ◌<◌, ◌≤◌, ◌^◌, ◌∷◌, [], refl, ap, ℕ, Bool, true, false, List, Option, Some, None, codes, arith, length, map, option_map, take, drop}
use Rattle.std.specs.Prelude.{find, fold, filter, if◌then◌else◌, option_and_then, is_some, slice_get, unwrap_or, ◌==◌, nat_lt}
use Rattle.std.specs.Char.{is_ascii_digit}
use Rattle.std.specs.List.{list_all}
use Rattle.std.specs.Option.{option_map_or}
use Rattle.std.specs.Str.{bytes_eq}
use Rattle.std.specs.Str.Parse.{IsNumeral, digits_value, without_leading_plus}
use Rattle.std.proofs.lemmas.Bool.{leb-true, ne_eqb}
use Rattle.clap.specs.Lexer.{without_minus}
use Rattle.clap.specs.ValueTests.{is_unsigned_in}
use Rattle.clap.specs.Walk.{row_text, with_default}
use Rattle.clap.specs.Words.{Row, Text, all_of, first_of, matches_of}
use Rattle.clap.specs.declared.builder.value_parser.Reading.TheVariants as reading
use Rattle.clap.specs.declared.builder.value_parser.ValueParser.TheVariants as vp
use Rattle.clap.specs.declared.parser.matches.ValueSource.TheVariants.{DefaultValue}
use Rattle.clap.proofs.ValueTestLemmas.{Accepts-accepts}
use Rattle.clap.proofs.WalkLemmas.{both}
use Rattle.dwz_words.specs.Command.{dwz_command}
use Rattle.dwz_words.specs.Lawful.{is_set, number_of_text, option_number, options_of}
use Rattle.dwz_words.specs.Plain.{ArePlain, Argument, are_once, batch, check, common, demo, dwarf, expand, explain, file, is_file, is_option, is_plain, is_plain_number, name, options_said, out, quiet, reuse, sup, value_at, value_of, workers}
use Rattle.dwz_words.proofs.PlainLemmas.{plain_matches}
use Rattle.dwz_words.proofs.PlainRows.{files_at-all_after, row_at-all_after, row_of, values_in}
use Rattle.dwz_words.proofs.PlainWalk.{all_after, rule_for, rules}
use Rattle.dwz_words.proofs.PlainArguments.{digit_range, digits_all}
use Rattle.dwz_words.proofs.RowLemmas.{defaulted, leaves, new_row, row_at, row_at-defaulted, row_at-defaults}

-- ---- numbers

-- plain digits are read as the number that they spell
number_of-plain : (low high : ℕ) (text : Text) → is_plain_number low high text ≡ true → high < 2 ^ 32
    → number_of_text (without_minus text) ≡ Some (digits_value 10 text)
number_of-plain low high [] e few = cc
number_of-plain low high (d ∷ ds) e few =
    let parts = both (list_all is_ascii_digit (d ∷ ds)) _ (both (nat_lt 0 (length (d ∷ ds))) _ e).1 in
    let range = digit_range d (both (is_ascii_digit d) _ parts.0).0 in
    let minus : (d == 45) ≡ false = ne_eqb _ _ (λ e. omega arith) in
    let plus : (d == 43) ≡ false = ne_eqb _ _ (λ e. omega arith) in
    let high_ok : digits_value 10 (d ∷ ds) ≤ high = leb-true _ _ (both _ _ parts.1).1 in
    let same : without_leading_plus (d ∷ ds) ≡ d ∷ ds = rw plus refl in
    let whole : without_minus (d ∷ ds) ≡ d ∷ ds = rw minus refl in
    let numeral : IsNumeral 10 (d ∷ ds) = (omega arith, digits_all (d ∷ ds) parts.0) in
    let passes : is_unsigned_in 0 4294967295 (d ∷ ds) ≡ true = Accepts-accepts false (vp.Unsigned 0 4294967295) (d ∷ ds)
    (rw same numeral, rw same (omega arith), omega arith, rw same (omega arith)) in
    ap number_of_text whole
    ∙ (ap (λ (b : Bool). if b then Some (digits_value 10 (without_leading_plus (d ∷ ds))) else None) passes
    ∙ ap (λ (t : Text). Some (digits_value 10 t)) same)

-- ---- the row of an option, and its default

-- that of a flag: its argument's, or the default `false`
abbrev row_in : Text → Option Argument → Row
row_in id o = unwrap_or (option_map row_of o) (new_row id reading.AsWritten DefaultValue (codes "false" ∷ []))

abbrev flag_row : Text → List Argument → Row
flag_row id ps = row_in id (find (is_option id) ps)

-- the row holds `true`
abbrev is_true_in : Option Row → Bool
is_true_in o = option_map_or (λ t. bytes_eq t (codes "true")) (option_and_then row_text o) false

quiet_text : (p : Argument) → is_option (codes "q") p ≡ true → row_text (row_of p) ≡ Some (codes "true")
quiet_text quiet e = refl
quiet_text _ e = cc

explain_text : (p : Argument) → is_option (codes "explain") p ≡ true → row_text (row_of p) ≡ Some (codes "true")
explain_text explain e = refl
explain_text _ e = cc

check_text : (p : Argument) → is_option (codes "check") p ≡ true → row_text (row_of p) ≡ Some (codes "true")
check_text check e = refl
check_text _ e = cc

expand_text : (p : Argument) → is_option (codes "expand") p ≡ true → row_text (row_of p) ≡ Some (codes "true")
expand_text expand e = refl
expand_text _ e = cc

flag_value : (id : Text) → ((p : Argument) → is_option id p ≡ true → row_text (row_of p) ≡ Some (codes "true")) → (ps : List Argument)
    → is_true_in (Some (flag_row id ps)) ≡ is_some (value_at id ps)
flag_value id text [] = refl
flag_value id text (p ∷ ps) = go (is_option id p) refl (flag_value id text ps)
  where
    go : (b : Bool) → is_option id p ≡ b → is_true_in (Some (flag_row id ps)) ≡ is_some (value_at id ps)
        → is_true_in (Some (row_in id (if b then Some p else find (is_option id) ps)))
        ≡ is_some (option_map value_of (if b then Some p else find (is_option id) ps))
    go true e rest = ap (λ (t : Option Text). option_map_or (λ t. bytes_eq t (codes "true")) t false) (text p e)
    go false e rest = rest

abbrev workers_row : List Argument → Row
workers_row ps = unwrap_or (option_map row_of (find (is_option (codes "j")) ps))
    (new_row (codes "j") reading.WithoutMinus DefaultValue (codes "4" ∷ []))

workers_value : (ps : List Argument) → list_all is_plain ps ≡ true
    → unwrap_or (option_and_then number_of_text (row_text (workers_row ps))) 4 ≡ option_map_or (digits_value 10) (value_at (codes "j") ps) 4
workers_value [] plain = refl
workers_value (quiet ∷ ps) plain = workers_value ps (both (is_plain quiet) _ plain).1
workers_value (dwarf ∷ ps) plain = workers_value ps (both (is_plain dwarf) _ plain).1
workers_value (common text ∷ ps) plain = workers_value ps (both (is_plain (common text)) _ plain).1
workers_value (name text ∷ ps) plain = workers_value ps (both (is_plain (name text)) _ plain).1
workers_value (out text ∷ ps) plain = workers_value ps (both (is_plain (out text)) _ plain).1
workers_value (workers text ∷ ps) plain =
    ap (λ (n : Option ℕ). unwrap_or n 4) (number_of-plain 1 64 text (both (is_plain (workers text)) _ plain).0 (omega arith))
workers_value (demo text ∷ ps) plain = workers_value ps (both (is_plain (demo text)) _ plain).1
workers_value (explain ∷ ps) plain = workers_value ps (both (is_plain explain) _ plain).1
workers_value (check ∷ ps) plain = workers_value ps (both (is_plain check) _ plain).1
workers_value (expand ∷ ps) plain = workers_value ps (both (is_plain expand) _ plain).1
workers_value (reuse text ∷ ps) plain = workers_value ps (both (is_plain (reuse text)) _ plain).1
workers_value (batch text ∷ ps) plain = workers_value ps (both (is_plain (batch text)) _ plain).1
workers_value (sup text ∷ ps) plain = workers_value ps (both (is_plain (sup text)) _ plain).1
workers_value (file text ∷ ps) plain = workers_value ps (both (is_plain (file text)) _ plain).1

demo_value : (ps : List Argument) → list_all is_plain ps ≡ true
    → option_and_then number_of_text (option_and_then row_text (option_map row_of (find (is_option (codes "demo")) ps)))
    ≡ option_map (digits_value 10) (value_at (codes "demo") ps)
demo_value [] plain = refl
demo_value (quiet ∷ ps) plain = demo_value ps (both (is_plain quiet) _ plain).1
demo_value (dwarf ∷ ps) plain = demo_value ps (both (is_plain dwarf) _ plain).1
demo_value (common text ∷ ps) plain = demo_value ps (both (is_plain (common text)) _ plain).1
demo_value (name text ∷ ps) plain = demo_value ps (both (is_plain (name text)) _ plain).1
demo_value (out text ∷ ps) plain = demo_value ps (both (is_plain (out text)) _ plain).1
demo_value (workers text ∷ ps) plain = demo_value ps (both (is_plain (workers text)) _ plain).1
demo_value (demo text ∷ ps) plain = number_of-plain 2 10000 text (both (is_plain (demo text)) _ plain).0 (omega arith)
demo_value (explain ∷ ps) plain = demo_value ps (both (is_plain explain) _ plain).1
demo_value (check ∷ ps) plain = demo_value ps (both (is_plain check) _ plain).1
demo_value (expand ∷ ps) plain = demo_value ps (both (is_plain expand) _ plain).1
demo_value (reuse text ∷ ps) plain = demo_value ps (both (is_plain (reuse text)) _ plain).1
demo_value (batch text ∷ ps) plain = demo_value ps (both (is_plain (batch text)) _ plain).1
demo_value (sup text ∷ ps) plain = demo_value ps (both (is_plain (sup text)) _ plain).1
demo_value (file text ∷ ps) plain = demo_value ps (both (is_plain (file text)) _ plain).1

first_value : (o : Option Argument) → option_and_then (λ r. slice_get r.values 0) (option_map row_of o) ≡ option_map value_of o
first_value None = refl
first_value (Some p) = refl

-- ---- all values

-- the rows at the end: those of the arguments, and then the defaults
abbrev end_rows : List Argument → List Row
end_rows ps = fold with_default (all_after ps []) rules

-- the rows with the defaults of the first rules
abbrev rows_before : ℕ → List Argument → List Row
rows_before k ps = fold with_default (all_after ps []) (take k rules)

module _ (ps : List Argument) (plain : list_all is_plain ps ≡ true) (once : are_once ps ≡ true) where
  -- an option that has no default
  row_is : (k : Text) → bytes_eq (codes "FILE") k ≡ false → list_all (leaves k) rules ≡ true
      → row_at k (end_rows ps) ≡ option_map row_of (find (is_option k) ps)
  row_is k no_file left = row_at-defaults k rules (all_after ps []) left ∙ row_at-all_after k no_file ps [] refl once

  first_is : (k : Text) → bytes_eq (codes "FILE") k ≡ false → list_all (leaves k) rules ≡ true → first_of k (end_rows ps) ≡ value_at k ps
  first_is k no_file left =
      ap (option_and_then (λ (r : Row). slice_get r.values 0)) (row_is k no_file left) ∙ first_value (find (is_option k) ps)

  -- a flag has its row, which is filled in after the defaults of the first k rules
  flag_row_is : (id : Text) (k : ℕ) → bytes_eq (codes "FILE") id ≡ false → list_all (leaves id) (take k rules) ≡ true
      → row_at id (defaulted id reading.AsWritten (codes "false") (rows_before k ps)) ≡ Some (flag_row id ps)
  flag_row_is id k no_file left = row_at-defaulted id reading.AsWritten (codes "false") (rows_before k ps)
      ∙ ap (λ (o : Option Row). Some (unwrap_or o (new_row id reading.AsWritten DefaultValue (codes "false" ∷ []))))
      (row_at-defaults id (take k rules) (all_after ps []) left ∙ row_at-all_after id no_file ps [] refl once)

  quiet_is : is_set (codes "q") (end_rows ps) ≡ is_some (value_at (codes "q") ps)
  quiet_is = ap is_true_in
      (row_at-defaults (codes "q") (drop 1 rules) (with_default (all_after ps []) (rule_for quiet)) refl
      ∙ flag_row_is (codes "q") 0 refl refl)
      ∙ flag_value (codes "q") quiet_text ps

  explain_is : is_set (codes "explain") (end_rows ps) ≡ is_some (value_at (codes "explain") ps)
  explain_is = ap is_true_in
      (row_at-defaults (codes "explain") (drop 9 rules) (with_default (rows_before 8 ps) (rule_for explain)) refl
      ∙ flag_row_is (codes "explain") 8 refl refl)
      ∙ flag_value (codes "explain") explain_text ps

  check_is : is_set (codes "check") (end_rows ps) ≡ is_some (value_at (codes "check") ps)
  check_is = ap is_true_in
      (row_at-defaults (codes "check") (drop 10 rules) (with_default (rows_before 9 ps) (rule_for check)) refl
      ∙ flag_row_is (codes "check") 9 refl refl)
      ∙ flag_value (codes "check") check_text ps

  expand_is : is_set (codes "expand") (end_rows ps) ≡ is_some (value_at (codes "expand") ps)
  expand_is = ap is_true_in
      (row_at-defaults (codes "expand") (drop 12 rules) (with_default (rows_before 11 ps) (rule_for expand)) refl
      ∙ flag_row_is (codes "expand") 11 refl refl)
      ∙ flag_value (codes "expand") expand_text ps

  workers_are : unwrap_or (option_number (codes "j") (end_rows ps)) 4 ≡ option_map_or (digits_value 10) (value_at (codes "j") ps) 4
  workers_are =
      let found : row_at (codes "j") (end_rows ps) ≡ Some (workers_row ps) =
      row_at-defaults (codes "j") (drop 6 rules) (with_default (rows_before 5 ps) (rule_for (workers []))) refl
      ∙ (row_at-defaulted (codes "j") reading.WithoutMinus (codes "4") (rows_before 5 ps)
      ∙ ap (λ (o : Option Row). Some (unwrap_or o (new_row (codes "j") reading.WithoutMinus DefaultValue (codes "4" ∷ []))))
      (row_at-defaults (codes "j") (take 5 rules) (all_after ps []) refl ∙ row_at-all_after (codes "j") refl ps [] refl once)) in
      ap (λ (o : Option Row). unwrap_or (option_and_then number_of_text (option_and_then row_text o)) 4) found ∙ workers_value ps plain

  demo_is : option_number (codes "demo") (end_rows ps) ≡ option_map (digits_value 10) (value_at (codes "demo") ps)
  demo_is = ap (λ (o : Option Row). option_and_then number_of_text (option_and_then row_text o)) (row_is (codes "demo") refl refl)
      ∙ demo_value ps plain

  files_are : unwrap_or (all_of (codes "FILE") (end_rows ps)) [] ≡ map value_of (filter is_file ps)
  files_are = ap values_in (row_at-defaults (codes "FILE") rules (all_after ps []) refl) ∙ files_at-all_after ps []

-- plain words ask for what their arguments say
pub plain_said : (words : List Text) → length words < 2 ^ 64 → (ps : List Argument) → ArePlain words ps
    → options_of (matches_of dwz_command words) ≡ options_said ps
plain_said words few ps h =
    ap options_of (plain_matches words few ps h)
    ∙ rw (
      quiet_is ps h.plain h.once,
      first_is ps h.plain h.once (codes "m") refl refl,
      first_is ps h.plain h.once (codes "M") refl refl,
      first_is ps h.plain h.once (codes "o") refl refl,
      workers_are ps h.plain h.once,
      files_are ps h.plain h.once,
      demo_is ps h.plain h.once,
      explain_is ps h.plain h.once,
      check_is ps h.plain h.once,
      expand_is ps h.plain h.once,
      first_is ps h.plain h.once (codes "reuse") refl refl,
      first_is ps h.plain h.once (codes "batch") refl refl,
      first_is ps h.plain h.once (codes "sup") refl refl,
    ) refl
