-- The name by which files refer to a common file has no zero byte, since it can name a file.
use Rattle.std.proofs.Common.{◌≡◌, ℕ, Bool, true, false, List, [], ◌∷◌, length, Option, Some, None, unwrap_or, refl}
use Rattle.std.specs.Prelude.{◌==◌, ◌||◌, ◌&&◌, codes, nat_lt, not}
use Rattle.std.specs.List.{list_all, list_any}
use Rattle.std.specs.Option.{option_map_or}
use Rattle.std.proofs.lemmas.Bool.{and_parts, eqb-false}
use Rattle.dwz_def_reading.specs.Texts.{NoZero}
use Rattle.dwz_words.specs.Conditions.{FitTogether, is_file_name}
use Rattle.dwz_words.specs.declared.options.Options.{Options}
use Rattle.dwz_run_course.specs.Demo.{demo_options}
use Rattle.dwz_def_run.specs.Out.{sup_name}

no_zero : (word : List ℕ) → not (list_any (λ (byte : ℕ). byte == 0) word) ≡ true → NoZero word
no_zero [] e = tt
no_zero (b ∷ word) e = by (b == 0) refl (no_zero word) e where
  by : (t : Bool) → (b == 0) ≡ t → (not (list_any (λ (byte : ℕ). byte == 0) word) ≡ true → NoZero word)
      → not (t || list_any (λ (byte : ℕ). byte == 0) word) ≡ true → NoZero (b ∷ word)
  by true is rest e = absurd cc
  by false is rest e = (eqb-false b 0 is, rest e)

-- a name that can name a file, or none
of_name : (name : Option (List ℕ)) → option_map_or is_file_name name true ≡ true → NoZero (unwrap_or name [])
of_name None e = tt
of_name (Some word) e = no_zero word (and_parts (nat_lt 0 (length word)) (not (list_any (λ (byte : ℕ). byte == 0) word)) e).1

pub of_either : (name common : Option (List ℕ)) → option_map_or is_file_name name true ≡ true → option_map_or is_file_name common true ≡ true
    → NoZero (unwrap_or name (unwrap_or common []))
of_either None common n c = of_name common c
of_either (Some word) common n c = of_name (Some word) n

pub named_well : (o : Options) → FitTogether o → NoZero (sup_name o)
named_well o fit =
    let read = option_map_or is_file_name o.reuse true && (option_map_or is_file_name o.batch true && option_map_or is_file_name o.sup true) in
    let others = option_map_or is_file_name o.out true && read in
    let rest = (and_parts (list_all is_file_name o.files)
    (option_map_or is_file_name o.common true && (option_map_or is_file_name o.name true && others)) fit.file_names).1 in
    let common = and_parts (option_map_or is_file_name o.common true) (option_map_or is_file_name o.name true && others) rest in
    of_either o.name o.common (and_parts (option_map_or is_file_name o.name true) others common.1).0 common.0

-- so has that of a demonstration
pub demo_named : (o : Options) → NoZero (sup_name (demo_options o))
demo_named o = no_zero (codes "common") refl
