-- The first values of entries whose forms tell their lengths, of the forms of a file by itself.
use Rattle.std.specs.Prelude.{◌≡◌, ◌≤◌, ℕ, ◌+◌, List, [], ◌∷◌, Option, Some, length, slice_get, take}
use Rattle.std.specs.Option.{option_and_then, option_map}
use Rattle.dwz_codes.specs.Forms.{form_rows}
use Rattle.dwz_forms.specs.FixedSizes.{size_among}
use Rattle.dwz_model.specs.declared.place.Pair.{Pair}
use Rattle.dwz_unit.specs.declared.fixed_run.FixedRun.{FixedRun}

-- how many bytes the values of these names and forms have in all, where each form tells how many its value has
abbrev pub fixed_bytes : List Pair → Option ℕ
fixed_bytes [] = Some 0
fixed_bytes (pair ∷ pairs) = option_and_then (λ n. option_map (λ m. n + m) (fixed_bytes pairs)) (size_among form_rows pair.form)

-- so many of the first values have so many bytes in all
abbrev pub IsRun : List Pair → FixedRun → Type 0
IsRun pairs run = (run.count ≤ length pairs) × (fixed_bytes (take run.count pairs) ≡ Some run.bytes)

-- each of these runs is that of the declaration with its number
abbrev pub TellRuns : List (List Pair) → List FixedRun → Type 0
TellRuns decls runs =
    (length runs ≤ length decls) × ((n : ℕ) (pairs : List Pair) (run : FixedRun) → slice_get decls n ≡ Some pairs → slice_get runs n ≡ Some run → IsRun pairs run)
