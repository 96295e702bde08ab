-- Sets of address ranges whose units stand elsewhere.
use Rattle.std.specs.Prelude.{◌≡◌, ℕ, List, IfOk}
use Rattle.dwz_bytes.specs.Input.{input}
use Rattle.dwz_def_reading.specs.Patching.{with_units}
use Rattle.dwz_def_reading.specs.Ranges.{sets_at}
use Rattle.dwz_aranges.specs.Views.{any_unit}

-- the section with these numbers in its sets
abbrev pub IsPatched : List ℕ → List ℕ → List ℕ → Type 0
IsPatched section numbers bytes = IfOk (sets_at any_unit (input section 0)) (λ sets. bytes ≡ with_units sets numbers section)
