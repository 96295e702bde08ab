-- Sets of address ranges whose units stand elsewhere (DWARF 5, 6.1.2).
use Rattle.std.specs.Prelude.{◌≡◌, ℕ, Bool, true, List, [], ◌∷◌, map, IfOk, ◌==◌, if◌then◌else◌}
use Rattle.dwz_def_reading.specs.Input.{input}
use Rattle.dwz_def_reading.specs.Lists.{In}
use Rattle.dwz_def_reading.specs.Patching.{with_units}
use Rattle.dwz_def_reading.specs.Ranges.{RangeSet, SpellsSets, sets_at}
use Rattle.dwz_aranges.specs.Views.{any_unit}

-- the place that stands beside a number, and 0 where the number isn't there
unfoldable pub beside : (starts places : List ℕ) → ℕ → ℕ
beside [] places n = 0
beside (s ∷ starts) [] n = 0
beside (s ∷ starts) (p ∷ places) n = if s == n then p else beside starts places n

-- each set has the place of its unit, which began at one of these
abbrev pub AreMoved : (starts places section new : List ℕ) → Type 0
AreMoved starts places section new =
    IfOk (sets_at any_unit (input section 0)) (λ sets. new ≡ with_units sets (map (λ s. beside starts places s.unit) sets) section)

-- Where the units began there, and these are their places, each set has the place of its unit.
abbrev pub RangesLaw : Type 0
RangesLaw =
    (is_unit : ℕ → Bool) (place : ℕ → ℕ) (starts section new : List ℕ) (sets : List RangeSet) → SpellsSets is_unit sets 0 section
    → ((n : ℕ) → is_unit n ≡ true → In n starts)
    → AreMoved starts (map place starts) section new
    → new ≡ with_units sets (map (λ s. place s.unit) sets) section
