-- Where the declarations of a table stand in memory.
use Rattle.std.specs.Prelude.{◌≡◌, ℕ, suc, ◌-◌, List, [], ◌∷◌, map, Option, Some, None, if◌then◌else◌, ◌==◌, ◌||◌, nat_lt}
use Rattle.std.specs.Option.{option_map}
use Rattle.std.specs.Ordering.{nat_cmp}
use Rattle.std.specs.BTreeMap.{get}
use Rattle.dwz_def_reading.specs.Abbrevs.{Declaration}
use Rattle.dwz_abbrev.specs.declared.codes.Codes.{Codes}

-- the codes of declarations
abbrev pub codes_of : List Declaration → List ℕ
codes_of table = map (λ (d : Declaration). d.code) table

-- the place of a code among others
abbrev pub place_of : List ℕ → ℕ → Option ℕ
place_of [] code = None
place_of (c ∷ codes) code = if c == code then Some 0 else option_map (λ n. suc n) (place_of codes code)

-- where a code leads: to the place one less, or to the place that is stored for it
abbrev pub place_in : Codes → ℕ → Option ℕ
place_in c code = if code == 0 || nat_lt c.counted code then get nat_cmp c.others code else Some (code - 1)

-- each code leads to its place, and no other leads anywhere
pub record Leads (c : Codes) (codes : List ℕ) : Type 0 where
  pub found : (code : ℕ) → place_in c code ≡ place_of codes code
