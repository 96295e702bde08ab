-- A test that decides which groups gain: it follows as many references as there are tops. What it decides is said in Groups.
use Rattle.std.specs.Prelude.{ℕ, zero, suc, Bool, true, false, List, length, nat_lt, ◌&&◌}
use Rattle.std.specs.List.{list_any}
use Rattle.dwz_def_tops.specs.Alike.{refers_to}
use Rattle.dwz_def_tops.specs.Deciding.{Test}
use Rattle.dwz_def_tops.specs.Spots.{EntryName, FileUnit, Top, tops_of}
pub use Rattle.dwz_def_plan.specs.Groups.{Gains, RefersInto, in_group, saved, spent, top_weight, value_weight}
unfoldable pub use Rattle.dwz_def_plan.specs.Groups.{Gain, attrs_weight, bare_bytes, entries_weight, group_weight, weights}
use Rattle.dwz_def_plan.specs.Homes.{Home, Rule, candidate, is_home, users}

abbrev pub refers_into : Test → List (FileUnit EntryName) → Home → List ℕ → Top → Bool
refers_into alike units h us t = list_any (λ u. refers_to u.number t && in_group alike units h us u) (tops_of units)

unfoldable pub gain_test : Test → List (FileUnit EntryName) → ℕ → Home → List ℕ → Bool
gain_test alike units zero h us = nat_lt (spent us) (saved alike units h us)
gain_test alike units (suc k) h us =
    elim (gain_test alike units k h us) as (λ _. Bool) [
      | true ↦ true
      | false ↦ list_any (λ t. elim (is_home (candidate alike units t.number) && refers_into alike units h us t) as (λ _. Bool) [
        | true ↦ gain_test alike units k (candidate alike units t.number) (users alike units t.number)
        | false ↦ false
      ]) (tops_of units)
    ]

-- the group of the top with this number gains
unfoldable pub gains_test : Test → List (FileUnit EntryName) → ℕ → Bool
gains_test alike units n = gain_test alike units (length (tops_of units)) (candidate alike units n) (users alike units n)

-- the tops move whose groups gain
abbrev pub gain_rule : Test → List (FileUnit EntryName) → Rule
gain_rule alike units = record { alike = alike; chosen = gains_test alike units }
