-- The sets of a section whose unit offsets were changed.
use Rattle.std.proofs.Common.{◌≡◌, ℕ, ◌+◌, Bool, List, [], ◌∷◌, length, Result, Ok, IfOk, refl, sym, subst}
use Rattle.dwz_model.specs.declared.fault.Fault.{Fault}
use Rattle.dwz_bytes.specs.Input.{input}
use Rattle.dwz_def_reading.specs.Patching.{AreUnits, of_units, with_units}
use Rattle.dwz_def_reading.specs.Ranges.{RangeSet, SpellsSets, sets_at}
use Rattle.dwz_def_reading.proofs.PatchedSets.{sets_patched}
use Rattle.dwz_def_reading.proofs.RangeLemmas.{sets_agree}
use Rattle.dwz_aranges.specs.Patching.{IsPatched}
use Rattle.dwz_aranges.specs.Views.{any_unit}

-- sets of some units are sets, whichever units there are
pub of_any : (is_unit : ℕ → Bool) (sets : List RangeSet) (start : ℕ) (bytes : List ℕ) → SpellsSets is_unit sets start bytes → SpellsSets any_unit sets start bytes
of_any is_unit [] start bytes s = s
of_any is_unit (set ∷ sets) start bytes s =
    let one = s.first in
    record {
      first_bytes = s.first_bytes;
      first = record { place = one.place; whole = one.whole; some = one.some; version = one.version; unit = one.unit; known = refl };
      second_bytes = s.second_bytes;
      second = of_any is_unit sets (start + length s.first_bytes) s.second_bytes s.second;
      parts = s.parts;
    }

pub patched_means : (is_unit others : ℕ → Bool) (section numbers out : List ℕ) (sets : List RangeSet) → SpellsSets is_unit sets 0 section → length numbers ≡ length sets → AreUnits others numbers
    → IsPatched section numbers out → SpellsSets others (of_units sets numbers) 0 out
patched_means is_unit others section numbers out sets s many are patched =
    let read : sets_at any_unit (input section 0) ≡ Ok sets = ((sets_agree any_unit (input section 0)).ok sets).1 (of_any is_unit sets 0 section s) in
    let same : out ≡ with_units sets numbers section = subst (λ (r : Result (List RangeSet) Fault). IfOk r (λ found. out ≡ with_units found numbers section)) read patched in
    subst (SpellsSets others (of_units sets numbers) 0) (sym same) (sets_patched is_unit others section sets numbers s many are)
