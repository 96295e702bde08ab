-- The units of a file that aren't partial ascend, and its sets of address ranges are whole.
use Rattle.std.proofs.Common.{◌≡◌, ℕ, zero, suc, ◌+◌, ◌<◌, ◌≤◌, List, [], ◌∷◌, ◌++◌, length, get_or, Ok, Result, IsOk, refl, sym, ap, subst, ◌∙◌, arith}
use Rattle.std.specs.List.Sorted.{IsStrictlyIncreasing}
use Rattle.std.proofs.lemmas.List.{length-append, length-map}
use Rattle.dwz_model.specs.declared.fault.Fault.{Fault}
use Rattle.dwz_aranges.specs.Views.{any_unit}
use Rattle.dwz_aranges.proofs.PatchedMeans.{of_any}
use Rattle.dwz_def_reading.specs.Documents.{DwUnit}
use Rattle.dwz_def_reading.specs.Entries.{Mode}
use Rattle.dwz_def_reading.specs.Files.{debug_abbrev, debug_aranges, debug_info, is_place_of, place_if_whole, unit_places}
use Rattle.dwz_def_reading.specs.Input.{input}
use Rattle.dwz_def_reading.specs.Places.{Place}
use Rattle.dwz_def_reading.specs.Ranges.{RangeSet, sets_at}
use Rattle.dwz_def_reading.specs.Units.{CompileUnit, PartialUnit, RawKind, RawUnit, SpellsUnits, TypeUnit, entry_count}
use Rattle.dwz_def_reading.proofs.PlacesRise.{RiseTo}
use Rattle.dwz_def_reading.proofs.RangeLemmas.{sets_agree}
use Rattle.dwz_def_reading.proofs.UnitListLemmas.{some_unit}
use Rattle.dwz_def_expand.specs.OneFile.{OneFile, ReadsOne, limits_behind, rule_for}
use Rattle.dwz_def_expand.specs.Output.{wholes}
use Rattle.dwz_expand_sections.specs.StartLaws.{CanHaveRanges}
use Rattle.dwz_expand_sections.proofs.RangeLemmas.{places_in_file}

-- ---- units that aren't partial

module _ (abbrevs : List ℕ) (mode : Mode) (end : ℕ) where
  whole_rise : (before : ℕ) (raw : List RawUnit) (start : ℕ) (bytes : List ℕ) → SpellsUnits abbrevs mode before raw start bytes → start + length bytes ≤ end → (a : ℕ) → a ≤ start
      → RiseTo a (unit_places raw) end
  unfolding unit_places
  whole_rise before [] start bytes s within a le = omega (arith, within, le)
  whole_rise before (u ∷ raw) start bytes s within a le = by (whole_rise (before + entry_count u) raw (start + length s.first_bytes) s.second_bytes s.second rest) u.kind where
    some : 0 < length s.first_bytes
    some = some_unit abbrevs mode before u start s.first_bytes s.first

    parts : length bytes ≡ length s.first_bytes + length s.second_bytes
    parts = ap length s.parts ∙ length-append s.first_bytes s.second_bytes

    rest : start + length s.first_bytes + length s.second_bytes ≤ end
    rest = omega (arith, within, parts)

    place : u.at ≡ start
    place = s.first.place

    by : ((b : ℕ) → b ≤ start + length s.first_bytes → RiseTo b (unit_places raw) end) → (k : RawKind) → RiseTo a (place_if_whole k u.at ++ unit_places raw) end
    by more CompileUnit = (omega (arith, le, place), more (suc u.at) (omega (arith, some, place)))
    by more (TypeUnit signature type_offset) = (omega (arith, le, place), more (suc u.at) (omega (arith, some, place)))
    by more PartialUnit = more a (omega (arith, le))

increases : (a : ℕ) (ns : List ℕ) (end : ℕ) → RiseTo a ns end → IsStrictlyIncreasing ns
increases a [] end h k lt = absurd (omega arith)
increases a (n ∷ []) end h k lt = absurd (omega arith)
increases a (n ∷ m ∷ ns) end h zero lt = (let next = h.1.0 in omega (arith, next))
increases a (n ∷ m ∷ ns) end h (suc k) lt =
    let rest = increases (suc n) (m ∷ ns) end h.1 k (omega arith) in
    let same : suc (k + 1) ≡ suc k + 1 = omega arith in
    subst (λ (i : ℕ). get_or (n ∷ m ∷ ns) (suc k) 0 < get_or (n ∷ m ∷ ns) i 0) same rest

-- ---- of a file

pub can_have : (f : OneFile) → ReadsOne f → CanHaveRanges f
can_have f read =
    let raw = f.file.raw in
    let good = read.file.ranges in
    let old = debug_aranges f.file.bytes in
    let sets : sets_at any_unit (input old 0) ≡ Ok good.sets = ((sets_agree any_unit (input old 0)).ok good.sets).1 (of_any (is_place_of raw) good.sets 0 old good.spelled) in
    record {
      reads = subst (λ (r : Result (List RangeSet) Fault). IsOk r) (sym sets) refl;
      rises =
          increases 0 (unit_places raw) (length (debug_info f.file.bytes))
          (whole_rise (debug_abbrev f.file.bytes) ((rule_for f 0).mode (limits_behind f.common).entries) (length (debug_info f.file.bytes)) 0 raw 0 (debug_info f.file.bytes) read.file.spelled
          (omega arith) 0 (omega arith));
      as_many = ap length (places_in_file f read) ∙ length-map (wholes f) (λ (u : DwUnit Place). u.at.at);
    }
