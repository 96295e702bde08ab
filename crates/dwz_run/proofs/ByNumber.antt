-- Whether a finished common file reads doesn't depend on its number, nor does the fault that it has.
use Rattle.std.proofs.Common.{◌≡◌, ◌⊎◌, ℕ, List, [], length, map, None, Ok, Err, refl, sym, ap, subst, ◌∙◌, inl, inr, ◌≤◌, arith}
use Rattle.dwz_model.specs.declared.fault.Fault.{Fault}
use Rattle.dwz_model.specs.declared.fault.Refusal.{Refusal}
use Rattle.dwz_def_reading.specs.Documents.{Doc, DwUnit, unit_map}
use Rattle.dwz_def_reading.specs.Entries.{of_common}
use Rattle.dwz_def_reading.specs.Faults.{map_ok}
use Rattle.dwz_def_reading.specs.Files.{HasMeaningFaultBy, IsFaultBy, ReadsBy, debug_abbrev, debug_info, no_files_before}
use Rattle.dwz_def_reading.specs.Finished.{BesideDocs, around_in, beside_meaning, refusal_of, rule_of_common}
use Rattle.dwz_def_reading.specs.Lists.{Each}
use Rattle.dwz_def_reading.specs.Meanings.{Around, MeanUnits}
use Rattle.dwz_def_reading.specs.MeaningFaults.{HaveUnitFault}
use Rattle.dwz_def_reading.specs.Meant.{units_meaning}
use Rattle.dwz_def_reading.specs.NamedLists.{lists_of_units}
use Rattle.dwz_def_reading.specs.OtherPlaces.{AreMapped, LiesBelow}
use Rattle.dwz_def_reading.specs.Places.{Place, at_file}
use Rattle.dwz_def_reading.specs.Shared.{IsSharedFault, NamedList}
use Rattle.dwz_def_reading.specs.Units.{RawUnit, SpellsUnits}
use Rattle.dwz_def_reading.proofs.FinishedLemmas.{beside_agrees}
use Rattle.dwz_def_reading.proofs.ListsMapped.{lists_mapped}
use Rattle.dwz_def_reading.proofs.MeaningUnits.{units_agree}
use Rattle.dwz_def_reading.proofs.PlacesMapped.{units_mapped}
use Rattle.dwz_def_reading.proofs.PlacesRise.{entries_below, units_below}
use Rattle.dwz_def_run.proofs.OneFile.{by_number}
use Rattle.dwz_run.proofs.FinishedPlaced.{beside_placed}

abbrev placed : ℕ → Place → Place
placed number place = at_file number place.at

module _ (m n : ℕ) (bytes : List ℕ) (raw : List RawUnit)
    (spelled : SpellsUnits (debug_abbrev bytes) (of_common no_files_before.entries) 0 raw 0 (debug_info bytes)) where
  abbrev old : Around Place
  old = around_in None m bytes raw

  abbrev new : Around Place
  new = around_in None n bytes raw

  lie : Each (LiesBelow (length (debug_info bytes))) raw
  lie = units_below (debug_abbrev bytes) (of_common no_files_before.entries) 0 raw 0 (debug_info bytes) (length (debug_info bytes)) spelled (omega (arith))

  mapped : AreMapped (placed n) (length (debug_info bytes)) old new
  mapped = record {
    sources = refl;
    all = refl;
    below = entries_below (length (debug_info bytes)) raw lie;
    place = λ p lt. refl;
    common = tt;
  }

  same_meaning : units_meaning new raw ≡ map_ok (map (unit_map (placed n))) (units_meaning old raw)
  same_meaning = units_mapped (placed n) (length (debug_info bytes)) old new mapped raw lie

  same_fault : (f : Fault) → HaveUnitFault old raw f → HaveUnitFault new raw f
  same_fault f is = ((units_agree new raw).err f).0 (same_meaning ∙ ap (map_ok (map (unit_map (placed n)))) (((units_agree old raw).err f).1 is))

  also_mean : (said : List (DwUnit Place)) → MeanUnits old raw said → MeanUnits new raw (map (unit_map (placed n)) said)
  also_mean said is =
      ((units_agree new raw).ok (map (unit_map (placed n)) said)).0
      (same_meaning ∙ ap (map_ok (map (unit_map (placed n)))) (((units_agree old raw).ok said).1 is))

  same_shared : (f : Fault) → IsSharedFault (lists_of_units old raw) f → IsSharedFault (lists_of_units new raw) f
  same_shared f is = subst (λ (lists : List NamedList). IsSharedFault lists f) (sym (lists_mapped old new refl refl raw)) is

same_meant : (m n : ℕ) (bytes : List ℕ) (f : Fault) → HasMeaningFaultBy (rule_of_common m) no_files_before bytes f → HasMeaningFaultBy (rule_of_common n) no_files_before bytes f
same_meant m n bytes f h = record {
  units = h.units;
  spelled = h.spelled;
  fault = elim h.fault [
    | inl unit ↦ inl (same_fault m n bytes h.units h.spelled f unit)
    | inr p ↦ inr (
      (map (unit_map (placed n)) p.0.0, also_mean m n bytes h.units h.spelled p.0.0 p.0.1),
      elim p.1 [
        | inl sets ↦ inl sets
        | inr shared ↦ inr (shared.0, same_shared m n bytes h.units h.spelled f shared.1)
      ],
    )
  ];
}

-- the fault that it has by one number it has by another
fault_by_number : (m n : ℕ) (bytes : List ℕ) (f : Fault) → IsFaultBy (rule_of_common m) no_files_before bytes f → IsFaultBy (rule_of_common n) no_files_before bytes f
fault_by_number m n bytes f (inl size) = inl size
fault_by_number m n bytes f (inr h) = inr (
  h.0,
  elim h.1 [
    | inl elf ↦ inl elf
    | inr p ↦ inr (
      p.0,
      elim p.1 [
        | inl machine ↦ inl machine
        | inr q ↦ inr (
          q.0,
          elim q.1 [
            | inl sup ↦ inl sup
            | inr s ↦ inr (s.0, elim s.1 [ inl units ↦ inl units | inr meaning ↦ inr (same_meant m n bytes f meaning) ])
          ],
        )
      ],
    )
  ],
)

-- ---- with no file beside it

pub common_is_read : (n : ℕ) (bytes : List ℕ) (said : BesideDocs) → beside_meaning bytes [] ≡ Ok said
    → (units : List RawUnit) × (doc : Doc Place) × ReadsBy (rule_of_common n) no_files_before bytes units doc
common_is_read n bytes said means =
    let read = ((beside_agrees bytes []).ok said).0 means in (read.0, _, by_number 0 n bytes read.0 said.common read.1)

pub common_is_refused : (n : ℕ) (bytes : List ℕ) (r : Refusal) → beside_meaning bytes [] ≡ Err r
    → ((f : Fault) × IsFaultBy (rule_of_common n) no_files_before bytes f × (record r { file = n } ≡ refusal_of n f)) × (r.section ≤ 9)
common_is_refused n bytes r means =
    let first = ((beside_agrees bytes []).err r).0 means in (
      elim first [
        | inl is ↦ (is.0, fault_by_number 0 n bytes is.0 is.1, ap (λ (q : Refusal). record q { file = n }) is.2)
        | inr none ↦ absurd none.3
      ],
      beside_placed bytes [] r first,
    )
