-- The first fault of files is what refuses them, and it is placed in the file or in a section.
use Rattle.std.proofs.Common.{◌≡◌, ℕ, suc, ◌≤◌, List, [], ◌∷◌, Some, None, sym, subst, inl, inr, lit≤}
use Rattle.dwz_model.specs.declared.fault.Fault.{Fault}
use Rattle.dwz_model.specs.declared.fault.Refusal.{Refusal}
use Rattle.dwz_def_reading.specs.Files.{First, HasMeaningFault, IsFileFault, Limits}
use Rattle.dwz_def_reading.specs.Files.{around_of, debug_abbrev, debug_info, limits_after, no_files_before}
use Rattle.dwz_def_reading.specs.Shared.{shared_list}
use Rattle.dwz_def_reading.proofs.FileLemmas.{files_agree}
use Rattle.dwz_def_reading.specs.Entries.{given}
use Rattle.dwz_run_files.specs.Stored.{RefusedLaw}
use Rattle.dwz_run_files.proofs.MeaningFaults.{meanings_placed}
use Rattle.dwz_run_files.proofs.UnitFaults.{OfSection, elf_placed, same_place, units_placed}

meaning_placed : (l : Limits) (bytes : List ℕ) (f : Fault) → HasMeaningFault l bytes f → OfSection f
meaning_placed l bytes f h = elim h.fault [
  | inl units ↦ meanings_placed (around_of bytes h.units) h.units f units
  | inr p ↦ elim p.1 [
    | inl sets ↦ same_place f _ sets.fails.1.0 (lit≤ tt)
    | inr shared ↦ same_place f (shared_list shared.1.place) shared.1.placed (lit≤ tt)
  ]
]

pub file_placed : (l : Limits) (bytes : List ℕ) (f : Fault) → IsFileFault l bytes f → OfSection f
file_placed l bytes f (inl size) = same_place f _ size.0 (lit≤ tt)
file_placed l bytes f (inr h) = elim h.1 [
  | inl elf ↦ elf_placed bytes f elf
  | inr p ↦ elim p.1 [
    | inl machine ↦ same_place f _ machine.0 (lit≤ tt)
    | inr q ↦ elim q.1 [
      | inl sup ↦ absurd (let none : None ≡ Some f = sup in cc)
      | inr s ↦ elim s.1 [
        | inl units ↦ units_placed (debug_abbrev bytes) (given l.entries) 0 0 (debug_info bytes) f units
        | inr meaning ↦ meaning_placed l bytes f meaning
      ]
    ]
  ]
]

-- so of files, whichever of them is refused
pub first_placed : (l : Limits) (number : ℕ) (contents : List (List ℕ)) (r : Refusal) → First l number contents r → r.section ≤ 9
first_placed l number [] r h = absurd h
first_placed l number (bytes ∷ contents) r (inl h) =
    subst (λ (q : Refusal). q.section ≤ 9) (sym h.same) (file_placed l bytes h.fault h.is_fault)
first_placed l number (bytes ∷ contents) r (inr h) = first_placed (limits_after l bytes h.0) (suc number) contents r h.3

pub refused : RefusedLaw
refused contents r is =
    let first = ((files_agree no_files_before 0 contents).err r).0 is in
    (first, first_placed no_files_before 0 contents r first)
