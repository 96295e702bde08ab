-- What a file says where numbers stand for places is what it says with the places that have these.
use Rattle.std.proofs.Common.{◌≡◌, ℕ, ◌<◌, ◌^◌, Bool, true, false, List, map, Option, Some, None, Result, Ok, Err, refl, ap, subst, ◌∙◌, arith}
use Rattle.dwz_model.specs.Lists.{Each, In}
use Rattle.dwz_model.specs.declared.fault.Fault.{Fault}
use Rattle.dwz_model.specs.declared.fault.ReadErr.{ReadErr}
use Rattle.dwz_model.specs.declared.fault.ReadErr.TheVariants.{NoMemory, Refused}
use Rattle.dwz_model.specs.declared.fault.Reason.TheVariants.{FileSize, Machine}
use Rattle.dwz_def_reading.specs.Input.{input}
use Rattle.dwz_def_reading.specs.Reading.{◌>>=◌}
use Rattle.dwz_def_reading.specs.Documents.{Doc, DwUnit, unit_map}
use Rattle.dwz_def_reading.specs.ElfFaults.{file_fault}
use Rattle.dwz_def_reading.specs.ElfReading.{elf_fault_for}
use Rattle.dwz_def_reading.specs.Entries.{unless_so}
use Rattle.dwz_def_reading.specs.Faults.{Fails, map_ok}
use Rattle.dwz_def_reading.specs.Files.{Limits, debug_abbrev, debug_info, doc_with, ends_at, file_meaning_by, is_other_machine, is_too_long, lists_said, machine_at, machine_of, sets_said, units_said}
use Rattle.dwz_def_reading.specs.Meanings.{all_places}
use Rattle.dwz_def_reading.specs.Meant.{units_meaning}
use Rattle.dwz_def_reading.specs.NamedLists.{lists_of_units}
use Rattle.dwz_def_reading.specs.OtherPlaces.{LiesBelow, numbered, place_numbered}
use Rattle.dwz_def_reading.specs.Ranges.{RangeSet}
use Rattle.dwz_def_reading.specs.Rules.{ReadingRule}
use Rattle.dwz_def_reading.specs.Shared.{NamedList, none_shared}
use Rattle.dwz_def_reading.specs.Units.{RawUnit, units_at}
use Rattle.dwz_def_reading.proofs.ListsMapped.{lists_mapped}
use Rattle.dwz_def_reading.proofs.PlacesNumbered.{units_numbered}
use Rattle.dwz_def_reading.proofs.PlacesRise.{entries_below, units_below}
use Rattle.dwz_def_reading.proofs.UnitListLemmas.{units_found}
use Rattle.dwz_graph.specs.ByRule.{doc_placed, numbered_rule}
use Rattle.dwz_graph.proofs.FileLemmas.{bytes_short}
use Rattle.dwz_graph.proofs.IndexRoom.{info_within}

module _ {P : Type 0} (rule : ReadingRule P) where
  abbrev pub placed : List ℕ → Result (List RawUnit × Doc ℕ) Fault → Result (List RawUnit × Doc P) Fault
  placed bytes (Ok x) = Ok (x.0, doc_placed rule bytes x.0 x.1)
  placed bytes (Err f) = Err f

  module _ (own : (bytes : List ℕ) (units : List RawUnit) → (rule.around bytes units).all ≡ all_places units) where
    units_placed : (bytes : List ℕ) (raw : List RawUnit) → Each (LiesBelow (2 ^ 32)) raw → units_said rule bytes raw ≡ placed bytes (units_said (numbered_rule rule) bytes raw)
    units_placed bytes raw lie =
        ap (λ (r : Result (List (DwUnit P)) Fault). r >>= λ said. sets_said bytes raw >>= λ sets. lists_said (rule.around bytes raw) raw >>= λ good. doc_with bytes raw said) same
        ∙ by (units_meaning (numbered (2 ^ 32) (rule.around bytes raw)) raw) where
          units_are : List (DwUnit ℕ) → List (DwUnit P)
          units_are units = map (unit_map (place_numbered (2 ^ 32) (rule.around bytes raw))) units

          below : (n : ℕ) → In n (rule.around bytes raw).all → n < 2 ^ 32
          below n there = entries_below (2 ^ 32) raw lie n (subst (λ (ps : List ℕ). In n ps) (own bytes raw) there)

          same : units_meaning (rule.around bytes raw) raw ≡ map_ok units_are (units_meaning (numbered (2 ^ 32) (rule.around bytes raw)) raw)
          same = units_numbered (2 ^ 32) (rule.around bytes raw) below raw lie

          lists : lists_of_units (rule.around bytes raw) raw ≡ lists_of_units (numbered (2 ^ 32) (rule.around bytes raw)) raw
          lists = lists_mapped (numbered (2 ^ 32) (rule.around bytes raw)) (rule.around bytes raw) refl refl raw

          by_lists : (units : List (DwUnit ℕ)) (r : Result (Unit {0}) Fault) → (r >>= λ good. doc_with bytes raw (units_are units)) ≡ placed bytes (r >>= λ good. doc_with bytes raw units)
          by_lists units (Ok good) = refl
          by_lists units (Err f) = refl

          by_sets : (units : List (DwUnit ℕ)) (r : Result (List RangeSet) Fault) → (r >>= λ sets. lists_said (rule.around bytes raw) raw >>= λ good. doc_with bytes raw (units_are units))
              ≡ placed bytes (r >>= λ sets. lists_said (numbered (2 ^ 32) (rule.around bytes raw)) raw >>= λ good. doc_with bytes raw units)
          by_sets units (Ok sets) =
              ap (λ (ls : List NamedList). none_shared ls >>= λ good. doc_with bytes raw (units_are units)) lists ∙ by_lists units (lists_said (numbered (2 ^ 32) (rule.around bytes raw)) raw)
          by_sets units (Err f) = refl

          by : (r : Result (List (DwUnit ℕ)) Fault) → (map_ok units_are r >>= λ said. sets_said bytes raw >>= λ sets. lists_said (rule.around bytes raw) raw >>= λ good. doc_with bytes raw said)
              ≡ placed bytes (r >>= λ said. sets_said bytes raw >>= λ sets. lists_said (numbered (2 ^ 32) (rule.around bytes raw)) raw >>= λ good. doc_with bytes raw said)
          by (Ok units) = by_sets units (sets_said bytes raw)
          by (Err f) = refl

    pub meaning_placed : (l : Limits) (bytes : List ℕ) → file_meaning_by rule l bytes ≡ placed bytes (file_meaning_by (numbered_rule rule) l bytes)
    unfolding file_meaning_by
    meaning_placed l bytes = by_size (is_too_long l bytes) refl where
      lie : (raw : List RawUnit) → is_too_long l bytes ≡ false → units_at (debug_abbrev bytes) (rule.mode l.entries) 0 (input (debug_info bytes) 0) ≡ Ok raw → Each (LiesBelow (2 ^ 32)) raw
      lie raw size e =
          let within = info_within bytes in
          let short = bytes_short l bytes size in
          units_below (debug_abbrev bytes) (rule.mode l.entries) 0 raw 0 (debug_info bytes) (2 ^ 32)
          (units_found (debug_abbrev bytes) (rule.mode l.entries) 0 (input (debug_info bytes) 0) raw e) (omega arith)

      by_units : is_too_long l bytes ≡ false → (r : Result (List RawUnit) Fault) → units_at (debug_abbrev bytes) (rule.mode l.entries) 0 (input (debug_info bytes) 0) ≡ r
          → (r >>= units_said rule bytes) ≡ placed bytes (r >>= units_said (numbered_rule rule) bytes)
      by_units size (Ok raw) e = units_placed bytes raw (lie raw size e)
      by_units size (Err f) e = refl

      by_sup : is_too_long l bytes ≡ false → (o : Option Fault)
          → (ends_at o >>= λ sup. units_at (debug_abbrev bytes) (rule.mode l.entries) 0 (input (debug_info bytes) 0) >>= units_said rule bytes)
          ≡ placed bytes (ends_at o >>= λ sup. units_at (debug_abbrev bytes) (rule.mode l.entries) 0 (input (debug_info bytes) 0) >>= units_said (numbered_rule rule) bytes)
      by_sup size None = by_units size (units_at (debug_abbrev bytes) (rule.mode l.entries) 0 (input (debug_info bytes) 0)) refl
      by_sup size (Some f) = refl

      by_machine : is_too_long l bytes ≡ false → (b : Bool)
          → (unless_so b (file_fault Machine machine_at) >>= λ machine. ends_at (rule.sup_fault bytes)
          >>= λ sup. units_at (debug_abbrev bytes) (rule.mode l.entries) 0 (input (debug_info bytes) 0) >>= units_said rule bytes)
          ≡ placed bytes (unless_so b (file_fault Machine machine_at) >>= λ machine. ends_at (rule.sup_fault bytes)
          >>= λ sup. units_at (debug_abbrev bytes) (rule.mode l.entries) 0 (input (debug_info bytes) 0) >>= units_said (numbered_rule rule) bytes)
      by_machine size true = refl
      by_machine size false = by_sup size (rule.sup_fault bytes)

      by_elf : is_too_long l bytes ≡ false → (o : Option Fault)
          → (ends_at o >>= λ elf. unless_so (is_other_machine l.machine (machine_of bytes)) (file_fault Machine machine_at) >>= λ machine. ends_at (rule.sup_fault bytes)
          >>= λ sup. units_at (debug_abbrev bytes) (rule.mode l.entries) 0 (input (debug_info bytes) 0) >>= units_said rule bytes)
          ≡ placed bytes (ends_at o >>= λ elf. unless_so (is_other_machine l.machine (machine_of bytes)) (file_fault Machine machine_at) >>= λ machine. ends_at (rule.sup_fault bytes)
          >>= λ sup. units_at (debug_abbrev bytes) (rule.mode l.entries) 0 (input (debug_info bytes) 0) >>= units_said (numbered_rule rule) bytes)
      by_elf size None = by_machine size (is_other_machine l.machine (machine_of bytes))
      by_elf size (Some f) = refl

      by_size : (b : Bool) → is_too_long l bytes ≡ b
          → (unless_so b (file_fault FileSize 0) >>= λ size. ends_at (elf_fault_for rule.manner bytes)
          >>= λ elf. unless_so (is_other_machine l.machine (machine_of bytes)) (file_fault Machine machine_at) >>= λ machine. ends_at (rule.sup_fault bytes)
          >>= λ sup. units_at (debug_abbrev bytes) (rule.mode l.entries) 0 (input (debug_info bytes) 0) >>= units_said rule bytes)
          ≡ placed bytes (unless_so b (file_fault FileSize 0) >>= λ size. ends_at (elf_fault_for rule.manner bytes)
          >>= λ elf. unless_so (is_other_machine l.machine (machine_of bytes)) (file_fault Machine machine_at) >>= λ machine. ends_at (rule.sup_fault bytes)
          >>= λ sup. units_at (debug_abbrev bytes) (rule.mode l.entries) 0 (input (debug_info bytes) 0) >>= units_said (numbered_rule rule) bytes)
      by_size true e = refl
      by_size false e = by_elf e (elf_fault_for rule.manner bytes)

    pub means_placed : (l : Limits) (bytes : List ℕ) (raw : List RawUnit) (doc : Doc ℕ) → file_meaning_by (numbered_rule rule) l bytes ≡ Ok (raw, doc)
        → file_meaning_by rule l bytes ≡ Ok (raw, doc_placed rule bytes raw doc)
    means_placed l bytes raw doc e = meaning_placed l bytes ∙ ap (placed bytes) e

    pub fails_placed : (e : ReadErr) (l : Limits) (bytes : List ℕ) → Fails e (file_meaning_by (numbered_rule rule) l bytes) → Fails e (file_meaning_by rule l bytes)
    fails_placed NoMemory l bytes is = tt
    fails_placed (Refused f) l bytes is = meaning_placed l bytes ∙ ap (placed bytes) is
