-- The entry of a common file that a value names.
use Rattle.std.proofs.Common.{◌≡◌, ℕ, ◌+◌, ◌<◌, ◌≤◌, List, [], ◌∷◌, ◌++◌, length, Some, None, Ok, Err, sym, ap, subst, ◌∙◌, arith}
use Rattle.std.specs.Prelude.{slice_index, slice_range}
use Rattle.dwz_model.specs.declared.fault.Fault.{Fault}
use Rattle.dwz_model.specs.declared.fault.ReadErr.{ReadErr}
use Rattle.dwz_model.specs.declared.fault.ReadErr.TheVariants.{NoMemory, Refused}
use Rattle.dwz_model.specs.declared.fault.Reason.TheVariants.{BadReference}
use Rattle.dwz_def_reading.specs.Entries.{RawAttr}
use Rattle.dwz_def_reading.specs.Faults.{Fails, info_fault}
use Rattle.dwz_def_reading.specs.Meanings.{all_places, has, offset_of}
use Rattle.dwz_def_reading.specs.Meant.{common_entry, entry_among}
use Rattle.dwz_def_reading.specs.Units.{RawUnit, entries_in}
use Rattle.dwz_graph_resolve.specs.declared.surroundings.CommonPart.{CommonPart}
use Rattle.dwz_graph_resolve.specs.Resolved.{NamesEntry, place_at, places}
use Rattle.dwz_graph_resolve.specs.Surroundings.{behind_own, common_view, entries_among}
use Rattle.dwz_graph_resolve.proofs.NamedSteps.{common_added, entry_missed}
use Rattle.dwz_graph_resolve.proofs.PlaceLemmas.{all_are, among_none, among_there, places_are, places_many}
use Rattle.dwz_unit.specs.Rows.{units_of}

-- its entries are all that are there
all_of : (raw : List RawUnit) (end : ℕ) → end ≡ entries_in raw → slice_range (places raw) 0 end ≡ all_places raw
all_of raw end all = ap (λ (n : ℕ). slice_range (places raw) 0 n) all ∙ all_are raw

bad_entry : (at place : ℕ) (e : ReadErr) → e ≡ Refused (info_fault at BadReference) → Fails e (entry_among behind_own [] at place)
unfolding has
bad_entry at place NoMemory is = tt
bad_entry at place (Refused f) is = let same : info_fault at BadReference ≡ f = cc in ap (λ (w : Fault). Err w) same

module _ (part : CommonPart) (a : RawAttr) (end p : ℕ) (all : end ≡ entries_in (units_of part.units.now)) (of : offset_of a ≡ p) where
  pub common_found : (raw : List RawUnit) (old new : List ℕ) (own j : ℕ) → own ≡ entries_in raw → j < end → place_at (units_of part.units.now) j ≡ p → new ≡ old ++ (own + j) ∷ []
      → NamesEntry {Y = Unit {0}} (common_view (Some part)) raw old new (Ok tt) (common_entry a (common_view (Some part)))
  common_found raw old new own j many lt at added =
      let entries = units_of part.units.now in
      common_added (record { entries = all_places entries; place = behind_own; strs = part.strs.bytes.now }) raw a old new j p of (added ∙ ap (λ (n : ℕ). old ++ (n + j) ∷ []) many)
      (among_there entries 0 end j p (all_places entries) (all_of entries end all) (omega (arith, all)) (omega arith) lt at)
      (ap (λ (ps : List ℕ). slice_index ps j) (sym (places_are entries)) ∙ at)
      (omega (arith, all, lt, ap (λ (w : List ℕ). length w) (places_are entries), places_many entries))

  pub common_missed : (e : ReadErr) → ((i : ℕ) → 0 ≤ i → i < end → place_at (units_of part.units.now) i ≡ p → ⊥) → e ≡ Refused (info_fault a.at BadReference)
      → Fails e (common_entry a (common_view (Some part)))
  common_missed e none is =
      let entries = units_of part.units.now in
      subst (λ (q : ℕ). Fails e (entry_among behind_own (all_places entries) a.at q)) (sym of)
      (entry_missed behind_own (all_places entries) a.at p e (among_none entries 0 end p (all_places entries) (all_of entries end all) none) (bad_entry a.at p e is))

-- how many entries there are, all together
pub both_many : (part : CommonPart) (raw : List RawUnit) → entries_among (common_view (Some part)) raw ≡ entries_in raw + entries_in (units_of part.units.now)
both_many part raw =
    let entries = units_of part.units.now in
    omega (arith, ap (λ (w : List ℕ). length w) (places_are entries), places_many entries)

-- there is no common file
pub no_common : (a : RawAttr) (e : ReadErr) → e ≡ Refused (info_fault a.at BadReference) → Fails e (common_entry {P = ℕ} a None)
no_common a NoMemory is = tt
no_common a (Refused f) is = let same : info_fault a.at BadReference ≡ f = cc in ap (λ (w : Fault). Err w) same
