-- From what is found to what is answered.
use Rattle.std.proofs.Common.{◌≡◌, ℕ, List, Result, Ok, Err, refl, sym, ap, ◌∙◌}
use Rattle.dwz_model.specs.declared.fault.Fault.{Fault}
use Rattle.dwz_model.specs.declared.fault.ReadErr.{ReadErr}
use Rattle.dwz_model.specs.declared.fault.ReadErr.TheVariants.{NoMemory, Refused}
use Rattle.std.specs.Prelude.{IsOk}
use Rattle.std.proofs.lemmas.Bool.{false≢true}
use Rattle.dwz_def_reading.specs.Input.{input}
use Rattle.dwz_def_reading.specs.Reading.{◌>>=◌}
use Rattle.dwz_def_reading.specs.Files.{is_place_of}
use Rattle.dwz_def_reading.specs.Ranges.{RangeSet, sets_at}
use Rattle.dwz_graph_resolve.specs.Said.{behind_sets, behind_units, kept, said}
use Rattle.dwz_def_reading.specs.Faults.{Fails}
use Rattle.dwz_def_reading.specs.Units.{RawUnit}
use Rattle.dwz_def_reading.specs.Documents.{DwUnit}
use Rattle.dwz_def_reading.specs.Meanings.{Around}
use Rattle.dwz_def_reading.specs.Meant.{units_meaning}
use Rattle.dwz_def_reading.specs.NamedLists.{lists_of_units}
use Rattle.dwz_def_reading.specs.Shared.{NamedList, none_shared}
use Rattle.dwz_graph_resolve.specs.Named.{Found, found, map_ok, units_named, units_refs}
use Rattle.dwz_graph_resolve.proofs.NamedLemmas.{units_found, units_same}

-- the same fault
fault_of : (lists : List NamedList) (r : Result (List (DwUnit ℕ)) Fault) (f : Fault) → map_ok (units_found lists) r ≡ Err f → r ≡ Err f
fault_of lists (Ok units) f e = absurd cc
fault_of lists (Err g) f e = let same : g ≡ f = cc in ap (λ (w : Fault). Err w) same

pub units_fail : (around : Around ℕ) (raw : List RawUnit) (e : ReadErr) → Fails e (units_named around raw) → Fails e (units_meaning around raw)
units_fail around raw NoMemory h = tt
units_fail around raw (Refused f) h = fault_of (lists_of_units around raw) (units_meaning around raw) f (sym (units_same around raw) ∙ h)

-- the units, and what they name
pub record HasUnits (around : Around ℕ) (raw : List RawUnit) (refs : List ℕ) (lists : List NamedList) : Type 0 where
  pub units : List (DwUnit ℕ)
  pub means : units_meaning around raw ≡ Ok units
  pub refs_are : units_refs units ≡ refs
  pub lists_are : lists_of_units around raw ≡ lists

has_units : (around : Around ℕ) (raw : List RawUnit) (refs : List ℕ) (lists : List NamedList) (r : Result (List (DwUnit ℕ)) Fault) → units_meaning around raw ≡ r
    → map_ok (units_found (lists_of_units around raw)) r ≡ Ok (found refs lists) → HasUnits around raw refs lists
has_units around raw refs lists (Ok units) is e =
    let same : found (units_refs units) (lists_of_units around raw) ≡ found refs lists = cc in
    record { units = units; means = is; refs_are = ap (λ (w : Found). w.refs) same; lists_are = ap (λ (w : Found). w.lists) same }
has_units around raw refs lists (Err f) is e = absurd cc

pub units_there : (around : Around ℕ) (raw : List RawUnit) (refs : List ℕ) (lists : List NamedList) → units_named around raw ≡ Ok (found refs lists) → HasUnits around raw refs lists
units_there around raw refs lists e = has_units around raw refs lists (units_meaning around raw) refl (sym (units_same around raw) ∙ e)

-- ---- what units say, or the first fault

pub said_fail : (around : Around ℕ) (raw : List RawUnit) (aranges : List ℕ) (e : ReadErr) → Fails e (units_named around raw) → Fails e (map_ok units_refs (said around raw aranges))
said_fail around raw aranges NoMemory h = tt
said_fail around raw aranges (Refused f) h = ap (λ (r : Result (List (DwUnit ℕ)) Fault). map_ok units_refs (r >>= behind_units around raw aranges)) (units_fail around raw (Refused f) h)

said_units : (around : Around ℕ) (raw : List RawUnit) (aranges refs : List ℕ) (lists : List NamedList) (h : HasUnits around raw refs lists)
    → said around raw aranges ≡ behind_units around raw aranges h.units
said_units around raw aranges refs lists h = ap (λ (r : Result (List (DwUnit ℕ)) Fault). r >>= behind_units around raw aranges) h.means

pub sets_fail : (around : Around ℕ) (raw : List RawUnit) (aranges refs : List ℕ) (lists : List NamedList) (e : ReadErr) → units_named around raw ≡ Ok (found refs lists)
    → Fails e (sets_at (is_place_of raw) (input aranges 0)) → Fails e (map_ok units_refs (said around raw aranges))
sets_fail around raw aranges refs lists NoMemory named bad = tt
sets_fail around raw aranges refs lists (Refused f) named bad =
    let h = units_there around raw refs lists named in
    ap (map_ok units_refs) (said_units around raw aranges refs lists h ∙ ap (λ (r : Result (List RangeSet) Fault). r >>= behind_sets around raw h.units) bad)

some_sets : (r : Result (List RangeSet) Fault) → IsOk r → (sets : List RangeSet) × (r ≡ Ok sets)
some_sets (Ok sets) h = (sets, refl)
some_sets (Err f) h = absurd (false≢true h)

said_sets : (around : Around ℕ) (raw : List RawUnit) (aranges refs : List ℕ) (lists : List NamedList) (h : HasUnits around raw refs lists) → IsOk (sets_at (is_place_of raw) (input aranges 0))
    → said around raw aranges ≡ (none_shared lists >>= kept h.units)
said_sets around raw aranges refs lists h good =
    let s = some_sets (sets_at (is_place_of raw) (input aranges 0)) good in
    said_units around raw aranges refs lists h ∙ ap (λ (r : Result (List RangeSet) Fault). r >>= behind_sets around raw h.units) s.1
    ∙ ap (λ (ls : List NamedList). none_shared ls >>= kept h.units) h.lists_are

pub lists_fail : (around : Around ℕ) (raw : List RawUnit) (aranges refs : List ℕ) (lists : List NamedList) (e : ReadErr) → units_named around raw ≡ Ok (found refs lists)
    → IsOk (sets_at (is_place_of raw) (input aranges 0)) → Fails e (none_shared lists) → Fails e (map_ok units_refs (said around raw aranges))
lists_fail around raw aranges refs lists NoMemory named good bad = tt
lists_fail around raw aranges refs lists (Refused f) named good bad =
    let h = units_there around raw refs lists named in
    ap (map_ok units_refs) (said_sets around raw aranges refs lists h good ∙ ap (λ (r : Result (Unit {0}) Fault). r >>= kept h.units) bad)

pub all_said : (around : Around ℕ) (raw : List RawUnit) (aranges refs : List ℕ) (lists : List NamedList) → units_named around raw ≡ Ok (found refs lists)
    → IsOk (sets_at (is_place_of raw) (input aranges 0)) → none_shared lists ≡ Ok tt → map_ok units_refs (said around raw aranges) ≡ Ok refs
all_said around raw aranges refs lists named good none =
    let h = units_there around raw refs lists named in
    ap (map_ok units_refs) (said_sets around raw aranges refs lists h good ∙ ap (λ (r : Result (Unit {0}) Fault). r >>= kept h.units) none) ∙ ap (λ (w : List ℕ). Ok w) h.refs_are

pub lists_said : (around : Around ℕ) (raw : List RawUnit) (refs : List ℕ) (lists : List NamedList) → units_named around raw ≡ Ok (found refs lists) → lists_of_units around raw ≡ lists
lists_said around raw refs lists named = (units_there around raw refs lists named).lists_are
