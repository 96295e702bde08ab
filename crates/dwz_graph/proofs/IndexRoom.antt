-- A file has fewer entries than bytes.
use Rattle.std.proofs.Common.{◌≡◌, ℕ, suc, ◌+◌, ◌≤◌, ◌^◌, List, [], ◌∷◌, length, Ok, refl, ap, arith}
use Rattle.std.proofs.lemmas.List.{length-append}
use Rattle.dwz_def_reading.specs.ElfNames.{sections_in}
use Rattle.dwz_def_reading.specs.ElfReading.{section_range}
use Rattle.dwz_def_reading.specs.Entries.{Mode, RawEntry, given}
use Rattle.dwz_def_reading.specs.Input.{input}
use Rattle.dwz_def_reading.specs.Trees.{End, Entry, Forest, size}
use Rattle.dwz_def_reading.specs.Rules.{ReadingRule}
use Rattle.dwz_def_reading.specs.Units.{RawUnit, entries_in, units_at}
use Rattle.dwz_def_reading.proofs.UnitListLemmas.{units_found}
use Rattle.dwz_def_reading.proofs.RangeBytes.{bytes_short}
use Rattle.dwz_def_reading.specs.Documents.{Doc, DwUnit}
use Rattle.dwz_def_reading.specs.Files.{Limits, around_of, debug_abbrev, debug_info, file_meaning, file_meaning_by, longest_file, section_of}
use Rattle.dwz_def_reading.specs.Meanings.{Around, MeanUnits, places_in, places_of}
use Rattle.dwz_def_reading.proofs.FileLemmas.{file_agrees, file_agrees_by}
use Rattle.dwz_graph_resolve.proofs.PlaceLemmas.{ascend_long, unit_and_entries, units_and_entries_ascend}

below_many : (f : Forest RawEntry) → length (places_in f) ≡ size f
unfolding places_in
below_many End = refl
below_many (Entry e c n) = omega (arith, length-append (places_in c) (places_in n), below_many c, below_many n)

places_many : (raw : List RawUnit) → entries_in raw ≤ length (unit_and_entries raw)
unfolding entries_in unit_and_entries
places_many [] = omega arith
places_many (u ∷ raw) = omega (arith, length-append (u.at ∷ places_of u) (unit_and_entries raw), below_many u.below, places_many raw)

pub units_fit : (abbrevs : List ℕ) (mode : Mode) (info : List ℕ) (raw : List RawUnit) → units_at abbrevs mode 0 (input info 0) ≡ Ok raw → entries_in raw ≤ length info
units_fit abbrevs mode info raw e =
    let rise = ascend_long (unit_and_entries raw) 0 (0 + length info) (units_and_entries_ascend abbrevs mode raw 0 0 info (units_found abbrevs mode 0 (input info 0) raw e)) in
    let all = places_many raw in
    omega arith

pub info_within : (bytes : List ℕ) → length (debug_info bytes) ≤ length bytes
unfolding section_of
info_within bytes = bytes_short bytes (section_range (sections_in bytes) 1)

pub entries_within : {P : Type 0} (rule : ReadingRule P) (l : Limits) (bytes : List ℕ) (raw : List RawUnit) (doc : Doc P) → file_meaning_by rule l bytes ≡ Ok (raw, doc) → entries_in raw ≤ 2 ^ 28
unfolding longest_file
entries_within rule l bytes raw doc e =
    let r = ((file_agrees_by rule l bytes).ok (raw, doc)).0 e in
    let rise = ascend_long (unit_and_entries raw) 0 (0 + length (debug_info bytes)) (units_and_entries_ascend (debug_abbrev bytes) (rule.mode l.entries) raw 0 0 (debug_info bytes) r.spelled) in
    let within = info_within bytes in
    let all = places_many raw in
    let size = r.size.file in
    omega arith

pub entries_few : (l : Limits) (bytes : List ℕ) (raw : List RawUnit) (doc : Doc ℕ) → file_meaning l bytes ≡ Ok (raw, doc) → (entries_in raw ≤ length bytes) × (length bytes ≤ l.bytes)
entries_few l bytes raw doc e =
    let r = ((file_agrees l bytes).ok (raw, doc)).0 e in
    let rise = ascend_long (unit_and_entries raw) 0 (0 + length (debug_info bytes)) (units_and_entries_ascend (debug_abbrev bytes) (given l.entries) raw 0 0 (debug_info bytes) r.spelled) in
    let within = info_within bytes in
    let all = places_many raw in
    (omega arith, r.size.files)

pub units_same : (around : Around ℕ) (raw : List RawUnit) (said : List (DwUnit ℕ)) → MeanUnits around raw said → length raw ≡ length said
units_same around [] [] h = refl
units_same around [] (v ∷ said) h = absurd h
units_same around (u ∷ raw) [] h = absurd h
units_same around (u ∷ raw) (v ∷ said) h = ap suc (units_same around raw said h.1)

pub many_units : (l : Limits) (bytes : List ℕ) (raw : List RawUnit) (doc : Doc ℕ) → file_meaning l bytes ≡ Ok (raw, doc) → length raw ≡ length doc.units
many_units l bytes raw doc e = let r = ((file_agrees l bytes).ok (raw, doc)).0 e in units_same (around_of bytes raw) raw doc.units r.means
