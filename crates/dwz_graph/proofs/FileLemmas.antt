-- A file is read step by step: its length, its sections, its machine, its units, and what these mean.
use Rattle.std.proofs.Common.{eqb, not, ◌≡◌, ℕ, ◌<◌, ◌≤◌, ◌^◌, Bool, true, false, List, length, Option, Some, None, Result, Ok, Err, refl, sym, ap, subst, ◌∙◌, inl, inr, ltb, arith}
use Rattle.std.proofs.lemmas.Bool.{cases_Bool, cases_lt, eqb-true, false≢true, lt-ltb}
use Rattle.dwz_model.specs.declared.fault.Fault.{Fault}
use Rattle.dwz_model.specs.declared.fault.ReadErr.{ReadErr}
use Rattle.dwz_model.specs.declared.fault.ReadErr.TheVariants.{NoMemory, Refused}
use Rattle.dwz_model.specs.declared.fault.Reason.TheVariants.{FileSize, Machine}
use Rattle.dwz_def_reading.specs.Input.{input}
use Rattle.dwz_def_reading.specs.Reading.{◌>>=◌}
use Rattle.dwz_def_reading.specs.Documents.{Doc, DwUnit}
use Rattle.dwz_def_reading.specs.ElfFaults.{file_fault}
use Rattle.dwz_def_reading.specs.ElfReading.{ElfView, bytes_in, elf_fault_for, elf_of, section_range}
use Rattle.dwz_def_reading.specs.Entries.{unless_so}
use Rattle.dwz_def_reading.specs.Faults.{Fails}
use Rattle.dwz_def_reading.specs.Files.{IsForMachine, IsNotTooLong, Limits, around_of, debug_abbrev, debug_aranges, debug_info, doc_with, lists_said, sets_said, units_said, ends_at, file_meaning_by}
use Rattle.dwz_def_reading.specs.Files.{is_other_machine, is_too_long, longest_file, machine_at, machine_of, section_of, sources_of, no_files_before}
use Rattle.dwz_def_reading.specs.Meanings.{Around, Sources, alone}
use Rattle.dwz_def_reading.specs.Meant.{units_meaning}
use Rattle.dwz_def_reading.specs.NamedLists.{lists_of_units}
use Rattle.dwz_def_reading.specs.Ranges.{RangeSet}
use Rattle.dwz_def_reading.specs.Rules.{ReadingRule}
use Rattle.dwz_def_reading.specs.Shared.{AreRows, ListOperand}
use Rattle.dwz_graph_resolve.specs.Said.{behind_sets, behind_units, kept, said}
use Rattle.dwz_def_reading.specs.Units.{RawUnit, units_at}
use Rattle.dwz_def_reading.proofs.CaseFacts.{or_left, or_right}
use Rattle.dwz_def_reading.proofs.RangeBytes.{bytes_short as in_bytes}
use Rattle.dwz_elf.specs.Reads.{GivesOrRefuses}
use Rattle.dwz_graph_resolve.specs.Named.{map_ok, units_refs}
use Rattle.dwz_graph.specs.declared.file.File.{File}
use Rattle.dwz_graph.specs.Files.{AreKept, IsRead}
use Rattle.dwz_graph.proofs.OneAfter.{many_as}

module _ {P : Type 0} (rule : ReadingRule P) where
  abbrev after_sup : Limits → List ℕ → Unit {0} → Result (List RawUnit × Doc P) Fault
  after_sup l bytes sup = units_at (debug_abbrev bytes) (rule.mode l.entries) 0 (input (debug_info bytes) 0) >>= units_said rule bytes

  abbrev after_machine : Limits → List ℕ → Unit {0} → Result (List RawUnit × Doc P) Fault
  after_machine l bytes machine = ends_at (rule.sup_fault bytes) >>= after_sup l bytes

  abbrev after_elf : Limits → List ℕ → Unit {0} → Result (List RawUnit × Doc P) Fault
  after_elf l bytes elf = unless_so (is_other_machine l.machine (machine_of bytes)) (file_fault Machine machine_at) >>= after_machine l bytes

  abbrev after_size : Limits → List ℕ → Unit {0} → Result (List RawUnit × Doc P) Fault
  after_size l bytes size = ends_at (elf_fault_for rule.manner bytes) >>= after_elf l bytes

  pub too_long : (l : Limits) (bytes : List ℕ) → is_too_long l bytes ≡ true → file_meaning_by rule l bytes ≡ Err (file_fault FileSize 0)
  unfolding file_meaning_by
  too_long l bytes e = ap (λ (b : Bool). unless_so b (file_fault FileSize 0) >>= after_size l bytes) e

  sized : (l : Limits) (bytes : List ℕ) → is_too_long l bytes ≡ false → file_meaning_by rule l bytes ≡ after_size l bytes tt
  unfolding file_meaning_by
  sized l bytes e = ap (λ (b : Bool). unless_so b (file_fault FileSize 0) >>= after_size l bytes) e

  pub elf_fails : (e : ReadErr) (l : Limits) (bytes : List ℕ) (elf : ElfView) → is_too_long l bytes ≡ false → GivesOrRefuses (Err e) (elf_fault_for rule.manner bytes) elf
      → Fails e (file_meaning_by rule l bytes)
  elf_fails NoMemory l bytes elf size is = tt
  elf_fails (Refused f) l bytes elf size is = sized l bytes size ∙ ap (λ (o : Option Fault). ends_at o >>= after_elf l bytes) is

  elf_reads : (l : Limits) (bytes : List ℕ) → is_too_long l bytes ≡ false → elf_fault_for rule.manner bytes ≡ None → file_meaning_by rule l bytes ≡ after_elf l bytes tt
  elf_reads l bytes size none = sized l bytes size ∙ ap (λ (o : Option Fault). ends_at o >>= after_elf l bytes) none

  pub other_machine : (l : Limits) (bytes : List ℕ) → is_too_long l bytes ≡ false → elf_fault_for rule.manner bytes ≡ None → is_other_machine l.machine (machine_of bytes) ≡ true
      → file_meaning_by rule l bytes ≡ Err (file_fault Machine machine_at)
  other_machine l bytes size none e = elf_reads l bytes size none ∙ ap (λ (b : Bool). unless_so b (file_fault Machine machine_at) >>= after_machine l bytes) e

  machine_reads : (l : Limits) (bytes : List ℕ) → is_too_long l bytes ≡ false → elf_fault_for rule.manner bytes ≡ None → is_other_machine l.machine (machine_of bytes) ≡ false
      → file_meaning_by rule l bytes ≡ after_machine l bytes tt
  machine_reads l bytes size none e = elf_reads l bytes size none ∙ ap (λ (b : Bool). unless_so b (file_fault Machine machine_at) >>= after_machine l bytes) e

  pub sup_fails : (l : Limits) (bytes : List ℕ) (f : Fault) → is_too_long l bytes ≡ false → elf_fault_for rule.manner bytes ≡ None → is_other_machine l.machine (machine_of bytes) ≡ false
      → rule.sup_fault bytes ≡ Some f → file_meaning_by rule l bytes ≡ Err f
  sup_fails l bytes f size none machine e = machine_reads l bytes size none machine ∙ ap (λ (o : Option Fault). ends_at o >>= after_sup l bytes) e

  -- up to `.debug_sup` nothing is wrong
  pub record IsGood (l : Limits) (bytes : List ℕ) : Type 0 where
    pub size : is_too_long l bytes ≡ false
    pub elf : elf_fault_for rule.manner bytes ≡ None
    pub machine : is_other_machine l.machine (machine_of bytes) ≡ false
    pub sup : rule.sup_fault bytes ≡ None

  good_reads : (l : Limits) (bytes : List ℕ) → IsGood l bytes → file_meaning_by rule l bytes ≡ after_sup l bytes tt
  good_reads l bytes g = machine_reads l bytes g.size g.elf g.machine ∙ ap (λ (o : Option Fault). ends_at o >>= after_sup l bytes) g.sup

  same_units : (l : Limits) (bytes info abbrevs : List ℕ) → info ≡ debug_info bytes → abbrevs ≡ debug_abbrev bytes → units_at (debug_abbrev bytes) (rule.mode l.entries) 0 (input (debug_info bytes) 0)
      ≡ units_at abbrevs (rule.mode l.entries) 0 (input info 0)
  same_units l bytes info abbrevs e f = (λ i. units_at (sym f i) (rule.mode l.entries) 0 (input (sym e i) 0))

  pub units_fail : (e : ReadErr) (l : Limits) (bytes info abbrevs : List ℕ) → IsGood l bytes → info ≡ debug_info bytes → abbrevs ≡ debug_abbrev bytes
      → Fails e (units_at abbrevs (rule.mode l.entries) 0 (input info 0)) → Fails e (file_meaning_by rule l bytes)
  units_fail NoMemory l bytes info abbrevs g e f is = tt
  units_fail (Refused x) l bytes info abbrevs g e f is =
      good_reads l bytes g ∙ ap (λ (r : Result (List RawUnit) Fault). r >>= units_said rule bytes) (same_units l bytes info abbrevs e f ∙ is)

  pub units_read : (l : Limits) (bytes info abbrevs : List ℕ) (raw : List RawUnit) → IsGood l bytes → info ≡ debug_info bytes → abbrevs ≡ debug_abbrev bytes
      → units_at abbrevs (rule.mode l.entries) 0 (input info 0) ≡ Ok raw → file_meaning_by rule l bytes ≡ units_said rule bytes raw
  units_read l bytes info abbrevs raw g e f is = good_reads l bytes g ∙ ap (λ (r : Result (List RawUnit) Fault). r >>= units_said rule bytes) (same_units l bytes info abbrevs e f ∙ is)

-- the bytes of a section, as code shows them
pub content_is : (bytes shown : List ℕ) (elf : ElfView) (code : ℕ) → elf ≡ elf_of bytes → shown ≡ bytes_in bytes (section_range elf.sections code) → shown ≡ section_of bytes code
unfolding section_of elf_of
content_is bytes shown elf code is e = e ∙ ap (λ (v : ElfView). bytes_in bytes (section_range v.sections code)) is

map_fails : (e : ReadErr) (bytes : List ℕ) (raw : List RawUnit) (r : Result (List (DwUnit ℕ)) Fault) → Fails e (map_ok units_refs r) → Fails e (r >>= doc_with bytes raw)
map_fails NoMemory bytes raw r is = tt
map_fails (Refused f) bytes raw (Ok units) is = absurd cc
map_fails (Refused f) bytes raw (Err g) is = let same : g ≡ f = cc in ap (λ (x : Fault). Err x) same

doc_there : (bytes : List ℕ) (raw : List RawUnit) (named : List ℕ) (r : Result (List (DwUnit ℕ)) Fault) → map_ok units_refs r ≡ Ok named → (doc : Doc ℕ) × ((r >>= doc_with bytes raw) ≡ Ok (raw, doc))
    × (units_refs doc.units ≡ named)
doc_there bytes raw named (Ok units) e = (record { machine = machine_of bytes; units = units }, refl, (let same : units_refs units ≡ named = cc in same))
doc_there bytes raw named (Err f) e = absurd cc

-- where numbers stand for places
module _ (rule : ReadingRule ℕ) where
  -- what the units of the file say, or the first fault
  abbrev said_of : List ℕ → List RawUnit → Result (List (DwUnit ℕ)) Fault
  said_of bytes raw = said (rule.around bytes raw) raw (debug_aranges bytes)

  said_same : (bytes : List ℕ) (raw : List RawUnit) → units_said rule bytes raw ≡ (said_of bytes raw >>= doc_with bytes raw)
  said_same bytes raw = by (units_meaning (rule.around bytes raw) raw) where
    last : (units : List (DwUnit ℕ)) (n : Result (Unit {0}) Fault) → (n >>= λ good. doc_with bytes raw units) ≡ ((n >>= kept units) >>= doc_with bytes raw)
    last units (Ok good) = refl
    last units (Err f) = refl

    middle : (units : List (DwUnit ℕ)) (r : Result (List RangeSet) Fault) → (r >>= λ sets. lists_said (rule.around bytes raw) raw >>= λ good. doc_with bytes raw units)
        ≡ ((r >>= behind_sets (rule.around bytes raw) raw units) >>= doc_with bytes raw)
    middle units (Ok sets) = last units (lists_said (rule.around bytes raw) raw)
    middle units (Err f) = refl

    by : (r : Result (List (DwUnit ℕ)) Fault) → (r >>= λ units. sets_said bytes raw >>= λ sets. lists_said (rule.around bytes raw) raw >>= λ good. doc_with bytes raw units)
        ≡ ((r >>= behind_units (rule.around bytes raw) raw (debug_aranges bytes)) >>= doc_with bytes raw)
    by (Ok units) = middle units (sets_said bytes raw)
    by (Err f) = refl

  pub named_fail : (e : ReadErr) (l : Limits) (bytes : List ℕ) (around : Around ℕ) (aranges : List ℕ) (raw : List RawUnit) → file_meaning_by rule l bytes ≡ units_said rule bytes raw
      → around ≡ rule.around bytes raw → aranges ≡ debug_aranges bytes → Fails e (map_ok units_refs (said around raw aranges)) → Fails e (file_meaning_by rule l bytes)
  named_fail e l bytes around aranges raw is s r bad =
      subst (λ (q : Result (List RawUnit × Doc ℕ) Fault). Fails e q) (sym (is ∙ said_same bytes raw))
      (map_fails e bytes raw (said_of bytes raw)
      (subst (λ (x : List ℕ). Fails e (map_ok units_refs (said (rule.around bytes raw) raw x))) r
      (subst (λ (x : Around ℕ). Fails e (map_ok units_refs (said x raw aranges))) s bad)))

  -- the document, and what its references name
  pub record HasDoc (l : Limits) (bytes : List ℕ) (raw : List RawUnit) (named : List ℕ) : Type 0 where
    pub doc : Doc ℕ
    pub means : file_meaning_by rule l bytes ≡ Ok (raw, doc)
    pub refs : units_refs doc.units ≡ named

  pub has_doc : (l : Limits) (bytes : List ℕ) (around : Around ℕ) (aranges : List ℕ) (raw : List RawUnit) (named : List ℕ) → file_meaning_by rule l bytes ≡ units_said rule bytes raw
      → around ≡ rule.around bytes raw → aranges ≡ debug_aranges bytes → map_ok units_refs (said around raw aranges) ≡ Ok named → HasDoc l bytes raw named
  has_doc l bytes around aranges raw named is s r good =
      let d = doc_there bytes raw named (said_of bytes raw) ((λ k. map_ok units_refs (said (sym s k) raw (sym r k))) ∙ good) in
      record { doc = d.0; means = is ∙ said_same bytes raw ∙ d.1; refs = d.2 }

pub same_rows : (bytes : List ℕ) (sources : Sources) (raw : List RawUnit) (rows : List ListOperand) → sources ≡ sources_of bytes → AreRows (lists_of_units (alone sources raw) raw) rows
    → AreRows (lists_of_units (around_of bytes raw) raw) rows
same_rows bytes sources raw rows s h = subst (λ (x : Sources). AreRows (lists_of_units (alone x raw) raw) rows) s h

pub machine_is : (bytes : List ℕ) (elf : ElfView) (m : ℕ) → elf ≡ elf_of bytes → m ≡ elf.file.machine → m ≡ machine_of bytes
unfolding elf_of
machine_is bytes elf m is e = e ∙ ap (λ (v : ElfView). v.file.machine) is

not_above : (m n : ℕ) → ltb m n ≡ false → n ≤ m
not_above m n e = elim (cases_lt m n) [ inl lt ↦ absurd (false≢true (sym e ∙ lt-ltb m n lt)) | inr ge ↦ ge ]

pub not_too_long : (l : Limits) (bytes : List ℕ) → is_too_long l bytes ≡ false → IsNotTooLong l bytes
not_too_long l bytes e = record {
  file = not_above longest_file (length bytes) (or_left (ltb longest_file (length bytes)) (ltb l.bytes (length bytes)) e);
  files = not_above l.bytes (length bytes) (or_right (ltb longest_file (length bytes)) (ltb l.bytes (length bytes)) e);
}

pub for_machine : (other : Option ℕ) (machine : ℕ) → is_other_machine other machine ≡ false → IsForMachine other machine
for_machine None machine e = tt
for_machine (Some other) machine e = elim (cases_Bool (eqb machine other)) [
  | inl t ↦ eqb-true machine other t
  | inr f ↦ absurd (false≢true (sym e ∙ ap (λ (b : Bool). not b) f))
]

pub fits_file : (l : Limits) (bytes : List ℕ) → is_too_long l bytes ≡ false → length bytes ≤ 2 ^ 28
unfolding longest_file
fits_file l bytes e = not_above (2 ^ 28) (length bytes) (or_left (ltb (2 ^ 28) (length bytes)) (ltb l.bytes (length bytes)) e)

pub bytes_short : (l : Limits) (bytes : List ℕ) → is_too_long l bytes ≡ false → length bytes < 2 ^ 32
bytes_short l bytes f = let fits = fits_file l bytes f in omega arith

pub range_short : (bytes shown : List ℕ) (o : Option (ℕ × ℕ)) → shown ≡ bytes_in bytes o → length bytes < 2 ^ 32 → length shown < 2 ^ 32
range_short bytes shown o e few = let within = in_bytes bytes o in let len = ap (λ (w : List ℕ). length w) e in omega arith

pub content_short : (l : Limits) (bytes shown : List ℕ) (o : Option (ℕ × ℕ)) → shown ≡ bytes_in bytes o → is_too_long l bytes ≡ false → length shown < 2 ^ 32
content_short l bytes shown o e f = range_short bytes shown o e (bytes_short l bytes f)

pub files_few : (contents : List (List ℕ)) (files : List File) → AreKept contents files → length files ≡ length contents
files_few contents files kept = many_as IsRead no_files_before 0 contents files kept.end kept.are
