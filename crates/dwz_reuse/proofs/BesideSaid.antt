-- What files and a finished common file say beside each other.
use Rattle.std.proofs.Common.{◌≡◌, ℕ, suc, ◌-◌, ◌^◌, ◌≤◌, Bool, true, false, if◌then◌else◌, List, [], ◌∷◌, length, map, Result, Ok, Err, refl, sym, ap, ◌∙◌, arith}
use Rattle.std.specs.Prelude.{nat_lt}
use Rattle.dwz_model.specs.declared.fault.Fault.{Fault}
use Rattle.dwz_model.specs.declared.fault.Refusal.{Refusal}
use Rattle.dwz_def_reading.specs.Reading.{◌>>=◌}
use Rattle.dwz_def_reading.specs.Documents.{Doc, unit_map}
use Rattle.dwz_def_reading.specs.Entries.{given}
use Rattle.dwz_def_reading.specs.Faults.{map_ok}
use Rattle.dwz_def_reading.specs.Files.{IsForMachine, Limits, ReadsBy, debug_abbrev, debug_info, file_meaning, file_meaning_by, files_meaning, limits_after, longest_file, machine_of, no_files_before, refused_in, with_doc}
use Rattle.dwz_def_reading.specs.Finished.{BesideDocs, beside_docs, beside_meaning, common_meaning, rule_of_common}
use Rattle.dwz_def_reading.specs.Lists.{Each}
use Rattle.dwz_def_reading.specs.Meanings.{Around}
use Rattle.dwz_def_reading.specs.Meant.{units_meaning}
use Rattle.dwz_def_reading.specs.OtherPlaces.{LiesBelow, place_numbered}
use Rattle.dwz_def_reading.specs.Places.{Place, at_file}
use Rattle.dwz_def_reading.specs.Rules.{ReadingRule}
use Rattle.dwz_def_reading.specs.Units.{RawUnit}
use Rattle.dwz_def_reading.proofs.CaseFacts.{ok_same}
use Rattle.dwz_def_reading.proofs.FileLemmas.{file_agrees, file_agrees_by}
use Rattle.dwz_def_reading.proofs.MeaningUnits.{units_agree}
use Rattle.dwz_def_reading.proofs.PlacesNumbered.{units_numbered}
use Rattle.dwz_def_reading.proofs.PlacesRise.{entries_below, units_below}
use Rattle.dwz_def_reading.proofs.RoomLemmas.{units_fit}
use Rattle.dwz_def_taken.specs.Beside.{offsets_doc}
use Rattle.dwz_graph.specs.ByRule.{doc_placed, numbered_rule}
use Rattle.dwz_graph.specs.Files.{AreKept, docs_of}
use Rattle.dwz_graph.specs.declared.file.File.{File}
use Rattle.dwz_graph.proofs.GraphLemmas.{files_read, step}
use Rattle.dwz_graph.proofs.IndexRoom.{info_within}
use Rattle.dwz_graph.proofs.FileWalk.{later_docs}
use Rattle.dwz_graph.proofs.SpacesFew.{few_entries}
use Rattle.dwz_reuse.specs.Placed.{SaysCommon}
use Rattle.dwz_reuse.proofs.MapTwice.{units_twice}

-- ---- behind files that leave less

-- the one leave at least as much as the others
record LeaveMore (l m : Limits) : Type 0 where
  bytes : l.bytes ≤ m.bytes
  entries : l.entries ≤ m.entries
  machine : (k : ℕ) → IsForMachine l.machine k → IsForMachine m.machine k

none_leave_more : (b : List ℕ) (raw : List RawUnit) → LeaveMore (limits_after no_files_before b raw) no_files_before
none_leave_more b raw = record { bytes = omega arith; entries = omega arith; machine = λ k h. tt }

reads_more : (l m : Limits) (b : List ℕ) (raw : List RawUnit) (doc : Doc ℕ) → LeaveMore l m → file_meaning l b ≡ Ok (raw, doc) → file_meaning m b ≡ Ok (raw, doc)
reads_more l m b raw doc more e =
    let r = ((file_agrees l b).ok (raw, doc)).0 e in
    let few = few_entries l b raw doc e in
    let size = r.size.files in
    let bytes = more.bytes in
    let entries = more.entries in
    ((file_agrees m b).ok (raw, doc)).1 (record {
      size = record { file = r.size.file; files = omega (arith, size, bytes) };
      elf = r.elf;
      same_machine = more.machine (machine_of b) r.same_machine;
      sup = r.sup;
      spelled = units_fit m.entries _ (given l.entries) 0 0 raw 0 _ (omega (arith, few, entries)) r.spelled;
      means = r.means;
      machine = r.machine;
      ranges = r.ranges;
      lists = r.lists;
    })

more_after : (l m : Limits) (b : List ℕ) (raw : List RawUnit) → LeaveMore l m → LeaveMore (limits_after l b raw) (limits_after m b raw)
more_after l m b raw more = (let bytes = more.bytes in let entries = more.entries in record { bytes = omega (arith, bytes); entries = omega (arith, entries); machine = λ k h. h })

docs_more : (l m : Limits) (n : ℕ) (xs : List (List ℕ)) (docs : List (Doc ℕ)) → LeaveMore l m → files_meaning l n xs ≡ Ok docs → files_meaning m n xs ≡ Ok docs
unfolding files_meaning
docs_more l m n [] docs more e = e
docs_more l m n (b ∷ xs) docs more e =
    by (λ x rest. docs_more (limits_after l b x) (limits_after m b x) (suc n) xs rest (more_after l m b x more)) (file_meaning l b) refl e where
      by : ((x : List RawUnit) (rest : List (Doc ℕ)) → files_meaning (limits_after l b x) (suc n) xs ≡ Ok rest → files_meaning (limits_after m b x) (suc n) xs ≡ Ok rest)
          → (r : Result (List RawUnit × Doc ℕ) Fault) → file_meaning l b ≡ r → (refused_in n r >>= λ x. files_meaning (limits_after l b x.0) (suc n) xs >>= with_doc x.1) ≡ Ok docs
          → files_meaning m n (b ∷ xs) ≡ Ok docs
      by later (Ok x) is h =
          let rest = later_docs x.1 (files_meaning (limits_after l b x.0) (suc n) xs) docs h in
          let here = reads_more l m b x.0 x.1 more is in
          step m n b x.0 x.1 xs here ∙ ap (λ (r : Result (List (Doc ℕ)) Refusal). r >>= with_doc x.1) (later x.0 rest.0 rest.1) ∙ ap (λ (w : List (Doc ℕ)). Ok w) rest.2
      by later (Err f) is h = absurd cc

-- ---- the common file

module _ (number : ℕ) (l : Limits) (bytes : List ℕ) (raw : List RawUnit) (common : Doc ℕ) (says : SaysCommon number l bytes raw common) where
  abbrev own : ReadingRule ℕ
  own = numbered_rule (rule_of_common number)

  abbrev around : Around ℕ
  around = own.around bytes raw

  abbrev by_place : ℕ → Place
  by_place = place_numbered (2 ^ 32) ((rule_of_common number).around bytes raw)

  abbrev by_number : ℕ → ℕ
  by_number = place_numbered (2 ^ 32) around

  reads : ReadsBy own l bytes raw common
  reads = ((file_agrees_by own l bytes).ok (raw, common)).0 says

  lie : Each (LiesBelow (2 ^ 32)) raw
  unfolding longest_file
  lie =
      let within = info_within bytes in
      let size = reads.size.file in
      units_below (debug_abbrev bytes) (own.mode l.entries) 0 raw 0 (debug_info bytes) (2 ^ 32) reads.spelled (omega (arith, within, size))

  -- numbers stand for themselves
  same_units : common.units ≡ map (unit_map by_number) common.units
  same_units =
      let means = ((units_agree around raw).ok common.units).1 reads.means in
      ok_same (units_meaning around raw) common.units (map (unit_map by_number) common.units) means
      (units_numbered (2 ^ 32) around (λ n there. entries_below (2 ^ 32) raw lie n there) raw lie ∙ ap (map_ok (map (unit_map by_number))) means)

  same_place : (n : ℕ) → (by_place n).at ≡ by_number n
  same_place n = by (nat_lt n (2 ^ 32)) where
    by : (b : Bool) → (if b then at_file number n else at_file number (n - 2 ^ 32)).at ≡ (if b then n else (n - 2 ^ 32))
    by true = refl
    by false = refl

  pub same_offsets : offsets_doc (doc_placed (rule_of_common number) bytes raw common) ≡ common
  same_offsets =
      let units : map (unit_map (λ p. p.at)) (map (unit_map by_place) common.units) ≡ common.units =
      units_twice by_place (λ p. p.at) common.units ∙ ap (λ (f : ℕ → ℕ). map (unit_map f) common.units) (λ i n. same_place n i) ∙ sym same_units in
      λ i. record { machine = common.machine; units = units i }

-- ---- both

abbrev pub CommonPlaced : Type 0
CommonPlaced = (number : ℕ) (l : Limits) (bytes : List ℕ) (raw : List RawUnit) (doc : Doc ℕ) → file_meaning_by (numbered_rule (rule_of_common number)) l bytes ≡ Ok (raw, doc)
    → file_meaning_by (rule_of_common number) l bytes ≡ Ok (raw, doc_placed (rule_of_common number) bytes raw doc)

module _ (placed : CommonPlaced) (contents : List (List ℕ)) (files : List File) (kept : AreKept contents files) (number : ℕ) (bytes : List ℕ) (raw : List RawUnit) (common : Doc ℕ)
    (says : SaysCommon number no_files_before bytes raw common) (said : BesideDocs) (e : beside_meaning bytes contents ≡ Ok said) where
  abbrev many : ℕ
  many = length contents

  abbrev shown : Doc Place
  shown = doc_placed (rule_of_common many) bytes raw common

  common_is : common_meaning contents bytes ≡ Ok (raw, shown)
  common_is = ap (refused_in many) (placed many no_files_before bytes raw common says)

  behind : (files_meaning (limits_after no_files_before bytes raw) 0 contents >>= beside_docs shown) ≡ Ok said
  unfolding beside_meaning
  behind = sym (ap (λ (q : Result (List RawUnit × Doc Place) Refusal). q >>= λ x. files_meaning (limits_after no_files_before bytes x.0) 0 contents >>= beside_docs x.1) common_is) ∙ e

  record Both : Type 0 where
    docs : said.docs ≡ docs_of contents
    common_said : said.common ≡ shown

  both_by : (r : Result (List (Doc ℕ)) Refusal) → files_meaning (limits_after no_files_before bytes raw) 0 contents ≡ r → (r >>= beside_docs shown) ≡ Ok said → Both
  both_by (Ok docs) is h =
      let same : record { common = shown; docs = docs } ≡ said = cc in
      let more = docs_more (limits_after no_files_before bytes raw) no_files_before 0 contents docs (none_leave_more bytes raw) is in
      let own = ok_same (files_meaning no_files_before 0 contents) docs (docs_of contents) more (files_read contents files kept.end kept.are) in
      record { docs = sym (ap (λ (s : BesideDocs). s.docs) same) ∙ own; common_said = sym (ap (λ (s : BesideDocs). s.common) same) }
  both_by (Err f) is h = absurd cc

  both : Both
  both = both_by (files_meaning (limits_after no_files_before bytes raw) 0 contents) refl behind

  pub docs_are : said.docs ≡ docs_of contents
  docs_are = both.docs

  pub common_said : offsets_doc said.common ≡ common
  common_said = ap offsets_doc both.common_said ∙ same_offsets many no_files_before bytes raw common says
