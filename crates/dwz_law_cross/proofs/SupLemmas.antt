-- Nothing is wrong with the `.debug_sup` of what was written.
use Rattle.std.proofs.Common.{◌≡◌, ℕ, ◌+◌, ◌<◌, Bool, true, false, List, [], ◌∷◌, ◌++◌, cond, Option, Some, None, length, unwrap_or, bytes_eq, length-append, refl, ap, subst, ◌∙◌, arith, eq-eqb}
use Rattle.std.specs.Prelude.{◌||◌, if◌then◌else◌}
use Rattle.std.specs.Option.{is_some}
use Rattle.dwz_def_reading.specs.Lists.{Each, In}
use Rattle.dwz_def_reading.specs.Spelling.{le_bytes, uleb}
use Rattle.dwz_def_reading.proofs.PaddedLemmas.{uleb_small}
use Rattle.dwz_def_reading.specs.declared.supplementary.Sup.{Sup}
use Rattle.dwz_def_reading.specs.Documents.{Doc}
use Rattle.dwz_def_reading.specs.ElfNames.{sections_in}
use Rattle.dwz_def_reading.specs.ElfReading.{bytes_in, elf_of, section_range}
use Rattle.dwz_def_reading.specs.Files.{debug_abbrev, debug_info, section_of}
use Rattle.dwz_def_reading.specs.Finished.{common_sup_fault, debug_sup, file_sup_fault, has_sup, is_of_common, is_of_file, sum_fault, sum_of}
use Rattle.dwz_def_reading.specs.Supplementary.{flag_byte, read_sup, sup_bytes}
use Rattle.dwz_def_reading.specs.SupplementaryFile.{common_sum}
use Rattle.dwz_def_reading.specs.Texts.{NoZero}
use Rattle.dwz_def_reading.specs.Values.{AreBytes}
use Rattle.dwz_def_reading.proofs.PlainLemmas.{length_number}
use Rattle.dwz_def_reading.proofs.SupLemmas.{sup_again}
use Rattle.dwz_def_reading.proofs.TextRowLemmas.{same_text}
use Rattle.dwz_sup.proofs.LengthLemmas.{sum_len}
use Rattle.dwz_def_tops.specs.Alike.{TopScope}
use Rattle.dwz_def_images.specs.Units.{changes}
use Rattle.dwz_def_readback.specs.Files.{Run, imports_common}
use Rattle.dwz_def_output.specs.Contents.{common_after}
use Rattle.dwz_def_output.specs.FilesAfter.{changes_after, common_bytes, file_after, file_after_by, order_of, sup_after, sup_of}
use Rattle.dwz_def_output.specs.Tied.{common_sup, file_sup}
use Rattle.dwz_def_output.specs.Written.{CanBeWritten, run_under, stored_of}
use Rattle.dwz_def_output.proofs.AllMade as made
use Rattle.dwz_def_output.proofs.CommonMade.{is_small, says_itself}
use Rattle.dwz_def_output.proofs.FilesMade as files
use Rattle.dwz_def_output.proofs.FilesRead.{content_bytes}
use Rattle.dwz_def_output.proofs.RebuiltLemmas.{same_there}
use Rattle.dwz_law_cross.specs.SupLaws.{SupLaw}
use Rattle.dwz_def_reading.proofs.SoundFiles.{reads_sound}
use Rattle.dwz_law_cross.proofs.ReadLemmas.{none_there}

-- ---- the section

pub sup_long : (s : Sup) → length s.sum ≡ 32 → length (sup_bytes s) ≡ length s.name + 37
unfolding sup_bytes
sup_long s is =
    let small : uleb (length s.sum) ≡ length s.sum ∷ [] = uleb_small (length s.sum) (omega (arith, is)) in
    let rest = uleb (length s.sum) ++ s.sum in
    omega (
      arith,
      is,
      ap length small,
      length-append (uleb (length s.sum)) s.sum,
      length-append s.name (0 ∷ rest),
      length-append (le_bytes 2 5) (flag_byte s.supplementary ∷ (s.name ++ (0 ∷ rest))),
      length_number 2 5,
    )

-- where it isn't empty it is there
is_there : (bytes : List ℕ) → 0 < length (section_of bytes 9) → has_sup bytes ≡ true
unfolding section_of
is_there bytes some = by (section_range (sections_in bytes) 9) some where
  by : (o : Option (ℕ × ℕ)) → 0 < length (bytes_in bytes o) → is_some o ≡ true
  by None few = absurd (omega (arith, few))
  by (Some range) few = refl

pub sum_good : (is_kind : List ℕ → Sup → Bool) (sum section : List ℕ) (s : Sup) → s.sum ≡ sum → is_kind section s ≡ true → read_sup section ≡ Some s
    → sum_fault is_kind sum section (read_sup section) ≡ None
sum_good is_kind sum section s same is read =
    let eq : bytes_eq s.sum sum ≡ true = subst (λ (w : List ℕ). bytes_eq s.sum w ≡ true) same (same_text s.sum) in
    rw (read, is, eq) refl

of_common : (section : List ℕ) (s : Sup) → s.supplementary ≡ true → s.name ≡ [] → length s.sum ≡ 32 → length section ≡ length s.name + 37 → is_of_common section s ≡ true
of_common section s kind none sum long = rw (kind, eq-eqb (length s.name) 0 (ap length none), eq-eqb (length s.sum) 32 sum, eq-eqb (length section) (length s.name + 37) long) refl

pub of_file : (section : List ℕ) (s : Sup) → s.supplementary ≡ false → length s.sum ≡ 32 → length section ≡ length s.name + 37 → is_of_file section s ≡ true
of_file section s kind sum long = rw (kind, eq-eqb (length s.sum) 32 sum, eq-eqb (length section) (length s.name + 37) long) refl

pub if_there : (common : List ℕ) (bytes : List ℕ) → sum_fault is_of_file (sum_of common) (debug_sup bytes) (read_sup (debug_sup bytes)) ≡ None → file_sup_fault (Some common) bytes ≡ None
unfolding file_sup_fault
if_there common bytes good = by (has_sup bytes) where
  by : (b : Bool) → cond b (sum_fault is_of_file (sum_of common) (debug_sup bytes) (read_sup (debug_sup bytes))) None ≡ None
  by true = good
  by false = refl

pub if_not : (common : List ℕ) (bytes : List ℕ) → has_sup bytes ≡ false → file_sup_fault (Some common) bytes ≡ None
unfolding file_sup_fault
if_not common bytes e = rw e refl

of_common_file : (bytes : List ℕ) → has_sup bytes ≡ true → sum_fault is_of_common (sum_of bytes) (debug_sup bytes) (read_sup (debug_sup bytes)) ≡ None → common_sup_fault bytes ≡ None
unfolding common_sup_fault
of_common_file bytes e good = rw e good

-- ---- which files have the section

module _ (scope : TopScope) (name : List ℕ) (contents : List (List ℕ)) (docs : List (Doc ℕ)) (prunes : List Bool) (bytes : Each AreBytes contents) (written : CanBeWritten scope name contents docs
    prunes) (file : ℕ) where
  abbrev run : Run
  run = run_under scope contents docs prunes

  -- after, just those that import from the common file
  pub imports_there : In file run.files → changes run.move run.units file ≡ true → has_sup (file_after name run file) ≡ imports_common run.move run.units file
  unfolding file_after_by
  imports_there there moves =
      let c = made.changed scope name contents docs prunes bytes written file moves in
      let can = files.can_be_made name run file c.doc c.read (content_bytes contents bytes file) c.some moves (made.sections_free scope name contents docs prunes bytes written file there)
      (made.file_free scope name contents docs prunes bytes written file there) in
      let none : has_sup (run.input.bytes file) ≡ false = none_there (run.input.bytes file) (reads_sound c.read.limits (run.input.bytes file) (run.input.raw file) c.doc c.read.reads) in
      same_there (run.input.bytes file) (changes_after name run file) (order_of (elf_of (run.input.bytes file))) can 9
      ∙ ap (λ (b : Bool). b || is_some (sup_after name run file)) none ∙ by (imports_common run.move run.units file)
    where
      by : (b : Bool) → is_some (if b then Some (sup_bytes (sup_of name run)) else None) ≡ b
      by true = refl
      by false = refl

-- ---- the files of a run

module _ (scope : TopScope) (name : List ℕ) (contents : List (List ℕ)) (docs : List (Doc ℕ)) (prunes : List Bool) (bytes : Each AreBytes contents) (written : CanBeWritten scope name contents docs
    prunes) (no_zero : NoZero name) where
  abbrev r : Run
  r = run_under scope contents docs prunes

  sum_long : length (sum_of (common_bytes r)) ≡ 32
  sum_long = sum_len (debug_info (common_bytes r) ++ section_of (common_bytes r) 3 ++ debug_abbrev (common_bytes r))

  made_long : length (common_sum (common_after r)) ≡ 32
  made_long = let s = common_after r in sum_len (s.info ++ unwrap_or s.strs [] ++ s.abbrev)

  common_section : section_of (common_bytes r) 9 ≡ sup_bytes (record { supplementary = true; name = []; sum = common_sum (common_after r) })
  common_section =
      let small = is_small r (made.common_free scope name contents docs prunes bytes written) in
      says_itself r (content_bytes contents bytes 0) small.file small.lines

  common_long : length (section_of (common_bytes r) 9) ≡ 37
  common_long = ap length common_section ∙ sup_long (record { supplementary = true; name = []; sum = common_sum (common_after r) }) made_long

  common_good : common_sup_fault (common_bytes r) ≡ None
  common_good =
      let s = common_sup r in
      let section = section_of (common_bytes r) 9 in
      of_common_file (common_bytes r) (is_there (common_bytes r) (omega (arith, common_long)))
      (sum_good is_of_common (sum_of (common_bytes r)) section s refl (of_common section s refl refl sum_long common_long)
      (sup_again section s (made.common_tied scope name contents docs prunes bytes written)))

  module _ (file : ℕ) (there : In file r.files) (moves : changes r.move r.units file ≡ true) where
    abbrev input : List ℕ
    input = r.input.bytes file

    abbrev out : List ℕ
    out = file_after name r file

    c : made.IsChanged docs (stored_of contents prunes) (made.are scope name contents docs prunes bytes written) r.move.gone file
    c = made.changed scope name contents docs prunes bytes written file moves

    has : section_of out 9 ≡ unwrap_or (sup_after name r file) (section_of input 9)
    has = files.has_sup name r file c.doc c.read (content_bytes contents bytes file) c.some moves (made.sections_free scope name contents docs prunes bytes written file there)
        (made.file_free scope name contents docs prunes bytes written file there)

    imports_good : imports_common r.move r.units file ≡ true → file_sup_fault (Some (common_bytes r)) out ≡ None
    imports_good imports =
        let s = file_sup name r in
        let is : section_of out 9 ≡ sup_bytes (sup_of name r) = has ∙ ap (λ (b : Bool). unwrap_or (if b then Some (sup_bytes (sup_of name r)) else None) (section_of input 9)) imports in
        let long : length (section_of out 9) ≡ length name + 37 = ap length is ∙ sup_long (sup_of name r) made_long in
        if_there (common_bytes r) out
        (sum_good is_of_file (sum_of (common_bytes r)) (section_of out 9) s refl (of_file (section_of out 9) s refl sum_long long)
        (sup_again (section_of out 9) s (made.file_tied scope name contents docs prunes bytes written file there moves imports no_zero)))

    others_good : imports_common r.move r.units file ≡ false → file_sup_fault (Some (common_bytes r)) out ≡ None
    unfolding file_after_by
    others_good imports =
        let can = files.can_be_made name r file c.doc c.read (content_bytes contents bytes file) c.some moves (made.sections_free scope name contents docs prunes bytes written file there)
        (made.file_free scope name contents docs prunes bytes written file there) in
        let none : has_sup input ≡ false = none_there input (reads_sound c.read.limits input (r.input.raw file) c.doc c.read.reads) in
        let of_sup : is_some (sup_after name r file) ≡ false = ap (λ (b : Bool). is_some (if b then Some (sup_bytes (sup_of name r)) else None)) imports in
        if_not (common_bytes r) out (same_there input (changes_after name r file) (order_of (elf_of input)) can 9 ∙ rw (none, of_sup) refl)

    file_good : file_sup_fault (Some (common_bytes r)) out ≡ None
    file_good = by (imports_common r.move r.units file) refl where
      by : (b : Bool) → imports_common r.move r.units file ≡ b → file_sup_fault (Some (common_bytes r)) out ≡ None
      by true e = imports_good e
      by false e = others_good e

pub sup_good : SupLaw
sup_good scope name contents docs prunes bytes written no_zero = record {
  common = common_good scope name contents docs prunes bytes written no_zero;
  file = file_good scope name contents docs prunes bytes written no_zero;
}
