-- The file over the first common file: from the bytes of both to the one put that comes of them.
use Rattle.std.proofs.Common.{◌≡◌, ℕ, ◌<◌, false, List, [], ◌∷◌, None, Some, arith, length, refl, sym, subst, inl, inr}
use Rattle.std.specs.Prelude.{codes}
use Rattle.sha2.specs.Sha256.{compress, digest_bytes, first_words, hash_after, rounds, schedule, sha256}
use Rattle.dwz_def_reading.specs.Fault.{Fault}
use Rattle.dwz_def_reading.specs.Refusal.{Refusal}
use Rattle.dwz_def_reading.specs.Lists.{Each}
use Rattle.dwz_def_reading.specs.ElfLayout.{layout_fault, rebuilt_length}
use Rattle.dwz_def_reading.specs.Finished.{common_sup_fault}
use Rattle.dwz_def_reading.specs.Supplementary.{read_sup}
use Rattle.dwz_def_reading.specs.declared.elf.NewContent.{NewContent}
use Rattle.dwz_def_reading.specs.ElfReading.{elf_of}
use Rattle.dwz_def_reading.specs.FirstOf.{OfFirst}
use Rattle.dwz_def_readback.specs.Files.{CommonFile, Run}
use Rattle.dwz_run_course.specs.declared.output.Output.{Output}
use Rattle.dwz_run_course.specs.declared.output.Said.TheVariants.{Slimmed}
use Rattle.dwz_run_course.specs.Outcome.{writes}
use Rattle.dwz_def_output.specs.Changed.{changes_by}
use Rattle.dwz_def_output.specs.Contents.{listed, sections_after_by}
use Rattle.dwz_def_output.specs.FilesAfter.{changes_after_by, order_of}
use Rattle.dwz_def_output.specs.Refusals.{FileFaultBy, FirstNarrowBy, InFile, IsLargeSection, OutFaultBy, SectionsFaultBy, operands_of_attr}
use Rattle.dwz_def_output.specs.Refusals.{operands_of_attrs, operands_of_entries, operands_of_units, spoken}
use Rattle.dwz_def_taken.specs.Beside.{all_attrs, all_below, then_entries}
use Rattle.dwz_def_taken.specs.Over.{common_parts, row_map}
use Rattle.dwz_def_over.specs.Over.{OverFiles, run_over, stands}
use Rattle.dwz_def_run.specs.Out.{sup_name}
use Rattle.dwz_def_run.specs.Comes.{Comes}
use Rattle.dwz_def_run.specs.Reuses.{output_over}
use Rattle.dwz_test_definitions.proofs.Comes.{come}
use Rattle.dwz_test_over.proofs.Bytes.{common_file, three_file, three_new}
use Rattle.dwz_test_over.proofs.Comes.{asked, options, taken}
use Rattle.dwz_test_over.proofs.Taken.{common_units, taken_over}

abbrev over : OverFiles
over = taken common_units

abbrev run : Run
run = run_over over

abbrev cf : CommonFile
cf = stands over

-- ---- nothing is too narrow or too large

no_spoken : spoken run 0 ≡ []
unfolding come common_sup_fault read_sup operands_of_units operands_of_entries operands_of_attrs operands_of_attr
    compress digest_bytes first_words hash_after rounds schedule sha256
no_spoken = refl

no_listed : listed run 0 ≡ []
unfolding come common_sup_fault read_sup compress digest_bytes first_words hash_after rounds schedule sha256
no_listed = refl

-- the unit has 19 bytes: its root, and an entry that imports the partial unit
abbrev three_sections : List NewContent
three_sections =
    record { code = 1; bytes = 0x0f ∷ 0 ∷ 0 ∷ 0 ∷ 5 ∷ 0 ∷ 1 ∷ 8 ∷ 0 ∷ 0 ∷ 0 ∷ 0 ∷ 1 ∷ 2 ∷ 0x0c ∷ 0 ∷ 0 ∷ 0 ∷ 0 ∷ [] }
    ∷ record { code = 2; bytes = 1 ∷ 0x11 ∷ 1 ∷ 0 ∷ 0 ∷ 2 ∷ 0x3d ∷ 0 ∷ 0x18 ∷ 0x1c ∷ 0 ∷ 0 ∷ 0 ∷ [] }
    ∷ []

sections_new : (changes_by (sections_after_by cf run 0) None).new ≡ three_sections
unfolding come common_sup_fault read_sup then_entries all_below all_attrs row_map common_parts
    compress digest_bytes first_words hash_after rounds schedule sha256
sections_new = refl

none_large : (xs : List NewContent) → Each (λ n. length n.bytes < 100) xs → (f : Fault) → OfFirst IsLargeSection xs f → ⊥
none_large [] small f h = h
none_large (x ∷ xs) (low, rest) f (inl (e, big)) = absurd (omega (arith, low, big))
none_large (x ∷ xs) (low, rest) f (inr (none, h)) = none_large xs rest f h

none_narrow : (section : ℕ) (f : Fault) → FirstNarrowBy cf run 0 section [] f → ⊥
none_narrow section f x = x.there

sections_sound : (f : Fault) → SectionsFaultBy cf run 0 f → ⊥
sections_sound f (moves, inl x) = none_narrow 1 f (subst (λ os. FirstNarrowBy cf run 0 1 os f) no_spoken x)
sections_sound f (moves, inr (none, inl x)) = none_narrow 7 f (subst (λ os. FirstNarrowBy cf run 0 7 os f) no_listed x)
sections_sound f (moves, inr (none, inr (neither, x))) =
    none_large three_sections (omega arith, (omega arith, tt)) f (subst (λ (xs : List NewContent). OfFirst IsLargeSection xs f) sections_new x)

-- ---- the file can be laid out

laid : layout_fault (elf_of (run.input.bytes 0)) (changes_after_by cf (sup_name options) run 0) ≡ None
unfolding come common_sup_fault read_sup then_entries all_below all_attrs row_map common_parts
    compress digest_bytes first_words hash_after rounds schedule sha256
laid = refl

long : (
    let e = elf_of (run.input.bytes 0) in
    rebuilt_length e (changes_after_by cf (sup_name options) run 0) (run.input.bytes 0) (order_of e)
    ) ≡ 512
unfolding come common_sup_fault read_sup then_entries all_below all_attrs row_map common_parts
    compress digest_bytes first_words hash_after rounds schedule sha256
long = refl

file_sound : (f : Fault) → FileFaultBy cf (sup_name options) run 0 f → ⊥
file_sound f (moves, inl x) = (let is = laid in absurd cc)
file_sound f (moves, inr (none, (e, big))) = (let is = long in absurd (omega (arith, is, big)))

-- ---- nothing refuses it

files_are : run.files ≡ 0 ∷ []
unfolding come common_sup_fault read_sup compress digest_bytes first_words hash_after rounds schedule sha256
files_are = refl

pub one_file : (Has : ℕ → Fault → Type 0) → ((f : Fault) → Has 0 f → ⊥) → (q : Refusal) → OfFirst (InFile Has) (0 ∷ []) q → ⊥
one_file Has none q (inl (f, h, e)) = none f h
one_file Has none q (inr (others, h)) = h

free : (q : Refusal) → OutFaultBy cf (sup_name options) run q → ⊥
free q (inl n) = n
free q (inr (none, inl x)) =
    one_file (SectionsFaultBy cf run) sections_sound q
    (subst (λ (files : List ℕ). OfFirst (InFile (SectionsFaultBy cf run)) files q) files_are x)
free q (inr (none, inr (neither, x))) =
    one_file (FileFaultBy cf (sup_name options) run) file_sound q
    (subst (λ (files : List ℕ). OfFirst (InFile (FileFaultBy cf (sup_name options) run)) files q) files_are x)

-- ---- what comes of it

abbrev out : Output
out = record {
  puts = record { name = codes "three"; bytes = three_new } ∷ [];
  said = Slimmed (record { common = None; files = (codes "three", 424, Some 512) ∷ [] }) 1;
  differs = false;
  partly = false;
}

output_is : output_over options over ≡ out
unfolding come common_sup_fault read_sup then_entries all_below all_attrs row_map common_parts
    compress digest_bytes first_words hash_after rounds schedule sha256
output_is = refl

pub three_comes : Comes asked (common_file ∷ three_file ∷ []) (writes out)
unfolding come
three_comes = (over, (refl, refl), record { read = taken_over; free = free }, sym output_is)
