-- The lengths of all files that are written over a finished common file are numbers of 64 bits.
use Rattle.std.proofs.Common.{◌≡◌, ℕ, suc, ◌*◌, ◌^◌, ◌≤◌, Bool, true, false, List, [], ◌∷◌, length, Option, unwrap_or, refl, arith}
use Rattle.std.specs.List.{sum_by}
use Rattle.std.proofs.lemmas.List.Sums.{sum_by-cons}
use Rattle.dwz_def_reading.specs.ElfReading.{elf_of}
use Rattle.dwz_def_reading.specs.Values.{AreBytes}
use Rattle.dwz_def_reading.specs.Files.{longest_file}
use Rattle.dwz_def_reading.specs.Lists.{Each}
use Rattle.dwz_def_images.specs.Units.{changes}
use Rattle.dwz_def_readback.specs.Files.{Run, CommonFile}
use Rattle.dwz_def_readback.proofs.StillPlaces.{nth_number}
use Rattle.dwz_def_output.proofs.MadeLemmas.{same_length}
use Rattle.dwz_words.specs.declared.options.Options.{Options}
use Rattle.dwz_run_course.specs.Demo.{HasLengths}
use Rattle.dwz_def_output.specs.FilesAfter.{file_after_by, bytes_by, order_of, bytes_after_by, changes_after_by}
use Rattle.dwz_def_run.specs.Out.{summary_lines_by, length_if_new, sup_name}
use Rattle.dwz_def_output.proofs.FilesRead.{content_bytes}
use Rattle.dwz_def_over.proofs.AllOver.{changed, file_free, sections_free}
use Rattle.dwz_def_over.proofs.FilesOver.{can_be_made}
use Rattle.dwz_def_run.proofs.Lengths.{read_small}
use Rattle.dwz_def_run.specs.Reuses.{summary_over}
use Rattle.dwz_def_over.specs.Written.{CanBeWrittenOver}
use Rattle.dwz_def_over.specs.Over.{OverFiles, limits_over, run_over, stands}

-- a sum of short lengths is short
abbrev Line : Type 0
Line = List ℕ × ℕ × Option ℕ

all_short : (f : Line → ℕ) (x : Line) (xs : List Line) (n : List ℕ) (names : List (List ℕ)) → f x ≤ 2 ^ 32 → sum_by f xs ≤ length names * 2 ^ 32
    → sum_by f (x ∷ xs) ≤ length (n ∷ names) * 2 ^ 32
all_short f x xs n names one rest = let is = sum_by-cons f x xs in omega (arith, is, one, rest)

module _ (o : Options) (x : OverFiles) (bytes : Each AreBytes x.contents) (written : CanBeWrittenOver (sup_name o) x) where
  abbrev r : Run
  r = run_over x

  abbrev cf : CommonFile
  cf = stands x

  abbrev name : List ℕ
  name = sup_name o

  old_small : (file : ℕ) → length (r.input.bytes file) ≤ 2 ^ 32
  unfolding longest_file
  old_small file = let small = read_small (limits_over x) x.contents x.said.docs written.read.files file in omega (arith, small)

  pub made_small : (file : ℕ) → changes r.move r.units file ≡ true → length (file_after_by cf name r file) ≤ 2 ^ 32
  unfolding file_after_by
  made_small file moves =
      let d = changed name x bytes written file moves in
      let there = nth_number 0 x.said.docs file d.doc d.nth in
      let can = can_be_made name cf r file d.doc d.read (content_bytes x.contents bytes file) d.some moves (sections_free name x bytes written file there) (file_free name x bytes written file there) in
      let is = same_length (r.input.bytes file) (changes_after_by cf name r file) (order_of (elf_of (r.input.bytes file))) can in
      let small = can.small in
      omega (arith, is, small)

  new_small : (file : ℕ) (b : Bool) → changes r.move r.units file ≡ b
      → unwrap_or (length_if_new b (bytes_by b (r.input.bytes file) (file_after_by cf name r file))) (length (r.input.bytes file)) ≤ 2 ^ 32
  new_small file true e = made_small file e
  new_small file false e = old_small file

  abbrev line : List ℕ → ℕ → Line
  line n file = (n, length (r.input.bytes file), length_if_new (changes r.move r.units file) (bytes_after_by cf name r file))

  olds : (file : ℕ) (names : List (List ℕ)) → sum_by (λ line. line.1) (summary_lines_by cf o r file names) ≤ length names * 2 ^ 32
  unfolding summary_lines_by
  olds file [] = omega arith
  olds file (n ∷ names) = all_short (λ line. line.1) (line n file) (summary_lines_by cf o r (suc file) names) n names (old_small file) (olds (suc file) names)

  news : (file : ℕ) (names : List (List ℕ)) → sum_by (λ line. unwrap_or line.2 line.1) (summary_lines_by cf o r file names) ≤ length names * 2 ^ 32
  unfolding summary_lines_by
  news file [] = omega arith
  news file (n ∷ names) =
      all_short (λ line. unwrap_or line.2 line.1) (line n file) (summary_lines_by cf o r (suc file) names) n names (new_small file (changes r.move r.units file) refl) (news (suc file) names)

  pub lengths_over : length o.files ≤ 256 → HasLengths (summary_over o x)
  lengths_over few = record {
    before = let old = olds 0 o.files in omega (arith, few, old);
    after = let new = news 0 o.files in omega (arith, few, new);
  }
