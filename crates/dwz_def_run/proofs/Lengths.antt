-- The lengths of all files are numbers of 64 bits.
use Rattle.std.proofs.Common.{◌≡◌, ℕ, zero, suc, ◌*◌, ◌^◌, ◌≤◌, Bool, true, false, List, [], ◌∷◌, length, get_or, Option, Some, None, unwrap_or, refl, arith}
use Rattle.std.specs.List.{sum_by}
use Rattle.std.specs.Prelude.{if◌then◌else◌}
use Rattle.std.proofs.lemmas.List.Sums.{sum_by-cons}
use Rattle.dwz_def_reading.specs.ElfReading.{elf_of}
use Rattle.dwz_def_reading.specs.Values.{AreBytes}
use Rattle.dwz_def_reading.specs.Documents.{Doc}
use Rattle.dwz_def_reading.specs.Files.{Limits, ReadAll, limits_after, longest_file, no_files_before}
use Rattle.dwz_def_reading.specs.Lists.{Each}
use Rattle.dwz_def_images.specs.Units.{changes}
use Rattle.dwz_def_readback.specs.Files.{Run}
use Rattle.dwz_def_readback.proofs.StillPlaces.{nth_number}
use Rattle.dwz_def_output.proofs.MadeLemmas.{same_length}
use Rattle.dwz_words.specs.declared.options.Options.{Options}
use Rattle.dwz_run_course.specs.Demo.{HasLengths, common_length as length_of}
use Rattle.dwz_def_output.specs.FilesAfter.{file_after_by}
use Rattle.dwz_def_run.specs.Out.{summary_lines_by}
use Rattle.dwz_def_output.specs.FilesAfter.{bytes_after, bytes_by, changes_after, common_bytes, file_after, has_common, order_of}
use Rattle.dwz_def_run.specs.Out.{IsWritten, common_length_after, length_if_new, run_for, summary_lines, summary_of, sup_name, top_scope_of}
use Rattle.dwz_def_output.proofs.AllMade.{changed, common_free, file_free, sections_free}
use Rattle.dwz_def_output.proofs.CommonMade.{is_small}
use Rattle.dwz_def_output.proofs.FilesMade.{can_be_made}
use Rattle.dwz_def_output.proofs.FilesRead.{content_bytes}

-- what reads is short
pub read_small : (l : Limits) (contents : List (List ℕ)) (docs : List (Doc ℕ)) → ReadAll l contents docs → (n : ℕ) → length (get_or contents n []) ≤ longest_file
read_small l [] docs all n = omega arith
read_small l (c ∷ contents) [] all n = absurd all
read_small l (c ∷ contents) (d ∷ docs) all zero = all.1.size.file
read_small l (c ∷ contents) (d ∷ docs) all (suc n) = read_small (limits_after l c all.0) contents docs all.2 n

-- a sum of short lengths is short
abbrev Line : Type 0
Line = List ℕ × ℕ × Option ℕ

all_short : (f : Line → ℕ) (x : Line) (xs : List Line) (n : List ℕ) (names : List (List ℕ)) → f x ≤ 2 ^ 32 → sum_by f xs ≤ length names * 2 ^ 32
    → sum_by f (x ∷ xs) ≤ length (n ∷ names) * 2 ^ 32
all_short f x xs n names one rest = let is = sum_by-cons f x xs in omega (arith, is, one, rest)

module _ (o : Options) (contents : List (List ℕ)) (docs : List (Doc ℕ)) (prunes : List Bool) (bytes : Each AreBytes contents) (written : IsWritten o contents docs prunes) where
  abbrev r : Run
  r = run_for o contents docs prunes

  abbrev name : List ℕ
  name = sup_name o

  old_small : (file : ℕ) → length (r.input.bytes file) ≤ 2 ^ 32
  unfolding longest_file
  old_small file = let small = read_small no_files_before contents docs written.read.reads file in omega (arith, small)

  made_small : (file : ℕ) → changes r.move r.units file ≡ true → length (file_after name r file) ≤ 2 ^ 32
  unfolding file_after_by
  made_small file moves =
      let c = changed (top_scope_of o) name contents docs prunes bytes written file moves in
      let there = nth_number 0 docs file c.doc c.nth in
      let can = can_be_made name r file c.doc c.read (content_bytes contents bytes file) c.some moves (sections_free (top_scope_of o) name contents docs prunes bytes written file there)
      (file_free (top_scope_of o) name contents docs prunes bytes written file there) in
      let is = same_length (r.input.bytes file) (changes_after name r file) (order_of (elf_of (r.input.bytes file))) can in
      let small = can.small in
      omega (arith, is, small)

  new_small : (file : ℕ) (b : Bool) → changes r.move r.units file ≡ b
      → unwrap_or (length_if_new b (bytes_by b (r.input.bytes file) (file_after name r file))) (length (r.input.bytes file)) ≤ 2 ^ 32
  new_small file true e = made_small file e
  new_small file false e = old_small file

  abbrev line : List ℕ → ℕ → Line
  line n file = (n, length (r.input.bytes file), length_if_new (changes r.move r.units file) (bytes_after name r file))

  olds : (file : ℕ) (names : List (List ℕ)) → sum_by (λ line. line.1) (summary_lines o r file names) ≤ length names * 2 ^ 32
  unfolding summary_lines_by
  olds file [] = omega arith
  olds file (n ∷ names) = all_short (λ line. line.1) (line n file) (summary_lines o r (suc file) names) n names (old_small file) (olds (suc file) names)

  news : (file : ℕ) (names : List (List ℕ)) → sum_by (λ line. unwrap_or line.2 line.1) (summary_lines o r file names) ≤ length names * 2 ^ 32
  unfolding summary_lines_by
  news file [] = omega arith
  news file (n ∷ names) =
      all_short (λ line. unwrap_or line.2 line.1) (line n file) (summary_lines o r (suc file) names) n names (new_small file (changes r.move r.units file) refl) (news (suc file) names)

  common_small : length_of (common_length_after o.common r) ≤ 2 ^ 32
  common_small = by o.common where
    some : (n : List ℕ) (b : Bool) → length_of (if b then Some (n, length (common_bytes r)) else None) ≤ 2 ^ 32
    some n true = let small = (is_small r (common_free (top_scope_of o) name contents docs prunes bytes written)).file in omega (arith, small)
    some n false = omega arith

    by : (c : Option (List ℕ)) → length_of (common_length_after c r) ≤ 2 ^ 32
    by None = omega arith
    by (Some n) = some n (has_common r)

  pub lengths : length o.files ≤ 256 → HasLengths (summary_of o r)
  lengths few = record {
    before = let old = olds 0 o.files in omega (arith, few, old);
    after = let new = news 0 o.files in let common = common_small in omega (arith, few, new, common);
  }
