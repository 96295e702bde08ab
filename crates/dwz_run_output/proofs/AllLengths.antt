-- The lengths of all files are numbers of 64 bits, as fewer than 2^32 files are there, however many names.
use Rattle.std.proofs.Common.{◌≡◌, ℕ, suc, ◌-◌, ◌*◌, ◌^◌, ◌<◌, ◌≤◌, Bool, true, false, List, [], ◌∷◌, length, get_or, Option, Some, None, unwrap_or, refl, ap, inl, inr, arith, lit<}
use Rattle.std.specs.List.{sum_by}
use Rattle.std.specs.Prelude.{if◌then◌else◌}
use Rattle.std.proofs.lemmas.Bool.{cases_lt}
use Rattle.std.proofs.lemmas.List.{get_or_past}
use Rattle.std.proofs.lemmas.List.Sums.{sum_by-cons}
use Rattle.dwz_def_reading.specs.ElfLayout.{too_large}
use Rattle.dwz_def_reading.specs.ElfReading.{elf_of}
use Rattle.dwz_def_reading.specs.Values.{AreBytes}
use Rattle.dwz_def_reading.specs.Documents.{Doc}
use Rattle.dwz_def_reading.specs.Files.{Limits, ReadAll, longest_file, no_files_before}
use Rattle.dwz_def_reading.specs.Lists.{Each}
use Rattle.dwz_def_images.specs.Units.{changes}
use Rattle.dwz_def_readback.specs.Files.{CommonFile, Made, Run}
use Rattle.dwz_def_readback.proofs.StillPlaces.{nth_number}
use Rattle.dwz_def_output.proofs.MadeLemmas.{same_length}
use Rattle.dwz_words.specs.declared.options.Options.{Options}
use Rattle.dwz_run_course.specs.Demo.{HasLengths, common_length as length_of}
use Rattle.dwz_def_output.specs.FilesAfter.{bytes_by, changes_after, common_bytes, file_after, file_after_by, has_common, order_of}
use Rattle.dwz_def_run.specs.Out.{IsWritten, common_length_after, length_if_new, run_for, summary_lines_by, summary_of, sup_name, top_scope_of}
use Rattle.dwz_def_output.proofs.AllMade.{changed, common_free, file_free, sections_free}
use Rattle.dwz_def_output.proofs.CommonMade.{is_small}
use Rattle.dwz_def_output.proofs.FilesMade.{can_be_made}
use Rattle.dwz_def_output.proofs.FilesRead.{content_bytes}
use Rattle.dwz_def_run.proofs.Lengths.{read_small}
use Rattle.dwz_run_output.proofs.RowsAfter.{Line, line_of}
use Rattle.dwz_run_output.proofs.RunReady.{stays_beyond}

-- a length that is short, and 0 where there is no file
abbrev IsShort : ℕ → ℕ → ℕ → Type 0
IsShort count file len = (len ≤ 2 ^ 32) × (count ≤ file → len ≡ 0)

one_more : (f : Line → ℕ) (x : Line) (xs : List Line) (count file : ℕ) → IsShort count file (f x) → sum_by f xs ≤ (count - suc file) * 2 ^ 32
    → sum_by f (x ∷ xs) ≤ (count - file) * 2 ^ 32
one_more f x xs count file one rest = elim (cases_lt file count) [
  | inl less ↦ (let is = sum_by-cons f x xs in let few = one.0 in omega (arith, is, few, rest, less))
  | inr beyond ↦ (let is = sum_by-cons f x xs in let none = one.1 beyond in omega (arith, is, none, rest, beyond))
]

module _ (k : CommonFile) (o : Options) (r : Run) (count : ℕ) (old_short : (file : ℕ) → IsShort count file (length (r.input.bytes file)))
    (made_small : (file : ℕ) → changes r.move r.units file ≡ true → length (file_after_by k (sup_name o) r file) ≤ 2 ^ 32)
    (beyond : (file : ℕ) → count ≤ file → changes r.move r.units file ≡ false) where
  new_short : (file : ℕ) (b : Bool) → changes r.move r.units file ≡ b
      → IsShort count file (unwrap_or (length_if_new b (bytes_by b (r.input.bytes file) (file_after_by k (sup_name o) r file))) (length (r.input.bytes file)))
  new_short file true e = (made_small file e, λ past. (let stays = beyond file past in absurd (cc (e, stays))))
  new_short file false e = old_short file

  olds : (file : ℕ) (names : List (List ℕ)) → sum_by (λ line. line.1) (summary_lines_by k o r file names) ≤ (count - file) * 2 ^ 32
  unfolding summary_lines_by
  olds file [] = omega arith
  olds file (n ∷ names) = one_more (λ line. line.1) (line_of k o r file n) (summary_lines_by k o r (suc file) names) count file (old_short file) (olds (suc file) names)

  news : (file : ℕ) (names : List (List ℕ)) → sum_by (λ line. unwrap_or line.2 line.1) (summary_lines_by k o r file names) ≤ (count - file) * 2 ^ 32
  unfolding summary_lines_by
  news file [] = omega arith
  news file (n ∷ names) =
      one_more (λ line. unwrap_or line.2 line.1) (line_of k o r file n) (summary_lines_by k o r (suc file) names) count file (new_short file (changes r.move r.units file) refl) (news (suc file) names)

  -- the common file is short of 2^32 by as much as a file that is too large, and the lengths of all files leave room for it
  pub lengths_by : (common : Option (List ℕ × ℕ)) → length_of common < too_large → count < 2 ^ 32
      → HasLengths (record { common = common; files = summary_lines_by k o r 0 o.files })
  lengths_by common small few = record {
    before = let old = olds 0 o.files in omega (arith, few, old);
    after = let new = news 0 o.files in omega (arith, few, new, small);
  }

-- what reads is short
pub reads_short : (l : Limits) (contents : List (List ℕ)) (docs : List (Doc ℕ)) → ReadAll l contents docs → (file : ℕ) → IsShort (length contents) file (length (get_or contents file []))
unfolding longest_file
reads_short l contents docs reads file =
    let small = read_small l contents docs reads file in
    (omega (arith, small), λ beyond. ap (λ (b : List ℕ). length b) (get_or_past contents file [] beyond))

module _ (o : Options) (contents : List (List ℕ)) (docs : List (Doc ℕ)) (prunes : List Bool) (bytes : Each AreBytes contents) (written : IsWritten o contents docs prunes) where
  abbrev r : Run
  r = run_for o contents docs prunes

  abbrev name : List ℕ
  name = sup_name o

  made_small : (file : ℕ) → changes r.move r.units file ≡ true → length (file_after name r file) ≤ 2 ^ 32
  unfolding file_after_by
  made_small file moves =
      let c = changed (top_scope_of o) name contents docs prunes bytes written file moves in
      let there = nth_number 0 docs file c.doc c.nth in
      let can = can_be_made name r file c.doc c.read (content_bytes contents bytes file) c.some moves (sections_free (top_scope_of o) name contents docs prunes bytes written file there)
      (file_free (top_scope_of o) name contents docs prunes bytes written file there) in
      let is = same_length (r.input.bytes file) (changes_after name r file) (order_of (elf_of (r.input.bytes file))) can in
      let small = can.small in
      omega (arith, is, small)

  common_small : length_of (common_length_after o.common r) < too_large
  common_small = by o.common where
    some : (n : List ℕ) (b : Bool) → length_of (if b then Some (n, length (common_bytes r)) else None) < too_large
    some n true = (is_small r (common_free (top_scope_of o) name contents docs prunes bytes written)).file
    some n false = lit< tt

    by : (c : Option (List ℕ)) → length_of (common_length_after c r) < too_large
    by None = lit< tt
    by (Some n) = some n (has_common r)

  pub lengths_fit : length contents < 2 ^ 32 → HasLengths (summary_of o r)
  lengths_fit few = lengths_by Made o r (length contents) (reads_short no_files_before contents docs written.read.reads) made_small
      (stays_beyond Made r.move no_files_before contents docs prunes written.read.reads written.read.prunable bytes) (common_length_after o.common r) common_small few
