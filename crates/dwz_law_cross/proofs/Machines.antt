-- All files of a run are for one machine, also as they are written.
use Rattle.std.proofs.Common.{◌≡◌, ℕ, zero, suc, ◌+◌, ◌<◌, ◌≤◌, ◌^◌, List, [], ◌∷◌, Option, Some, length, take, drop, get_or, refl, ap, subst, arith, inl, inr, lit<, Bool, true}
use Rattle.std.proofs.Math.Nat.{pow-le-pow_right}
use Rattle.std.proofs.lemmas.List.{length-take}
use Rattle.dwz_def_reading.specs.Lists.{Each, In, Nth}
use Rattle.dwz_def_reading.specs.Documents.{Doc}
use Rattle.dwz_def_reading.specs.declared.elf.FileHeader.{FileHeader}
use Rattle.dwz_def_reading.specs.ElfHeaders.{file_header, number_at}
use Rattle.dwz_def_reading.specs.ElfReading.{elf_of}
use Rattle.dwz_def_reading.specs.Files.{IsForMachine, Limits, ReadAll, limits_after, machine_of}
use Rattle.dwz_def_reading.specs.PlainFile.{supplementary_sections}
use Rattle.dwz_def_reading.specs.SupplementaryFile.{common_sum}
use Rattle.dwz_def_reading.specs.Values.{AreBytes}
use Rattle.dwz_def_reading.proofs.PlainReads.{fields_read}
use Rattle.dwz_def_reading.proofs.WrittenLemmas.{drop_bytes, le_value-less}
use Rattle.dwz_def_encoding.proofs.ReadAgain.{take_bytes}
use Rattle.dwz_sup.proofs.CommonReads.{common_fits}
use Rattle.dwz_def_tops.specs.Alike.{TopScope}
use Rattle.dwz_def_images.specs.Units.{changes}
use Rattle.dwz_def_readback.specs.Files.{Run}
use Rattle.dwz_def_output.specs.Contents.{common_after}
use Rattle.dwz_def_output.specs.FilesAfter.{changes_after, common_bytes, file_after, file_after_by, order_of}
use Rattle.dwz_def_output.specs.Written.{CanBeWritten, run_under}
use Rattle.dwz_def_output.proofs.AllMade as made
use Rattle.dwz_def_output.proofs.CommonMade.{is_small}
use Rattle.dwz_def_output.proofs.FilesMade as files
use Rattle.dwz_def_output.proofs.FilesRead.{content_bytes}
use Rattle.dwz_def_output.proofs.MadeLemmas.{same_file}

-- ---- files that read

-- each is for the machine of those before it
pub all_machine : (m : ℕ) (l : Limits) → l.machine ≡ Some m → (contents : List (List ℕ)) (docs : List (Doc ℕ)) → ReadAll l contents docs → (s n k : ℕ) (doc : Doc ℕ) → Nth s docs n doc → n ≡ s + k
    → machine_of (get_or contents k []) ≡ m
all_machine m l is [] [] read s n k doc nth at = absurd nth
all_machine m l is [] (d ∷ docs) read s n k doc nth at = absurd read
all_machine m l is (bytes ∷ contents) [] read s n k doc nth at = absurd read
all_machine m l is (bytes ∷ contents) (d ∷ docs) read s n zero doc nth at = subst (λ (o : Option ℕ). IsForMachine o (machine_of bytes)) is read.1.same_machine
all_machine m l is (bytes ∷ contents) (d ∷ docs) read s n (suc k) doc (inl x) at = absurd (omega (arith, x.0, at))
all_machine m l is (bytes ∷ contents) (d ∷ docs) read s n (suc k) doc (inr r) at =
    let own = subst (λ (o : Option ℕ). IsForMachine o (machine_of bytes)) is read.1.same_machine in
    all_machine m (limits_after l bytes read.0) (ap (λ (n : ℕ). Some n) own) contents docs read.2 (suc s) n k doc r (omega (arith, at))

one_machine : (l : Limits) (contents : List (List ℕ)) (docs : List (Doc ℕ)) → ReadAll l contents docs → (s n k : ℕ) (doc : Doc ℕ) → Nth s docs n doc → n ≡ s + k
    → machine_of (get_or contents k []) ≡ machine_of (get_or contents 0 [])
one_machine l [] [] read s n k doc nth at = absurd nth
one_machine l [] (d ∷ docs) read s n k doc nth at = absurd read
one_machine l (bytes ∷ contents) [] read s n k doc nth at = absurd read
one_machine l (bytes ∷ contents) (d ∷ docs) read s n zero doc nth at = refl
one_machine l (bytes ∷ contents) (d ∷ docs) read s n (suc k) doc (inl x) at = absurd (omega (arith, x.0, at))
one_machine l (bytes ∷ contents) (d ∷ docs) read s n (suc k) doc (inr r) at =
    all_machine (machine_of bytes) (limits_after l bytes read.0) refl contents docs read.2 (suc s) n k doc r (omega (arith, at))

-- ---- those that are written

number_fits : (bytes : List ℕ) (at k : ℕ) → AreBytes bytes → number_at bytes at k < 256 ^ k
unfolding number_at
number_fits bytes at k are =
    let less = le_value-less (take k (drop at bytes)) (take_bytes k (drop at bytes) (drop_bytes at bytes are)) in
    let few : length (take k (drop at bytes)) ≤ k = omega (arith, length-take k (drop at bytes)) in
    let most = pow-le-pow_right {n = 256} (lit< tt) {i = length (take k (drop at bytes))} {j = k} few in
    omega (arith, less, most)

module _ (scope : TopScope) (name : List ℕ) (contents : List (List ℕ)) (docs : List (Doc ℕ)) (prunes : List Bool) (bytes : Each AreBytes contents) (written : CanBeWritten scope name contents docs
    prunes) where
  abbrev r : Run
  r = run_under scope contents docs prunes

  pub common_machine : machine_of (common_bytes r) ≡ machine_of (r.input.bytes 0)
  unfolding common_bytes
  common_machine =
      let s = common_after r in
      let input = r.input.bytes 0 in
      let small = (is_small r (made.common_free scope name contents docs prunes bytes written)).file in
      let first = content_bytes contents bytes 0 in
      let fits = common_fits (file_header input).machine (file_header input).flags s (common_sum s) (number_fits input 18 2 first) (number_fits input 48 4 first) small in
      ap (λ (h : FileHeader). h.machine) (fields_read (file_header input).machine (file_header input).flags (supplementary_sections s (common_sum s)) fits)

  module _ (file : ℕ) (doc : Doc ℕ) (nth : Nth 0 docs file doc) where
    pub old_machine : machine_of (r.input.bytes file) ≡ machine_of (r.input.bytes 0)
    old_machine = one_machine _ contents docs written.read.reads 0 file file doc nth (omega arith)

    pub new_machine : In file r.files → changes r.move r.units file ≡ true → machine_of (file_after name r file) ≡ machine_of (r.input.bytes file)
    unfolding file_after_by
    new_machine there moves =
        let c = made.changed scope name contents docs prunes bytes written file moves in
        let can = files.can_be_made name r file c.doc c.read (content_bytes contents bytes file) c.some moves (made.sections_free scope name contents docs prunes bytes written file there)
        (made.file_free scope name contents docs prunes bytes written file there) in
        ap (λ (h : FileHeader). h.machine) (same_file (r.input.bytes file) (changes_after name r file) (order_of (elf_of (r.input.bytes file))) can)
