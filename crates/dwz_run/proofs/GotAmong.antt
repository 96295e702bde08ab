-- What is got of one FILE of many that aren't too long together.
use Rattle.std.proofs.Common.{◌≡◌, ℕ, suc, ◌+◌, ◌^◌, ◌≤◌, Bool, true, false, List, [], ◌∷◌, length, get_or, Some, refl, sym, ap, subst, ◌∙◌, inl, inr, arith}
use Rattle.std.specs.Prelude.{nat_lt}
use Rattle.std.specs.List.{sum_by}
use Rattle.std.proofs.lemmas.Bool.{ltb-true, or_cases}
use Rattle.std.proofs.lemmas.List.Sums.{sum_by-cons}
use Rattle.dwz_def_reading.specs.Files.{longest_files}
use Rattle.dwz_def_reading.specs.Lists.{In}
use Rattle.dwz_outside.specs.Store.{Store, got}
use Rattle.dwz_run_course.specs.Gets.{gets_by, is_longer_than}
use Rattle.dwz_def_run.specs.Reuses.{common_got}
use Rattle.dwz_def_run.proofs.ReusesGotten.{all_got as got_whole, short}
use Rattle.dwz_def_run.specs.Batches.{FileGot, IsCommonRead, bytes_together, got_from}
use Rattle.dwz_def_run.specs.Yields.{batching}
use Rattle.dwz_run.specs.Batched.{AsksToBatch, files_of}
use Rattle.dwz_run.proofs.BatchedAfter.{got_batch}
use Rattle.dwz_run.proofs.FirstGot.{next}

-- ---- what is got of many files that aren't too long together

abbrev sizes : List FileGot → ℕ
sizes files = sum_by (λ file. length file.content) files

shifted : (c : List ℕ) (rest names : List (List ℕ)) (n : ℕ) → got_from (suc n) names (c ∷ rest) ≡ got_from n names rest
unfolding got_from
shifted c rest [] n = refl
shifted c rest (x ∷ names) n = ap (λ (w : List FileGot). record { name = x; content = get_or rest n [] } ∷ w) (shifted c rest names (suc n))

-- none of them ends the gets
not_longer : (longest before : ℕ) (content : List ℕ) → length content ≤ longest → before + length content ≤ 2 ^ 29 → is_longer_than longest before content ≡ false
not_longer longest before content own few = by (is_longer_than longest before content) refl where
  by : (b : Bool) → is_longer_than longest before content ≡ b → b ≡ false
  by false e = refl
  by true e = absurd (elim (or_cases (nat_lt longest (length content)) (nat_lt (2 ^ 29) (before + length content)) e) [
    | inl a ↦ (let long = ltb-true longest (length content) a in omega (arith, long, own))
    | inr b ↦ (let long = ltb-true (2 ^ 29) (before + length content) b in omega (arith, long, few))
  ])

module _ (store : Store) where
  -- each was got
  abbrev AllGot : (names : List (List ℕ)) (before : ℕ) (contents : List (List ℕ)) → Type 0
  AllGot names before contents = before + sizes (got_from 0 names contents) ≤ 2 ^ 29 → (file : FileGot) → In file (got_from 0 names contents)
      → got store file.name ≡ Some file.content

  all_got : (names : List (List ℕ)) (before : ℕ) (contents : List (List ℕ)) → gets_by (2 ^ 29) (2 ^ 29) store before names ≡ Some contents
      → AllGot names before contents
  unfolding got_from
  all_got [] before contents is = λ few file there. absurd there
  all_got (x ∷ names) before contents is =
      let n = next store (2 ^ 29) (2 ^ 29) before x names contents is in
      subst (AllGot (x ∷ names) before) (sym n.contents_are)
      (by n.first n.rest n.got_is (λ fits. all_got names (before + length n.first) n.rest (n.later fits))) where
        by : (first : List ℕ) (rest : List (List ℕ)) → got store x ≡ Some first
            → (is_longer_than (2 ^ 29) before first ≡ false → AllGot names (before + length first) rest) → AllGot (x ∷ names) before (first ∷ rest)
        by first rest got_is later few file there =
            let one : FileGot = record { name = x; content = first } in
            let sum = sum_by-cons (λ (f : FileGot). length f.content) one (got_from 1 names (first ∷ rest)) in
            let tail = shifted first rest names 0 in
            let same : sizes (got_from 1 names (first ∷ rest)) ≡ sizes (got_from 0 names rest) = ap sizes tail in
            let fits : is_longer_than (2 ^ 29) before first ≡ false =
            not_longer (2 ^ 29) before first (omega (arith, few, sum)) (omega (arith, few, sum)) in
            elim there [
              | inl is ↦ subst (λ (f : FileGot). got store f.name ≡ Some f.content) is got_is
              | inr more ↦ later fits (omega (arith, few, sum, same)) file (subst (In file) tail more)
            ]

-- ---- one of them

module _ {words : List (List ℕ)} {store : Store} (a : AsksToBatch words store) (reads : IsCommonRead (batching a.options) (common_got a.contents))
    (few : bytes_together (common_got a.contents) (files_of a) ≤ longest_files) (file : FileGot) (there : In file (files_of a)) where
  abbrev one : List ℕ
  one = common_got a.contents

  pub common_fits : is_longer_than (2 ^ 28) 0 one ≡ false
  unfolding longest_files
  common_fits =
      let size = reads.2.size in
      let files = size.files in
      not_longer (2 ^ 28) 0 one (short size.file) (omega (arith, files))

  pub got_all : gets_by (2 ^ 28) (2 ^ 29) store 0 (a.common ∷ a.options.files) ≡ Some a.contents
  got_all = subst (λ (names : List (List ℕ)). gets_by (2 ^ 28) (2 ^ 29) store 0 names ≡ Some a.contents) (got_batch a.options a.lawful.fit a.common a.batches) a.got

  -- among many it was got
  pub file_got : got store file.name ≡ Some file.content
  unfolding longest_files
  file_got =
      let n = next store (2 ^ 28) (2 ^ 29) 0 a.common a.options.files a.contents got_all in
      let first : n.first ≡ one = sym (ap (λ (cs : List (List ℕ)). get_or cs 0 []) n.contents_are) in
      let fits : is_longer_than (2 ^ 28) 0 n.first ≡ false = ap (is_longer_than (2 ^ 28) 0) first ∙ common_fits in
      let same : files_of a ≡ got_from 0 a.options.files n.rest =
      ap (λ (cs : List (List ℕ)). got_from 1 a.options.files cs) n.contents_are ∙ shifted n.first n.rest a.options.files 0 in
      let sum : sizes (files_of a) ≡ sizes (got_from 0 a.options.files n.rest) = ap sizes same in
      let long : length n.first ≡ length one = ap length first in
      all_got store a.options.files (0 + length n.first) n.rest (n.later fits) (omega (arith, few, sum, long)) file (subst (In file) same there)

  -- and is held whole, where it isn't too long
  pub file_held : length file.content ≤ 2 ^ 28 → store file.name ≡ Some file.content
  file_held short = got_whole (store file.name) file.content short file_got
