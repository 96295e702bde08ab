-- The first section that is too large is one of the first two.
use Rattle.std.proofs.Common.{◌≡◌, ℕ, ◌<◌, ◌≤◌, List, [], ◌++◌, length, map, Some, None, Bool, true, false, cond, refl, sym, ap, subst, inl, inr, arith}
use Rattle.std.proofs.lemmas.List.{append-nil}
use Rattle.dwz_model.specs.declared.fault.Fault.{Fault}
use Rattle.dwz_model.specs.declared.fault.Refusal.{Refusal}
use Rattle.dwz_def_reading.specs.declared.elf.NewContent.{NewContent}
use Rattle.dwz_def_expand.specs.OneFile.{OneFile}
use Rattle.dwz_def_expand.specs.Output.{LargeRefusal, in_lists, new_lists, new_ranges, new_sections, new_start, number_of_operand, number_of_unit, sets}
use Rattle.dwz_def_output.specs.Changed.{changes_by, if_new}
use Rattle.dwz_def_output.specs.Contents.{if_other}
use Rattle.dwz_def_output.specs.Refusals.{IsLargeSection, too_large_at}
use Rattle.dwz_def_output.proofs.ListsWritten.{over_len}
use Rattle.dwz_def_output.proofs.SectionsMade.{units_len}
use Rattle.dwz_def_reading.specs.ElfLayout.{too_large}
use Rattle.dwz_def_reading.specs.ElfNames.{sections_in}
use Rattle.dwz_def_reading.specs.ElfReading.{section_range}
use Rattle.dwz_def_reading.specs.Files.{debug_aranges, longest_file, section_of, sources_of}
use Rattle.dwz_def_reading.specs.FirstOf.{OfFirst}
use Rattle.dwz_def_reading.specs.PatchedLists.{with_number}
use Rattle.dwz_def_reading.proofs.RangeBytes.{bytes_short}
use Rattle.dwz_def_tops.specs.Spots.{same_numbers}
use Rattle.dwz_expand_sections.specs.Large.{HaveLengths, of_file}

-- ---- sections in which numbers change in place

lists_len : (f : OneFile) → length (new_lists f) ≡ length (sources_of f.file.bytes).lists
unfolding new_lists
lists_len f = over_len (map (λ o. with_number (λ at. number_of_operand f o) o.operand) (in_lists f)) (sources_of f.file.bytes).lists

ranges_len : (f : OneFile) → length (new_ranges f) ≡ length (debug_aranges f.file.bytes)
unfolding new_ranges
ranges_len f = units_len (sets f) (map (λ s. new_start f (number_of_unit f s.unit)) (sets f)) (debug_aranges f.file.bytes)

abbrev NoneLarge : List NewContent → Type 0
NoneLarge new = (x : Fault) → ¬ OfFirst IsLargeSection new x

none_behind : (code : ℕ) (old new : List ℕ) (rest : List NewContent) → length new < too_large → NoneLarge rest → NoneLarge (if_new code (if_other old new) ++ rest)
none_behind code old new rest short none = by (same_numbers old new) where
  by : (b : Bool) → (x : Fault) → ¬ OfFirst IsLargeSection (if_new code (cond b None (Some new)) ++ rest) x
  by true x has = none x has
  by false x (inl here) = (let le = here.1 in omega (arith, le, short))
  by false x (inr later) = none x later.1

-- ---- the first of all

module _ (f : OneFile) (info abbrevs : ℕ) (has : HaveLengths f info abbrevs) where
  section_short : (code : ℕ) → length (section_of f.file.bytes code) < too_large
  unfolding section_of longest_file
  section_short code =
      let short = bytes_short f.file.bytes (section_range (sections_in f.file.bytes) code) in
      let small = has.read.file.size.file in omega (arith, short, small)

  lists_short : length (new_lists f) < too_large
  lists_short = (let short = section_short 7 in omega (arith, lists_len f, short))

  ranges_short : length (new_ranges f) < too_large
  ranges_short = (let short = section_short 8 in omega (arith, ranges_len f, short))

  abbrev others : List NewContent
  others = if_new 7 (if_other (sources_of f.file.bytes).lists (new_lists f)) ++ (if_new 8 (if_other (debug_aranges f.file.bytes) (new_ranges f)) ++ [])

  none_of_others : NoneLarge others
  none_of_others =
      none_behind 7 (sources_of f.file.bytes).lists (new_lists f) (if_new 8 (if_other (debug_aranges f.file.bytes) (new_ranges f)) ++ []) lists_short
      (none_behind 8 (debug_aranges f.file.bytes) (new_ranges f) [] ranges_short (λ x none. none))

  info_is_large : too_large ≤ info → too_large ≤ length (new_sections f).info
  info_is_large le = (let is = has.info_is in omega (arith, is, le))

  info_fits : info < too_large → too_large ≤ length (new_sections f).info → ⊥
  info_fits short le = (let is = has.info_is in omega (arith, is, le, short))

  abbrevs_fit : abbrevs < too_large → too_large ≤ length (new_sections f).abbrev → ⊥
  abbrevs_fit short le = (let is = has.abbrevs_is in omega (arith, is, le, short))

  others_are : if_new 3 (new_sections f).strs
      ++ (if_new 5 (new_sections f).offsets ++ (if_new 6 (new_sections f).line ++ (if_new 7 (new_sections f).loclists ++ if_new 8 (new_sections f).aranges))) ≡ others
  unfolding new_sections
  others_are =
      ap (λ (w : List NewContent). if_new 7 (if_other (sources_of f.file.bytes).lists (new_lists f)) ++ w) (sym (append-nil (if_new 8 (if_other (debug_aranges f.file.bytes) (new_ranges f)))))

  none_there : info < too_large → abbrevs < too_large → NoneLarge (changes_by (new_sections f) None).new
  none_there short less x (inl here) = info_fits short here.1
  none_there short less x (inr (first, inl here)) = abbrevs_fit less here.1
  none_there short less x (inr (first, inr (second, later))) = none_of_others x (subst (λ (w : List NewContent). OfFirst IsLargeSection w x) others_are later)

  pub info_large : (q : Refusal) → q ≡ of_file (too_large_at 1) → too_large ≤ info → LargeRefusal f q
  info_large q is le = (too_large_at 1, inl (refl, info_is_large le), is)

  pub abbrevs_large : (q : Refusal) → q ≡ of_file (too_large_at 2) → info < too_large → too_large ≤ abbrevs → LargeRefusal f q
  abbrevs_large q is short le =
      (too_large_at 2, inr (λ x large. info_fits short large.1, inl (refl, (let is = has.abbrevs_is in omega (arith, is, le)))), is)

  pub none_large : info < too_large → abbrevs < too_large → (q : Refusal) → ¬ LargeRefusal f q
  none_large short less q (x, large, is) = none_there short less x large
