-- Sections that are what the definition has of each are the new sections of a file.
use Rattle.std.proofs.Common.{◌≡◌, ℕ, true, List, Option, None, subst, sym}
use Rattle.std.specs.Str.{bytes_eq}
use Rattle.std.specs.Cmp.Lexicographic.{bytes_decides}
use Rattle.dwz_model.specs.declared.sections.Sections.{Sections}
use Rattle.dwz_def_reading.specs.Files.{debug_aranges, sources_of}
use Rattle.dwz_def_reading.proofs.CaseFacts.{same_test}
use Rattle.dwz_def_tops.specs.Spots.{same_numbers}
use Rattle.dwz_def_tops.proofs.SpotLemmas.{numbers_same, numbers_true}
use Rattle.dwz_def_output.specs.Contents.{if_other}
use Rattle.dwz_def_expand.specs.OneFile.{OneFile}
use Rattle.dwz_graph.specs.declared.file.File.{File}
use Rattle.dwz_graph.specs.ListOperand.{ListOperand}
use Rattle.dwz_expand_sections.specs.ListLaws.{AreListed}
use Rattle.dwz_expand_sections.specs.Lists.{HasNumbers}
use Rattle.dwz_expand_sections.specs.NumberLaws.{GivesNumbers, ListNumbersLaw}
use Rattle.dwz_expand.specs.Expanded.{IsFileOf}
use Rattle.dwz_def_expand.specs.Output.{new_lists, new_ranges, new_sections}

-- a test whether bytes are the same is the test whether they are the same numbers
pub same_bytes : (xs ys : List ℕ) → bytes_eq xs ys ≡ same_numbers xs ys
same_bytes xs ys =
    same_test (bytes_eq xs ys) (same_numbers xs ys)
    (λ eq. subst (λ (zs : List ℕ). same_numbers xs zs ≡ true) ((bytes_decides xs ys).0 eq) (numbers_same xs))
    (λ same. (bytes_decides xs ys).1 (numbers_true xs ys same))

pub sections_made : (f : OneFile) (s : Sections) → s.info ≡ (new_sections f).info → s.«abbrev» ≡ (new_sections f).«abbrev» → s.strs ≡ None → s.offsets ≡ None → s.line ≡ None
    → s.loclists ≡ if_other (sources_of f.file.bytes).lists (new_lists f) → s.aranges ≡ if_other (debug_aranges f.file.bytes) (new_ranges f) → s ≡ new_sections f
unfolding new_sections
sections_made f s info abbrevs strs offsets line lists ranges = λ i. record {
  info = info i;
  «abbrev» = abbrevs i;
  strs = strs i;
  offsets = offsets i;
  line = line i;
  loclists = lists i;
  aranges = ranges i;
}

-- numbers that are given to the operands of the file's location lists are theirs
pub listed_numbers : ListNumbersLaw → (f : OneFile) (own : File) → IsFileOf f own → (operands : List ListOperand) (numbers given : List (Option ℕ)) → operands ≡ own.resolved.operands.items
    → numbers ≡ given → GivesNumbers f operands given → HasNumbers f own.sections.lists.now own.resolved.operands.items numbers
listed_numbers law f own file operands numbers given these are gives =
    let has = law f file.reads operands given (subst (AreListed f) (sym these) file.listed) gives in
    let mine : HasNumbers f own.sections.lists.now operands given = record { section_is = file.lists; apart = has.apart; same = has.same } in
    subst (λ (os : List ListOperand). HasNumbers f own.sections.lists.now os numbers) these
    (subst (λ (ns : List (Option ℕ)). HasNumbers f own.sections.lists.now operands ns) (sym are) mine)
