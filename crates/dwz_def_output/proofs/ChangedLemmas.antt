-- The sections that are given to a file: each is found by its code, and can be given where the old one has bytes.
use Rattle.std.proofs.Common.{◌≡◌, ℕ, true, false, eqb, List, [], ◌++◌, Option, Some, None, refl, ap, ◌∙◌}
use Rattle.std.specs.Prelude.{unwrap_or}
use Rattle.dwz_model.specs.declared.sections.Sections.{Sections}
use Rattle.dwz_def_reading.specs.declared.elf.NewContent.{NewContent}
use Rattle.dwz_def_reading.specs.ElfLayout.{content_for}
use Rattle.dwz_def_reading.specs.ElfNames.{sections_in}
use Rattle.dwz_def_reading.specs.Files.{section_of, sources_of}
use Rattle.dwz_def_output.specs.Changed.{CanGive, CanGiveAll, changes_by, if_new, sources_after}
use Rattle.dwz_def_output.specs.Rebuilt.{CanBeMade, CanChange, new_file, new_for}
use Rattle.dwz_def_output.proofs.GivenLemmas.{given_by_size, no_change, one_more_change}
use Rattle.dwz_def_output.proofs.RebuiltLemmas.{new_contents}

-- ---- contents by codes

-- a content that is given for a code is the first, where none behind it is of that code
first_is : (code : ℕ) (o : Option (List ℕ)) (rest : List NewContent) → content_for rest code ≡ None → eqb code code ≡ true → content_for (if_new code o ++ rest) code ≡ o
first_is code None rest none same = none
first_is code (Some bytes) rest none same = rw same refl

other_is : (code : ℕ) (o : Option (List ℕ)) (rest : List NewContent) (wanted : ℕ) → eqb code wanted ≡ false → content_for (if_new code o ++ rest) wanted ≡ content_for rest wanted
other_is code None rest wanted other = refl
other_is code (Some bytes) rest wanted other = rw other refl

module _ (s : Sections) where
  -- the sections from one on
  abbrev from_ranges : List NewContent
  from_ranges = if_new 8 s.aranges

  abbrev from_lists : List NewContent
  from_lists = if_new 7 s.loclists ++ from_ranges

  abbrev from_line : List NewContent
  from_line = if_new 6 s.line ++ from_lists

  abbrev from_offsets : List NewContent
  from_offsets = if_new 5 s.offsets ++ from_line

  abbrev from_strs : List NewContent
  from_strs = if_new 3 s.strs ++ from_offsets

  last_is : (o : Option (List ℕ)) → content_for (if_new 8 o) 8 ≡ o
  last_is None = refl
  last_is (Some bytes) = refl

  last_none : (o : Option (List ℕ)) (code : ℕ) → eqb 8 code ≡ false → content_for (if_new 8 o) code ≡ None
  last_none None code other = refl
  last_none (Some bytes) code other = rw other refl

  lists_none : (code : ℕ) → eqb 7 code ≡ false → eqb 8 code ≡ false → content_for from_lists code ≡ None
  lists_none code seven eight = other_is 7 s.loclists from_ranges code seven ∙ last_none s.aranges code eight

  line_none : (code : ℕ) → eqb 6 code ≡ false → eqb 7 code ≡ false → eqb 8 code ≡ false → content_for from_line code ≡ None
  line_none code six seven eight = other_is 6 s.line from_lists code six ∙ lists_none code seven eight

  offsets_none : (code : ℕ) → eqb 5 code ≡ false → eqb 6 code ≡ false → eqb 7 code ≡ false → eqb 8 code ≡ false → content_for from_offsets code ≡ None
  offsets_none code five six seven eight = other_is 5 s.offsets from_line code five ∙ line_none code six seven eight

  for_strs : content_for (changes_by s None).new 3 ≡ s.strs
  for_strs = first_is 3 s.strs from_offsets (offsets_none 3 refl refl refl refl) refl

  for_line_strs : content_for (changes_by s None).new 4 ≡ None
  for_line_strs = other_is 3 s.strs from_offsets 4 refl ∙ offsets_none 4 refl refl refl refl

  for_offsets : content_for (changes_by s None).new 5 ≡ s.offsets
  for_offsets = other_is 3 s.strs from_offsets 5 refl ∙ first_is 5 s.offsets from_line (line_none 5 refl refl refl) refl

  for_line : content_for (changes_by s None).new 6 ≡ s.line
  for_line = other_is 3 s.strs from_offsets 6 refl ∙ (other_is 5 s.offsets from_line 6 refl ∙ first_is 6 s.line from_lists (lists_none 6 refl refl) refl)

  for_lists : content_for (changes_by s None).new 7 ≡ s.loclists
  for_lists = other_is 3 s.strs from_offsets 7 refl ∙ (other_is 5 s.offsets from_line 7 refl
      ∙ (other_is 6 s.line from_lists 7 refl ∙ first_is 7 s.loclists from_ranges (last_none s.aranges 7 refl) refl))

  for_ranges : content_for (changes_by s None).new 8 ≡ s.aranges
  for_ranges = other_is 3 s.strs from_offsets 8 refl ∙ (other_is 5 s.offsets from_line 8 refl ∙ (other_is 6 s.line from_lists 8 refl ∙ (other_is 7 s.loclists from_ranges 8 refl ∙ last_is s.aranges)))

-- ---- the sections of the new file

module _ (input : List ℕ) (s : Sections) (sup : Option (List ℕ)) (order : List (ℕ × ℕ)) (can : CanBeMade input (changes_by s sup) order) where
  by_code : (code : ℕ) → section_of (new_file input (changes_by s sup) order) code ≡ unwrap_or (new_for (changes_by s sup) code) (section_of input code)
  by_code = new_contents input (changes_by s sup) order can

  pub info_after : section_of (new_file input (changes_by s sup) order) 1 ≡ s.info
  info_after = by_code 1

  pub abbrevs_after : section_of (new_file input (changes_by s sup) order) 2 ≡ s.«abbrev»
  abbrevs_after = by_code 2

  pub ranges_after : section_of (new_file input (changes_by s sup) order) 8 ≡ unwrap_or s.aranges (section_of input 8)
  ranges_after = by_code 8 ∙ ap (λ (o : Option (List ℕ)). unwrap_or o (section_of input 8)) (for_ranges s)

  pub sup_after : section_of (new_file input (changes_by s sup) order) 9 ≡ unwrap_or sup (section_of input 9)
  sup_after = by_code 9

  pub sources_are : sources_of (new_file input (changes_by s sup) order) ≡ sources_after input s
  sources_are =
      let old : (o : Option (List ℕ)) (code : ℕ) → List ℕ = λ o code. unwrap_or o (section_of input code) in
      let strs = by_code 3 ∙ ap (λ (o : Option (List ℕ)). unwrap_or o (section_of input 3)) (for_strs s) in
      let line_strs = by_code 4 ∙ ap (λ (o : Option (List ℕ)). unwrap_or o (section_of input 4)) (for_line_strs s) in
      let offsets = by_code 5 ∙ ap (λ (o : Option (List ℕ)). unwrap_or o (section_of input 5)) (for_offsets s) in
      let line = by_code 6 ∙ ap (λ (o : Option (List ℕ)). unwrap_or o (section_of input 6)) (for_line s) in
      let lists = by_code 7 ∙ ap (λ (o : Option (List ℕ)). unwrap_or o (section_of input 7)) (for_lists s) in
      (λ j. record { strs = strs j; line_strs = line_strs j; offsets = offsets j; line = line j; lists = lists j })

-- ---- what can be given

one_more : (input : List ℕ) (code : ℕ) (o : Option (List ℕ)) (rest : List NewContent) (sup : Option (List ℕ)) → CanGive input code o → CanChange (sections_in input) (record { new = rest; sup = sup })
    → CanChange (sections_in input) (record { new = if_new code o ++ rest; sup = sup })
one_more input code None rest sup can others = others
one_more input code (Some bytes) rest sup can others =
    let n : NewContent = record { code = code; bytes = bytes } in
    one_more_change (sections_in input) rest sup n can.0 others can.1 (given_by_size (sections_in input) n can.0 can.1 can.2)

last_one : (input : List ℕ) (o : Option (List ℕ)) (sup : Option (List ℕ)) → CanGive input 8 o → CanChange (sections_in input) (record { new = if_new 8 o; sup = sup })
last_one input None sup can = no_change (sections_in input) sup
last_one input (Some bytes) sup can =
    let n : NewContent = record { code = 8; bytes = bytes } in
    one_more_change (sections_in input) [] sup n can.0 (no_change (sections_in input) sup) can.1 (given_by_size (sections_in input) n can.0 can.1 can.2)

pub can_change : (input : List ℕ) (s : Sections) (sup : Option (List ℕ)) → CanGiveAll input s → CanChange (sections_in input) (changes_by s sup)
can_change input s sup can =
    one_more input 1 (Some s.info) _ sup can.info
    (one_more input 2 (Some s.«abbrev») _ sup can.abbrevs
    (one_more input 3 s.strs _ sup can.strs
    (one_more input 5 s.offsets _ sup can.offsets
    (one_more input 6 s.line _ sup can.line
    (one_more input 7 s.loclists _ sup can.lists (last_one input s.aranges sup can.ranges))))))
