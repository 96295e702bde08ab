-- The common file holds its sections, and reads back.
use Rattle.std.proofs.Common.{◌≡◌, ℕ, suc, ◌^◌, ◌<◌, ◌≤◌, Bool, true, false, ◌||◌, List, [], ◌∷◌, ◌++◌, length, take, drop, None, unwrap_or, refl, sym, ap, subst, ◌∙◌, inl, inr, arith, lit<}
use Rattle.std.proofs.lemmas.Bool.{cases_lt}
use Rattle.std.proofs.Math.Nat.{pow-le-pow_right}
use Rattle.std.proofs.lemmas.List.{length-take}
use Rattle.std.specs.List.{list_any}
use Rattle.dwz_model.specs.declared.sections.Sections.{Sections}
use Rattle.dwz_def_reading.specs.declared.elf.FileHeader.{FileHeader}
use Rattle.dwz_def_reading.specs.declared.elf.NewContent.{NewContent}
use Rattle.dwz_def_reading.specs.ElfHeaders.{file_header, number_at}
use Rattle.dwz_def_reading.specs.ElfLayout.{too_large}
use Rattle.dwz_def_reading.specs.PlainFile.{FitsPlain}
use Rattle.dwz_def_reading.specs.PlainFile as plain
use Rattle.dwz_def_reading.specs.Lists.{In}
use Rattle.dwz_def_reading.specs.Supplementary.{sup_bytes}
use Rattle.dwz_def_reading.specs.Values.{AreBytes}
use Rattle.dwz_def_reading.proofs.WrittenLemmas.{drop_bytes, le_value-less}
use Rattle.dwz_def_reading.proofs.ListFacts.{in_right}
use Rattle.dwz_def_reading.specs.Documents.{DwUnit}
use Rattle.dwz_def_reading.specs.Files.{section_of, sources_of}
use Rattle.dwz_def_reading.specs.Meanings.{Sources}
use Rattle.dwz_def_output.specs.Changed.{changes_by, if_new}
use Rattle.dwz_def_output.proofs.PlainBackLemmas.{abbrev_read, aranges_read, common_only, common_short, info_read, plain_back, sources_read, sup_read}
use Rattle.dwz_def_reading.specs.SupplementaryFile.{common_file, common_sum}
use Rattle.dwz_sup.proofs.CommonReads.{common_fits, common_known}
use Rattle.dwz_sup.proofs.LengthLemmas.{length_common}
use Rattle.dwz_def_tops.specs.Spots.{EntryName}
use Rattle.dwz_def_images.specs.Homes.{Common}
use Rattle.dwz_def_images.specs.Moves.{Move}
use Rattle.dwz_def_images.specs.Plan.{PartialUnit}
use Rattle.dwz_def_images.specs.Units.{common_units, partial_unit, partial_units}
use Rattle.dwz_def_encoding.specs.Placing.{FitsSections, UnitSections, fit_units, lines_bytes, paths_of, sections, texts_bytes, texts_of, units_with}
use Rattle.dwz_def_encoding.specs.Writing.{joined, tables_of, units_bytes}
use Rattle.dwz_def_encoding.proofs.ReadAgain.{take_bytes}
use Rattle.dwz_def_encoding.proofs.WriteLengths.{no_lines}
use Rattle.dwz_def_readback.specs.Files.{HasCommon, Run, common_fitted, common_forms, common_sections, common_sources, paths, places, texts}
use Rattle.dwz_def_output.specs.Contents.{common_after, if_some}
use Rattle.dwz_def_output.specs.FilesAfter.{common_bytes, has_common, is_common}
use Rattle.dwz_def_output.specs.Refusals.{CommonFault, IsLargeCommon, IsLargeSection, too_large_at}
use Rattle.dwz_def_reading.specs.FirstOf.{OfFirst}
use Rattle.dwz_def_output.proofs.FreeLemmas.{Nothing, is_short, not_first, not_then}

-- ---- where no top has its home there, it would hold nothing

pub no_parts : (m : Move) (n : ℕ) (parts : List PartialUnit) → list_any is_common parts ≡ false → partial_units m Common n parts ≡ []
unfolding partial_units
no_parts m n [] none = refl
no_parts m n (part ∷ parts) none = by (no_parts m (suc n) parts) (is_common part) none where
  by : (list_any is_common parts ≡ false → partial_units m Common (suc n) parts ≡ []) → (b : Bool) → (b || list_any is_common parts) ≡ false
      → elim b as (λ _. List (DwUnit EntryName)) [ true ↦ partial_unit m n ∷ partial_units m Common (suc n) parts | false ↦ partial_units m Common (suc n) parts ] ≡ []
  by rest true e = absurd cc
  by rest false e = rest e

pub no_units : (r : Run) → has_common r ≡ false → common_units r.move ≡ []
unfolding has_common common_units
no_units r none = no_parts r.move 0 r.move.parts none

-- ---- numbers of the first file's header

number_fits : (bytes : List ℕ) (at k : ℕ) → AreBytes bytes → number_at bytes at k < 256 ^ k
unfolding number_at
number_fits bytes at k are =
    let less = le_value-less (take k (drop at bytes)) (take_bytes k (drop at bytes) (drop_bytes at bytes are)) in
    let few : length (take k (drop at bytes)) ≤ k = omega (arith, length-take k (drop at bytes)) in
    let most = pow-le-pow_right {n = 256} (lit< tt) {i = length (take k (drop at bytes))} {j = k} few in
    omega (arith, less, most)

-- ---- it holds what it is to hold

module _ (r : Run) (are : AreBytes (r.input.bytes 0)) where
  abbrev s : Sections
  s = common_after r

  abbrev machine : ℕ
  machine = (file_header (r.input.bytes 0)).machine

  abbrev flags : ℕ
  flags = (file_header (r.input.bytes 0)).flags

  module _ (small : length (common_bytes r) < too_large) (few : length (lines_bytes (paths r)) < too_large) where
    fits : FitsPlain machine flags (plain.supplementary_sections s (common_sum s))
    unfolding common_bytes
    fits = common_fits machine flags s (common_sum s) (number_fits (r.input.bytes 0) 18 2 are) (number_fits (r.input.bytes 0) 48 4 are) small

    texts_are : (ts : List (List ℕ)) → unwrap_or (if_some ts (texts_bytes ts)) [] ≡ texts_bytes ts
    unfolding texts_bytes
    texts_are [] = refl
    texts_are (t ∷ ts) = refl

    lines_are : (ts : List (List ℕ)) → unwrap_or (if_some ts (lines_bytes ts)) [] ≡ lines_bytes ts
    lines_are [] = refl
    lines_are (t ∷ ts) = refl

    abbrev all : Sources
    all = sources_of (common_bytes r)

    sources_are : all ≡ common_sources (texts r) (paths r)
    unfolding common_bytes common_after
    sources_are =
        sources_read machine flags s (common_sum s) fits
        ∙ ap (λ (w : List ℕ). record { strs = w; line_strs = []; offsets = []; line = unwrap_or (if_some (paths r) (lines_bytes (paths r))) []; lists = [] }) (texts_are (texts r))
        ∙ ap (λ (w : List ℕ). record { strs = texts_bytes (texts r); line_strs = []; offsets = []; line = w; lists = [] }) (lines_are (paths r))

    pub has_it : HasCommon (common_bytes r) (common_sections r) (texts r) (paths r)
    unfolding common_bytes common_after
    has_it = record {
      elf = plain_back machine flags (plain.supplementary_sections s (common_sum s)) fits (common_known s (common_sum s)) (common_only s (common_sum s));
      info = info_read machine flags s (common_sum s) fits;
      abbrevs = abbrev_read machine flags s (common_sum s) fits;
      sources = sources_are;
      ranges = aranges_read machine flags s (common_sum s) fits;
      small = common_short machine flags s (common_sum s) fits 3;
      few = subst (λ (w : List ℕ). length w < too_large) (sym (ap (λ (x : Sources). x.line) sources_are)) few;
    }

    -- and its `.debug_sup`
    pub says_itself : section_of (common_bytes r) 9 ≡ sup_bytes (record { supplementary = true; name = []; sum = common_sum s })
    unfolding common_bytes
    says_itself = sup_read machine flags s (common_sum s) fits

-- ---- that it isn't too large

large_lines : (ts : List (List ℕ)) → ((n : NewContent) → In n (if_new 6 (if_some ts (lines_bytes ts)) ++ []) → length n.bytes < too_large) → length (lines_bytes ts) < too_large
large_lines [] short = lit< tt
large_lines (t ∷ ts) short = short (record { code = 6; bytes = lines_bytes (t ∷ ts) }) (inl refl)

-- a file without units
abbrev empty : Sections
empty = record { info = []; «abbrev» = []; strs = None; offsets = None; line = None; loclists = None; aranges = None }

empty_file : (machine flags : ℕ) → length (common_file machine flags empty) < too_large
empty_file machine flags = let len = length_common machine flags empty in omega (arith, len)

module _ (r : Run) (none : common_units r.move ≡ []) where
  pub empty_units : common_sections r ≡ record { info = []; abbrevs = [] }
  unfolding common_fitted fit_units sections units_bytes tables_of joined
  empty_units = ap (λ (units : List (DwUnit EntryName)). sections (places r) (fit_units (common_forms r) units)) none

  pub empty_sections : common_after r ≡ empty
  unfolding common_after units_with
  empty_sections =
      ap (λ (u : UnitSections). record {
        info = u.info;
        «abbrev» = u.abbrevs;
        strs = if_some (texts r) (texts_bytes (texts r));
        offsets = None;
        line = if_some (paths r) (lines_bytes
            (paths r));
        loclists = None;
        aranges = None;
      }) empty_units
      ∙ ap (λ (units : List (DwUnit EntryName)). record {
        info = [];
        «abbrev» = [];
        strs = if_some (texts_of [] units) (texts_bytes (texts_of [] units));
        offsets = None;
        line = if_some (paths_of [] units)
            (lines_bytes (paths_of [] units));
        loclists = None;
        aranges = None;
      }) none

module _ (r : Run) (free : has_common r ≡ true → Nothing (CommonFault r)) where
  abbrev first : FileHeader
  first = file_header (r.input.bytes 0)

  pub record IsSmall : Type 0 where
    pub file : length (common_bytes r) < too_large
    pub lines : length (lines_bytes (paths r)) < too_large
    pub sections : FitsSections (common_sections r)

  -- where there is one
  some_small : has_common r ≡ true → IsSmall
  unfolding common_after
  some_small e =
      let texts_new : List NewContent = if_new 3 (if_some (texts r) (texts_bytes (texts r))) in
      let lines_new : List NewContent = if_new 6 (if_some (paths r) (lines_bytes (paths r))) in
      let short = is_short (changes_by (common_after r) None).new (not_first (OfFirst IsLargeSection (changes_by (common_after r) None).new) (IsLargeCommon r) (free e)) in
      record {
        file = elim (cases_lt (length (common_bytes r)) too_large) [
          | inl less ↦ less
          | inr large ↦ absurd (not_then (OfFirst IsLargeSection (changes_by (common_after r) None).new) (IsLargeCommon r) (free e) (too_large_at 0) (refl, large))
        ];
        lines = large_lines (paths r) (λ n there. short n (inr (inr (in_right n texts_new (lines_new ++ []) there))));
        sections = (
          short (record { code = 1; bytes = (common_sections r).info }) (inl refl),
          short (record { code = 2; bytes = (common_sections r).abbrevs }) (inr (inl refl)),
        );
      }

  -- where there is none, it would be empty
  none_small : has_common r ≡ false → IsSmall
  unfolding common_bytes
  none_small e =
      let none = no_units r e in
      let lines : length (lines_bytes (paths r)) < too_large = subst (λ (units : List (DwUnit EntryName)). length (lines_bytes (paths_of [] units)) < too_large) (sym none) no_lines in
      record {
        file = subst (λ (w : Sections). length (common_file first.machine first.flags w) < too_large) (sym (empty_sections r none)) (empty_file first.machine first.flags);
        lines = lines;
        sections = subst (λ (w : UnitSections). FitsSections w) (sym (empty_units r none)) (lit< tt, lit< tt);
      }

  pub is_small : IsSmall
  is_small = by (has_common r) refl where
    by : (b : Bool) → has_common r ≡ b → IsSmall
    by true e = some_small e
    by false e = none_small e
