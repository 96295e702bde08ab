-- The file that is made of one that reads holds its new sections, and reads back.
use Rattle.dwz_def_output.proofs.ChangedLemmas as after_changes
use Rattle.std.proofs.Common.{◌≡◌, ℕ, ◌<◌, true, List, [], ◌∷◌, length, Option, Some, None, unwrap_or, refl, sym, ap, subst, ◌∙◌, inl, inr}
use Rattle.std.proofs.lemmas.Bool.{cases_lt}
use Rattle.dwz_def_reading.specs.Fault.{Fault}
use Rattle.dwz_def_reading.specs.Sections.{Sections}
use Rattle.dwz_def_reading.specs.ElfLayout.{layout_fault, rebuilt_length, too_large}
use Rattle.dwz_def_reading.specs.ElfReading.{elf_of}
use Rattle.dwz_def_reading.specs.Values.{AreBytes}
use Rattle.dwz_def_reading.specs.Units.{RawUnit, SpellsUnits}
use Rattle.dwz_def_reading.specs.Documents.{Doc}
use Rattle.dwz_def_reading.specs.Entries.{given}
use Rattle.dwz_def_reading.specs.Files.{debug_abbrev, debug_aranges, debug_info, section_of}
use Rattle.dwz_def_reading.specs.Meanings.{Sources}
use Rattle.dwz_def_output.specs.Changed.{CanGiveAll, changes_by}
use Rattle.dwz_def_output.specs.Rebuilt.{CanBeMade}
use Rattle.dwz_def_output.proofs.ChangedLemmas.{abbrevs_after, can_change, info_after, sources_are}
use Rattle.dwz_def_output.proofs.RebuiltLemmas.{back}
use Rattle.dwz_def_images.specs.Units.{changes}
use Rattle.dwz_def_encoding.specs.Meant.{AreRenumbered}
use Rattle.dwz_def_encoding.specs.Placing.{FitsSections}
use Rattle.dwz_def_encoding.proofs.ReadAgain.{section_bytes}
use Rattle.dwz_def_readback.specs.AllFiles.{FileReads}
use Rattle.dwz_def_readback.specs.Files.{Run, sources, AreRangedBy, CommonFile, HasSectionsBy, OffsetsIfBy, places_by, sections_by, tells_by}
use Rattle.dwz_def_output.specs.Contents.{sections_after_by, strs_after_by, listed, lists_after_by, offsets_after_by, ranges_after_by}
use Rattle.dwz_def_output.specs.FilesAfter.{file_after_by, order_of, changes_after_by, sup_after_by}
use Rattle.dwz_def_output.specs.Refusals.{IsLargeSection, spoken, too_large_at, FileFaultBy, FirstNarrowBy, IsLargeFileBy, IsUnplacedBy, SectionsFaultBy}
use Rattle.dwz_def_reading.specs.FirstOf.{OfFirst, OrElse}
use Rattle.dwz_def_output.proofs.FreeLemmas.{Nothing, is_short, not_first, not_then}
use Rattle.dwz_def_reading.proofs.SoundFiles.{reads_sound}
use Rattle.dwz_def_output.proofs.GivenSections.{can_give, can_give_other, none_if_none, other_is, some_bytes}
use Rattle.dwz_def_output.proofs.Orders.{is_order}
use Rattle.dwz_def_over.proofs.SlotsOver.{no_offsets, no_strs, offsets_made}
use Rattle.dwz_def_over.proofs.SectionsOver.{lists_len, lists_made, ranges_len, ranges_made}

module _ (name : List ℕ) (cf : CommonFile) (r : Run) (file : ℕ) (doc : Doc ℕ) (read : FileReads (r.input.bytes file) (r.input.raw file) (r.input.prunes file) doc) (are : AreBytes (r.input.bytes file))
    (some : (r.input.raw file ≡ []) → ⊥) (changed : changes r.move r.units file ≡ true) where
  abbrev input : List ℕ
  input = r.input.bytes file

  abbrev s : Sections
  s = sections_after_by cf r file

  have_bytes : (0 < length (debug_info input)) × (0 < length (debug_abbrev input))
  have_bytes = by (r.input.raw file) some read.reads.spelled where
    by : (raw : List RawUnit) → (raw ≡ [] → ⊥) → SpellsUnits (debug_abbrev input) (given read.limits.entries) 0 raw 0 (debug_info input)
        → (0 < length (debug_info input)) × (0 < length (debug_abbrev input))
    by [] filled spelled = absurd (filled refl)
    by (u ∷ raw) filled spelled = some_bytes (debug_abbrev input) (given read.limits.entries) u raw (debug_info input) spelled

  can_give_all : CanGiveAll input s
  unfolding sections_after_by
  can_give_all = record {
    info = can_give input 1 s.info have_bytes.0;
    abbrevs = can_give input 2 s.abbrev have_bytes.1;
    strs = can_give_other input 3 (strs_after_by cf r file) (no_strs cf r file);
    offsets = can_give_other input 5 (offsets_after_by cf r file) (no_offsets cf r file);
    line = tt;
    lists = can_give_other input 7 (lists_after_by cf r file) (none_if_none (section_of input 7) (lists_after_by cf r file) (lists_len cf r file));
    ranges = can_give_other input 8 (ranges_after_by cf r file) (none_if_none (section_of input 8) (ranges_after_by cf r file) (ranges_len cf r file));
  }

  -- ---- where nothing refuses it

  module _ (sections_free : Nothing (SectionsFaultBy cf r file)) (file_free : Nothing (FileFaultBy cf name r file)) where
    abbrev NoRoom : Fault → Type 0
    NoRoom = OrElse (FirstNarrowBy cf r file 7 (listed r file)) (OfFirst IsLargeSection (changes_by s None).new)

    none_large : Nothing (OfFirst IsLargeSection (changes_by s None).new)
    none_large = not_then (FirstNarrowBy cf r file 7 (listed r file)) _ (not_then (FirstNarrowBy cf r file 1 (spoken r file)) NoRoom (λ f is. sections_free f (changed, is)))

    pub sections_fit : FitsSections (sections_by cf r file)
    unfolding sections_after_by
    sections_fit = (
      is_short (changes_by s None).new none_large (record { code = 1; bytes = s.info }) (inl refl),
      is_short (changes_by s None).new none_large (record { code = 2; bytes = s.abbrev }) (inr (inl refl)),
    )

    layout_none : (o : Option Fault) → ((f : Fault) → o ≡ Some f → ⊥) → o ≡ None
    layout_none None free = refl
    layout_none (Some f) free = absurd (free f refl)

    pub can_be_made : CanBeMade input (changes_after_by cf name r file) (order_of (elf_of input))
    can_be_made = record {
      reads = reads_sound read.limits input (r.input.raw file) doc read.reads;
      can_change = can_change input s (sup_after_by cf name r file) can_give_all;
      fits = layout_none (layout_fault (elf_of input) (changes_after_by cf name r file)) (not_first (IsUnplacedBy cf name r file) (IsLargeFileBy cf name r file) (λ f is. file_free f (changed, is)));
      is_order = is_order (elf_of input);
      small = elim (cases_lt (rebuilt_length (elf_of input) (changes_after_by cf name r file) input (order_of (elf_of input))) too_large) [
        | inl less ↦ less
        | inr large ↦ absurd (not_then (IsUnplacedBy cf name r file) (IsLargeFileBy cf name r file) (λ f is. file_free f (changed, is)) (too_large_at 0) (refl, large))
      ];
    }

    abbrev out : List ℕ
    out = file_after_by cf name r file

    -- what it holds
    pub has_sections : HasSectionsBy cf r file out
    unfolding file_after_by sections_after_by strs_after_by
    has_sections =
        let all = sources_are input s (sup_after_by cf name r file) (order_of (elf_of input)) can_be_made in
        record {
          elf = back input (changes_after_by cf name r file) (order_of (elf_of input)) can_be_made;
          info = info_after input s (sup_after_by cf name r file) (order_of (elf_of input)) can_be_made;
          abbrevs = abbrevs_after input s (sup_after_by cf name r file) (order_of (elf_of input)) can_be_made;
          strs = ap (λ (x : Sources). x.strs) all ∙ other_is (sources r file).strs (strs_after_by cf r file);
          line_strs = ap (λ (x : Sources). x.line_strs) all;
          offsets = subst (OffsetsIfBy (r.input.prunes file) cf r file) (sym (ap (λ (x : Sources). x.offsets) all ∙ other_is (sources r file).offsets (offsets_after_by cf r file)))
              (offsets_made cf r file doc read (section_bytes input 5 are));
          line = ap (λ (x : Sources). x.line) all;
          lists = subst (AreRenumbered (places_by cf r) (tells_by cf r file)) (sym (ap (λ (x : Sources). x.lists) all ∙ other_is (sources r file).lists (lists_after_by cf r file))) (lists_made cf r file doc read);
          ranges = subst (AreRangedBy cf r file)
              (sym (after_changes.ranges_after input s (sup_after_by cf name r file) (order_of (elf_of input)) can_be_made
              ∙ other_is (debug_aranges input) (ranges_after_by cf r file))) (ranges_made cf r file read.reads.ranges);
        }

    -- and what `.debug_sup` says
    pub has_sup : section_of out 9 ≡ unwrap_or (sup_after_by cf name r file) (section_of input 9)
    unfolding file_after_by
    has_sup = after_changes.sup_after input s (sup_after_by cf name r file) (order_of (elf_of input)) can_be_made
