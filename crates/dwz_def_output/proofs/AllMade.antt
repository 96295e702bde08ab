-- Where nothing refuses them, all files are made as is asked.
use Rattle.std.proofs.Common.{◌≡◌, ◌&&◌, ◌==◌, ℕ, suc, ◌+◌, Bool, true, List, [], ◌∷◌, length, map, refl, sym, ap, subst, ◌∙◌, inl, inr, eqb-true, ◌^◌, ◌<◌, ◌++◌, Some, None, unwrap_or, arith, false}
use Rattle.std.specs.Prelude.{if◌then◌else◌}
use Rattle.std.proofs.lemmas.Bool.{and_parts}
use Rattle.std.specs.List.{list_any}
use Rattle.dwz_model.specs.declared.fault.Refusal.{Refusal}
use Rattle.dwz_def_reading.specs.Lists.{Each, In}
use Rattle.dwz_def_reading.specs.Units.{RawUnit}
use Rattle.dwz_def_reading.specs.Values.{AreBytes}
use Rattle.dwz_def_reading.specs.Documents.{Doc, DwUnit}
use Rattle.dwz_def_reading.specs.Files.{around_of, debug_info, section_of}
use Rattle.dwz_def_reading.specs.Meanings.{MeanUnits, Sources}
use Rattle.dwz_def_tops.specs.Lists.{Nth}
use Rattle.dwz_def_tops.proofs.Members.{any_from, nth_in}
use Rattle.dwz_def_tops.specs.Spots.{EntryName, FileUnit, Top, file_numbers, in_file, named, named_files, tops_among, tops_of, units_of}
use Rattle.dwz_def_tops.proofs.Tops.{unit_of}
use Rattle.dwz_def_images.specs.Units.{changes, common_units}
use Rattle.dwz_def_readback.specs.AllFiles.{AreMade, AreOver, AreRead, CommonMade, FileReads, ReadBack}
use Rattle.dwz_def_readback.specs.Back.{run_of}
use Rattle.dwz_def_readback.proofs.HomeLemmas.{no_common}
use Rattle.dwz_def_readback.specs.Files.{HasCommon, Run, Stored, common_sections, imports_common, paths, texts}
use Rattle.dwz_def_output.specs.FilesAfter.{common_bytes, file_after, has_common, sup_of}
use Rattle.dwz_def_output.specs.Written.{CanBeWritten, common_under, rule_under, run_under, stored_of}
use Rattle.dwz_def_output.specs.Refusals.{CommonFault, CommonRefusal, FileFault, FirstNarrow, InFile, IsLargeSection, SectionsFault, spoken}
use Rattle.dwz_def_reading.specs.FirstOf.{OfFirst, OrElse}
use Rattle.dwz_def_output.specs.Tied.{SaysSup, common_sup, file_sup, sum_of}
use Rattle.dwz_def_output.proofs.CommonMade.{has_it, is_small, no_units, says_itself}
use Rattle.dwz_def_output.proofs.NoneNarrow.{all_fit}
use Rattle.dwz_def_output.proofs.RoomAfter.{over}
use Rattle.dwz_def_tops.specs.Alike.{Apart, IsAlike, Together, TopScope}
use Rattle.dwz_def_tops.specs.Deciding.{alike_test}
use Rattle.dwz_def_tops.proofs.AlikeLaws.{alike_decides}
use Rattle.dwz_def_images.specs.Homes.{IsChoice}
use Rattle.dwz_def_images.proofs.GainLemmas.{gain_choice}
use Rattle.dwz_def_readback.proofs.AllLemmas.{all_back}
use Rattle.dwz_def_output.specs.Changed.{changes_by}
use Rattle.dwz_def_reading.specs.Supplementary.{SpellsSup, sup_bytes}
use Rattle.dwz_def_reading.specs.Texts.{NoZero}
use Rattle.dwz_def_reading.proofs.SupLemmas.{sup_written}
use Rattle.dwz_def_reading.proofs.ListFacts.{in_cases}
use Rattle.dwz_def_reading.specs.SupplementaryFile.{common_sum}
use Rattle.dwz_sup.proofs.LengthLemmas.{sum_len}
use Rattle.sha2.specs.Sha256.{sha256}
use Rattle.dwz_def_encoding.specs.Placing.{texts_bytes}
use Rattle.dwz_def_output.specs.Contents.{common_after, if_some, listed, sections_after}
use Rattle.dwz_def_output.proofs.FilesMade.{has_sections, has_sup, sections_fit}
use Rattle.dwz_def_output.proofs.FilesRead.{are_read, content_bytes}
use Rattle.dwz_def_output.proofs.FreeLemmas.{Nothing, not_any, not_first, not_then}

-- ---- a file of which something moves has units

-- the document of a unit's file
record DocOf (own : ℕ) (docs : List (Doc ℕ)) (u : FileUnit EntryName) : Type 0 where
  doc : Doc ℕ
  nth : Nth own docs u.file doc
  filled : (doc.units ≡ []) → ⊥

in_block : (file : ℕ) (units : List (DwUnit EntryName)) (u : FileUnit EntryName) → In u (map (in_file file) units) → (u.file ≡ file) × ((units ≡ []) → ⊥)
in_block file [] u there = absurd there
in_block file (v ∷ units) u (inl e) = (ap (λ (w : FileUnit EntryName). w.file) (sym e), λ none. cc)
in_block file (v ∷ units) u (inr r) = ((in_block file units u r).0, λ none. cc)

none_named : (unit top : ℕ) (units : List (DwUnit ℕ)) → units ≡ [] → named unit top units ≡ []
none_named unit top [] e = refl
none_named unit top (u ∷ units) e = absurd cc

doc_of : (own unit top : ℕ) (docs : List (Doc ℕ)) (u : FileUnit EntryName) → In u (named_files own unit top docs) → DocOf own docs u
unfolding named_files
doc_of own unit top [] u there = absurd there
doc_of own unit top (d ∷ docs) u there = elim (in_cases u (map (in_file own) (named unit top d.units)) (named_files (suc own) (unit + length d.units) (top + tops_among d.units) docs) there) [
  | inl a ↦ (let b = in_block own (named unit top d.units) u a in record { doc = d; nth = inl (sym b.0, refl); filled = λ none. b.1 (none_named unit top d.units none) })
  | inr b ↦ (let o = doc_of (suc own) (unit + length d.units) (top + tops_among d.units) docs u b in record { doc = o.doc; nth = inr o.nth; filled = o.filled })
]

means_some : (bytes : List ℕ) (raw : List RawUnit) (all : List RawUnit) (units : List (DwUnit ℕ)) → MeanUnits (around_of bytes all) raw units → ((units ≡ []) → ⊥) → (raw ≡ []) → ⊥
means_some bytes [] all [] means filled none = filled refl
means_some bytes [] all (v ∷ units) means filled none = absurd means
means_some bytes (u ∷ raw) all units means filled none = cc

some_texts : (ts : List (List ℕ)) → unwrap_or (if_some ts (texts_bytes ts)) [] ≡ texts_bytes ts
unfolding texts_bytes
some_texts [] = refl
some_texts (t ∷ ts) = refl

module _ (docs : List (Doc ℕ)) (input : Stored) (are : AreRead input docs) (gone : ℕ → Bool) where
  -- what is known of such a file
  pub record IsChanged (file : ℕ) : Type 0 where
    pub doc : Doc ℕ
    pub nth : Nth 0 docs file doc
    pub read : FileReads (input.bytes file) (input.raw file) (input.prunes file) doc
    pub some : (input.raw file ≡ []) → ⊥

  pub changed_file : (file : ℕ) → list_any (λ (t : Top). t.file == file && gone t.number) (tops_of (units_of docs)) ≡ true → IsChanged file
  changed_file file moves =
      let o = any_from (λ (t : Top). t.file == file && gone t.number) (tops_of (units_of docs)) moves in
      let of_file = eqb-true o.one.file file (and_parts (o.one.file == file) (gone o.one.number) o.passes).0 in
      let u = unit_of (units_of docs) o.one o.there in
      let d = doc_of 0 0 0 docs u.unit (nth_in 0 (units_of docs) o.one.unit u.unit u.nth) in
      let same : u.unit.file ≡ file = sym u.file_is ∙ of_file in
      let nth : Nth 0 docs file d.doc = subst (λ (n : ℕ). Nth 0 docs n d.doc) same d.nth in
      let read = are file d.doc nth in
      record { doc = d.doc; nth = nth; read = read; some = means_some (input.bytes file) (input.raw file) (input.raw file) d.doc.units read.reads.means d.filled }

-- ---- where no common file is asked for, nothing is to stand in one

nothing_common : (docs : List (Doc ℕ)) (input : Stored) → common_units (run_of (rule_under Apart docs) docs input).move ≡ []
unfolding common_units
nothing_common docs input =
    no_common (units_of docs) (rule_under Apart docs) (alike_decides Apart (units_of docs)) (file_numbers 0 docs) (run_of (rule_under Apart docs) docs input).move refl

-- ---- all of them

module _ (scope : TopScope) (name : List ℕ) (contents : List (List ℕ)) (docs : List (Doc ℕ)) (prunes : List Bool) (bytes : Each AreBytes contents) (written : CanBeWritten scope name contents docs
    prunes) where
  abbrev r : Run
  r = run_under scope contents docs prunes

  pub are : AreRead (stored_of contents prunes) docs
  are = are_read contents docs prunes written.read bytes

  abbrev Files : Refusal → Type 0
  Files = OrElse (OfFirst (InFile (SectionsFault r)) r.files) (OfFirst (InFile (FileFault name r)) r.files)

  pub common_free : has_common r ≡ true → Nothing (CommonFault r)
  common_free there f is = not_first (CommonRefusal r) Files written.free _ (there, (f, is, refl))

  pub sections_free : (file : ℕ) → In file r.files → Nothing (SectionsFault r file)
  sections_free file there f is =
      not_any (InFile (SectionsFault r)) r.files (not_first (OfFirst (InFile (SectionsFault r)) r.files) _ (not_then (CommonRefusal r) Files written.free)) file there _ (f, is, refl)

  pub file_free : (file : ℕ) → In file r.files → Nothing (FileFault name r file)
  file_free file there f is =
      not_any (InFile (FileFault name r)) r.files (not_then (OfFirst (InFile (SectionsFault r)) r.files) (OfFirst (InFile (FileFault name r)) r.files) (not_then
      (CommonRefusal r) Files written.free)) file there _ (f, is, refl)

  pub changed : (file : ℕ) → changes r.move r.units file ≡ true → IsChanged docs (stored_of contents prunes) are r.move.gone file
  unfolding changes
  changed file moves = changed_file docs (stored_of contents prunes) are r.move.gone file moves

  -- the common file, where there is one
  common_has : HasCommon (common_bytes r) (common_sections r) (texts r) (paths r)
  common_has = let small = is_small r common_free in has_it r (content_bytes contents bytes 0) small.file small.lines

  common_made : CommonMade r (common_under scope r)
  common_made = by scope refl where
    some : (b : Bool) → has_common r ≡ b → CommonMade r (if b then Some (common_bytes r) else None)
    some true e = (common_has, (is_small r common_free).sections)
    some false e = no_units r e

    by : (s : TopScope) → s ≡ scope → CommonMade r (common_under s r)
    by Apart e = subst (λ (s : TopScope). common_units (run_under s contents docs prunes).move ≡ []) e (nothing_common docs (stored_of contents prunes))
    by Together e = some (has_common r) refl

  pub are_made : AreMade r (file_after name r) (common_under scope r)
  are_made =
      record {
        common = common_made;
        file = λ file there moves.
            (let c = changed file moves in has_sections name r file c.doc c.read (content_bytes contents bytes file) c.some moves (sections_free file there) (file_free file there));
        file_fits = λ file there moves.
            (let c = changed file moves in sections_fit name r file c.doc c.read (content_bytes contents bytes file) c.some moves (sections_free file there) (file_free file there));
      }

  -- ---- so they read back

  pub are_over : AreOver r
  are_over file there moves =
      let free : Nothing (OrElse (FirstNarrow r file 1 (spoken r file)) (OrElse (FirstNarrow r file 7 (listed r file)) (OfFirst IsLargeSection (changes_by
      (sections_after r file) None).new))) = λ f is.
      sections_free file there f (moves, is) in
      let first = not_first (FirstNarrow r file 1 (spoken r file)) _ free in
      let second = not_first (FirstNarrow r file 7 (listed r file)) _ (not_then (FirstNarrow r file 1 (spoken r file)) _ free) in
      over scope docs (stored_of contents prunes) are (rule_under scope docs) alike choice file (all_fit r file 1 (spoken r file) first) (all_fit r file 7 (listed r file) second) where
        alike : IsAlike scope (units_of docs) (rule_under scope docs).alike
        alike = alike_decides scope (units_of docs)

        choice : IsChoice (units_of docs) (rule_under scope docs)
        choice = gain_choice scope (units_of docs) (alike_test scope (units_of docs)) (alike_decides scope (units_of docs))

  pub read_back : ReadBack scope docs (rule_under scope docs) (stored_of contents prunes) (file_after name r) (common_under scope r)
  read_back =
      let alike = alike_decides scope (units_of docs) in
      let choice = gain_choice scope (units_of docs) (alike_test scope (units_of docs)) alike in
      all_back scope docs (stored_of contents prunes) are (rule_under scope docs) alike choice are_over (file_after name r) (common_under scope r) are_made

  -- ---- `.debug_sup`

  -- the checksum is that of the common file as it reads
  sum_is : common_sum (common_after r) ≡ sum_of (common_bytes r)
  unfolding common_after
  sum_is =
      let h = common_has in
      let texts_are : unwrap_or (if_some (texts r) (texts_bytes (texts r))) [] ≡ section_of (common_bytes r) 3 = some_texts (texts r) ∙ sym (ap (λ (x : Sources). x.strs) h.sources) in
      ap (λ (w : List ℕ). sha256 (w ++ unwrap_or (if_some (texts r) (texts_bytes (texts r))) [] ++ (common_sections r).abbrevs)) (sym h.info)
      ∙ ap (λ (w : List ℕ). sha256 (debug_info (common_bytes r) ++ w ++ (common_sections r).abbrevs)) texts_are
      ∙ ap (λ (w : List ℕ). sha256 (debug_info (common_bytes r) ++ section_of (common_bytes r) 3 ++ w)) (sym h.abbrevs)

  sum_small : length (common_sum (common_after r)) < 2 ^ 64
  sum_small = let len = sum_len ((common_after r).info ++ unwrap_or (common_after r).strs [] ++ (common_after r).abbrev) in omega (arith, len)

  pub common_tied : SaysSup (common_bytes r) (common_sup r)
  common_tied =
      let small = is_small r common_free in
      let says = says_itself r (content_bytes contents bytes 0) small.file small.lines in
      subst (λ (sum : List ℕ). SpellsSup (section_of (common_bytes r) 9) (record { supplementary = true; name = []; sum = sum })) sum_is
      (subst (λ (w : List ℕ). SpellsSup w (record { supplementary = true; name = []; sum = common_sum (common_after r) })) (sym says) (sup_written
      (record { supplementary = true; name = []; sum = common_sum (common_after r) }) tt sum_small))

  pub file_tied : (file : ℕ) → In file r.files → changes r.move r.units file ≡ true → imports_common r.move r.units file ≡ true → NoZero name
      → SaysSup (file_after name r file) (file_sup name r)
  file_tied file there moves imports no_zero =
      let c = changed file moves in
      let has = has_sup name r file c.doc c.read (content_bytes contents bytes file) c.some moves (sections_free file there) (file_free file there) in
      let is : section_of (file_after name r file) 9 ≡ sup_bytes (sup_of name r) =
      has ∙ ap (λ (b : Bool). unwrap_or (if b then Some (sup_bytes (sup_of name r)) else None) (section_of (r.input.bytes file) 9)) imports in
      subst (λ (sum : List ℕ). SpellsSup (section_of (file_after name r file) 9) (record { supplementary = false; name = name; sum = sum })) sum_is
      (subst (λ (w : List ℕ). SpellsSup w (sup_of name r)) (sym is) (sup_written (sup_of name r) no_zero sum_small))
