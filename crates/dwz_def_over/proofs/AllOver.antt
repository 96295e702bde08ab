-- Where nothing refuses them, files that are written over a finished common file read back beside it as what was read.
use Rattle.std.proofs.Common.{◌≡◌, ◌++◌, ℕ, suc, ◌<◌, true, List, [], ◌∷◌, length, map, Some, None, refl, sym, ap, subst, ◌∙◌, inl, inr, arith}
use Rattle.dwz_def_reading.specs.Refusal.{Refusal}
use Rattle.dwz_def_reading.specs.Documents.{Doc, DwUnit, unit_map}
use Rattle.dwz_def_reading.specs.FirstOf.{OfFirst, OrElse}
use Rattle.dwz_def_reading.specs.Files.{no_files_before, section_of, debug_abbrev, debug_info}
use Rattle.dwz_def_reading.specs.Lists.{Each, In}
use Rattle.dwz_def_reading.specs.Places.{Place, at_file}
use Rattle.dwz_def_reading.specs.Values.{AreBytes}
use Rattle.dwz_def_reading.proofs.ListFacts.{in_cases, in_left, in_right}
use Rattle.dwz_def_tops.specs.Seen.{Closed, SameAlong}
use Rattle.dwz_def_tops.specs.Shown.{HaveMains, OnePlace, UnitsShown, units_keys}
use Rattle.dwz_def_tops.proofs.Members.{in_map_from}
use Rattle.dwz_def_tops.proofs.ShownLemmas.{map_shown, shown_then}
use Rattle.dwz_def_tops.specs.Spots.{EntryName, file_numbers}
use Rattle.dwz_def_images.specs.Moves.{image_in}
use Rattle.dwz_def_images.specs.After.{units_placed_from}
use Rattle.dwz_def_tops.specs.UnitNames.{name_of_place}
use Rattle.dwz_def_tops.proofs.UnitKeys.{keys_joined}
use Rattle.dwz_def_readback.proofs.StillPlaces.{nth_number}
use Rattle.dwz_def_over.proofs.StillOver.{still_over}
use Rattle.dwz_def_images.specs.Units.{all_units, changes, common_units, file_units, out_units}
use Rattle.dwz_def_encoding.specs.Carried.{ClosedIn}
use Rattle.dwz_def_encoding.specs.Meant.{all_entry_keys}
use Rattle.dwz_def_encoding.specs.Placing.{FitsSections}
use Rattle.dwz_def_encoding.proofs.Rising.{entries_are_keys}
use Rattle.dwz_def_readback.specs.AllFiles.{AreRead}
use Rattle.dwz_def_readback.specs.Back.{AreAtOld, CanWriteBy, FileOverBy, IsPlacingBy, SaysPlacedBy, SaysUnits, files_back_by}
use Rattle.dwz_def_readback.specs.Files.{CommonFile, HasSectionsBy, Run, Stored, fitted_by, imports_common, sections_by, tells_by}
use Rattle.dwz_def_readback.proofs.NameLemmas.{fitted_entries_by, fitted_names_by}
use Rattle.dwz_def_readback.proofs.OverSays.{ranges_by, with_common}
use Rattle.dwz_def_readback.proofs.Standing.{files_stand}
use Rattle.dwz_def_readback.proofs.WithinLemmas.{closed_at, entries_append}
use Rattle.dwz_def_output.specs.Contents.{listed, sections_after_by}
use Rattle.dwz_def_output.specs.Changed.{changes_by}
use Rattle.dwz_def_output.specs.Refusals.{CommonRefusalBy, FileFaultBy, FirstNarrowBy, InFile, IsLargeSection, SectionsFaultBy, spoken}
use Rattle.dwz_def_output.specs.Written.{stored_behind}
use Rattle.dwz_def_output.proofs.AllMade.{IsChanged, changed_file}
use Rattle.dwz_def_output.proofs.FilesRead.{content_bytes}
use Rattle.dwz_def_output.proofs.FreeLemmas.{Nothing, not_any, not_first, not_then}
use Rattle.dwz_def_taken.specs.Beside.{offsets_doc, reused_of}
use Rattle.dwz_def_taken.specs.Laws.{ArePlacedOver, copied_units}
use Rattle.dwz_def_taken.specs.Over.{copy_of}
use Rattle.dwz_def_taken.specs.Takes.{IsFixed}
use Rattle.dwz_def_taken.proofs.Copies.{copies_law}
use Rattle.dwz_def_taken.proofs.FilesOver.{files_over}
use Rattle.dwz_def_over.specs.Over.{AreOverFiles, OverFiles, standing_file, limits_over, reused, run_over, standing_units, stands}
use Rattle.dwz_def_over.specs.Written.{CanBeWrittenOver, IsAnew, CopiesAreOne, ReadBackOver, file_over, given_over, names_after, AreTiedOver, sup_over}
use Rattle.dwz_def_over.proofs.CanOver.{can_write_over, still_says_over}
use Rattle.dwz_def_over.proofs.CommonOver.{common_is, common_one_at, common_shown_at, entry_low, entry_there, has_names, same_number, texts_short}
use Rattle.dwz_def_over.proofs.FilesOver.{has_sections, sections_fit, has_sup}
use Rattle.dwz_def_over.proofs.MapsOver.{shown_of, units_keys_mapped}
use Rattle.dwz_def_over.proofs.NoneTooNarrow.{all_fit}
use Rattle.dwz_def_over.proofs.OneOver.{at_name, at_named, one, one_at, shared, shared_apart}
use Rattle.dwz_def_over.proofs.PlacedOver.{common_says, over_read, placed_over}
use Rattle.dwz_def_over.proofs.PlacesOver.{over_old, over_place, over_placing, some_as}
use Rattle.dwz_def_over.proofs.RoomOver.{room_over}
use Rattle.dwz_def_over.proofs.SameOver.{all_shown_over, name_file, one_over}
use Rattle.dwz_def_over.proofs.TextsOver.{shared_few, shared_there}
use Rattle.dwz_def_over.proofs.WithinOver.{refs_within_over}
use Rattle.std.specs.Prelude.{if◌then◌else◌, Bool}
use Rattle.dwz_def_reading.specs.Supplementary.{SpellsSup, sup_bytes}
use Rattle.dwz_def_reading.proofs.SupLemmas.{sup_written}
use Rattle.dwz_sup.proofs.LengthLemmas.{sum_len}
use Rattle.dwz_def_output.specs.FilesAfter.{sum_of}
use Rattle.std.specs.Prelude.{◌^◌}
use Rattle.dwz_def_reading.specs.Texts.{NoZero}
use Rattle.std.proofs.Common.{unwrap_or}

module _ (name : List ℕ) (o : OverFiles) (are : Each AreBytes o.contents) (w : CanBeWrittenOver name o) where
  abbrev is : AreOverFiles o
  is = w.read

  abbrev docs : List (Doc ℕ)
  docs = o.said.docs

  abbrev common : Doc ℕ
  common = offsets_doc o.said.common

  abbrev r : Run
  r = run_over o

  abbrev cf : CommonFile
  cf = stands o

  abbrev input : Stored
  input = stored_behind (limits_over o) o.contents o.prunes

  p : ArePlacedOver docs common
  p = placed_over o are is

  abbrev fx : IsFixed (reused_of docs common) o.fixed
  fx = is.taken.lists

  pub read : AreRead input docs
  read = over_read o are is

  -- ---- nothing refuses it

  abbrev Files : Refusal → Type 0
  Files = OrElse (OfFirst (InFile (SectionsFaultBy cf r)) r.files) (OfFirst (InFile (FileFaultBy cf name r)) r.files)

  pub sections_free : (file : ℕ) → In file r.files → Nothing (SectionsFaultBy cf r file)
  sections_free file there f h =
      not_any (InFile (SectionsFaultBy cf r)) r.files (not_first (OfFirst (InFile (SectionsFaultBy cf r)) r.files) _ (not_then (CommonRefusalBy cf r) Files w.free)) file there _ (f, h, refl)

  pub file_free : (file : ℕ) → In file r.files → Nothing (FileFaultBy cf name r file)
  file_free file there f h =
      not_any (InFile (FileFaultBy cf name r)) r.files (not_then (OfFirst (InFile (SectionsFaultBy cf r)) r.files) (OfFirst (InFile (FileFaultBy cf name r)) r.files) (not_then
      (CommonRefusalBy cf r) Files w.free)) file there _ (f, h, refl)

  pub changed : (file : ℕ) → changes r.move r.units file ≡ true → IsChanged docs input read r.move.gone file
  unfolding changes
  changed file moves = changed_file docs input read r.move.gone file moves

  made : (file : ℕ) → IsAnew o file → HasSectionsBy cf r file (file_over name o file)
  made file c =
      let d = changed file c.1 in
      has_sections name cf r file d.doc d.read (content_bytes o.contents are file) d.some c.1 (sections_free file c.0) (file_free file c.0)

  fits : (file : ℕ) → IsAnew o file → FitsSections (sections_by cf r file)
  fits file c =
      let d = changed file c.1 in
      sections_fit name cf r file d.doc d.read (content_bytes o.contents are file) d.some c.1 (sections_free file c.0) (file_free file c.0)

  -- ---- so it can be written

  room : (file : ℕ) → In file r.files → changes r.move r.units file ≡ true → FileOverBy cf r file
  room file there moves =
      let free : Nothing (OrElse (FirstNarrowBy cf r file 1 (spoken r file)) (OrElse (FirstNarrowBy cf r file 7 (listed r file)) (OfFirst IsLargeSection (changes_by
      (sections_after_by cf r file) None).new))) = λ f h.
      sections_free file there f (moves, h) in
      let first = not_first (FirstNarrowBy cf r file 1 (spoken r file)) _ free in
      let second = not_first (FirstNarrowBy cf r file 7 (listed r file)) _ (not_then (FirstNarrowBy cf r file 1 (spoken r file)) _ free) in
      room_over docs common o.fixed p fx input read cf file (all_fit cf r file 1 (spoken r file) first) (all_fit cf r file 7 (listed r file) second)

  within : (file : ℕ) → ClosedIn (tells_by cf r file) (out_units r.move r.units file)
  within file e a k there attr ref =
      let found = refs_within_over docs common o.fixed p fx file (closed_at file 0 0 0 docs p.each) e a k there attr ref in
      elim (in_cases k (all_entry_keys (common_units r.move)) (all_entry_keys (out_units r.move r.units file))
      (subst (In k) (entries_append (common_units r.move) (out_units r.move r.units file)) found)) [
        | inl shared_key ↦ inr (subst (λ (us : List (DwUnit EntryName)). In k (all_entry_keys us)) (common_is o are is) shared_key)
        | inr own ↦ inl (subst (In k) (sym (fitted_entries_by cf r file)) own)
      ]

  pub can : CanWriteBy cf r
  can = can_write_over docs common o.fixed p fx input read cf room within (has_names o are is)

  -- ---- places

  abbrev first_place : EntryName → Place
  first_place = over_place docs common o.fixed p fx input (standing_file o) can

  first_ok : IsPlacingBy cf r first_place
  first_ok = over_placing docs common o.fixed p fx input (standing_file o) can

  first_old : AreAtOld r first_place docs
  first_old = over_old docs common o.fixed p fx input (standing_file o) can

  abbrev shared_units : List (DwUnit Place)
  shared_units = o.said.common.units

  shown : UnitsShown first_place (all_units r.move r.units r.files) (shared_units ++ files_back_by cf r first_place 0 docs)
  shown = all_shown_over docs common o.fixed p fx input (standing_file o) can first_place first_ok first_old shared_units (common_shown_at o are is first_place first_ok) (common_one_at o are is first_place
      first_ok)

  once : OnePlace first_place (all_units r.move r.units r.files)
  once = one_over docs common o.fixed p fx input (standing_file o) can first_place first_ok first_old shared_units (common_shown_at o are is first_place first_ok) (common_one_at o are is first_place
      first_ok)

  file_of : (s : EntryName) → In s (names_after o) → (first_place s).file < suc (length docs)
  file_of s there = name_file docs common o.fixed p fx input (standing_file o) can first_place first_ok first_old shared_units (common_shown_at o are is first_place first_ok) (common_one_at o are is first_place
      first_ok) s there

  nowhere : Place
  nowhere = record { file = suc (length docs); at = 0 }

  abbrev copy : EntryName → EntryName
  copy = copy_of (reused o)

  not_there : (s : EntryName) → In s (names_after o) → first_place s ≡ nowhere → ⊥
  unfolding nowhere
  not_there s there e = let file = file_of s there in let same = ap (λ (q : Place). q.file) e in omega (arith, file, same)

  -- the place of each name, and else of its copies
  abbrev g : EntryName → Place
  g = at_name (names_after o) first_place copy nowhere

  own : (s : EntryName) → In s (names_after o) → first_place s ≡ g s
  own s there = sym (at_named (names_after o) first_place copy nowhere s there)

  -- ---- names

  joined : names_after o ≡ units_keys (common_units r.move) ++ units_keys (file_units r.move r.units r.files)
  joined = keys_joined (common_units r.move) (file_units r.move r.units r.files)

  common_name : (s : EntryName) → In s (units_keys (standing_units o)) → In s (names_after o)
  common_name s key =
      subst (In s) (sym joined) (in_left s (units_keys (common_units r.move)) (units_keys (file_units r.move r.units r.files))
      (subst (λ (us : List (DwUnit EntryName)). In s (units_keys us)) (sym (common_is o are is)) key))

  files_names : (files : List ℕ) (file : ℕ) → In file files → (s : EntryName) → In s (units_keys (out_units r.move r.units file)) → In s (units_keys (file_units r.move r.units files))
  unfolding file_units
  files_names [] file there s key = absurd there
  files_names (n ∷ files) file (inl e) s key =
      subst (In s) (sym (keys_joined (out_units r.move r.units n) (file_units r.move r.units files)))
      (in_left s (units_keys (out_units r.move r.units n)) (units_keys (file_units r.move r.units files)) (subst (λ (m : ℕ). In s (units_keys (out_units r.move r.units m))) (sym e) key))
  files_names (n ∷ files) file (inr later) s key =
      subst (In s) (sym (keys_joined (out_units r.move r.units n) (file_units r.move r.units files)))
      (in_right s (units_keys (out_units r.move r.units n)) (units_keys (file_units r.move r.units files)) (files_names files file later s key))

  file_name : (file : ℕ) → In file r.files → (s : EntryName) → In s (units_keys (out_units r.move r.units file)) → In s (names_after o)
  file_name file there s key = subst (In s) (sym joined) (in_right s (units_keys (common_units r.move)) (units_keys (file_units r.move r.units r.files)) (files_names r.files file there s key))

  files_in : (files : List ℕ) (file : ℕ) → In file files → (u : DwUnit EntryName) → In u (out_units r.move r.units file) → In u (file_units r.move r.units files)
  unfolding file_units
  files_in [] file there u h = absurd there
  files_in (n ∷ files) file (inl e) u h = in_left u (out_units r.move r.units n) (file_units r.move r.units files) (subst (λ (m : ℕ). In u (out_units r.move r.units m)) (sym e) h)
  files_in (n ∷ files) file (inr later) u h = in_right u (out_units r.move r.units n) (file_units r.move r.units files) (files_in files file later u h)

  -- ---- at those places

  ok : IsPlacingBy cf r g
  ok = record {
    common = λ s key. first_ok.common s key ∙ own s (common_name s key);
    written = λ file there moves s key. first_ok.written file there moves s key ∙ own s (file_name file there s (subst (In s) (fitted_names_by cf r file) key));
  }

  old : AreAtOld r g docs
  old = record {
    shown = λ file doc nth rests.
        (let there = nth_number 0 docs file doc nth in
        let outs = out_units r.move r.units file in
        let closed : Closed outs = subst (λ (us : List (DwUnit EntryName)). Closed us) (sym (still_over docs common o.fixed p fx file rests)) (closed_at file 0 0 0 docs p.each) in
        let mains : HaveMains outs = λ u h. (files_over docs common o.fixed p fx).mains u (in_right u (common_units r.move) (file_units r.move r.units r.files) (files_in r.files file there u h)) in
        some_as first_place g outs (λ s key. own s (file_name file there s key)) closed mains outs (map (unit_map (at_file file)) doc.units) (λ u h. h) (first_old.shown file doc nth rests));
    file = λ file there rests s key. ap (λ (q : Place). q.file) (sym (own s (file_name file there s key))) ∙ first_old.file file there rests s key;
    one = λ file there rests x y a b e.
        first_old.one file there rests x y a b (own x (file_name file there x a) ∙ e ∙ sym (own y (file_name file there y b)));
  }

  said : List (DwUnit Place)
  said = shared_units ++ files_back_by cf r g 0 docs

  all_shown : UnitsShown g (all_units r.move r.units r.files) said
  unfolding said
  all_shown = all_shown_over docs common o.fixed p fx input (standing_file o) can g ok old shared_units (common_shown_at o are is g ok) (common_one_at o are is g ok)

  -- ---- copies as one

  abbrev at_one : Place → Place
  at_one = one (names_after o) first_place copy nowhere

  abbrev at_shared : EntryName → Place
  at_shared = shared (names_after o) first_place copy nowhere

  one_is : (s : EntryName) → at_one (g s) ≡ at_shared (copy s)
  one_is s = one_at (names_after o) first_place copy nowhere once not_there s

  copies : CopiesAreOne o (λ s. at_one (g s))
  copies s t x y = (
    λ e. (copies_law (reused o) s t).0 (shared_apart (names_after o) first_place copy nowhere once not_there s t x y (sym (one_is s) ∙ e ∙ one_is t)),
    λ c. one_is s ∙ ap at_shared ((copies_law (reused o) s t).1 c) ∙ sym (one_is t),
  )

  abbrev copied : List (DwUnit EntryName)
  copied = copied_units (reused_of docs common) r.move (file_numbers 0 docs)

  copied_shown : UnitsShown at_shared copied (map (unit_map at_one) said)
  copied_shown =
      let both = shown_then g at_one (all_units r.move r.units r.files) said (map (unit_map at_one) said) all_shown (map_shown at_one said) in
      shown_of copy at_shared (all_units r.move r.units r.files) (map (unit_map at_one) said)
      (subst (λ (f : EntryName → Place). UnitsShown f (all_units r.move r.units r.files) (map (unit_map at_one) said)) (λ i s. one_is s i) both)

  copied_one : OnePlace at_shared copied
  copied_one x y a b e =
      let m = in_map_from copy x (names_after o) (subst (In x) (units_keys_mapped copy (all_units r.move r.units r.files)) a) in
      let n = in_map_from copy y (names_after o) (subst (In y) (units_keys_mapped copy (all_units r.move r.units r.files)) b) in
      sym m.is ∙ shared_apart (names_after o) first_place copy nowhere once not_there m.source n.source m.there n.there (ap at_shared m.is ∙ e ∙ ap at_shared (sym n.is)) ∙ n.is

  same : SameAlong (λ q. at_one (g (image_in r.move (name_of_place docs q)))) (units_placed_from 0 docs) (map (unit_map at_one) said)
  same =
      let along = (files_over docs common o.fixed p fx).same at_shared (map (unit_map at_one) said) copied_shown copied_one in
      subst (λ (f : Place → Place). SameAlong f (units_placed_from 0 docs) (map (unit_map at_one) said)) (λ i q. sym (one_is (image_in r.move (name_of_place docs q))) i) along

  -- ---- what each says

  common_back : SaysUnits None r.common o.common o.raw shared_units
  common_back =
      subst (λ (n : ℕ). SaysUnits None n o.common o.raw shared_units) (sym (same_number o are is)) (common_says (length o.contents) no_files_before o.common o.raw o.said.common is.common)

  file_says : (file : ℕ) → IsAnew o file → SaysPlacedBy cf r g (Some (given_over o)) file (file_over name o file) (fitted_by cf r file)
  file_says file c = with_common cf r can g ok (files_stand (standing_file o) r can) (Some (given_over o)) (file_over name o file) file c.0 c.1 (made file c) (fits file c) (entry_low o are is)
      (λ k key. (given_over o, refl, entry_there o are is k key, ok.common k (entries_are_keys (standing_units o) k key)))
      (shared_few (section_of o.common 3) (texts_short o are is) (imports_common r.move r.units file))
      (λ at text stands. (given_over o, refl, shared_there (section_of o.common 3) (imports_common r.move r.units file) at text stands))

  pub read_back_over : ReadBackOver o (file_over name o)
  unfolding said
  read_back_over = record {
    place = g;
    placing = ok;
    old = old;
    back = record {
      common = common_back;
      file = file_says;
      ranges = λ file c. ranges_by cf r can g ok (files_stand (standing_file o) r can) (Some (given_over o)) (file_over name o file) file c.0 c.1 (made file c) (fits file c) (file_says file c);
      still = λ file doc nth. still_says_over docs common o.fixed p fx input read cf (Some (given_over o)) file doc nth;
      one = at_one;
      copies = copies;
      same = same;
    };
  }

  -- ---- `.debug_sup`

  sum_small : length (sum_of o.common) < 2 ^ 64
  sum_small = let len = sum_len (debug_info o.common ++ section_of o.common 3 ++ debug_abbrev o.common) in omega (arith, len)

  pub tied_over : NoZero name → AreTiedOver name o
  tied_over no_zero file c imports =
      let d = changed file c.1 in
      let has = has_sup name cf r file d.doc d.read (content_bytes o.contents are file) d.some c.1 (sections_free file c.0) (file_free file c.0) in
      let said_sup : section_of (file_over name o file) 9 ≡ sup_bytes (sup_over name o) =
      has ∙ ap (λ (b : Bool). unwrap_or (if b then Some (sup_bytes (sup_over name o)) else None) (section_of (r.input.bytes file) 9)) imports in
      subst (λ (bytes : List ℕ). SpellsSup bytes (sup_over name o)) (sym said_sup) (sup_written (sup_over name o) no_zero sum_small)
