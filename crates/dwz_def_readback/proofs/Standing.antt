-- Files over a common file that stands already.
use Rattle.std.proofs.Common.{◌≡◌, ℕ, ◌+◌, ◌<◌, ◌^◌, Bool, true, false, eqb, eqb-true, List, [], ◌∷◌, ◌++◌, length, map, Some, None, inl, inr, refl, sym, ap, subst, ◌∙◌, arith, append_assoc, append-nil, length-append}
use Rattle.dwz_def_reading.specs.Lists.{In}
use Rattle.dwz_def_reading.specs.Texts.{IsTextAt}
use Rattle.dwz_def_reading.proofs.ListFacts.{in_map}
use Rattle.dwz_def_reading.specs.Files.{section_of}
use Rattle.dwz_def_tops.specs.Spots.{EntryName, same_spot}
use Rattle.dwz_def_tops.specs.Lists.{NoneTwice}
use Rattle.dwz_def_tops.specs.Shown.{units_keys}
use Rattle.dwz_def_tops.proofs.OnceLemmas.{none_both, none_right}
use Rattle.dwz_def_reading.specs.Places.{Place, at_file}
use Rattle.dwz_def_images.specs.Units.{all_units, changes, common_units, file_units}
use Rattle.dwz_def_tops.proofs.UnitKeys.{keys_joined}
use Rattle.dwz_def_encoding.specs.Meant.{all_entry_keys}
use Rattle.dwz_def_encoding.specs.Placing.{FileOut, FitsSections, UnitsStand, files_keys, files_placed, number_of_key, numbering, texts_bytes, units_placed}
use Rattle.dwz_def_encoding.specs.Writing.{Numbering}
use Rattle.dwz_def_encoding.proofs.Places.{Agrees, IsSame, firsts, numbering_stands, stands_units, units_placed_keys, units_stand}
use Rattle.dwz_def_encoding.proofs.Rising.{entries_are_keys}
use Rattle.dwz_def_encoding.proofs.SameLemmas.{spots_same}
use Rattle.dwz_def_readback.specs.Back.{CanWriteBy, FileOverLaw, GivesCommon, IsPlacingBy, RangesOverLaw, SaysPlacedBy, given_by}
use Rattle.dwz_def_readback.specs.Files.{CommonFile, Finished, HasSectionsBy, Run, Stands, common_out_by, file_out_by, files_out_by, fitted_by, imports_common, place_of_by, places_by, sections_by, shared_if, texts_from}
use Rattle.dwz_def_readback.proofs.NameLemmas.{file_is, file_names_by, file_once, fitted_fixed_by, fitted_names_by, in_file_keys}
use Rattle.dwz_def_readback.proofs.OverSays.{FilesStand, ranges_by, with_common}

-- ---- the texts of a section, one behind the other, are its front

IsFront : List ℕ → List (List ℕ) → Type 0
IsFront bytes texts = (tail : List ℕ) × (bytes ≡ texts_bytes texts ++ tail)

step : (found bytes : List ℕ) (b : ℕ) (t : Bool) → eqb b 0 ≡ t → IsFront bytes (texts_from [] bytes) → IsFront ((found ++ b ∷ []) ++ bytes) (texts_from (found ++ b ∷ []) bytes)
    → IsFront (found ++ b ∷ bytes) (elim t as (λ _. List (List ℕ)) [ true ↦ found ∷ texts_from [] bytes | false ↦ texts_from (found ++ b ∷ []) bytes ])
unfolding IsFront texts_bytes
step found bytes b true e r more = (
  r.0,
  ap (λ (c : ℕ). found ++ c ∷ bytes) (eqb-true b 0 e) ∙ ap (λ (l : List ℕ). found ++ 0 ∷ l) r.1 ∙ sym (append_assoc found (0 ∷ texts_bytes (texts_from [] bytes)) r.0),
)
step found bytes b false e r more = (more.0, sym (append_assoc found (b ∷ []) bytes) ∙ more.1)

front : (found bytes : List ℕ) → IsFront (found ++ bytes) (texts_from found bytes)
unfolding IsFront texts_from texts_bytes
front found [] = (found, append-nil found)
front found (b ∷ bytes) = step found bytes b (eqb b 0) refl (front [] bytes) (front (found ++ b ∷ []) bytes)

text_there : (bytes : List ℕ) (at : ℕ) (text : List ℕ) → IsTextAt (texts_bytes (texts_from [] bytes)) at text → IsTextAt bytes at text
unfolding IsFront
text_there bytes at text stands =
    let r = front [] bytes in
    record {
      before = stands.before;
      front = stands.front;
      after = stands.after ++ r.0;
      length_before = stands.length_before;
      spelled = stands.spelled;
      parts = r.1 ∙ ap (λ (l : List ℕ). l ++ r.0) stands.parts ∙ append_assoc stands.before (stands.front ++ stands.after) r.0
          ∙ ap (λ (l : List ℕ). stands.before ++ l) (append_assoc stands.front stands.after r.0);
    }

texts_len : (bytes : List ℕ) → length (texts_bytes (texts_from [] bytes)) < length bytes + 1
unfolding IsFront
texts_len bytes = let r = front [] bytes in let l = ap length r.1 in omega (arith, length-append (texts_bytes (texts_from [] bytes)) r.0)

no_text : (at : ℕ) (text : List ℕ) → IsTextAt [] at text → ⊥
no_text at text stands =
    omega (
      arith,
      ap length stands.parts,
      ap length stands.spelled.parts,
      length-append stands.before (stands.front ++ stands.after),
      length-append stands.front stands.after,
      length-append text (0 ∷ []),
    )

shared_few : (bytes : List ℕ) → length bytes < 2 ^ 32 → (b : Bool) → length (texts_bytes (shared_if b (texts_from [] bytes))) < 2 ^ 32
unfolding texts_bytes
shared_few bytes small true = let l = texts_len bytes in omega arith
shared_few bytes small false = omega arith

shared_there : (bytes : List ℕ) (b : Bool) (at : ℕ) (text : List ℕ) → IsTextAt (texts_bytes (shared_if b (texts_from [] bytes))) at text → IsTextAt bytes at text
unfolding texts_bytes
shared_there bytes true at text stands = text_there bytes at text stands
shared_there bytes false at text stands = absurd (no_text at text stands)

-- ---- places behind those of the common file

past_by : (b : Bool) (m n o : ℕ) → (b ≡ true → ⊥) → n ≡ o → (elim b as (λ _. ℕ) [ true ↦ m | false ↦ n ]) ≡ o
past_by true m n o none e = absurd (none refl)
past_by false m n o none e = e

number_behind : (rows qs : List (EntryName × ℕ)) (k : EntryName) → (In k (firsts rows) → ⊥) → number_of_key same_spot (rows ++ qs) k ≡ number_of_key same_spot qs k
unfolding number_of_key
number_behind [] qs k none = refl
number_behind (p ∷ rows) qs k none =
    past_by (same_spot p.0 k) p.1 (number_of_key same_spot (rows ++ qs) k) (number_of_key same_spot qs k) (λ e. none (inl (spots_same.true_is p.0 k e))) (number_behind rows qs k (λ i. none (inr i)))

agrees_behind : (rows qs ps : List (EntryName × ℕ)) → ((k : EntryName) → In k (firsts ps) → In k (firsts rows) → ⊥) → Agrees (record { place = number_of_key same_spot qs }) ps
    → Agrees (record { place = number_of_key same_spot (rows ++ qs) }) ps
agrees_behind rows qs [] none h = tt
agrees_behind rows qs (p ∷ ps) none h = (number_behind rows qs p.0 (none p.0 (inl refl)) ∙ h.0, agrees_behind rows qs ps (λ k i. none k (inr i)) h.1)

module _ (c : Finished) (r : Run) (can : CanWriteBy (Stands c) r) where
  abbrev files : List (FileOut EntryName)
  files = map (file_out_by (Stands c) r) r.files

  whole : units_keys (all_units r.move r.units r.files) ≡ units_keys c.units ++ files_keys files
  whole =
      keys_joined (common_units r.move) (file_units r.move r.units r.files)
      ∙ ap (λ (w : List EntryName). w ++ units_keys (file_units r.move r.units r.files)) (sym can.common.names)
      ∙ ap (λ (w : List EntryName). units_keys c.units ++ w) (sym (file_names_by (Stands c) r r.files))

  both : NoneTwice (units_keys c.units ++ files_keys files)
  both = subst NoneTwice whole can.apart

  own : NoneTwice (files_keys files)
  own = none_right (units_keys c.units) (files_keys files) both

  there_out : (file : ℕ) → In file r.files → In (file_out_by (Stands c) r file) files
  there_out file there = in_map (file_out_by (Stands c) r) file r.files there

  apart : (file : ℕ) → In file r.files → (s : EntryName) → In s (units_keys c.units) → In s (units_keys (fitted_by (Stands c) r file)) → ⊥
  apart file there s common mine = none_both (units_keys c.units) (files_keys files) both s common (in_file_keys files (file_out_by (Stands c) r file) s (there_out file there) mine)

  stands : (file : ℕ) → In file r.files → UnitsStand (places_by (Stands c) r) (fitted_by (Stands c) r file) 0
  stands file there =
      let units = fitted_by (Stands c) r file in
      let fixed = fitted_fixed_by (Stands c) r file in
      let base = numbering_stands same_spot spots_same files own (file_out_by (Stands c) r file) (there_out file there) fixed in
      let agrees = stands_units (numbering same_spot files) units 0 fixed base in
      units_stand (places_by (Stands c) r) units 0 fixed
      (agrees_behind c.rows (files_placed files) (units_placed 0 units) (λ k mine common. apart file there k (subst (In k) can.common.rows common) (subst (In k) (units_placed_keys units 0) mine)) agrees)

  pub files_stand : FilesStand (Stands c) r
  files_stand = record { stands = stands; once = λ file there. file_once files own (file_out_by (Stands c) r file) (there_out file there); apart = apart }

  all_once : NoneTwice (files_keys (files_out_by (Stands c) r))
  unfolding files_keys
  all_once = both

  pub placing_over : IsPlacingBy (Stands c) r (place_of_by (Stands c) r)
  placing_over = record {
    common = λ s is. ap (λ (f : ℕ). at_file f ((places_by (Stands c) r).place s)) (sym (file_is same_spot spots_same (files_out_by (Stands c) r) all_once (common_out_by (Stands c) r) s (inl refl) is));
    written = λ file there changed s is. ap (λ (f : ℕ). at_file f ((places_by (Stands c) r).place s))
        (sym (file_is same_spot spots_same (files_out_by (Stands c) r) all_once (file_out_by (Stands c) r file) s (inr (there_out file there)) is));
  }

pub ranges_over : RangesOverLaw
ranges_over c r g common out can ok file there changed has small says = ranges_by (Stands c) r can g ok (files_stand c r can) common out file there changed has small says

pub file_over : FileOverLaw
file_over c r g out can ok common file there changed has small = with_common (Stands c) r can g ok (files_stand c r can) (Some (given_by r.common c.bytes common.says.raw)) out file there changed has small common.low (λ k is. (
  given_by r.common c.bytes common.says.raw,
  refl,
  subst (In ((places_by (Stands c) r).place k)) (sym common.says.entries) (in_map (places_by (Stands c) r).place k (all_entry_keys c.units) is),
  ok.common k (entries_are_keys c.units k is),
)) (shared_few (section_of c.bytes 3) common.small (imports_common r.move r.units file))
    (λ at text stands. (given_by r.common c.bytes common.says.raw, refl, shared_there (section_of c.bytes 3) (imports_common r.move r.units file) at text stands))
