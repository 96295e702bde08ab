-- Texts at their places: each lies within the section, behind those before it, and one more comes behind the last.
use Rattle.std.proofs.Common.{◌≡◌, ℕ, zero, suc, ◌+◌, ◌-◌, ◌^◌, ◌<◌, ◌≤◌, List, [], ◌∷◌, ◌++◌, length, take, drop, Some, None, slice_get, get_or, ltb, true, refl, sym, ap, subst, ◌∙◌, arith}
use Rattle.std.proofs.lemmas.Bool.{ltb-true}
use Rattle.std.proofs.lemmas.Grind.{flat_map-append}
use Rattle.std.proofs.lemmas.List.{append-nil, drop-append-le, length-append, length-drop, length-map, length-take-le, map-append, take-append-le}
use Rattle.std.proofs.lemmas.Option.{slice_get_read}
use Rattle.std.proofs.Math.Seq.{drop-append_seam, take-append_seam}
use Rattle.dwz_def_reading.specs.TextRows.{start_of_number, text_number, text_section}
use Rattle.dwz_def_reading.proofs.TextRowLemmas.{different_more}
use Rattle.dwz_pool.specs.declared.rows.Place.{Place}
use Rattle.dwz_pool.specs.declared.rows.Rows.{Rows}
use Rattle.dwz_pool.specs.Stored.{AreSame, FollowEachOther, HasTexts, bytes_at, texts_in, texts_of}

-- what is read under a number
pub read_at : (read places : List Place) (i : ℕ) (p : Place) → read ≡ places → true ≡ ltb i (length read) → p ≡ get_or read i p → slice_get places i ≡ Some p
read_at read places i p same within is = subst (λ (ps : List Place). slice_get ps i ≡ Some p) same (slice_get_read read (length read) i p refl (ltb-true i (length read) (sym within)) is)

-- ---- each lies within the section

rises : (at end : ℕ) (places : List Place) → FollowEachOther at end places → at ≤ end
rises at end [] follow = omega (arith, follow)
rises at end (p ∷ places) follow = let rest = rises (at + (p.len + 1)) end places follow.1 in omega (arith, rest)

pub ends_within : (at end : ℕ) (places : List Place) (i : ℕ) (p : Place) → FollowEachOther at end places → slice_get places i ≡ Some p → p.start + (p.len + 1) ≤ end
ends_within at end [] i p follow e = absurd cc
ends_within at end (q ∷ places) zero p follow e =
    let same : q ≡ p = cc in
    let start = ap (λ (r : Place). r.start) same in
    let size = ap (λ (r : Place). r.len) same in
    let rest = rises (at + (q.len + 1)) end places follow.1 in
    let here = follow.0 in
    omega (arith, start, size, rest, here)
ends_within at end (q ∷ places) (suc i) p follow e = ends_within (at + (q.len + 1)) end places i p follow.1 e

long : (section : List ℕ) (p : Place) → p.start + (p.len + 1) ≤ length section → length (bytes_at section p) ≡ p.len
long section p within = length-take-le p.len (drop p.start section) (omega (arith, within, length-drop p.start section))

-- ---- each begins behind those before it

pub starts_at : (section : List ℕ) (at : ℕ) (places : List Place) (i : ℕ) (p : Place) → FollowEachOther at (length section) places → slice_get places i ≡ Some p
    → p.start ≡ at + start_of_number (texts_in section places) i
starts_at section at [] i p follow e = absurd cc
starts_at section at (q ∷ places) zero p follow e =
    let same : q ≡ p = cc in
    let start = ap (λ (r : Place). r.start) same in
    let here = follow.0 in
    omega (arith, start, here)
starts_at section at (q ∷ places) (suc i) p follow e =
    let more = starts_at section (at + (q.len + 1)) places i p follow.1 e in
    let before = take i (texts_in section places) in
    let parts : length ((bytes_at section q ++ 0 ∷ []) ++ text_section before) ≡ length (bytes_at section q ++ 0 ∷ []) + length (text_section before) =
    length-append (bytes_at section q ++ 0 ∷ []) (text_section before) in
    let size = long section q (ends_within at (length section) (q ∷ places) zero q follow refl) in
    omega (arith, more, parts, size, length-append (bytes_at section q) (0 ∷ []))

-- ---- one text more

follow_more : (at end : ℕ) (places : List Place) (p : Place) → FollowEachOther at end places → p.start ≡ end → FollowEachOther at (end + (p.len + 1)) (places ++ p ∷ [])
follow_more at end [] p follow e = (omega (arith, follow, e), omega (arith, follow))
follow_more at end (q ∷ places) p follow e = (follow.0, follow_more (at + (q.len + 1)) end places p follow.1 e)

bytes_stay : (section more : List ℕ) (p : Place) → p.start + (p.len + 1) ≤ length section → bytes_at (section ++ more) p ≡ bytes_at section p
bytes_stay section more p within =
    ap (take p.len) (drop-append-le p.start section more (omega (arith, within)))
    ∙ take-append-le p.len (drop p.start section) more (omega (arith, within, length-drop p.start section))

texts_stay : (section more : List ℕ) (at end : ℕ) (places : List Place) → end ≤ length section → FollowEachOther at end places → texts_in (section ++ more) places ≡ texts_in section places
texts_stay section more at end [] le follow = refl
texts_stay section more at end (p ∷ places) le follow =
    let within = ends_within at end (p ∷ places) zero p follow refl in
    let here = bytes_stay section more p (omega (arith, within, le)) in
    let rest = texts_stay section more (at + (p.len + 1)) end places le follow.1 in
    λ j. here j ∷ rest j

-- room was made, and the text was appended
module _ (old room new : Rows) (text : List ℕ) (has : HasTexts old) (is_new : text_number (texts_of old) text ≡ None) (few : length (texts_of old) < 2 ^ 32 - 1) (same : AreSame old room)
    (section_is : new.section.items ≡ room.section.items ++ (text ++ 0 ∷ []))
    (places_are : new.places.items ≡ room.places.items ++ record { start = length room.section.items; len = length text } ∷ []) where
  abbrev section : List ℕ
  section = old.section.items

  abbrev places : List Place
  places = old.places.items

  abbrev spelled : List ℕ
  spelled = text ++ 0 ∷ []

  abbrev place : List ℕ → Place
  place bytes = record { start = length bytes; len = length text }

  new_section : new.section.items ≡ section ++ spelled
  new_section = section_is ∙ ap (λ (bytes : List ℕ). bytes ++ spelled) same.0

  new_places : new.places.items ≡ places ++ place section ∷ []
  new_places = places_are ∙ (λ j. same.1 j ++ place (same.0 j) ∷ [])

  new_bytes : bytes_at (section ++ spelled) (place section) ≡ text
  new_bytes = ap (take (length text)) (drop-append_seam section spelled) ∙ take-append_seam text (0 ∷ [])

  pub texts_more : texts_of new ≡ texts_of old ++ text ∷ []
  texts_more =
      (λ j. texts_in (new_section j) (new_places j))
      ∙ map-append (bytes_at (section ++ spelled)) places (place section ∷ [])
      ∙ (λ j. texts_stay section spelled 0 (length section) places (omega arith) has.follow j ++ new_bytes j ∷ [])

  section_more : text_section (texts_of old ++ text ∷ []) ≡ text_section (texts_of old) ++ spelled
  section_more = flat_map-append (λ (t : List ℕ). t ++ 0 ∷ []) (texts_of old) (text ∷ []) ∙ ap (λ (bytes : List ℕ). text_section (texts_of old) ++ bytes) (append-nil spelled)

  size_more : length new.section.items ≡ length section + (length text + 1)
  size_more = ap length new_section ∙ (omega (arith, length-append section spelled, length-append text (0 ∷ [])))

  pub has_more : HasTexts new
  has_more = record {
    follow = rw size_more (rw new_places (follow_more 0 (length section) places (place section) has.follow refl));
    spelled = new_section ∙ ap (λ (bytes : List ℕ). bytes ++ spelled) has.spelled ∙ sym section_more ∙ ap text_section (sym texts_more);
    different = rw texts_more (different_more (texts_of old) text has.different is_new);
    few = omega (arith, few, ap length new_places, length-append places (place section ∷ []), length-map places (bytes_at section));
  }
