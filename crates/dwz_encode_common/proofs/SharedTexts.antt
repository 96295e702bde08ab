-- A text is written where its form says: in the common file, where it has its place there, and else as it was read.
use Rattle.std.proofs.Common.{◌≡◌, ℕ, Bool, true, false, List, refl, sym, ap, ◌∙◌, cond, eq-eqb}
use Rattle.dwz_bytes.specs.Spelling.{reach}
use Rattle.dwz_def_reading.specs.Documents.{Attr}
use Rattle.dwz_def_reading.specs.Classes.{OfTextBySlot, OfTextInLineStr, OfTextInStr}
use Rattle.dwz_def_reading.specs.Classes.{Class, class_of, names_file}
use Rattle.dwz_def_tops.specs.Spots.{EntryName}
use Rattle.dwz_def_encoding.specs.Placing.{CommonUnit, NewUnit, OldUnit, UnitForms, UnitRole, as_line_text, as_slot, as_strp, as_strp_if, as_text, fit_as, has_text, slot_number, text_place}
use Rattle.dwz_def_encoding.specs.Writing.{text_or_empty}
use Rattle.dwz_layout.specs.declared.known.TextAt.{TextAt}
use Rattle.dwz_layout.specs.declared.known.TextAt.TheVariants.{Shared}
use Rattle.dwz_layout.specs.declared.ways.Rewrite.{Rewrite}
use Rattle.dwz_layout.specs.declared.ways.Rewrite.TheVariants.{AsText, Dropped, KeepsText}
use Rattle.dwz_layout.specs.Attributes.{plain_pair}
use Rattle.dwz_layout.specs.Ways.{if_file, rewrite_of, way_in, way_rows}
use Rattle.dwz_law_layout.specs.Knows.{is_placed, text_chosen}
use Rattle.dwz_law_layout.proofs.FormWays.{way_of_class}
use Rattle.dwz_encode_texts.specs.TextLaws.{unshared}
use Rattle.dwz_encode_common.specs.Shared.{InCommonLaw, PlacedLaw, SharedLaw, in_common, shared_or}

-- ---- in the common file

module _ (ft : UnitForms EntryName) (a : Attr EntryName) (holder : ft.holder ≡ CommonUnit) where
  common_form : (c : Class) → is_placed c ≡ true → text_chosen (in_common ft.texts (text_or_empty a.value.plain)) ≡ fit_as c ft a
  common_form OfTextInStr placed = sym (ap (λ (h : UnitRole). as_text h ft a) holder)
  common_form OfTextInLineStr placed = sym (ap (λ (h : UnitRole). as_line_text h ft a) holder)
  common_form OfTextBySlot placed = sym (ap (λ (h : UnitRole). as_slot h ft a) holder)
  common_form _ placed = absurd cc

pub in_common_law : InCommonLaw
in_common_law ft a holder placed = λ way. common_form ft a holder (class_of a.form) placed

-- ---- in another file

kept : (w : Rewrite) → w ≡ KeepsText → w ≡ AsText → ⊥
kept w e f = (let z : KeepsText ≡ AsText = sym e ∙ f in cc)

module _ (ft : UnitForms EntryName) (a : Attr EntryName) (t : TextAt) where
  abbrev text : List ℕ
  text = text_or_empty a.value.plain

  -- at an offset of `.debug_str`
  strp_form : (n : ℕ) → text_chosen t ≡ as_strp (unshared ft) a n → text_chosen (shared_or ft.shared text t) ≡ as_strp ft a n
  unfolding has_text
  strp_form n e = go (has_text ft.shared text) where
    go : (b : Bool) → text_chosen (cond b (Shared (text_place ft.shared text)) t) ≡ as_strp_if b ft a n
    go true = refl
    go false = e

  shared_form : (h : UnitRole) → ft.holder ≡ h → (h ≡ CommonUnit → ⊥) → (a.name ≡ 0x01 → ⊥) → (c : Class) → class_of a.form ≡ c
      → is_placed c ≡ true
      → rewrite_of h (plain_pair a.name a.form) ≡ AsText → text_chosen t ≡ fit_as c (unshared ft) a
      → text_chosen (shared_or ft.shared text t) ≡ fit_as c ft a
  shared_form CommonUnit is other name c e placed way told = absurd (other refl)
  shared_form OldUnit is other name OfTextInStr e placed way told =
      strp_form (reach a.raw) (told ∙ ap (λ (h : UnitRole). as_text h (unshared ft) a) is) ∙ sym (ap (λ (h : UnitRole). as_text h ft a) is)
  shared_form NewUnit is other name OfTextInStr e placed way told =
      strp_form (reach a.raw) (told ∙ ap (λ (h : UnitRole). as_text h (unshared ft) a) is) ∙ sym (ap (λ (h : UnitRole). as_text h ft a) is)
  shared_form OldUnit is other name OfTextInLineStr e placed way told =
      absurd (kept _ (way_of_class OldUnit (plain_pair a.name a.form) OfTextInLineStr name e refl refl) way)
  shared_form NewUnit is other name OfTextInLineStr e placed way told =
      absurd (kept _ (way_of_class NewUnit (plain_pair a.name a.form) OfTextInLineStr name e refl refl) way)
  shared_form OldUnit is other name OfTextBySlot e placed way told =
      absurd (kept _ (way_of_class OldUnit (plain_pair a.name a.form) OfTextBySlot name e refl refl) way)
  shared_form NewUnit is other name OfTextBySlot e placed way told =
      let n = slot_number ft.offsets ft.origin_bases.slots (reach a.raw) in
      strp_form n (told ∙ ap (λ (h : UnitRole). as_slot h (unshared ft) a) is) ∙ sym (ap (λ (h : UnitRole). as_slot h ft a) is)
  shared_form _ is other name _ e placed way told = absurd cc

-- DW_AT_sibling is written nowhere
pub not_dropped : (h : UnitRole) (name form : ℕ) → rewrite_of h (plain_pair name form) ≡ AsText → name ≡ 0x01 → ⊥
not_dropped h name form way e =
    let z : Dropped ≡ AsText =
    sym (ap (λ (b : Bool). cond b Dropped (if_file (names_file name) (way_in h form way_rows))) (eq-eqb name 0x01 e)) ∙ way in
    cc

pub shared_law : SharedLaw
shared_law ft a t other placed told = λ way. (
    shared_form ft a t ft.holder refl other (not_dropped ft.holder a.name a.form way) (class_of a.form) refl placed way (told way))

-- ---- in either

pub placed_law : PlacedLaw
unfolding has_text
placed_law true texts said own = refl
placed_law false texts said own = refl
