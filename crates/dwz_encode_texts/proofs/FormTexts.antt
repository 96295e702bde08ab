-- A text that stands where it was read is written there, with the form that the definition of forms chooses.
use Rattle.std.proofs.Common.{◌≡◌, ℕ, Bool, true, false, List, [], Option, None, pos, refl, sym, ap, ◌∙◌}
use Rattle.std.proofs.lemmas.Bool.{false≢true}
use Rattle.dwz_def_reading.specs.Spelling.{reach}
use Rattle.dwz_def_reading.specs.Documents.{Attr, Compile, Kind, OfType, Partial}
use Rattle.dwz_def_reading.specs.Classes.{OfTextBySlot, OfTextInStr}
use Rattle.dwz_def_reading.specs.Classes.{Class, class_of, names_file}
use Rattle.dwz_model.specs.declared.place.Pair.{Pair}
use Rattle.dwz_def_tops.specs.Seen.{IsPartial}
use Rattle.dwz_def_tops.specs.Spots.{EntryName}
use Rattle.dwz_def_encoding.specs.Placing.{Chosen, NewUnit, OldUnit, UnitForms, UnitRole, as_slot, as_strp, as_strp_if, as_text, fit_as, has_text, holder_of, slot_number}
use Rattle.dwz_def_encoding.specs.Writing.{text_or_empty}
use Rattle.dwz_layout.specs.declared.known.TextAt.TheVariants.{Own}
use Rattle.dwz_layout.specs.declared.ways.Rewrite.{Rewrite}
use Rattle.dwz_layout.specs.declared.ways.Rewrite.TheVariants.{AsEntry, AsExpression, AsFile, AsRead, AsText, Dropped, KeepsText}
use Rattle.dwz_layout.specs.Attributes.{plain_pair}
use Rattle.dwz_layout.specs.Ways.{if_file, rewrite_of}
use Rattle.dwz_law_layout.specs.Knows.{IsText, chosen_of, given_attr}
use Rattle.dwz_law_layout.proofs.FormWays.{class_way, is_read, way_is}
use Rattle.dwz_encode_texts.specs.Texts.{str_offset}

-- whether a text is written anew
abbrev is_text : Rewrite → Bool
is_text AsText = true
is_text _ = false

by_name : (b : Bool) (w : Rewrite) → is_text (if_file b w) ≡ is_text w
by_name true w = refl
by_name false AsFile = refl
by_name false Dropped = refl
by_name false AsRead = refl
by_name false KeepsText = refl
by_name false AsText = refl
by_name false AsEntry = refl
by_name false AsExpression = refl

-- it is, so its class says that
text_class : (h : UnitRole) (p : Pair) (c : Class) → (p.name ≡ 0x01 → ⊥) → class_of p.form ≡ c → is_read c ≡ true → rewrite_of h p ≡ AsText → is_text (class_way h c) ≡ true
text_class h p c other e some way = sym (by_name (names_file p.name) (class_way h c)) ∙ ap is_text (sym (way_is h p c other e some) ∙ way)

module _ (ft : UnitForms EntryName) (shared : ft.shared ≡ []) (offsets : List ℕ) (offsets_are : ft.offsets ≡ offsets) (base : Option ℕ) where
  abbrev strp_at : ℕ → Chosen
  strp_at n = record { form = 0x0e; raw = pos n }

  -- no text is shared
  strp : (a : Attr EntryName) (n : ℕ) → as_strp ft a n ≡ strp_at n
  unfolding has_text
  strp a n = ap (λ (s : List (List ℕ)). as_strp_if (has_text s (text_or_empty a.value.plain)) ft a n) shared

  chosen : (a : Attr EntryName) (c : Class) (x : Chosen) → class_of a.form ≡ c → fit_as c ft a ≡ x → x ≡ chosen_of (given_attr ft None a)
  chosen a c x e f = sym (ap (λ (d : Class). fit_as d ft a) e ∙ f)

  -- in an old unit
  in_old : (a : Attr EntryName) (c : Class) → ft.holder ≡ OldUnit → class_of a.form ≡ c → is_read c ≡ true → (a.name ≡ 0x01 → ⊥) → IsText ft None a (Own (str_offset c offsets base (reach a.raw)))
  in_old a OfTextInStr holder e some other = λ way. chosen a OfTextInStr (strp_at (reach a.raw)) e (ap (λ (h : UnitRole). as_text h ft a) holder ∙ strp a (reach a.raw))
  in_old a c holder e some other = λ way. absurd (false≢true
      (text_class OldUnit (plain_pair a.name a.form) c other e some (ap (λ (h : UnitRole). rewrite_of h (plain_pair a.name a.form)) (sym holder) ∙ way)))

  -- in a partial unit
  in_new : (a : Attr EntryName) (c : Class) → ft.holder ≡ NewUnit → ft.origin_bases.slots ≡ base → class_of a.form ≡ c → is_read c ≡ true → (a.name ≡ 0x01 → ⊥)
      → IsText ft None a (Own (str_offset c offsets base (reach a.raw)))
  in_new a OfTextInStr holder slots e some other = λ way. chosen a OfTextInStr (strp_at (reach a.raw)) e (ap (λ (h : UnitRole). as_text h ft a) holder ∙ strp a (reach a.raw))
  in_new a OfTextBySlot holder slots e some other = λ way. chosen a OfTextBySlot (strp_at (slot_number offsets base (reach a.raw))) e
      (ap (λ (h : UnitRole). as_slot h ft a) holder
      ∙ strp a (slot_number ft.offsets ft.origin_bases.slots (reach a.raw))
      ∙ (λ i. strp_at (slot_number (offsets_are i) (slots i) (reach a.raw))))
  in_new a c holder slots e some other = λ way. absurd (false≢true
      (text_class NewUnit (plain_pair a.name a.form) c other e some (ap (λ (h : UnitRole). rewrite_of h (plain_pair a.name a.form)) (sym holder) ∙ way)))

  -- in either
  pub text_stands : (kind : Kind EntryName) → ft.holder ≡ holder_of false kind → (IsPartial kind → ft.origin_bases.slots ≡ base) → (a : Attr EntryName) → is_read (class_of a.form) ≡ true → (a.name ≡ 0x01
      → ⊥)
      → IsText ft None a (Own (str_offset (class_of a.form) offsets base (reach a.raw)))
  text_stands Partial holder slots a some other = in_new a (class_of a.form) holder (slots tt) refl some other
  text_stands Compile holder slots a some other = in_old a (class_of a.form) holder refl some other
  text_stands (OfType signature main) holder slots a some other = in_old a (class_of a.form) holder refl some other
