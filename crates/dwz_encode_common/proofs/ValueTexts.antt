-- The text that a value stores is the one that it means.
use Rattle.std.proofs.Common.{◌≡◌, ℕ, Bool, List, [], ◌∷◌, cond, Ok, Option, None, Some, refl, ap, ◌∙◌, eq-eqb, ne_eqb}
use Rattle.dwz_def_reading.specs.Entries.{RawAttr}
use Rattle.dwz_def_reading.specs.Texts.{slot, text_at}
use Rattle.dwz_def_reading.specs.Documents.{Attr, Plain, Text, Value, attr_map, only}
use Rattle.dwz_def_reading.specs.Meanings.{MeaningContext, offset_of, str_offsets_base}
use Rattle.dwz_def_reading.specs.Classes.{OfTextBySlot, OfTextInLineStr, OfTextInStr}
use Rattle.dwz_def_reading.specs.Classes.{Class, class_of}
use Rattle.dwz_def_reading.specs.Meant.{as_class, attr_with, meaning, text_from, text_or}
use Rattle.dwz_def_reading.specs.Meant as meant
use Rattle.dwz_def_tops.specs.Spots.{EntryName}
use Rattle.dwz_def_tops.specs.Spaces as spaces
use Rattle.dwz_def_encoding.specs.Placing.{slot_number}
use Rattle.dwz_def_encoding.specs.Writing.{or_zero, text_or_empty}
use Rattle.dwz_encode_common.specs.Gathered.{text_by, text_said}
use Rattle.dwz_encode_common.specs.Stored.{class_texts, text_or_none, text_read}

-- ---- one class

module _ (s : MeaningContext ℕ) (a : RawAttr) (v : Value ℕ) where
  text_ok : (o : Option (List ℕ)) → text_or {P = ℕ} a o ≡ Ok v → text_or_none o ≡ text_or_empty v.plain
  text_ok None e = absurd cc
  text_ok (Some text) e =
      let is : only (Text text) ≡ v = cc in
      ap (λ (w : Value ℕ). text_or_empty w.plain) is

  abbrev strs : List ℕ
  strs = s.around.sources.strs

  offset_ok : (o : Option ℕ) → meant.text_by s a o ≡ Ok v → text_or_none (text_at strs (or_zero o)) ≡ text_or_empty v.plain
  offset_ok None e = absurd cc
  offset_ok (Some offset) e = text_ok (text_at strs offset) e

  slot_ok : (base : Option ℕ) → text_from s a base ≡ Ok v
      → text_or_none (text_at strs (slot_number s.around.sources.offsets base (offset_of a))) ≡ text_or_empty v.plain
  slot_ok None e = absurd cc
  slot_ok (Some base) e = offset_ok (slot s.around.sources.offsets base (offset_of a)) e

  abbrev Gives : Class → Type 0
  Gives c = (after : ℕ → EntryName) → class_texts c s.around.sources (str_offsets_base s) (offset_of a)
      ≡ text_by c (attr_map after (attr_with a v))

  class_gives : (c : Class) → as_class c s a ≡ Ok v → Gives c
  class_gives OfTextInStr e after = ap (λ (w : List ℕ). w ∷ []) (text_ok (text_at strs (offset_of a)) e)
  class_gives OfTextInLineStr e after = ap (λ (w : List ℕ). w ∷ []) (text_ok (text_at s.around.sources.line_strs (offset_of a)) e)
  class_gives OfTextBySlot e after = ap (λ (w : List ℕ). w ∷ []) (slot_ok (str_offsets_base s) e)
  class_gives _ e after = refl

-- ---- a value

pub sibling_none : (s : MeaningContext ℕ) (a : RawAttr) → a.pair.name ≡ 0x01 → text_read s.around.sources (str_offsets_base s) a ≡ []
sibling_none s a is =
    ap (λ (b : Bool). cond b [] (class_texts (class_of a.pair.form) s.around.sources (str_offsets_base s) (offset_of a)))
    (eq-eqb a.pair.name 0x01 is)

pub value_gives : (s : MeaningContext ℕ) (after : ℕ → EntryName) (a : RawAttr) (v : Value ℕ) → (a.pair.name ≡ 0x01 → ⊥) → meaning s a ≡ Ok v
    → text_read s.around.sources (str_offsets_base s) a ≡ text_said (attr_map after (attr_with a v))
unfolding meaning
value_gives s after a v other means =
    ap (λ (b : Bool). cond b [] (class_texts (class_of a.pair.form) s.around.sources (str_offsets_base s) (offset_of a)))
    (ne_eqb a.pair.name 0x01 other)
    ∙ class_gives s a v (class_of a.pair.form) means after

-- ---- a name

-- what a value says follows from its class and from its text
pub text_same : {K L : Type 0} (c : Class) (a : Attr K) (b : Attr L) → text_or_empty a.value.plain ≡ text_or_empty b.value.plain
    → text_by c a ≡ text_by c b
text_same OfTextInStr a b e = ap (λ (w : List ℕ). w ∷ []) e
text_same OfTextInLineStr a b e = ap (λ (w : List ℕ). w ∷ []) e
text_same OfTextBySlot a b e = ap (λ (w : List ℕ). w ∷ []) e
text_same _ a b e = refl

pub plain_text : (p : Plain) (text : List ℕ) → spaces.text_of_plain p ≡ Some text → text_or_empty p ≡ text
plain_text (Text other) text e = cc
plain_text _ text e = absurd cc
