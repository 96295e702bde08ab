-- The text of a value, by where its class says that it stands.
use Rattle.std.proofs.Common.{◌≡◌, ℕ, List, Option, Some, sym, ap, subst, ◌∙◌}
use Rattle.dwz_def_reading.specs.Entries.{RawAttr}
use Rattle.dwz_def_reading.specs.Texts.{slot, text_at}
use Rattle.dwz_def_reading.proofs.TextLemmas.{here_slot, here_text}
use Rattle.dwz_def_reading.specs.Documents.{Value}
use Rattle.dwz_def_reading.specs.Meanings.{IsTextIn, MeaningContext, MeansAs, MeansValue, Sources, offset_of}
use Rattle.dwz_def_reading.specs.Classes.{OfTextBySlot, OfTextInLineStr, OfTextInStr}
use Rattle.dwz_def_reading.specs.Classes.{Class, class_of}
use Rattle.dwz_def_tops.specs.Spaces.{text_of_plain}
use Rattle.dwz_graph_resolve.specs.declared.sections.InputSections.{InputSections}
use Rattle.dwz_graph.specs.Spaces.{IsOwn}
use Rattle.dwz_graph.proofs.SpaceMeans.{text_is}

pub text_stands : (section : List ℕ) (offset : ℕ) (v : Value ℕ) (text : List ℕ) → IsTextIn section offset v → text_of_plain v.plain ≡ Some text → text_at section offset ≡ Some text
text_stands section offset v text h is = here_text section h.text offset h.stands ∙ ap (λ (w : List ℕ). Some w) (text_is v h.text text h.value is)

-- where the slot leads
pub record BySlot (sections : InputSections) (base : Option ℕ) (index : ℕ) (text : List ℕ) : Type 0 where
  pub at : ℕ
  pub offset : ℕ
  pub base_is : base ≡ Some at
  pub slot_is : slot sections.offsets.now at index ≡ Some offset
  pub stands : text_at sections.strs.bytes.now offset ≡ Some text

module _ (sections : InputSections) (base : Option ℕ) (s : MeaningContext ℕ) (own : IsOwn sections base s) (a : RawAttr) (v : Value ℕ) (text : List ℕ) (means : MeansValue s a v)
    (is : text_of_plain v.plain ≡ Some text) where
  of_class : (c : Class) → c ≡ class_of a.pair.form → MeansAs c s a v
  of_class c e = subst (λ (k : Class). MeansAs k s a v) (sym e) means

  pub in_str : OfTextInStr ≡ class_of a.pair.form → text_at sections.strs.bytes.now (offset_of a) ≡ Some text
  in_str e = ap (λ (w : Sources). text_at w.strs (offset_of a)) (sym own.sources) ∙ text_stands s.around.sources.strs (offset_of a) v text (of_class OfTextInStr e) is

  pub in_line_str : OfTextInLineStr ≡ class_of a.pair.form → text_at sections.line_strs.bytes.now (offset_of a) ≡ Some text
  in_line_str e = ap (λ (w : Sources). text_at w.line_strs (offset_of a)) (sym own.sources) ∙ text_stands s.around.sources.line_strs (offset_of a) v text (of_class OfTextInLineStr e) is

  pub by_slot : OfTextBySlot ≡ class_of a.pair.form → BySlot sections base (offset_of a) text
  by_slot e =
      let h = of_class OfTextBySlot e in
      record {
        at = h.base;
        offset = h.offset;
        base_is = own.base_is ∙ h.is_base;
        slot_is = ap (λ (w : Sources). slot w.offsets h.base (offset_of a)) (sym own.sources) ∙ here_slot s.around.sources.offsets h.base (offset_of a) h.offset h.slot;
        stands = ap (λ (w : Sources). text_at w.strs h.offset) (sym own.sources) ∙ text_stands s.around.sources.strs h.offset v text h.text is;
      }
