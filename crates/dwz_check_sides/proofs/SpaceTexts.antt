-- The text of a value, by where its class says that it stands.
use Rattle.std.proofs.Common.{◌≡◌, ℕ, List, Option, Some, None, sym, ap, refl, subst, ◌∙◌}
use Rattle.dwz_def_reading.specs.Documents.{Value}
use Rattle.dwz_def_reading.specs.Classes.{Class, OfCommonText, OfText, OfTextBySlot, OfTextInLineStr, OfTextInStr, class_of}
use Rattle.dwz_def_reading.specs.Entries.{RawAttr}
use Rattle.dwz_def_reading.specs.Meanings.{Common, IsCommonText, MeaningContext, MeansAs, MeansValue, Sources, bytes_of, offset_of}
use Rattle.dwz_def_reading.specs.Texts.{slot, text_at}
use Rattle.dwz_def_reading.proofs.TextLemmas.{here_slot}
use Rattle.dwz_def_tops.specs.Spaces.{text_of_plain}
use Rattle.dwz_graph.specs.declared.file.File.{File}
use Rattle.dwz_graph.proofs.SpaceMeans.{text_is}
use Rattle.dwz_graph.proofs.SpaceTextLemmas.{BySlot, text_stands}
use Rattle.dwz_check_sides.specs.declared.side.Side.{Side}
use Rattle.dwz_check_sides.specs.Says.{IsCommonOf, IsScope, common_of}

module _ (s : Side) (base : Option ℕ) (m : MeaningContext ℕ) (own : IsScope s base m) (a : RawAttr) (v : Value ℕ) (text : List ℕ) (means : MeansValue m a v)
    (is : text_of_plain v.plain ≡ Some text) where
  of_class : (c : Class) → c ≡ class_of a.pair.form → MeansAs c m a v
  of_class c e = subst (λ (k : Class). MeansAs k m a v) (sym e) means

  pub in_place : OfText ≡ class_of a.pair.form → bytes_of a.raw ≡ text
  in_place e = text_is v (bytes_of a.raw) text (of_class OfText e) is

  pub in_str : OfTextInStr ≡ class_of a.pair.form → text_at s.file.now.sections.strs.bytes.now (offset_of a) ≡ Some text
  in_str e = ap (λ (w : Sources). text_at w.strs (offset_of a)) (sym own.sources) ∙ text_stands m.around.sources.strs (offset_of a) v text (of_class OfTextInStr e) is

  pub in_line_str : OfTextInLineStr ≡ class_of a.pair.form → text_at s.file.now.sections.line_strs.bytes.now (offset_of a) ≡ Some text
  in_line_str e = ap (λ (w : Sources). text_at w.line_strs (offset_of a)) (sym own.sources) ∙ text_stands m.around.sources.line_strs (offset_of a) v text (of_class OfTextInLineStr e) is

  pub by_slot : OfTextBySlot ≡ class_of a.pair.form → BySlot s.file.now.sections base (offset_of a) text
  by_slot e =
      let h = of_class OfTextBySlot e in
      record {
        at = h.base;
        offset = h.offset;
        base_is = own.base_is ∙ h.is_base;
        slot_is = ap (λ (w : Sources). slot w.offsets h.base (offset_of a)) (sym own.sources) ∙ here_slot m.around.sources.offsets h.base (offset_of a) h.offset h.slot;
        stands = ap (λ (w : Sources). text_at w.strs h.offset) (sym own.sources) ∙ text_stands m.around.sources.strs h.offset v text h.text is;
      }

  pub in_common : OfCommonText ≡ class_of a.pair.form → IsCommonText m (offset_of a) v
  in_common e = of_class OfCommonText e

-- a text of the common file, and there is such a file
pub common_stands : (o : Option (Common ℕ)) (f : Option File) (c : Common ℕ) → o ≡ Some c → IsCommonOf o f → (x : File) × (f ≡ Some x) × (c.strs ≡ x.sections.strs.bytes.now)
common_stands None f c e h = absurd cc
common_stands (Some d) None c e h = absurd h
common_stands (Some d) (Some x) c e h = let same : d ≡ c = cc in (x, refl, ap (λ (w : Common ℕ). w.strs) (sym same) ∙ h.2)

-- the text is found there
pub common_found : (s : Side) (base : Option ℕ) (m : MeaningContext ℕ) (offset : ℕ) (v : Value ℕ) (text : List ℕ) (f : File) → IsScope s base m → IsCommonText m offset v
    → text_of_plain v.plain ≡ Some text → common_of s ≡ Some f → text_at f.sections.strs.bytes.now offset ≡ Some text
common_found s base m offset v text f own means is there =
    let c = common_stands m.around.common (common_of s) means.0 means.1 own.common_is in
    let both : Some c.0 ≡ Some f = sym c.1 ∙ there in
    let same : c.0 ≡ f = cc in
    ap (λ (w : File). text_at w.sections.strs.bytes.now offset) (sym same) ∙ ap (λ (w : List ℕ). text_at w offset) (sym c.2) ∙ text_stands means.0.strs offset v text means.2 is

-- there is one
pub common_there : (s : Side) (base : Option ℕ) (m : MeaningContext ℕ) (offset : ℕ) (v : Value ℕ) → IsScope s base m → IsCommonText m offset v → common_of s ≡ None → ⊥
common_there s base m offset v own means none =
    let c = common_stands m.around.common (common_of s) means.0 means.1 own.common_is in
    let both : Some c.0 ≡ None = sym c.1 ∙ none in
    absurd cc
