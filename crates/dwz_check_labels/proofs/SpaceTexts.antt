-- The text of a value, by where its class says that it stands, beside a common file or without one.
use Rattle.std.proofs.Common.{◌≡◌, ℕ, List, Option, Some, refl, sym, ap, subst, ◌∙◌}
use Rattle.dwz_def_reading.specs.Classes.{Class, OfCommonText, OfTextBySlot, OfTextInLineStr, OfTextInStr, class_of}
use Rattle.dwz_def_reading.specs.Documents.{Value}
use Rattle.dwz_def_reading.specs.Entries.{RawAttr}
use Rattle.dwz_def_reading.specs.Meanings.{MeaningContext, MeansAs, MeansValue, offset_of}
use Rattle.dwz_def_reading.specs.Texts.{text_at}
use Rattle.dwz_def_tops.specs.Spaces.{text_of_plain}
use Rattle.dwz_graph.specs.Spaces.{IsOwn}
use Rattle.dwz_graph.proofs.SpaceTextLemmas.{BySlot, by_slot, in_line_str, in_str, text_stands}
use Rattle.dwz_check_labels.specs.declared.named_file.NamedFile.{NamedFile}
use Rattle.dwz_check_labels.specs.Files.{KnowsTexts, texts_in}
use Rattle.dwz_check_labels.proofs.AloneLemmas.{alone_scope}

module _ (f : NamedFile) (base : Option ℕ) (s : MeaningContext ℕ) (k : KnowsTexts f base s) (a : RawAttr) (v : Value ℕ) (text : List ℕ) (means : MeansValue s a v)
    (is : text_of_plain v.plain ≡ Some text) where
  own : IsOwn f.sections.now base (alone_scope s)
  own = record { sources = k.sources; common = refl; base_is = k.base_is }

  of_class : (c : Class) → c ≡ class_of a.pair.form → MeansAs c s a v
  of_class c e = subst (λ (w : Class). MeansAs w s a v) (sym e) means

  to_value : (c : Class) → c ≡ class_of a.pair.form → MeansAs c (alone_scope s) a v → MeansValue (alone_scope s) a v
  to_value c e h = subst (λ (w : Class). MeansAs w (alone_scope s) a v) e h

  pub stands_in_str : OfTextInStr ≡ class_of a.pair.form → text_at f.sections.now.strs.bytes.now (offset_of a) ≡ Some text
  stands_in_str e = in_str f.sections.now base (alone_scope s) own a v text (to_value OfTextInStr e (of_class OfTextInStr e)) is e

  pub stands_in_line_str : OfTextInLineStr ≡ class_of a.pair.form → text_at f.sections.now.line_strs.bytes.now (offset_of a) ≡ Some text
  stands_in_line_str e = in_line_str f.sections.now base (alone_scope s) own a v text (to_value OfTextInLineStr e (of_class OfTextInLineStr e)) is e

  pub stands_by_slot : OfTextBySlot ≡ class_of a.pair.form → BySlot f.sections.now base (offset_of a) text
  stands_by_slot e =
      let h = of_class OfTextBySlot e in
      let moved : MeansAs OfTextBySlot (alone_scope s) a v = record { base = h.base; is_base = h.is_base; offset = h.offset; slot = h.slot; text = h.text } in
      by_slot f.sections.now base (alone_scope s) own a v text (to_value OfTextBySlot e moved) is e

  pub stands_in_common : OfCommonText ≡ class_of a.pair.form → text_at f.common_strs.now (offset_of a) ≡ Some text
  stands_in_common e =
      let h = of_class OfCommonText e in
      let same : f.common_strs.now ≡ h.0.strs = sym k.common ∙ ap texts_in h.1 in
      ap (λ (w : List ℕ). text_at w (offset_of a)) same ∙ text_stands h.0.strs (offset_of a) v text h.2 is
