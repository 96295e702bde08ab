-- The copy of a value that is a text, or the number of a file.
use Rattle.std.proofs.Common.{◌≡◌, ◌∙◌, ℕ, pos, Bool, true, false, List, [], map, Option, Some, None, Ok, refl, sym, ap, subst, inr}
use Rattle.std.specs.Prelude.{unwrap_or}
use Rattle.dwz_model.specs.declared.place.Pair.{Pair}
use Rattle.dwz_def_reading.specs.Classes.{Class, OfCommonText, OfConstant, OfExpression, OfOffset, OfTextBySlot, OfTextInLineStr, OfTextInStr, class_of, names_file, names_list}
use Rattle.dwz_def_reading.specs.Documents.{Attr, Text, Value, attr_map}
use Rattle.dwz_def_reading.specs.Entries.{RawAttr}
use Rattle.dwz_def_reading.specs.Meanings.{Sources, offset_of, str_offsets_base}
use Rattle.dwz_def_reading.specs.Meant.{as_class, text_or}
use Rattle.dwz_def_reading.specs.Spelling.{reach}
use Rattle.dwz_def_reading.specs.Texts.{slot, text_at}
use Rattle.dwz_def_reading.specs.Values.{Bytes, HasSpelling, Number}
use Rattle.dwz_def_encoding.specs.Placing.{Chosen, CommonUnit, NewUnit, OldUnit, UnitRole, as_read, slot_number}
use Rattle.dwz_def_expand.specs.Chosen.{chosen_as, copied_constant, copied_file, copied_slot, copied_string, copied_text, row_for}
use Rattle.dwz_def_expand.specs.Refusals.{LacksRow, is_copied, no_row}
use Rattle.dwz_model.specs.declared.fault.Reason.TheVariants.{NoRow}
use Rattle.dwz_def_expand.specs.Source.{Copy}
use Rattle.dwz_forms.specs.declared.raw.Raw.{Raw as RawOfCode}
use Rattle.dwz_forms.specs.RawValues.{raw_view}
use Rattle.dwz_graph.specs.Resolved.{stored}
use Rattle.dwz_layout.specs.Attributes.{plain_pair}
use Rattle.dwz_encode.specs.Shown.{Value as ValueHeld}
use Rattle.dwz_layout.specs.Ways.{holder_view}
use Rattle.dwz_layout.specs.declared.ways.UnitRole.{UnitRole as HolderOfCode}
use Rattle.dwz_layout.specs.declared.ways.UnitRole.TheVariants as code
use Rattle.dwz_expand_layout.specs.declared.entries.Content.TheVariants.{Stored}
use Rattle.dwz_expand_layout.specs.declared.entries.NewAttr.{NewAttr}
use Rattle.dwz_expand_layout.specs.declared.entries.NewOperand.{NewOperand}
use Rattle.dwz_expand_passes.specs.declared.files.SourceEntry.{SourceEntry}
use Rattle.dwz_expand_passes.specs.Copied.{Asks, FirstLost, IsCopyAnswer, IsTextIn, KeepsConstant, Refuses, is_entry, said, site}
use Rattle.dwz_expand_passes.specs.Known.{Setting, copied, scope}
use Rattle.dwz_expand_passes.proofs.AnswerLemmas.{answer_alone, chosen_by, none_named, read_attr, read_shows}
use Rattle.dwz_expand_passes.proofs.ContentLemmas.{IsText, as_class_of, common_is, names_some, slot_is, text_is}
use Rattle.dwz_expand_passes.proofs.LostLemmas.{no_constant, no_file, none_lost, not_copied}
use Rattle.dwz_expand_passes.proofs.ShowLemmas.{shows_string, shows_strp, shows_udata}

abbrev pub number_attr : Pair → ℕ → ℕ → RawOfCode → NewAttr
number_attr pair form n raw = record { pair = plain_pair pair.name form; content = Stored raw }

module _ (x : SourceEntry) (q : Setting) (index at end : ℕ) (pair : Pair) (raw : RawOfCode) (v : Value ℕ) (refs others : List ℕ) (constant : KeepsConstant pair (raw_view raw))
    (spelled : HasSpelling pair.form (raw_view raw)) (asks : Asks x q index (stored at end pair raw) v refs others) where
  abbrev a : RawAttr
  a = stored at end pair raw

  abbrev b : Attr ℕ
  b = said q a v

  abbrev y : Attr (Copy ℕ)
  y = attr_map (copied q) b

  nothing : (c : Class) → class_of pair.form ≡ c → names_some c ≡ false → (c ≡ OfOffset → names_list pair.name ≡ false) → v.refs ≡ []
  nothing c e none list = none_named q index at end pair raw v constant spelled c e none list asks.means

  abbrev is_constant : Class → Bool
  is_constant OfConstant = true
  is_constant _ = false

  other_class : (c : Class) → class_of pair.form ≡ c → is_constant c ≡ false → ¬ LacksRow q.choice (site q index b)
  other_class c e other = no_constant q index b (λ is. (let z : true ≡ false = sym (ap is_constant (sym e ∙ is)) ∙ other in cc))

  -- as it was read, where nothing is named, and no row is lacked
  pub read_answer : (operands : List NewOperand) (new : NewAttr) (c : Class) → class_of pair.form ≡ c → is_entry c ≡ false → (c ≡ OfExpression → ⊥) → names_some c ≡ false
      → (c ≡ OfOffset → names_list pair.name ≡ false) → ¬ LacksRow q.choice (site q index b) → chosen_as c q.choice q.unit q.source y ≡ as_read y → new ≡ read_attr pair raw
      → IsCopyAnswer q index a v operands new
  read_answer operands new c e entry other none list has chosen is =
      subst (λ (n : NewAttr). IsCopyAnswer q index a v operands n) (sym is)
      (answer_alone q index at end pair raw v constant spelled operands (read_attr pair raw) (nothing c e none list) has
      (read_shows q index at end pair raw v constant spelled operands c e entry other chosen asks.means) tt refl)

  -- a text itself
  pub string_answer : (operands : List NewOperand) (new : NewAttr) (c : Class) (text : List ℕ) (bytes : RawOfCode) → class_of pair.form ≡ c → names_some c ≡ false → is_constant c ≡ false
      → (c ≡ OfOffset → names_list pair.name ≡ false) → chosen_as c q.choice q.unit q.source y ≡ copied_string → v.plain ≡ Text text → raw_view bytes ≡ Bytes text
      → new ≡ record { pair = plain_pair pair.name 0x08; content = Stored bytes } → IsCopyAnswer q index a v operands new
  string_answer operands new c text bytes e none other list chosen plain view is =
      subst (λ (n : NewAttr). IsCopyAnswer q index a v operands n) (sym is)
      (answer_alone q index at end pair raw v constant spelled operands (record { pair = plain_pair pair.name 0x08; content = Stored bytes }) (nothing c e none list) (other_class c e other)
      ((λ i. record { pair = plain_pair pair.name 0x08; held = ValueHeld (view i) }) ∙ shows_string q a v text plain (chosen_by q index at end pair raw v constant spelled c e ∙ chosen)) tt refl)

  -- a text at the offset in its slot
  pub strp_answer : (operands : List NewOperand) (new : NewAttr) (offset : ℕ) (number : RawOfCode) → class_of pair.form ≡ OfTextBySlot
      → chosen_as OfTextBySlot q.choice q.unit q.source y ≡ record { form = 0x0e; raw = pos offset } → raw_view number ≡ Number (pos offset)
      → new ≡ record { pair = plain_pair pair.name 0x0e; content = Stored number } → IsCopyAnswer q index a v operands new
  strp_answer operands new offset number e chosen view is =
      subst (λ (n : NewAttr). IsCopyAnswer q index a v operands n) (sym is)
      (answer_alone q index at end pair raw v constant spelled operands (record { pair = plain_pair pair.name 0x0e; content = Stored number }) (nothing OfTextBySlot e refl (λ z. cc))
      (other_class OfTextBySlot e refl)
      ((λ i. record { pair = plain_pair pair.name 0x0e; held = ValueHeld (view i) }) ∙ shows_strp q a v offset (chosen_by q index at end pair raw v constant spelled OfTextBySlot e ∙ chosen)) tt refl)

  -- the number of a row
  pub row_answer : (operands : List NewOperand) (new : NewAttr) (row : ℕ) (number : RawOfCode) → class_of pair.form ≡ OfConstant → ¬ LacksRow q.choice (site q index b)
      → chosen_as OfConstant q.choice q.unit q.source y ≡ record { form = 0x0f; raw = pos row } → raw_view number ≡ Number (pos row)
      → new ≡ record { pair = plain_pair pair.name 0x0f; content = Stored number } → IsCopyAnswer q index a v operands new
  row_answer operands new row number e has chosen view is =
      subst (λ (n : NewAttr). IsCopyAnswer q index a v operands n) (sym is)
      (answer_alone q index at end pair raw v constant spelled operands (record { pair = plain_pair pair.name 0x0f; content = Stored number }) (nothing OfConstant e refl (λ z. cc)) has
      ((λ i. record { pair = plain_pair pair.name 0x0f; held = ValueHeld (view i) }) ∙ shows_udata q a v row (chosen_by q index at end pair raw v constant spelled OfConstant e ∙ chosen)) tt refl)

  -- ---- by what holds the unit

  abbrev pub role : UnitRole
  role = holder_view x.role

  role_is : (r : HolderOfCode) → x.role ≡ r → q.choice.role q.source ≡ holder_view r
  role_is r e = asks.fits.role ∙ ap holder_view e

  -- texts in `.debug_str` and `.debug_line_str`
  in_section : (c : Class) (section : List ℕ) → IsTextIn c x section → as_class c (scope q) a ≡ Ok v → IsText (text_at section (offset_of a)) v
  in_section OfTextInStr section is means =
      text_is a v (text_at section (offset_of a)) (ap (λ (w : List ℕ). text_or a (text_at w (offset_of a))) (is ∙ sym (ap (λ (s : Sources). s.strs) asks.fits.sources)) ∙ means)
  in_section OfTextInLineStr section is means =
      text_is a v (text_at section (offset_of a)) (ap (λ (w : List ℕ). text_or a (text_at w (offset_of a))) (is ∙ sym (ap (λ (s : Sources). s.line_strs) asks.fits.sources)) ∙ means)
  in_section _ section is means = absurd is

  -- what is chosen for them
  text_chosen : (c : Class) (section : List ℕ) (r : UnitRole) → IsTextIn c x section → q.choice.role q.source ≡ r → chosen_as c q.choice q.unit q.source y ≡ copied_text r y
  text_chosen OfTextInStr section r is e = ap (λ (z : UnitRole). copied_text z y) e
  text_chosen OfTextInLineStr section r is e = ap (λ (z : UnitRole). copied_text z y) e
  text_chosen _ section r is e = absurd is

  record IsPlain (c : Class) : Type 0 where
    entry : is_entry c ≡ false
    expression : c ≡ OfExpression → ⊥
    none : names_some c ≡ false
    other : is_constant c ≡ false
    list : c ≡ OfOffset → names_list pair.name ≡ false

  text_plain : (c : Class) (section : List ℕ) → IsTextIn c x section → IsPlain c
  text_plain OfTextInStr section is = record { entry = refl; expression = λ z. cc; none = refl; other = refl; list = λ z. cc }
  text_plain OfTextInLineStr section is = record { entry = refl; expression = λ z. cc; none = refl; other = refl; list = λ z. cc }
  text_plain _ section is = absurd is

  pub text_common : (operands : List NewOperand) (new : NewAttr) (section text : List ℕ) (bytes : RawOfCode) → x.role ≡ code.CommonUnit → IsTextIn (class_of pair.form) x section
      → ((t : List ℕ) → text_at section (offset_of a) ≡ Some t → text ≡ t) → raw_view bytes ≡ Bytes text
      → new ≡ record { pair = plain_pair pair.name 0x08; content = Stored bytes } → IsCopyAnswer q index a v operands new
  text_common operands new section text bytes of_role is_in told view is =
      let c = class_of pair.form in
      let t = in_section c section is_in (as_class_of (scope q) a v c refl asks.means) in
      let p = text_plain c section is_in in
      string_answer operands new c t.text bytes refl p.none p.other p.list (text_chosen c section CommonUnit is_in (role_is code.CommonUnit of_role)) t.plain (view
      ∙ ap (λ (w : List ℕ). Bytes w) (told t.text t.there)) is

  other_text : (r : HolderOfCode) → (r ≡ code.CommonUnit → ⊥) → copied_text (holder_view r) y ≡ as_read y
  other_text code.OldUnit h = refl
  other_text code.NewUnit h = refl
  other_text code.CommonUnit h = absurd (h refl)

  pub text_read : (operands : List NewOperand) (new : NewAttr) (section : List ℕ) → (x.role ≡ code.CommonUnit → ⊥) → IsTextIn (class_of pair.form) x section → new ≡ read_attr pair raw
      → IsCopyAnswer q index a v operands new
  text_read operands new section other is_in is =
      let c = class_of pair.form in
      let p = text_plain c section is_in in
      read_answer operands new c refl p.entry p.expression p.none p.list (other_class c refl p.other)
      (text_chosen c section (holder_view x.role) is_in (role_is x.role refl) ∙ other_text x.role other) is

  -- texts by their slots
  pub slot_read : (operands : List NewOperand) (new : NewAttr) → class_of pair.form ≡ OfTextBySlot → x.role ≡ code.OldUnit → new ≡ read_attr pair raw → IsCopyAnswer q index a v operands new
  slot_read operands new e of_role is =
      read_answer operands new OfTextBySlot e refl (λ z. cc) refl (λ z. cc) (other_class OfTextBySlot e refl)
      (ap (λ (r : UnitRole). copied_slot r q.choice.offsets (q.choice.slots q.source) y) (role_is code.OldUnit of_role)) is

  pub slot_strp : (operands : List NewOperand) (new : NewAttr) (offset : ℕ) (number : RawOfCode) → class_of pair.form ≡ OfTextBySlot → x.role ≡ code.NewUnit
      → offset ≡ slot_number x.file.sections.now.offsets.now x.here.now.offsets (offset_of a) → raw_view number ≡ Number (pos offset)
      → new ≡ record { pair = plain_pair pair.name 0x0e; content = Stored number } → IsCopyAnswer q index a v operands new
  slot_strp operands new offset number e of_role told view is =
      let new_role : holder_view x.role ≡ NewUnit = ap holder_view of_role in
      strp_answer operands new offset number e
      (ap (λ (r : UnitRole). copied_slot r q.choice.offsets (q.choice.slots q.source) y) (role_is code.NewUnit of_role)
      ∙ (λ i. let ch : Chosen = record { form = 0x0e; raw = pos (slot_number (asks.fits.offsets new_role i) (asks.fits.slots new_role i) (reach y.raw)) } in ch)
      ∙ ap (λ (n : ℕ). let ch : Chosen = record { form = 0x0e; raw = pos n } in ch) (sym told)) view is

  pub slot_common : (operands : List NewOperand) (new : NewAttr) (text : List ℕ) (bytes : RawOfCode) → class_of pair.form ≡ OfTextBySlot → x.role ≡ code.CommonUnit
      → ((at offset : ℕ) (t : List ℕ) → x.here.now.offsets ≡ Some at → slot x.file.sections.now.offsets.now at (offset_of a) ≡ Some offset
      → text_at x.file.sections.now.strs.bytes.now offset ≡ Some t → text ≡ t)
      → raw_view bytes ≡ Bytes text → new ≡ record { pair = plain_pair pair.name 0x08; content = Stored bytes } → IsCopyAnswer q index a v operands new
  slot_common operands new text bytes e of_role told view is =
      let t = slot_is (scope q) a v (str_offsets_base (scope q)) (as_class_of (scope q) a v OfTextBySlot e asks.means) in
      let same : text ≡ t.text.text =
      told t.at t.offset t.text.text (asks.fits.here.base ∙ t.base_is) (ap (λ (s : Sources). slot s.offsets t.at (offset_of a)) (sym asks.fits.sources) ∙ t.slot_is)
      (ap (λ (s : Sources). text_at s.strs t.offset) (sym asks.fits.sources) ∙ t.text.there) in
      string_answer operands new OfTextBySlot t.text.text bytes e refl refl (λ z. cc)
      (ap (λ (r : UnitRole). copied_slot r q.choice.offsets (q.choice.slots q.source) y) (role_is code.CommonUnit of_role)) t.text.plain (view ∙ ap (λ (w : List ℕ). Bytes w) same) is

  -- texts of the common file
  pub common_text_answer : (operands : List NewOperand) (new : NewAttr) (text : List ℕ) (bytes : RawOfCode) → class_of pair.form ≡ OfCommonText
      → ((t : List ℕ) → text_at x.file.common_strs.now (offset_of a) ≡ Some t → text ≡ t) → raw_view bytes ≡ Bytes text
      → new ≡ record { pair = plain_pair pair.name 0x08; content = Stored bytes } → IsCopyAnswer q index a v operands new
  common_text_answer operands new text bytes e told view is =
      let t = common_is a v q.around.common (as_class_of (scope q) a v OfCommonText e asks.means) in
      let same : text ≡ t.text = told t.text (ap (λ (w : List ℕ). text_at w (offset_of a)) (sym asks.fits.texts) ∙ t.there) in
      string_answer operands new OfCommonText t.text bytes e refl refl (λ z. cc) refl t.plain (view ∙ ap (λ (w : List ℕ). Bytes w) same) is

  -- ---- numbers of files

  file_chosen : (r : UnitRole) → names_file pair.name ≡ true → q.choice.role q.source ≡ r → chosen_as OfConstant q.choice q.unit q.source y ≡ copied_file r (q.choice.paths q.unit) y
  file_chosen r name e =
      ap (λ (t : Bool). copied_constant t (q.choice.role q.source) (q.choice.paths q.unit) y) name ∙ ap (λ (z : UnitRole). copied_file z (q.choice.paths q.unit) y) e

  pub file_read : (operands : List NewOperand) (new : NewAttr) → class_of pair.form ≡ OfConstant → names_file pair.name ≡ true → x.role ≡ code.OldUnit → new ≡ read_attr pair raw
      → IsCopyAnswer q index a v operands new
  file_read operands new e name of_role is =
      read_answer operands new OfConstant e refl (λ z. cc) refl (λ z. cc) (not_copied q index b (ap is_copied (role_is code.OldUnit of_role))) (file_chosen OldUnit name
      (role_is code.OldUnit of_role)) is

  other_file : (r : HolderOfCode) → (r ≡ code.OldUnit → ⊥)
      → (copied_file (holder_view r) (q.choice.paths q.unit) y ≡ record { form = 0x0f; raw = pos (unwrap_or (row_for (q.choice.paths q.unit) v.plain) 0) })
      × (is_copied (holder_view r) ≡ true)
  other_file code.OldUnit h = absurd (h refl)
  other_file code.NewUnit h = (refl, refl)
  other_file code.CommonUnit h = (refl, refl)

  pub file_row : (operands : List NewOperand) (new : NewAttr) (row : ℕ) (number : RawOfCode) → class_of pair.form ≡ OfConstant → names_file pair.name ≡ true → (x.role ≡ code.OldUnit → ⊥)
      → Some row ≡ row_for (q.choice.paths q.unit) v.plain → raw_view number ≡ Number (pos row)
      → new ≡ record { pair = plain_pair pair.name 0x0f; content = Stored number } → IsCopyAnswer q index a v operands new
  file_row operands new row number e name other found view is =
      row_answer operands new row number e (λ h. (let n = h.none in let z : Some row ≡ None = found ∙ n in cc))
      (file_chosen (holder_view x.role) name asks.fits.role ∙ (other_file x.role other).0
      ∙ ap (λ (o : Option ℕ). let ch : Chosen = record { form = 0x0f; raw = pos (unwrap_or o 0) } in ch) (sym found)) view is

  pub file_lacks : class_of pair.form ≡ OfConstant → names_file pair.name ≡ true → (x.role ≡ code.OldUnit → ⊥) → None ≡ row_for (q.choice.paths q.unit) v.plain
      → Refuses q (site q index b) (record { section = 1; at = at; reason = NoRow })
  file_lacks e name other none = inr (
    (λ f h. none_lost q (λ k. q.stands.named q.source index k) f (subst (λ (w : List ℕ). FirstLost q (λ k. q.stands.named q.source index k) w f) (ap (map q.place) (nothing OfConstant e refl
        (λ z. cc))) h)),
    (record { constant = e; file = name; copied = ap is_copied asks.fits.role ∙ (other_file x.role other).1; none = sym none }, ap no_row (sym asks.at.value)),
  )

  -- ---- other constants, and other classes

  pub number_read : (operands : List NewOperand) (new : NewAttr) → class_of pair.form ≡ OfConstant → names_file pair.name ≡ false → new ≡ read_attr pair raw → IsCopyAnswer q index a v operands new
  number_read operands new e name is =
      read_answer operands new OfConstant e refl (λ z. cc) refl (λ z. cc) (no_file q index b (λ yes. (let z : true ≡ false = sym yes ∙ name in cc)))
      (ap (λ (t : Bool). copied_constant t (q.choice.role q.source) (q.choice.paths q.unit) y) name) is
