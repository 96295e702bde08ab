-- Meanings: what is answered for a value, an attribute, an entry or a unit is what it means, and its fault is answered exactly where
-- it has one.
use Rattle.std.proofs.Common.{◌≡◌, ◌≢◌, ◌↔◌, ℕ, ◌+◌, ◌<◌, Bool, true, false, List, [], ◌∷◌, length, Option, Some, None, Result, Ok, Err, refl, sym, ap, subst, ◌∙◌, inl, inr, eqb, ltb, cond, arith}
use Rattle.std.specs.Prelude.{ℤ, pos, negsuc}
use Rattle.std.proofs.lemmas.Bool.{eqb-false, eqb-true, ltb-false, ltb-true}
use Rattle.dwz_model.specs.declared.fault.Fault.{Fault}
use Rattle.dwz_model.specs.declared.fault.Reason.TheVariants.{BadFile, BadList, BadString, BadReference}
use Rattle.dwz_bytes.specs.Reading.{◌>>=◌}
use Rattle.dwz_bytes.proofs.GroupLemmas.{chosen}
use Rattle.dwz_def_reading.specs.Documents.{Addr, Attr, Block, File, Index, Sec, Sig, Text, Value, only, ref}
use Rattle.dwz_def_reading.specs.Entries.{RawAttr}
use Rattle.dwz_def_reading.specs.Faults.{info_fault}
use Rattle.dwz_def_reading.specs.Exprs.{IsExprFault}
use Rattle.dwz_def_reading.specs.LineTables.{FileTable}
use Rattle.dwz_def_reading.specs.Meanings.{Common}
use Rattle.dwz_def_reading.specs.Classes.{Class}
use Rattle.dwz_def_reading.specs.MeaningFaults.{HasFault, HasFaultAs, HasFileFaultBy, HasListFault, HasSlotFault, HaveFault}
use Rattle.dwz_def_reading.specs.Meanings.{IfSo, In, IsCommonEntry, IsCommonText, IsEntryAmong, IsExpression, IsFileBy, IsListBySlot, IsLocList}
use Rattle.dwz_def_reading.specs.MeaningFaults.{IsBadReference, IsBadString}
use Rattle.dwz_def_reading.specs.Meanings.{IsTextBySlot, IsTextIn, MeanAttrs, MeansAs}
use Rattle.dwz_def_reading.specs.MeaningFaults.{IsNoCommonEntry, IsNoCommonText, IsNoSlot, IsNoText}
use Rattle.dwz_def_reading.specs.Meanings.{MeaningContext, MeansValue, block_begins, bytes_of, constant_value}
use Rattle.dwz_def_reading.specs.Classes.{class_of}
use Rattle.dwz_def_reading.specs.Meant.{as_class, attr_with, attrs_meaning, common_entry, common_text, entry_among}
use Rattle.dwz_def_reading.specs.Meanings.{expr_context, expr_value, flag_value, has, loc_value}
use Rattle.dwz_def_reading.specs.Meant.{expr_meaning, file_by, is_zero, list_by, list_from, list_meaning, list_read, loc_said}
use Rattle.dwz_def_reading.specs.Meanings.{loclists_base, number_of, offset_of, path_by, stmt_list, str_offsets_base}
use Rattle.dwz_def_reading.specs.Classes.{names_file, names_list}
use Rattle.dwz_def_reading.specs.Meant.{meaning, path_or, row_of_table}
use Rattle.dwz_def_reading.specs.Meanings.{text_sections_of}
use Rattle.dwz_def_reading.specs.Meant.{text_by, text_from, text_or, unread}
use Rattle.dwz_def_reading.specs.Classes.{OfAddress, OfBlock, OfConstant, OfFlag, OfText, OfTextInStr, OfTextInLineStr, OfTextBySlot, OfUnitEntry, OfInfoEntry, OfSignature, OfOffset, OfExpression}
use Rattle.dwz_def_reading.specs.Classes.{OfListIndex, OfIndex, OfCommonEntry, OfCommonText, Unread}
use Rattle.dwz_def_reading.specs.Texts.{IsSlot, slot, slot_place, text_at}
use Rattle.dwz_def_reading.proofs.AgreeLemmas.{Agrees, Made, Next, agrees_err, agrees_ok, and_then, and_with, in_words, then_made}
use Rattle.dwz_def_reading.proofs.ExprLemmas.{expr_agrees}
use Rattle.dwz_def_reading.proofs.LineTableLemmas.{file_table_agrees}
use Rattle.dwz_def_reading.proofs.LocListLemmas.{list_reads, stands_agree}
use Rattle.dwz_def_reading.proofs.TextLemmas.{here_slot, here_text, no_slot, none_again, none_begins, short_section, slot_here, text_here}

-- ---- one of a list

pub has_in : (n : ℕ) (ms : List ℕ) → has n ms ≡ true → In n ms
unfolding has
has_in n [] e = absurd cc
has_in n (m ∷ ms) e =
    elim (chosen (eqb m n) true (has n ms) true e) [
      | inl p ↦ inl (eqb-true m n p.0)
      | inr p ↦ inr (has_in n ms p.1)
    ]

pub not_in : (n : ℕ) (ms : List ℕ) → has n ms ≡ false → In n ms → ⊥
unfolding has
not_in n [] e is = is
not_in n (m ∷ ms) e is =
    elim (chosen (eqb m n) true (has n ms) false e) [
      | inl p ↦ absurd cc
      | inr p ↦ elim is [ inl same ↦ eqb-false m n p.0 same | inr later ↦ not_in n ms p.1 later ]
    ]

-- ---- values, class by class

-- two answers of one look are one
same_some : {X : Type 0} (o : Option X) (x y : X) → o ≡ Some x → o ≡ Some y → x ≡ y
same_some {X} o x y p q = let same : Some x ≡ Some y = sym p ∙ q in cc

some_none : {X : Type 0} (o : Option X) (x : X) → o ≡ Some x → o ≡ None → ⊥
some_none {X} o x p q = let no : Some x ≡ None = sym p ∙ q in cc

module _ {P : Type 0} where
  -- a text that is looked for
  text_agrees : (section : List ℕ) (offset : ℕ) (a : RawAttr) → Agrees {X = Value P} (text_or a (text_at section offset)) (IsTextIn section offset) (IsBadString a (IsNoText section offset))
  text_agrees section offset a = by (text_at section offset) refl where
    by : (o : Option (List ℕ)) → text_at section offset ≡ o → Agrees {X = Value P} (text_or a o) (IsTextIn section offset) (IsBadString a (IsNoText section offset))
    by None none = in_words (agrees_err (info_fault a.at BadString))
        (λ v. (λ no. absurd no, λ is. let some = here_text section is.text offset is.stands in absurd cc))
        (λ f. (λ same. (same, none_begins _ none), λ h. h.0))
    by (Some text) some = in_words (agrees_ok (only (Text text)))
        (λ v. (
          λ same. record { text = text; stands = text_here section text offset some; value = same },
          λ is. let other = here_text section is.text offset is.stands in let same : is.text ≡ text = cc in is.value ∙ ap (λ (t : List ℕ). only (Text t)) same,
        ))
        (λ f. (λ no. absurd no, λ h. let none = none_again _ h.1 in absurd cc))

  -- a text by its slot, where the unit has a base
  slot_agrees : (s : MeaningContext P) (a : RawAttr) (base : ℕ) → str_offsets_base s ≡ Some base
      → Agrees (text_from s a (Some base)) (IsTextBySlot s (offset_of a)) (IsBadString a (IsNoSlot s (offset_of a)))
  slot_agrees s a base is_base = by (slot s.around.sources.offsets base (offset_of a)) refl where
    at_base : (other number : ℕ) → str_offsets_base s ≡ Some other → IsSlot s.around.sources.offsets other (offset_of a) number → slot s.around.sources.offsets base (offset_of a) ≡ Some number
    at_base other number is is_slot =
        let same : other ≡ base = same_some (str_offsets_base s) other base is is_base in
        here_slot s.around.sources.offsets base (offset_of a) number (subst (λ (b : ℕ). IsSlot s.around.sources.offsets b (offset_of a) number) same is_slot)

    by : (o : Option ℕ) → slot s.around.sources.offsets base (offset_of a) ≡ o → Agrees (text_by s a o) (IsTextBySlot s (offset_of a)) (IsBadString a (IsNoSlot s (offset_of a)))
    by None none = in_words (agrees_err (info_fault a.at BadString))
        (λ v. (λ no. absurd no, λ is. some_none _ is.offset (at_base is.base is.offset is.is_base is.slot) none))
        (λ f. (λ same. (same, inr (record { base = base; is_base = is_base; cause = inl (no_slot s.around.sources.offsets base (offset_of a) none) })), λ h. h.0))
    by (Some offset) some = in_words (text_agrees s.around.sources.strs offset a)
        (λ v. (
          λ is. record { base = base; is_base = is_base; offset = offset; slot = slot_here s.around.sources.offsets base (offset_of a) offset some; text = is },
          λ is.
              let same : is.offset ≡ offset = same_some _ is.offset offset (at_base is.base is.offset is.is_base is.slot) some in
              subst (λ (n : ℕ). IsTextIn s.around.sources.strs n v) same is.text,
        ))
        (λ f. (
          λ h. (h.0, inr (record { base = base; is_base = is_base; cause = inr (offset, slot_here s.around.sources.offsets base (offset_of a) offset some, h.1) })),
          λ h. (
            h.0,
            elim h.1 [
              | inl none ↦ absurd (some_none (str_offsets_base s) base is_base none)
              | inr bad ↦
                  let same : bad.base ≡ base = same_some (str_offsets_base s) bad.base base bad.is_base is_base in
                  elim bad.cause [
                    | inl short ↦ absurd (some_none _ offset some (short_section s.around.sources.offsets base (offset_of a)
                        (subst (λ (b : ℕ). length s.around.sources.offsets < slot_place b (offset_of a) + 4) same short)))
                    | inr p ↦
                        let at : p.0 ≡ offset = same_some _ p.0 offset (at_base bad.base p.0 bad.is_base p.1) some in
                        subst (λ (n : ℕ). IsNoText s.around.sources.strs n) at p.2
                  ]
            ],
          ),
        ))

  by_slot_agrees : (s : MeaningContext P) (a : RawAttr) → Agrees (text_from s a (str_offsets_base s)) (IsTextBySlot s (offset_of a)) (IsBadString a (IsNoSlot s (offset_of a)))
  by_slot_agrees s a = by (str_offsets_base s) refl where
    by : (o : Option ℕ) → str_offsets_base s ≡ o → Agrees (text_from s a o) (IsTextBySlot s (offset_of a)) (IsBadString a (IsNoSlot s (offset_of a)))
    by None none = in_words (agrees_err (info_fault a.at BadString))
        (λ v. (λ no. absurd no, λ is. some_none (str_offsets_base s) is.base is.is_base none))
        (λ f. (λ same. (same, inl none), λ h. h.0))
    by (Some base) some = slot_agrees s a base some

-- what names an entry that is looked for
pub among_agrees : {X : Type 0} (places : List ℕ) (at p : ℕ) (x : X) → Agrees (cond (has p places) (Ok x) (Err (info_fault at BadReference))) (λ y. In p places × (y ≡ x)) (IsBadReference at places p)
among_agrees {X} places at p x = by (has p places) refl where
  by : (b : Bool) → has p places ≡ b → Agrees (cond b (Ok x) (Err (info_fault at BadReference))) (λ y. In p places × (y ≡ x)) (IsBadReference at places p)
  by true is_in = in_words (agrees_ok x)
      (λ y. (λ same. (has_in p places is_in, same), λ h. h.1))
      (λ f. (λ none. absurd none, λ h. h.1 (has_in p places is_in)))
  by false is_out = in_words (agrees_err (info_fault at BadReference))
      (λ y. (λ none. absurd none, λ h. not_in p places is_out h.0))
      (λ f. (λ same. (same, not_in p places is_out), λ h. h.0))

-- a value, or what a test stands for
chosen_agrees : {X : Type 0} (test : Bool) {r : Result X Fault} {M : X → Type 0} {F : Fault → Type 0} (v : X) → Agrees r M F
    → Agrees (cond test r (Ok v)) (λ w. IfSo test (M w) (w ≡ v)) (λ f. (test ≡ true) × F f)
chosen_agrees true v a = in_words a (λ w. (λ h. h, λ h. h)) (λ f. (λ h. (refl, h), λ h. h.1))
chosen_agrees false v a = in_words (agrees_ok v) (λ w. (λ same. same, λ same. same)) (λ f. (λ no. absurd no, λ h. absurd (let no = h.0 in cc)))

module _ {P : Type 0} (s : MeaningContext P) where
  entry_agrees : (place : ℕ → P) (places : List ℕ) (at p : ℕ) → Agrees (entry_among place places at p) (IsEntryAmong place places p) (IsBadReference at places p)
  entry_agrees place places at p = among_agrees places at p (ref (place p))

  -- an entry or a text of the supplementary file
  common_entry_agrees : (a : RawAttr) → Agrees (common_entry a s.around.common) (IsCommonEntry s (offset_of a)) (λ f. (f ≡ info_fault a.at BadReference) × IsNoCommonEntry s (offset_of a))
  common_entry_agrees a = by s.around.common refl where
    by : (o : Option (Common P)) → s.around.common ≡ o → Agrees (common_entry a o) (IsCommonEntry s (offset_of a)) (λ f. (f ≡ info_fault a.at BadReference) × IsNoCommonEntry s (offset_of a))
    by None none = in_words (agrees_err (info_fault a.at BadReference)) (λ v. (λ no. absurd no, λ h. some_none s.around.common h.0 h.1 none)) (λ f. (λ same. (same, inl none), λ h. h.0))
    by (Some c) some = in_words (entry_agrees c.place c.entries a.at (offset_of a))
        (λ v. (λ h. (c, some, h), λ h. let same : h.0 ≡ c = same_some s.around.common h.0 c h.1 some in subst (λ (d : Common P). IsEntryAmong d.place d.entries (offset_of a) v) same h.2))
        (λ f. (
          λ h. (h.0, inr (c, some, h.1)),
          λ h. (
            h.0,
            elim h.1 [
              | inl none ↦ absurd (some_none s.around.common c some none)
              | inr d ↦ let same : d.0 ≡ c = same_some s.around.common d.0 c d.1 some in subst (λ (e : Common P). In (offset_of a) e.entries → ⊥) same d.2
            ],
          ),
        ))

  common_text_agrees : (a : RawAttr) → Agrees (common_text a s.around.common) (IsCommonText s (offset_of a)) (λ f. (f ≡ info_fault a.at BadString) × IsNoCommonText s (offset_of a))
  common_text_agrees a = by s.around.common refl where
    by : (o : Option (Common P)) → s.around.common ≡ o → Agrees (common_text a o) (IsCommonText s (offset_of a)) (λ f. (f ≡ info_fault a.at BadString) × IsNoCommonText s (offset_of a))
    by None none = in_words (agrees_err (info_fault a.at BadString)) (λ v. (λ no. absurd no, λ h. some_none s.around.common h.0 h.1 none)) (λ f. (λ same. (same, inl none), λ h. h.0))
    by (Some c) some = in_words (text_agrees c.strs (offset_of a) a)
        (λ v. (λ h. (c, some, h), λ h. let same : h.0 ≡ c = same_some s.around.common h.0 c h.1 some in subst (λ (d : Common P). IsTextIn d.strs (offset_of a) v) same h.2))
        (λ f. (
          λ h. (h.0, inr (c, some, h.1)),
          λ h. (
            h.0,
            elim h.1 [
              | inl none ↦ absurd (some_none s.around.common c some none)
              | inr d ↦ let same : d.0 ≡ c = same_some s.around.common d.0 c d.1 some in subst (λ (e : Common P). IsNoText e.strs (offset_of a)) same d.2
            ],
          ),
        ))

  -- ---- files

  zero_is : (z : ℤ) (b : Bool) → is_zero z ≡ b → cond b (z ≡ pos 0) (z ≢ pos 0)
  zero_is (pos n) true e = ap (λ (m : ℕ). pos m) (eqb-true n 0 e)
  zero_is (pos n) false e = λ same. eqb-false n 0 e (let is : n ≡ 0 = cc in is)
  zero_is (negsuc n) true e = absurd cc
  zero_is (negsuc n) false e = λ same. absurd cc

  row_agrees : (a : RawAttr) (t : FileTable) → Agrees {X = Value P} (row_of_table a t) (λ v. (path : List ℕ) × (path_by t (number_of a.raw) ≡ Some path) × (v ≡ only (File (Some path))))
      (λ f. (f ≡ info_fault a.at BadFile) × (path_by t (number_of a.raw) ≡ None))
  row_agrees a t = by (path_by t (number_of a.raw)) refl where
    by : (o : Option (List ℕ)) → path_by t (number_of a.raw) ≡ o → Agrees {X = Value P} (path_or a o) (λ v. (path : List ℕ) × (path_by t (number_of a.raw) ≡ Some path) × (v ≡ only (File (Some path))))
        (λ f. (f ≡ info_fault a.at BadFile) × (path_by t (number_of a.raw) ≡ None))
    by None none = in_words (agrees_err (info_fault a.at BadFile)) (λ v. (λ no. absurd no, λ h. some_none _ h.0 h.1 none)) (λ f. (λ same. (same, none), λ h. h.0))
    by (Some path) some = in_words (agrees_ok (only (File (Some path))))
        (λ v. (λ same. (path, some, same), λ h. let same : h.0 ≡ path = same_some _ h.0 path h.1 some in h.2 ∙ ap (λ (w : List ℕ). only (File (Some w))) same))
        (λ f. (λ no. absurd no, λ h. absurd (some_none _ path some h.1)))

  file_agrees : (stmt : Option ℕ) (a : RawAttr) → Agrees (file_by stmt s a) (IsFileBy stmt s (number_of a.raw)) (HasFileFaultBy stmt s a)
  file_agrees None a = by (is_zero (number_of a.raw)) refl where
    by : (b : Bool) → is_zero (number_of a.raw) ≡ b → Agrees {X = Value P} (cond b (Ok (only (File None))) (Err (info_fault a.at BadFile))) (λ v. (number_of a.raw ≡ pos 0) × (v ≡ only (File None)))
        (λ f. (f ≡ info_fault a.at BadFile) × (number_of a.raw ≢ pos 0))
    by true e = let is = zero_is (number_of a.raw) true e in in_words (agrees_ok (only (File None))) (λ v. (λ same. (is, same), λ h. h.1)) (λ f. (λ no. absurd no, λ h. h.1 is))
    by false e = let is = zero_is (number_of a.raw) false e in in_words (agrees_err (info_fault a.at BadFile)) (λ v. (λ no. absurd no, λ h. is h.0)) (λ f. (λ same. (same, is), λ h. h.0))
  file_agrees (Some place) a =
      in_words (and_with (file_table_agrees (text_sections_of s.around.sources) s.around.sources.line place) (row_of_table a) (row_agrees a))
      (λ v. (
        λ h. record { table = h.0; stands = h.1; path = h.2.0; is_path = h.2.1; value = h.2.2 },
        λ r. (r.table, r.stands, (r.path, r.is_path, r.value)),
      ))
      (λ f. (
        λ h. elim h [ inl is ↦ inl is | inr p ↦ inr (p.2.0, record { table = p.0; stands = p.1; none = p.2.1 }) ],
        λ h. elim h [ inl is ↦ inl is | inr p ↦ inr (p.1.table, p.1.stands, (p.0, p.1.none)) ],
      ))

  -- ---- expressions and lists

  expression_agrees : (a : RawAttr) → Agrees (expr_meaning s a) (IsExpression s a) (IsExprFault (expr_context s 1) (block_begins a) (bytes_of a.raw))
  expression_agrees a =
      in_words (then_made (expr_agrees (expr_context s 1) (record { at = block_begins a; rest = bytes_of a.raw })) (expr_value s))
      (λ v. (λ h. record { expression = h.0; spelled = h.1; value = h.2 }, λ is. (is.expression, is.spelled, is.value)))
      (λ f. (λ h. h, λ h. h))

  list_agrees : (a : RawAttr) (place : ℕ) → Agrees (list_meaning s a place) (IsLocList s place) (HasListFault s a place)
  list_agrees a place = by (ltb place (length s.around.sources.lists)) refl where
    by : (b : Bool) → ltb place (length s.around.sources.lists) ≡ b → Agrees (cond b (list_read s place >>= loc_said s) (Err (info_fault a.at BadList))) (IsLocList s place) (HasListFault s a place)
    by true e =
        let within = ltb-true place (length s.around.sources.lists) e in
        in_words (then_made (stands_agree (list_reads (expr_context s 7)) s.around.sources.lists place (omega (arith, within))) (loc_value s))
        (λ v. (λ h. record { list = h.0; within = within; stands = h.1; value = h.2 }, λ is. (is.list, is.stands, is.value)))
        (λ f. (λ h. inr (within, h), λ h. elim h [ inl out ↦ absurd (let no = out.1 in omega (arith, no, within)) | inr is ↦ is.1 ]))
    by false e =
        let outside = ltb-false place (length s.around.sources.lists) e in
        in_words (agrees_err (info_fault a.at BadList))
        (λ v. (λ no. absurd no, λ is. let within = is.within in omega (arith, within, outside)))
        (λ f. (λ same. inl (same, outside), λ h. elim h [ inl out ↦ out.0 | inr is ↦ absurd (let within = is.0 in omega (arith, within, outside)) ]))

  slot_list_agrees : (a : RawAttr) (base : ℕ) → loclists_base s ≡ Some base → Agrees (list_from s a (Some base)) (IsListBySlot s (offset_of a)) (HasSlotFault s a (offset_of a))
  slot_list_agrees a base is_base = by (slot s.around.sources.lists base (offset_of a)) refl where
    at_base : (other number : ℕ) → loclists_base s ≡ Some other → IsSlot s.around.sources.lists other (offset_of a) number → slot s.around.sources.lists base (offset_of a) ≡ Some number
    at_base other number is is_slot =
        let same : other ≡ base = same_some (loclists_base s) other base is is_base in
        here_slot s.around.sources.lists base (offset_of a) number (subst (λ (b : ℕ). IsSlot s.around.sources.lists b (offset_of a) number) same is_slot)

    by : (o : Option ℕ) → slot s.around.sources.lists base (offset_of a) ≡ o → Agrees (list_by s a base o) (IsListBySlot s (offset_of a)) (HasSlotFault s a (offset_of a))
    by None none = in_words (agrees_err (info_fault a.at BadList))
        (λ v. (λ no. absurd no, λ is. some_none _ is.offset (at_base is.base is.offset is.is_base is.slot) none))
        (λ f. (
          λ same. inr (record { base = base; is_base = is_base; cause = inl (same, no_slot s.around.sources.lists base (offset_of a) none) }),
          λ h. elim h [
            | inl out ↦ out.0
            | inr bad ↦ elim bad.cause [ inl short ↦ short.0 | inr p ↦ absurd (some_none _ p.0 (at_base bad.base p.0 bad.is_base p.1) none) ]
          ],
        ))
    by (Some offset) some = in_words (list_agrees a (base + offset))
        (λ v. (
          λ is. record { base = base; is_base = is_base; offset = offset; slot = slot_here s.around.sources.lists base (offset_of a) offset some; list = is },
          λ is.
              let same_base : is.base ≡ base = same_some (loclists_base s) is.base base is.is_base is_base in
              let same : is.offset ≡ offset = same_some _ is.offset offset (at_base is.base is.offset is.is_base is.slot) some in
              subst (λ (n : ℕ). IsLocList s (base + n) v) same (subst (λ (n : ℕ). IsLocList s (n + is.offset) v) same_base is.list),
        ))
        (λ f. (
          λ h. inr (record { base = base; is_base = is_base; cause = inr (offset, slot_here s.around.sources.lists base (offset_of a) offset some, h) }),
          λ h. elim h [
            | inl out ↦ absurd (some_none (loclists_base s) base is_base out.1)
            | inr bad ↦
                let same_base : bad.base ≡ base = same_some (loclists_base s) bad.base base bad.is_base is_base in
                elim bad.cause [
                  | inl short ↦ absurd (some_none _ offset some (short_section s.around.sources.lists base (offset_of a)
                      (subst (λ (b : ℕ). length s.around.sources.lists < slot_place b (offset_of a) + 4) same_base short.1)))
                  | inr p ↦
                      let at : p.0 ≡ offset = same_some _ p.0 offset (at_base bad.base p.0 bad.is_base p.1) some in
                      subst (λ (n : ℕ). HasListFault s a (base + n) f) at (subst (λ (n : ℕ). HasListFault s a (n + p.0) f) same_base p.2)
                ]
          ],
        ))

  slot_lists_agree : (a : RawAttr) → Agrees (list_from s a (loclists_base s)) (IsListBySlot s (offset_of a)) (HasSlotFault s a (offset_of a))
  slot_lists_agree a = by (loclists_base s) refl where
    by : (o : Option ℕ) → loclists_base s ≡ o → Agrees (list_from s a o) (IsListBySlot s (offset_of a)) (HasSlotFault s a (offset_of a))
    by None none = in_words (agrees_err (info_fault a.at BadList))
        (λ v. (λ no. absurd no, λ is. some_none (loclists_base s) is.base is.is_base none))
        (λ f. (λ same. inl (same, none), λ h. elim h [ inl out ↦ out.0 | inr bad ↦ absurd (some_none (loclists_base s) bad.base bad.is_base none) ]))
    by (Some base) some = slot_list_agrees a base some

  class_agrees : (c : Class) (a : RawAttr) → Agrees (as_class c s a) (MeansAs c s a) (HasFaultAs c s a)
  class_agrees OfAddress a = agrees_ok (only (Addr (offset_of a)))
  class_agrees OfBlock a = agrees_ok (only (Block (bytes_of a.raw)))
  class_agrees OfConstant a = chosen_agrees (names_file a.pair.name) (constant_value a) (file_agrees (stmt_list s) a)
  class_agrees OfFlag a = agrees_ok (flag_value a)
  class_agrees OfText a = agrees_ok (only (Text (bytes_of a.raw)))
  class_agrees OfTextInStr a = text_agrees s.around.sources.strs (offset_of a) a
  class_agrees OfTextInLineStr a = text_agrees s.around.sources.line_strs (offset_of a) a
  class_agrees OfTextBySlot a = by_slot_agrees s a
  class_agrees OfUnitEntry a = entry_agrees s.around.place s.own a.at (s.unit + offset_of a)
  class_agrees OfInfoEntry a = entry_agrees s.around.place s.around.all a.at (offset_of a)
  class_agrees OfSignature a = agrees_ok (only (Sig (offset_of a)))
  class_agrees OfOffset a = chosen_agrees (names_list a.pair.name) (only (Sec (offset_of a))) (list_agrees a (offset_of a))
  class_agrees OfExpression a = expression_agrees a
  class_agrees OfListIndex a = slot_lists_agree a
  class_agrees OfIndex a = agrees_ok (only (Index (offset_of a)))
  class_agrees OfCommonEntry a = common_entry_agrees a
  class_agrees OfCommonText a = common_text_agrees a
  class_agrees Unread a = agrees_err (unread a)

pub value_agrees : {P : Type 0} (s : MeaningContext P) (a : RawAttr) → Agrees (meaning s a) (MeansValue s a) (HasFault s a)
unfolding meaning
value_agrees s a = class_agrees s (class_of a.pair.form) a

-- ---- attributes

pub attrs_agree : {P : Type 0} (s : MeaningContext P) (attrs : List RawAttr) → Agrees (attrs_meaning s attrs) (MeanAttrs s attrs) (HaveFault s attrs)
unfolding attrs_meaning
attrs_agree {P} s [] = in_words (agrees_ok []) means (λ f. (λ no. no, λ no. no)) where
  means : (bs : List (Attr P)) → (bs ≡ []) ↔ MeanAttrs s [] bs
  means [] = (λ same. tt, λ is. refl)
  means (b ∷ bs) = (λ same. absurd cc, λ no. absurd no)
attrs_agree {P} s (a ∷ attrs) =
    in_words (and_then (value_agrees s a) (λ v. attrs_meaning s attrs >>= λ bs. Ok (attr_with a v ∷ bs)) (λ v. then_made (attrs_agree s attrs) (λ bs. attr_with a v ∷ bs))) means
    (λ f. (λ h. h, λ h. h)) where
      means : (bs : List (Attr P)) → Next (MeansValue s a) (λ v. Made (MeanAttrs s attrs) (λ w. attr_with a v ∷ w)) bs ↔ MeanAttrs s (a ∷ attrs) bs
      means [] = (λ h. absurd (let no = h.2.2 in cc), λ no. absurd no)
      means (b ∷ bs) = (
        λ h.
            let same = h.2.2 in
            let head : b ≡ attr_with a h.0 = cc in
            let tail : bs ≡ h.2.0 = cc in (
              record {
                name = ap (λ (c : Attr P). c.name) head;
                form = ap (λ (c : Attr P). c.form) head;
                raw = ap (λ (c : Attr P). c.raw) head;
                value = subst (MeansValue s a) (sym (ap (λ (c : Attr P). c.value) head)) h.1;
              },
              subst (MeanAttrs s attrs) (sym tail) h.2.1,
            ),
        λ h.
            let m = h.0 in
            let head : b ≡ attr_with a b.value = λ i. record { name = m.name i; form = m.form i; raw = m.raw i; value = b.value } in
            (b.value, m.value, (bs, h.1, ap (λ (c : Attr P). c ∷ bs) head)),
      )
