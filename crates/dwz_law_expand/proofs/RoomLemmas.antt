-- Operands have room for the numbers of what stands for what they named, where none is too narrow.
use Rattle.std.proofs.Common.{◌≡◌, ◌⊎◌, ℕ, pos, ◌-◌, ◌≤◌, ◌^◌, Bool, true, false, List, [], ◌∷◌, ◌++◌, ◌==◌, if◌then◌else◌, map, Option, Some, refl, sym, ap, subst, arith, inl, inr}
use Rattle.std.proofs.lemmas.Bool.{cases_lt, eq-eqb}
use Rattle.dwz_def_reading.specs.Fault.{Fault}
use Rattle.dwz_def_reading.specs.Lists.{Each, In}
use Rattle.dwz_def_reading.proofs.ListFacts.{in_left, in_map, in_right}
use Rattle.dwz_def_reading.specs.Classes.{Class, OfAddress, OfBlock, OfCommonEntry, OfCommonText, OfConstant, OfExpression, OfFlag, OfIndex, OfInfoEntry, OfListIndex, OfOffset, OfSignature, OfText, OfTextBySlot, OfTextInLineStr, OfTextInStr, OfUnitEntry, Unread, class_in, class_of, class_rows, names_file}
use Rattle.dwz_def_reading.specs.Documents.{Attr, Part}
use Rattle.dwz_def_reading.specs.Exprs.{Expression, parts_from, parts_of}
use Rattle.dwz_def_reading.specs.Places.{Place, at_file}
use Rattle.dwz_def_reading.specs.Shared.{operands_of}
use Rattle.dwz_def_reading.specs.declared.exprs.Operand.{Operand}
use Rattle.dwz_def_tops.specs.Alike.{joined_parts}
use Rattle.dwz_def_encoding.specs.Fitting.{FitsWidth, HasRoom, HasRoomAs, OperandsHaveRoom}
use Rattle.dwz_def_encoding.specs.Meant.{led_to}
use Rattle.dwz_def_encoding.specs.Placing.{CommonUnit, NewUnit, OldUnit, UnitRole, with_form}
use Rattle.dwz_def_encoding.specs.Writing.{Numbering, base_place}
use Rattle.dwz_def_output.specs.Refusals.{IsOver, narrow_at}
use Rattle.dwz_def_expand.specs.Chosen.{Choice, chosen_as, copied_constant, copied_entry, copied_file, copied_slot, copied_text}
use Rattle.dwz_def_expand.specs.OneFile.{OneFile, StoredAttr, stored_attr}
use Rattle.dwz_def_expand.specs.Output.{FirstTooNarrow, IsTooNarrow, Spoken, in_value, in_values, number_of_operand}
use Rattle.dwz_def_expand.specs.Refusals.{Site}
use Rattle.dwz_def_expand.specs.Source.{Copy}

-- ---- none is too narrow

fits_or_not : (uleb : Bool) (width number : ℕ) → FitsWidth uleb width number ⊎ IsOver uleb width number
fits_or_not true width number = cases_lt number (128 ^ width)
fits_or_not false width number = cases_lt number (256 ^ width)

not_both : (uleb : Bool) (width number : ℕ) → FitsWidth uleb width number → IsOver uleb width number → ⊥
not_both true width number fits over = omega (arith, fits, over)
not_both false width number fits over = omega (arith, fits, over)

module _ (f : OneFile) where
  abbrev pub Fits : Spoken → Type 0
  Fits o = FitsWidth o.operand.uleb o.operand.width (number_of_operand f o)

  record Least (os : List Spoken) : Type 0 where
    one : Spoken
    there : In one os
    narrow : IsTooNarrow f one
    least : (o : Spoken) → In o os → IsTooNarrow f o → one.operand.at ≤ o.operand.at

  not_narrow : (o : Spoken) → Fits o → IsTooNarrow f o → ⊥
  not_narrow o fits over = not_both o.operand.uleb o.operand.width (number_of_operand f o) fits over

  least_of : (os : List Spoken) → ((o : Spoken) → In o os → Fits o) ⊎ Least os
  least_of [] = inl (λ o there. absurd there)
  least_of (o ∷ os) = by (fits_or_not o.operand.uleb o.operand.width (number_of_operand f o)) (least_of os) where
    by : Fits o ⊎ IsTooNarrow f o → ((p : Spoken) → In p os → Fits p) ⊎ Least os → ((p : Spoken) → In p (o ∷ os) → Fits p) ⊎ Least (o ∷ os)
    by (inl fits) (inl rest) = inl (λ p there. elim there [ inl same ↦ subst Fits same fits | inr later ↦ rest p later ])
    by (inl fits) (inr l) = inr (record {
      one = l.one;
      there = inr l.there;
      narrow = l.narrow;
      least = λ p there narrow. elim there [ inl same ↦ absurd (not_narrow p (subst Fits same fits) narrow) | inr later ↦ l.least p later narrow ];
    })
    by (inr over) (inl rest) = inr (record {
      one = o;
      there = inl refl;
      narrow = over;
      least = λ p there narrow. elim there [ inl same ↦ subst (λ (x : Spoken). o.operand.at ≤ x.operand.at) same (omega arith) | inr later ↦ absurd (not_narrow p (rest p later) narrow) ];
    })
    by (inr over) (inr l) = elim (cases_lt o.operand.at l.one.operand.at) [
      | inl less ↦ inr (record {
        one = o;
        there = inl refl;
        narrow = over;
        least = λ p there narrow. elim there [
          | inl same ↦ subst (λ (x : Spoken). o.operand.at ≤ x.operand.at) same (omega arith)
          | inr later ↦ (let le = l.least p later narrow in omega (arith, less, le))
        ];
      })
      | inr le ↦ inr (record {
        one = l.one;
        there = inr l.there;
        narrow = l.narrow;
        least = λ p there narrow. elim there [ inl same ↦ subst (λ (x : Spoken). l.one.operand.at ≤ x.operand.at) same le | inr later ↦ l.least p later narrow ];
      })
    ]

  pub all_fit : (section : ℕ) (os : List Spoken) → ((x : Fault) → ¬ FirstTooNarrow f section os x) → (o : Spoken) → In o os → Fits o
  all_fit section os free o there = elim (least_of os) [
    | inl fit ↦ fit o there
    | inr l ↦ absurd (free (narrow_at section l.one.operand.at) (record { one = l.one; there = l.there; narrow = l.narrow; least = l.least; is_fault = refl }))
  ]

  -- an operand of the value of a site is among those of all
  pub spoken_site : (operands : StoredAttr → List Operand) (file : ℕ) (ss : List (Site Place)) (st : Site Place) → In st ss → st.source.file ≡ file → (v : StoredAttr) → stored_attr f st.source st.index ≡ Some v
      → (o : Operand) → In o (operands v) → In (record { unit = st.unit; operand = o; target = at_file st.source.file (led_to v.scope.unit o) }) (in_values f operands file ss)
  unfolding in_values
  spoken_site operands file [] st is same v found o member = absurd is
  spoken_site operands file (x ∷ ss) st (inl e) same v found o member =
      let spoken : Spoken = record { unit = st.unit; operand = o; target = at_file st.source.file (led_to v.scope.unit o) } in
      let first : In spoken (in_value operands st (stored_attr f st.source st.index)) =
      subst (λ (w : Option StoredAttr). In spoken (in_value operands st w)) (sym found) (in_map (λ (p : Operand). record { unit = st.unit; operand = p; target = at_file st.source.file (led_to v.scope.unit p) }) o (operands v) member) in
      in_left spoken (if x.source.file == file then in_value operands x (stored_attr f x.source x.index) else []) (in_values f operands file ss)
      (subst (λ (y : Site Place). In spoken (if y.source.file == file then in_value operands y (stored_attr f y.source y.index) else [])) (sym e)
      (subst (λ (k : Bool). In spoken (if k then in_value operands st (stored_attr f st.source st.index) else [])) (sym (eq-eqb st.source.file file same)) first))
  spoken_site operands file (x ∷ ss) st (inr r) same v found o member =
      in_right _ (if x.source.file == file then in_value operands x (stored_attr f x.source x.index) else []) (in_values f operands file ss) (spoken_site operands file ss st r same v found o member)

-- ---- the parts of expressions

module _ {K : Type 0} (n : Numbering K) (unit : ℕ) (h : Operand → K) where
  abbrev pub HasIts : Operand → Type 0
  HasIts o = FitsWidth o.uleb o.width (n.place (h o) - base_place unit o.base)

  parts_room : (os : List Operand) (at : ℕ) (bs : List ℕ) (rest : List Part) (refs : List K) → Each HasIts os → OperandsHaveRoom n unit rest refs
      → OperandsHaveRoom n unit (parts_from at bs os ++ rest) (map h os ++ refs)
  unfolding parts_from
  parts_room [] at bs rest refs fit r = r
  parts_room (o ∷ os) at bs rest refs fit r = (fit.0, parts_room os _ _ rest refs fit.1 r)

  pub expr_room : (os : List Operand) (at : ℕ) (bs : List ℕ) → Each HasIts os → OperandsHaveRoom n unit (parts_from at bs os) (map h os)
  unfolding parts_from
  expr_room [] at bs fit = tt
  expr_room (o ∷ os) at bs fit = (fit.0, expr_room os _ _ fit.1)

  split : (xs ys : List Operand) → Each HasIts (xs ++ ys) → Each HasIts xs × Each HasIts ys
  split [] ys fit = (tt, fit)
  split (o ∷ xs) ys fit = (let r = split xs ys fit.1 in ((fit.0, r.0), r.1))

  joined_map : (xs ys : List Operand) → map h (xs ++ ys) ≡ map h xs ++ map h ys
  joined_map [] ys = refl
  joined_map (o ∷ xs) ys = ap (λ (ks : List K). h o ∷ ks) (joined_map xs ys)

  pub exprs_room : (exprs : List Expression) → Each HasIts (operands_of exprs) → OperandsHaveRoom n unit (joined_parts (map parts_of exprs)) (map h (operands_of exprs))
  unfolding joined_parts operands_of
  exprs_room [] fit = tt
  exprs_room (e ∷ exprs) fit =
      let both = split e.operands (operands_of exprs) fit in
      subst (OperandsHaveRoom n unit (joined_parts (map parts_of (e ∷ exprs)))) (sym (joined_map e.operands (operands_of exprs)))
      (parts_room e.operands e.at e.bytes (joined_parts (map parts_of exprs)) (map h (operands_of exprs)) both.0 (exprs_room exprs both.1))

-- ---- the chosen form asks for no more

module _ {P : Type 0} (c : Choice P) (n : ℕ) (source : P) (b : Attr (Copy P)) (m : Numbering (Copy P)) (unit : ℕ) where
  abbrev Room : Class → Type 0
  Room k = HasRoom m unit (with_form b (chosen_as k c n source b))

  kept_room : (k : Class) → class_of b.form ≡ k → HasRoomAs k m unit b → HasRoom m unit b
  kept_room k e h = subst (λ (q : Class). HasRoomAs q m unit b) (sym e) h

  entry_room : (refs : List (Copy P)) → HasRoom m unit (with_form b (copied_entry n refs))
  unfolding class_rows class_in
  entry_room [] = tt
  entry_room (k ∷ refs) = by (k.unit == n) where
    by : (q : Bool) → HasRoom m unit (with_form b (record { form = if q then 0x13 else 0x10; raw = pos 0 }))
    by true = tt
    by false = tt

  text_room : (role : UnitRole) → HasRoom m unit b → HasRoom m unit (with_form b (copied_text role b))
  unfolding class_rows class_in
  text_room OldUnit h = h
  text_room NewUnit h = h
  text_room CommonUnit h = tt

  slot_room : (role : UnitRole) → HasRoom m unit b → HasRoom m unit (with_form b (copied_slot role c.offsets (c.slots source) b))
  unfolding class_rows class_in
  slot_room OldUnit h = h
  slot_room NewUnit h = tt
  slot_room CommonUnit h = tt

  file_room : (role : UnitRole) → HasRoom m unit b → HasRoom m unit (with_form b (copied_file role (c.paths n) b))
  unfolding class_rows class_in
  file_room OldUnit h = h
  file_room NewUnit h = tt
  file_room CommonUnit h = tt

  string_room : HasRoom m unit (with_form b (chosen_as OfCommonText c n source b))
  unfolding class_rows class_in
  string_room = tt

  constant_room : (q : Bool) → HasRoom m unit b → HasRoom m unit (with_form b (copied_constant q (c.role source) (c.paths n) b))
  constant_room true h = file_room (c.role source) h
  constant_room false h = h

  pub chosen_room : (k : Class) → class_of b.form ≡ k → HasRoomAs k m unit b → Room k
  chosen_room OfUnitEntry e h = entry_room b.value.refs
  chosen_room OfInfoEntry e h = entry_room b.value.refs
  chosen_room OfCommonEntry e h = entry_room b.value.refs
  chosen_room OfCommonText e h = string_room
  chosen_room OfTextInStr e h = text_room (c.role source) (kept_room OfTextInStr e h)
  chosen_room OfTextInLineStr e h = text_room (c.role source) (kept_room OfTextInLineStr e h)
  chosen_room OfTextBySlot e h = slot_room (c.role source) (kept_room OfTextBySlot e h)
  chosen_room OfConstant e h = constant_room (names_file b.name) (kept_room OfConstant e h)
  chosen_room OfAddress e h = kept_room OfAddress e h
  chosen_room OfBlock e h = kept_room OfBlock e h
  chosen_room OfFlag e h = kept_room OfFlag e h
  chosen_room OfText e h = kept_room OfText e h
  chosen_room OfSignature e h = kept_room OfSignature e h
  chosen_room OfOffset e h = kept_room OfOffset e h
  chosen_room OfExpression e h = kept_room OfExpression e h
  chosen_room OfListIndex e h = kept_room OfListIndex e h
  chosen_room OfIndex e h = kept_room OfIndex e h
  chosen_room Unread e h = kept_room Unread e h
