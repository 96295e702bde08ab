-- Which tops an expression names, by the tops of its references.
use Rattle.std.proofs.Common.{◌≡◌, ◌↔◌, ℕ, ◌+◌, ◌-◌, Bool, true, false, List, [], ◌∷◌, length, map, drop, Option, Ok, Some, None, refl, sym, ap, subst, ◌∙◌, inl, inr, ⊎_elim, arith, if◌then◌else◌}
use Rattle.std.specs.Prelude.{◌||◌, ◌&&◌}
use Rattle.std.specs.List.{list_any}
use Rattle.std.proofs.lemmas.Bool.{eq-eqb, eqb-true, false≢true, or_cases}
use Rattle.std.proofs.lemmas.List.{length-map}
use Rattle.dwz_def_tops.specs.Alike.{is_in, is_operand, operand_names}
use Rattle.dwz_def_tops.specs.Spots.{EntryName, Import, InChain, InType, PartialOf, PartialRoot, RootOf, SpaceAt, UnitOf, Within}
use Rattle.dwz_def_reading.specs.Entries.{RawAttr}
use Rattle.dwz_def_reading.specs.Lists.{In}
use Rattle.dwz_def_reading.specs.declared.exprs.Operand.{Operand}
use Rattle.dwz_def_reading.specs.Documents.{Plain, Sec, Value, attr_map, only, ref}
use Rattle.dwz_def_reading.specs.Exprs.{parts_from}
use Rattle.dwz_def_reading.specs.Meanings.{IfSo, IsExpression, IsFileBy, IsLocList, MeansAs}
use Rattle.dwz_def_reading.specs.Classes.{OfAddress, OfBlock, OfCommonEntry, OfCommonText, OfConstant, OfExpression, OfFlag, OfIndex}
use Rattle.dwz_def_reading.specs.Classes.{Class}
use Rattle.dwz_def_reading.specs.Meanings.{MeaningContext}
use Rattle.dwz_def_reading.specs.Classes.{OfInfoEntry, OfListIndex, OfOffset, OfSignature, OfText, OfTextBySlot, OfTextInLineStr, OfTextInStr, OfUnitEntry, Unread}
use Rattle.dwz_def_reading.specs.Classes.{class_of}
use Rattle.dwz_def_reading.specs.Meant.{attr_with}
use Rattle.dwz_def_reading.specs.Meanings.{constant_value, number_of, offset_of, stmt_list, target_of, targets}
use Rattle.dwz_def_reading.specs.Classes.{names_file, names_list}
use Rattle.dwz_def_reading.specs.Meant.{meaning}
use Rattle.dwz_def_reading.proofs.MeaningLemmas.{value_agrees}
use Rattle.dwz_def_plan.specs.Plan.{pins, uleb_targets}
use Rattle.dwz_graph.specs.Named.{value_refs}
use Rattle.dwz_def_tops.proofs.Targets.{or_first, or_second}
use Rattle.dwz_move.specs.Bound.{AreInto, is_expression}
use Rattle.dwz_graph.specs.Names.{top_in}
use Rattle.dwz_move.specs.Marked.{asked_tops, expression_names, expression_pins, in_expression, is_asked}
use Rattle.dwz_move.specs.Values.{is_entry}

-- ---- names in tops

pub is_top : (n : ℕ) (s : EntryName) → (is_in n s ≡ true) ↔ (top_in s ≡ Some n)
is_top n (Within t path) = (λ e. ap (λ (k : ℕ). Some k) (eqb-true t n e), λ e. eq-eqb t n (let s : t ≡ n = cc in s))
is_top n (UnitOf u) = (λ e. absurd (false≢true e), λ e. absurd cc)
is_top n (RootOf u) = (λ e. absurd (false≢true e), λ e. absurd cc)
is_top n (SpaceAt u p) = (λ e. absurd (false≢true e), λ e. absurd cc)
is_top n (InType u p) = (λ e. absurd (false≢true e), λ e. absurd cc)
is_top n (PartialOf u) = (λ e. absurd (false≢true e), λ e. absurd cc)
is_top n (PartialRoot u) = (λ e. absurd (false≢true e), λ e. absurd cc)
is_top n (InChain p c d) = (λ e. absurd (false≢true e), λ e. absurd cc)
is_top n (Import u p) = (λ e. absurd (false≢true e), λ e. absurd cc)

-- the names of the operands that are asked for
asked_spots : Bool → List Operand → List EntryName → List EntryName
asked_spots u [] spots = []
asked_spots u (o ∷ os) [] = []
asked_spots u (o ∷ os) (s ∷ spots) = if is_asked u o then s ∷ asked_spots u os spots else asked_spots u os spots

abbrev Both : ℕ → Bool → List Operand → List EntryName → List (Option ℕ) → Type 0
Both n u os spots into = (list_any (is_in n) (asked_spots u os spots) ≡ true) ↔ In (Some n) (asked_tops u os into)

asked_same : (name : ℕ → EntryName) (n : ℕ) (u : Bool) (os : List Operand) (refs : List ℕ) (into : List (Option ℕ)) → length refs ≡ length os → AreInto name into refs
    → Both n u os (map name refs) into
unfolding asked_spots
asked_same name n u [] refs into many h = (λ e. absurd (false≢true e), λ i. absurd i)
asked_same name n u (o ∷ os) [] into many h = absurd (omega (arith, many))
asked_same name n u (o ∷ os) (p ∷ refs) [] many h = absurd h
asked_same name n u (o ∷ os) (p ∷ refs) (t ∷ into) many h = by (is_asked u o) (asked_same name n u os refs into (omega (arith, many)) h.1) where
  by : (b : Bool) → Both n u os (map name refs) into
      → (list_any (is_in n) (if b then name p ∷ asked_spots u os (map name refs) else asked_spots u os (map name refs)) ≡ true) ↔ In (Some n)
      (if b then t ∷ asked_tops u os into else asked_tops u os into)
  by true more = (
    λ e. ⊎_elim (λ x. inl (h.0 ∙ (is_top n (name p)).0 x)) (λ y. inr (more.0 y)) (or_cases (is_in n (name p)) (list_any (is_in n) (asked_spots u os (map name refs))) e),
    λ i. ⊎_elim (λ e. or_first (is_in n (name p)) _ ((is_top n (name p)).1 (sym h.0 ∙ e))) (λ j. or_second (is_in n (name p)) _ (more.1 j)) i,
  )
  by false more = more

all_asked : (os : List Operand) (spots : List EntryName) → length spots ≡ length os → asked_spots false os spots ≡ spots
unfolding asked_spots
all_asked [] [] many = refl
all_asked [] (s ∷ spots) many = absurd (omega (arith, many))
all_asked (o ∷ os) [] many = absurd (omega (arith, many))
all_asked (o ∷ os) (s ∷ spots) many = by o.uleb (all_asked os spots (omega (arith, many))) where
  by : (b : Bool) → asked_spots false os spots ≡ spots → (if b || true then s ∷ asked_spots false os spots else asked_spots false os spots) ≡ s ∷ spots
  by true e = ap (λ (w : List EntryName). s ∷ w) e
  by false e = ap (λ (w : List EntryName). s ∷ w) e

ulebs_asked : (at : ℕ) (bytes : List ℕ) (os : List Operand) (spots : List EntryName) → length spots ≡ length os → uleb_targets (parts_from at bytes os) spots ≡ asked_spots true os spots
unfolding asked_spots uleb_targets parts_from
ulebs_asked at bytes [] [] many = refl
ulebs_asked at bytes [] (s ∷ spots) many = absurd (omega (arith, many))
ulebs_asked at bytes (o ∷ os) [] many = absurd (omega (arith, many))
ulebs_asked at bytes (o ∷ os) (s ∷ spots) many = by o.uleb (ulebs_asked (o.at + o.width) (drop (o.at + o.width - at) bytes) os spots (omega (arith, many))) where
  by : (b : Bool) → uleb_targets (parts_from (o.at + o.width) (drop (o.at + o.width - at) bytes) os) spots ≡ asked_spots true os spots
      → (elim b as (λ _. List EntryName) [
        | true ↦ s ∷ uleb_targets (parts_from (o.at + o.width) (drop (o.at + o.width - at) bytes) os) spots
        | false ↦ uleb_targets (parts_from (o.at + o.width) (drop (o.at + o.width - at) bytes) os) spots
      ])
      ≡ (if b || false then s ∷ asked_spots true os spots else asked_spots true os spots)
  by true e = ap (λ (w : List EntryName). s ∷ w) e
  by false e = e

-- an expression names no top where it has no operand
some_operand : (at : ℕ) (bytes : List ℕ) (os : List Operand) (spots : List EntryName) (n : ℕ) → length spots ≡ length os → (list_any is_operand (parts_from at bytes os) && list_any (is_in n) spots)
    ≡ list_any (is_in n) spots
unfolding parts_from
some_operand at bytes [] [] n many = refl
some_operand at bytes [] (s ∷ spots) n many = absurd (omega (arith, many))
some_operand at bytes (o ∷ os) spots n many = refl

-- ---- values

module _ (s : MeaningContext ℕ) (a : RawAttr) (v : Value ℕ) where
  -- no expression
  abbrev IsOther : Type 0
  IsOther = (in_expression v.plain ≡ false) × (length (value_refs v) ≡ 0)

  other : (plain : Plain) → in_expression plain ≡ false → v ≡ only plain → (length (value_refs (only {P = ℕ} plain)) ≡ 0) → IsOther
  other plain e is z = (ap (λ (w : Value ℕ). in_expression w.plain) is ∙ e, ap (λ (w : Value ℕ). length (value_refs w)) is ∙ z)

  of_file : (o : Option ℕ) → IsFileBy o s (number_of a.raw) v → IsOther
  of_file None m = other _ refl m.1 refl
  of_file (Some place) m = other _ refl m.value refl

  constant : (file : Bool) → IfSo file (IsFileBy (stmt_list s) s (number_of a.raw) v) (v ≡ constant_value a) → IsOther
  constant true m = of_file (stmt_list s) m
  constant false m = other _ refl m refl

  list : (place : ℕ) → IsLocList s place v → IsOther
  list place m = (ap (λ (w : Value ℕ). in_expression w.plain) m.value, ap (λ (w : Value ℕ). length (value_refs w)) m.value)

  offset : (named : Bool) → IfSo named (IsLocList s (offset_of a) v) (v ≡ only (Sec (offset_of a))) → IsOther
  offset true m = list (offset_of a) m
  offset false m = other _ refl m refl

  abbrev Kinds : Class → Type 0
  Kinds c = (is_entry c ≡ true → (in_expression v.plain ≡ false) × (length (value_refs v) ≡ 1)) × (is_entry c ≡ false → is_expression c ≡ false → IsOther)

  plainly : (c : Class) → is_entry c ≡ false → IsOther → Kinds c
  plainly c e p = (λ is. absurd (let no : false ≡ true = sym e ∙ is in false≢true no), λ x y. p)

  entry : (c : Class) (p : ℕ) → is_entry c ≡ true → v ≡ ref p → Kinds c
  entry c p e is = (λ x. (ap (λ (w : Value ℕ). in_expression w.plain) is, ap (λ (w : Value ℕ). length (value_refs w)) is), λ no y. absurd (let q : false ≡ true = sym no ∙ e in false≢true q))

  kinds : (c : Class) → MeansAs c s a v → Kinds c
  kinds OfAddress m = plainly OfAddress refl (other _ refl m refl)
  kinds OfBlock m = plainly OfBlock refl (other _ refl m refl)
  kinds OfConstant m = plainly OfConstant refl (constant (names_file a.pair.name) m)
  kinds OfFlag m = plainly OfFlag refl (other _ refl m refl)
  kinds OfText m = plainly OfText refl (other _ refl m refl)
  kinds OfTextInStr m = plainly OfTextInStr refl (other _ refl m.value refl)
  kinds OfTextInLineStr m = plainly OfTextInLineStr refl (other _ refl m.value refl)
  kinds OfTextBySlot m = plainly OfTextBySlot refl (other _ refl m.text.value refl)
  kinds OfUnitEntry m = entry OfUnitEntry _ refl m.1
  kinds OfInfoEntry m = entry OfInfoEntry _ refl m.1
  kinds OfSignature m = plainly OfSignature refl (other _ refl m refl)
  kinds OfOffset m = plainly OfOffset refl (offset (names_list a.pair.name) m)
  kinds OfExpression m = (λ no. absurd (false≢true no), λ x y. absurd (false≢true (sym y)))
  kinds OfListIndex m = plainly OfListIndex refl (list _ m.list)
  kinds OfIndex m = plainly OfIndex refl (other _ refl m refl)
  kinds OfCommonEntry m = entry OfCommonEntry _ refl m.2.1
  kinds OfCommonText m = plainly OfCommonText refl (other _ refl m.2.value refl)
  kinds Unread m = absurd m

  pub value_kinds : meaning s a ≡ Ok v → Kinds (class_of a.pair.form)
  value_kinds e = kinds (class_of a.pair.form) (((value_agrees s a).ok v).0 e)

  module _ (name : ℕ → EntryName) where
    -- what is no expression names nothing
    pub no_names : in_expression v.plain ≡ false → (n : ℕ) → expression_names n (attr_map name (attr_with a v)) ≡ true → ⊥
    no_names e n h = false≢true ((λ i. sym e i && operand_names n (attr_map name (attr_with a v))) ∙ h)

    pub no_pins : in_expression v.plain ≡ false → (n : ℕ) → expression_pins n (attr_map name (attr_with a v)) ≡ true → ⊥
    no_pins e n h = false≢true ((λ i. sym e i && pins (is_in n) (attr_map name (attr_with a v))) ∙ h)

    module _ (m : IsExpression s a v) where
      abbrev os : List Operand
      os = m.expression.operands

      refs_are : v.refs ≡ targets s os
      refs_are = ap (λ (w : Value ℕ). w.refs) m.value

      pub refs_many : length (value_refs v) ≡ length os
      refs_many = ap (λ (w : Value ℕ). length (value_refs w)) m.value ∙ length-map os (λ (o : Operand). s.around.place (target_of s o))

      spots_many : length (map name (targets s os)) ≡ length os
      spots_many = length-map (targets s os) name ∙ length-map os (λ (o : Operand). s.around.place (target_of s o))

      places_many : length (targets s os) ≡ length os
      places_many = length-map os (λ (o : Operand). s.around.place (target_of s o))

      pub names_asked : (into : List (Option ℕ)) (n : ℕ) → AreInto name into (value_refs v) → (expression_names n (attr_map name (attr_with a v)) ≡ true) ↔ In (Some n) (asked_tops false os into)
      names_asked into n h =
          let here : AreInto name into (targets s os) = subst (λ (w : Value ℕ). AreInto name into (value_refs w)) m.value h in
          let same : expression_names n (attr_map name (attr_with a v)) ≡ list_any (is_in n) (asked_spots false os (map name (targets s os))) =
          ap (λ (w : Value ℕ). expression_names n (attr_map name (attr_with a w))) m.value
          ∙ some_operand m.expression.at m.expression.bytes os (map name (targets s os)) n spots_many
          ∙ ap (list_any (is_in n)) (sym (all_asked os (map name (targets s os)) spots_many)) in
          let both = asked_same name n false os (targets s os) into places_many here in
          (λ e. both.0 (sym same ∙ e), λ i. same ∙ both.1 i)

      pub pins_asked : (into : List (Option ℕ)) (n : ℕ) → AreInto name into (value_refs v) → (expression_pins n (attr_map name (attr_with a v)) ≡ true) ↔ In (Some n) (asked_tops true os into)
      pins_asked into n h =
          let here : AreInto name into (targets s os) = subst (λ (w : Value ℕ). AreInto name into (value_refs w)) m.value h in
          let same : expression_pins n (attr_map name (attr_with a v)) ≡ list_any (is_in n) (asked_spots true os (map name (targets s os))) =
          ap (λ (w : Value ℕ). expression_pins n (attr_map name (attr_with a w))) m.value
          ∙ ap (list_any (is_in n)) (ulebs_asked m.expression.at m.expression.bytes os (map name (targets s os)) spots_many) in
          let both = asked_same name n true os (targets s os) into places_many here in
          (λ e. both.0 (sym same ∙ e), λ i. same ∙ both.1 i)
