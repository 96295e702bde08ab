-- Fields behind a code are read as they are spelled, and fail with the faults that they have.
use Rattle.std.proofs.Common.{◌≡◌, ◌↔◌, ◌⊎◌, ℕ, ◌+◌, ◌-◌, true, false, List, [], ◌∷◌, ◌++◌, length, Result, Ok, Err, refl, sym, ap, subst, ◌∙◌, inl, inr, arith, append_assoc}
use Rattle.std.proofs.lemmas.List.{length-append}
use Rattle.dwz_model.specs.declared.fault.Fault.{Fault}
use Rattle.dwz_model.specs.declared.place.Base.TheVariants.{Unit as FromUnit}
use Rattle.dwz_bytes.specs.declared.error.ByteErr.{ByteErr}
use Rattle.dwz_bytes.specs.declared.error.ByteErr.TheVariants.{Short, Wide}
use Rattle.dwz_bytes.specs.Input.{Input}
use Rattle.dwz_bytes.specs.Laws.{IsCutShort}
use Rattle.dwz_bytes.specs.Spelling.{SpellsUleb, fits_u64, groups_value}
use Rattle.dwz_def_reading.specs.Exprs.{Counted, Entry4, EntryOrGeneric, EntryUleb, Expression, Field, FieldItem, Holds, Inside, InsideReader, IsFieldFault, IsFieldsFault, Located, LocatedBy, Run}
use Rattle.dwz_def_reading.specs.Exprs.{Signed}
use Rattle.dwz_def_reading.specs.Exprs.{Sized, SpellsField, SpellsFields, SpellsInside, SpellsPiece, Unsigned, an_address, an_operand, an_operand_or_generic, field_at, fields_at, inside_at, inside_of}
use Rattle.dwz_def_reading.specs.Exprs.{nothing, or_fault, piece_at}
use Rattle.dwz_def_reading.specs.Parts.{IsRead}
use Rattle.dwz_def_reading.specs.Sequences.{FaultAt, Spelling}
use Rattle.dwz_def_reading.specs.Values.{AreFewer, IsTooBig, SpellsRun}
use Rattle.dwz_def_reading.proofs.AgreeLemmas.{Agrees, Made, Next, OrNext, agrees_ok, and_with, in_words, then_made}
use Rattle.dwz_def_reading.proofs.ReadLemmas.{Never, Reads, block_reads, fixed_reads, run_reads, sleb_reads, uleb_reads}
use Rattle.dwz_def_reading.proofs.SequenceLemmas.{IsTaken, ReadsAs, ReadsWhole, both_read, input_of, read_words}

-- ---- what reads bytes, with one fault for all

abbrev pub CutOrBig : (List ℕ → Type 0) → (List ℕ → Type 0) → Fault → List ℕ → Fault → Type 0
CutOrBig IsCut IsBig bad bytes f = (f ≡ bad) × (IsCut bytes ⊎ IsBig bytes)

-- what is spelled at the front of an input is read
pub read_again : {X : Type 0} {Spells : List ℕ → X → Type 0} {IsCut IsBig : List ℕ → Type 0} {read : Input → Result (X × Input) ByteErr} → Reads Spells IsCut IsBig read → (i : Input) (y : X × Input)
    → IsRead Spells i y.1 y.0 → read i ≡ Ok y
read_again {X} {Spells} {IsCut} {IsBig} {read} r i y t =
    ap (λ (w : List ℕ). read (input_of i.at w)) t.parts
    ∙ r.again i.at y.0 t.front y.1.rest t.spelled
    ∙ ap (λ (n : ℕ). Ok (y.0, input_of n y.1.rest)) (sym t.place)

pub bytes_agree : {X : Type 0} {Spells : List ℕ → X → Type 0} {IsCut IsBig : List ℕ → Type 0} {read : Input → Result (X × Input) ByteErr} → Reads Spells IsCut IsBig read → (bad : Fault) (i : Input)
    → Agrees (or_fault bad (read i)) (λ y. IsRead Spells i y.1 y.0) (CutOrBig IsCut IsBig bad i.rest)
bytes_agree {X} {Spells} {IsCut} {IsBig} {read} r bad i = by (read i) refl where
  failed : (e : ByteErr) → read i ≡ Err e → IsCut i.rest ⊎ IsBig i.rest
  failed (Short a) is = inl (r.short_cut i a is)
  failed (Wide a) is = inr (r.wide_big i a is)

  fails : IsCut i.rest ⊎ IsBig i.rest → (e : ByteErr) × (read i ≡ Err e)
  fails (inl cut) = let s = r.cut_short i cut in (Short s.0, s.1)
  fails (inr big) = let s = r.big_wide i big in (Wide s.0, s.1)

  by : (o : Result (X × Input) ByteErr) → read i ≡ o → Agrees (or_fault bad o) (λ y. IsRead Spells i y.1 y.0) (CutOrBig IsCut IsBig bad i.rest)
  by (Ok x) is = record {
    ok = λ y. (
      λ same. r.found i y.1 y.0 (is ∙ let e : x ≡ y = cc in ap (λ (w : X × Input). Ok w) e),
      λ t. let again : read i ≡ Ok y = read_again r i y t in let e : x ≡ y = cc in ap (λ (w : X × Input). Ok w) e,
    );
    err = λ f. (λ same. absurd cc, λ h. absurd (let e = fails h.1 in let other = e.1 in cc));
  }
  by (Err e) is = record {
    ok = λ y. (λ same. absurd cc, λ t. absurd (let again : read i ≡ Ok y = read_again r i y t in cc));
    err = λ f. (λ same. (let e : bad ≡ f = cc in sym e, failed e is), λ h. ap (λ (w : Fault). Err w) (sym h.0));
  }

pub piece_reads : {X : Type 0} {Spells : List ℕ → X → Type 0} {IsCut IsBig : List ℕ → Type 0} {read : Input → Result (X × Input) ByteErr} → Reads Spells IsCut IsBig read
    → (bad : Fault) (seen : ℕ → ℕ → X → List FieldItem)
    → ReadsAs (piece_at bad read seen) (SpellsPiece Spells seen) (λ start bytes f. CutOrBig IsCut IsBig bad bytes f)
piece_reads {X} {Spells} {IsCut} {IsBig} {read} r bad seen = record { agrees = λ i. in_words (then_made (bytes_agree r bad i) (made i)) (words i) (λ f. (λ h. h, λ h. h)) } where
  made : Input → X × Input → List FieldItem × Input
  made i x = (seen i.at (x.1.at - i.at) x.0, x.1)

  words : (i : Input) (z : List FieldItem × Input) → Made (λ y. IsRead Spells i y.1 y.0) (made i) z ↔ IsTaken (SpellsPiece Spells seen) i z
  words i z = (
    λ h.
        let x = h.0 in
        let t = h.1 in
        let width : x.1.at - i.at ≡ length t.front = omega (arith, t.place) in
        let behind : z.1 ≡ x.1 = ap (λ (w : List FieldItem × Input). w.1) h.2 in
        record {
          front = t.front;
          spelled = record { value = x.0; spelled = t.spelled; found = ap (λ (w : List FieldItem × Input). w.0) h.2 ∙ ap (λ (n : ℕ). seen i.at n x.0) width };
          parts = t.parts ∙ ap (λ (k : Input). t.front ++ k.rest) (sym behind);
          place = ap (λ (k : Input). k.at) behind ∙ t.place;
        },
    λ t.
        let s = t.spelled in
        let width : length t.front ≡ z.1.at - i.at = omega (arith, t.place) in
        let found : z.0 ≡ seen i.at (z.1.at - i.at) s.value = s.found ∙ ap (λ (n : ℕ). seen i.at n s.value) width in
        ((s.value, z.1), record { front = t.front; spelled = s.spelled; parts = t.parts; place = t.place }, λ n. (found n, z.1)),
  )

-- ---- an expression behind its length

module _ (inner : InsideReader) (IsExpr : Spelling Expression) (ExprFails : Fault → FaultAt) (inner_reads : (bad : Fault) → ReadsWhole (inner bad) IsExpr (ExprFails bad)) (bad : Fault) where
  inside_words : (i : Input) (z : List FieldItem × Input)
      → Next (λ (n : ℕ × Input). IsRead SpellsUleb i n.1 n.0) (λ n. Next (λ (c : List ℕ × Input). IsRead (SpellsRun n.0) n.1 c.1 c.0) (λ c. Made (λ e. IsExpr e n.1.at c.0) (λ e. (Holds e ∷ [], c.1))))
      z
      ↔ IsTaken (SpellsInside IsExpr) i z
  inside_words i z = (
    λ h.
        let n = h.0 in
        let tn = h.1 in
        let c = h.2.0 in
        let tc = h.2.1 in
        let e = h.2.2.0 in
        let same : c.0 ≡ tc.front = tc.spelled.same in
        let count : n.0 ≡ length c.0 = sym tc.spelled.len ∙ ap length (sym same) in
        let behind : z.1 ≡ c.1 = ap (λ (w : List FieldItem × Input). w.1) h.2.2.2 in
        record {
          front = tn.front ++ c.0;
          spelled = record {
            front = tn.front;
            content = c.0;
            count = subst (SpellsUleb tn.front) count tn.spelled;
            expression = e;
            is = subst (λ (at : ℕ). IsExpr e at c.0) tn.place h.2.2.1;
            parts = refl;
            found = ap (λ (w : List FieldItem × Input). w.0) h.2.2.2;
          };
          parts = tn.parts ∙ ap (λ (w : List ℕ). tn.front ++ w) (tc.parts ∙ ap (λ (w : List ℕ). w ++ c.1.rest) (sym same)) ∙ sym (append_assoc tn.front c.0 c.1.rest)
              ∙ ap (λ (k : Input). (tn.front ++ c.0) ++ k.rest) (sym behind);
          place = ap (λ (k : Input). k.at) behind ∙ omega (arith, tc.place, tn.place, ap length same, length-append tn.front c.0);
        },
    λ t.
        let s = t.spelled in
        let middle : Input = record { at = i.at + length s.front; rest = s.content ++ z.1.rest } in (
          (length s.content, middle),
          record { front = s.front; spelled = s.count; parts = t.parts ∙ ap (λ (w : List ℕ). w ++ z.1.rest) s.parts ∙ append_assoc s.front s.content z.1.rest; place = refl },
          (
            (s.content, z.1),
            record { front = s.content; spelled = record { len = refl; same = refl }; parts = refl; place = t.place ∙ omega (arith, ap length s.parts, length-append s.front s.content) },
            (s.expression, s.is, λ n. (s.found n, z.1)),
          ),
        ),
  )

  abbrev UlebFails : Input → Fault → Type 0
  UlebFails i = CutOrBig IsCutShort (IsTooBig groups_value fits_u64) bad i.rest

  inside_faults : (i : Input) (f : Fault)
      → OrNext (UlebFails i) (λ (n : ℕ × Input). IsRead SpellsUleb i n.1 n.0)
      (λ n. OrNext (CutOrBig (AreFewer n.0) Never bad n.1.rest) (λ (c : List ℕ × Input). IsRead (SpellsRun n.0) n.1 c.1 c.0) (λ c. ExprFails bad n.1.at c.0)) f
      ↔ IsFieldFault (ExprFails bad) bad Inside i.at i.rest f
  inside_faults i f = (to, from) where
    to : OrNext (UlebFails i) (λ (n : ℕ × Input). IsRead SpellsUleb i n.1 n.0)
        (λ n. OrNext (CutOrBig (AreFewer n.0) Never bad n.1.rest) (λ (c : List ℕ × Input). IsRead (SpellsRun n.0) n.1 c.1 c.0) (λ c. ExprFails bad n.1.at c.0)) f
        → IsFieldFault (ExprFails bad) bad Inside i.at i.rest f
    to (inl (same, inl cut)) = inl (same, inl (inl cut))
    to (inl (same, inr big)) = inl (same, inr big)
    to (inr (n, t, inl (same, inl fewer))) = inl (same, inl (inr (record { front = t.front; rest = n.1.rest; count = n.0; spelled = t.spelled; too_few = fewer; parts = t.parts })))
    to (inr (n, t, inl (same, inr never))) = absurd never
    to (inr (n, t, inr (c, tc, fault))) =
        let same : c.0 ≡ tc.front = tc.spelled.same in
        let count : n.0 ≡ length c.0 = sym tc.spelled.len ∙ ap length (sym same) in
        inr (record {
          front = t.front;
          content = c.0;
          count = subst (SpellsUleb t.front) count t.spelled;
          rest = c.1.rest;
          parts = t.parts ∙ ap (λ (w : List ℕ). t.front ++ w) (tc.parts ∙ ap (λ (w : List ℕ). w ++ c.1.rest) (sym same));
          fault = subst (λ (at : ℕ). ExprFails bad at c.0 f) t.place fault;
        })

    from : IsFieldFault (ExprFails bad) bad Inside i.at i.rest f → OrNext (UlebFails i) (λ (n : ℕ × Input). IsRead SpellsUleb i n.1 n.0)
        (λ n. OrNext (CutOrBig (AreFewer n.0) Never bad n.1.rest) (λ (c : List ℕ × Input). IsRead (SpellsRun n.0) n.1 c.1 c.0) (λ c. ExprFails bad n.1.at c.0)) f
    from (inl (same, inl (inl cut))) = inl (same, inl cut)
    from (inl (same, inl (inr b))) = inr ((b.count, input_of (i.at + length b.front) b.rest), record { front = b.front; spelled = b.spelled; parts = b.parts; place = refl }, inl (same, inl b.too_few))
    from (inl (same, inr big)) = inl (same, inr big)
    from (inr b) = inr (
      (length b.content, input_of (i.at + length b.front) (b.content ++ b.rest)),
      record { front = b.front; spelled = b.count; parts = b.parts; place = refl },
      inr (
        (b.content, input_of (i.at + length b.front + length b.content) b.rest),
        record { front = b.content; spelled = record { len = refl; same = refl }; parts = refl; place = refl },
        b.fault,
      ),
    )

  inside_reads : ReadsAs (field_at inner bad Inside) (SpellsInside IsExpr) (IsFieldFault (ExprFails bad) bad Inside)
  inside_reads = record {
    agrees = λ i. in_words (and_with (bytes_agree uleb_reads bad i) (inside_at inner bad)
        (λ n. and_with (bytes_agree (run_reads n.0) bad n.1) (inside_of inner bad n.1.at)
        (λ c. then_made ((inner_reads bad).agrees (input_of n.1.at c.0)) (λ e. (Holds e ∷ [], c.1)))))
        (inside_words i) (inside_faults i);
  }

  -- ---- fields

  -- a field that isn't an expression
  piece : {X : Type 0} {Spells : List ℕ → X → Type 0} {IsCut IsBig : List ℕ → Type 0} {read : Input → Result (X × Input) ByteErr} → Reads Spells IsCut IsBig read → (seen : ℕ → ℕ → X → List FieldItem)
      → ReadsAs (piece_at bad read seen) (SpellsPiece Spells seen) (λ start bytes f. CutOrBig IsCut IsBig bad bytes f ⊎ ⊥)
  piece r seen = read_words (piece_reads r bad seen) (λ x start bytes. (λ h. h, λ h. h)) (λ start bytes f. (λ h. inl h, λ h. elim h [ inl is ↦ is | inr none ↦ absurd none ]))

  pub field_reads : (field : Field) → ReadsAs (field_at inner bad field) (SpellsField IsExpr field) (IsFieldFault (ExprFails bad) bad field)
  field_reads (Run n) = piece (run_reads n) nothing
  field_reads Unsigned = piece uleb_reads nothing
  field_reads Signed = piece sleb_reads nothing
  field_reads Sized = piece (block_reads _ _ _ _ (fixed_reads 1)) nothing
  field_reads Counted = piece (block_reads _ _ _ _ uleb_reads) nothing
  field_reads Located = piece (fixed_reads 8) an_address
  field_reads LocatedBy = piece uleb_reads an_address
  field_reads (Entry4 base) = piece (fixed_reads 4) (an_operand false base)
  field_reads EntryUleb = piece uleb_reads (an_operand true FromUnit)
  field_reads EntryOrGeneric = piece uleb_reads an_operand_or_generic
  field_reads Inside = inside_reads

  none_reads : ReadsAs (λ i. Ok ([], i)) (SpellsFields IsExpr []) (λ start bytes f. ⊥)
  none_reads = record { agrees = λ i. in_words (agrees_ok ([], i)) (words i) (λ f. (λ none. none, λ none. none)) } where
    words : (i : Input) (z : List FieldItem × Input) → (z ≡ ([], i)) ↔ IsTaken (SpellsFields IsExpr []) i z
    words i z = (
      λ same. record {
        front = [];
        spelled = (ap (λ (w : List FieldItem × Input). w.0) same, refl);
        parts = ap (λ (w : List FieldItem × Input). w.1.rest) (sym same);
        place = ap (λ (w : List FieldItem × Input). w.1.at) same ∙ omega arith;
      },
      λ t.
          let rest : z.1.rest ≡ i.rest = sym (t.parts ∙ ap (λ (w : List ℕ). w ++ z.1.rest) t.spelled.1) in
          let at : z.1.at ≡ i.at = t.place ∙ omega (arith, ap length t.spelled.1) in
          λ n. (t.spelled.0 n, record { at = at n; rest = rest n }),
    )

  pub fields_read : (fields : List Field) → ReadsAs (fields_at inner bad fields) (SpellsFields IsExpr fields) (IsFieldsFault IsExpr (ExprFails bad) bad fields)
  unfolding fields_at
  fields_read [] = none_reads
  fields_read (field ∷ fields) =
      both_read (field_at inner bad field) (λ _. fields_at inner bad fields) (SpellsField IsExpr field) (λ _. SpellsFields IsExpr fields)
      (IsFieldFault (ExprFails bad) bad field) (λ _. IsFieldsFault IsExpr (ExprFails bad) bad fields) (λ x y. x ++ y) (field_reads field) (λ _. fields_read fields)
