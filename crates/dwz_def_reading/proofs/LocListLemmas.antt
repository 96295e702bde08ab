-- Location lists are read as they are spelled, and fail with the faults that they have.
use Rattle.std.proofs.Common.{◌≡◌, ◌≢◌, ◌↔◌, ℕ, suc, ◌+◌, ◌<◌, ◌≤◌, Bool, true, false, cond, eqb, List, [], ◌∷◌, ◌++◌, length, take, drop, Option, Some, None, Ok, refl, sym, ap, subst, ◌∙◌, arith}
use Rattle.std.proofs.lemmas.Bool.{eqb-false, eqb-true}
use Rattle.std.proofs.lemmas.List.{length-append, length-take, take-append-drop}
use Rattle.dwz_model.specs.declared.fault.Fault.{Fault}
use Rattle.dwz_bytes.specs.Input.{Input, input}
use Rattle.dwz_bytes.specs.Reading.{◌>>=◌}
use Rattle.dwz_bytes.proofs.LebLemmas.{drop-front}
use Rattle.dwz_codes.specs.ListKinds.{list_kind_rows}
use Rattle.dwz_def_reading.specs.Exprs.{ExprContext, Field, FieldItem, IsFaultWithin, SpellsExpr, SpellsFields, expr_within, fields_at, fields_of, most_inside}
use Rattle.dwz_def_reading.specs.LocLists.{EndsList, IsKindFault, IsListEntryFault, IsListFault, LocList, SpellsList, SpellsListEntry, bad_list, behind_kind, entry_by, entry_in, list_at, list_entry_at}
use Rattle.dwz_def_reading.specs.LocLists.{list_of}
use Rattle.dwz_def_reading.specs.Sequences.{FaultAt, Reader, Spelling, SpellsRow, StandsFrom, after_row_item, read_from, row_at}
use Rattle.dwz_def_reading.specs.Values.{shape_of}
use Rattle.dwz_def_reading.proofs.AgreeLemmas.{Agrees, Made, agrees_err, agrees_ok, in_words, then_made}
use Rattle.dwz_def_reading.proofs.ExprLemmas.{within_reads}
use Rattle.dwz_def_reading.proofs.FieldLemmas.{fields_read}
use Rattle.dwz_def_reading.proofs.SequenceLemmas.{IsTaken, ReadsAs, input_of}
use Rattle.dwz_def_reading.proofs.SequenceEnds.{OrEnd, row_begins, row_read}

-- ---- at a place of a section

-- what is read at a place is what stands there
pub stands_agree : {X : Type 0} {read : Reader X} {Spells : Spelling X} {Fails : FaultAt} → ReadsAs read Spells Fails → (section : List ℕ) (place : ℕ) → place ≤ length section
    → Agrees (read_from read section place) (StandsFrom Spells section place) (Fails place (drop place section))
stands_agree {X} {read} {Spells} {Fails} r section place within = in_words (then_made (r.agrees (input section place)) (λ (x : X × Input). x.0)) words (λ f. (λ h. h, λ h. h)) where
  len : length (take place section) ≡ place
  len = omega (arith, length-take place section)

  words : (x : X) → Made (IsTaken Spells (input section place)) (λ (x : X × Input). x.0) x ↔ StandsFrom Spells section place x
  words x = (
    λ h.
        let t = h.1 in
        record {
          before = take place section;
          front = t.front;
          after = h.0.1.rest;
          length_before = len;
          spelled = subst (λ (y : X). Spells y place t.front) (sym h.2) t.spelled;
          parts = sym (take-append-drop place section) ∙ ap (λ (w : List ℕ). take place section ++ w) t.parts;
        },
    λ s.
        let at : drop place section ≡ s.front ++ s.after = ap (λ (n : ℕ). drop n section) (sym s.length_before) ∙ ap (drop (length s.before)) s.parts ∙ drop-front s.before (s.front ++ s.after) in
        ((x, input_of (place + length s.front) s.after), record { front = s.front; spelled = s.spelled; parts = at; place = refl }, refl),
  )

-- ---- an entry

module _ (c : ExprContext) where
  fields_of_entry : (at : ℕ) (fields : List Field) → ReadsAs (fields_at (expr_within c (suc most_inside)) (bad_list at) fields) (SpellsFields (SpellsExpr c) fields) (IsKindFault c at (Some fields))
  fields_of_entry at fields = fields_read (expr_within c (suc most_inside)) (SpellsExpr c) (IsFaultWithin c (suc most_inside)) (λ bad. within_reads c (suc most_inside) bad) (bad_list at) fields

  kind_words : (at kind : ℕ) (rest : List ℕ) (fields : List Field) → kind ≢ 0 → fields_of (shape_of list_kind_rows kind) ≡ Some fields → (z : Option (List FieldItem) × Input)
      → Made (IsTaken (SpellsFields (SpellsExpr c) fields) (input_of (at + 1) rest)) (λ x. (Some x.0, x.1)) z ↔ IsTaken (OrEnd (SpellsListEntry c) EndsList) (input_of at (kind ∷ rest)) z
  kind_words at kind rest fields some laid z = (to, from z) where
    to : Made (IsTaken (SpellsFields (SpellsExpr c) fields) (input_of (at + 1) rest)) (λ x. (Some x.0, x.1)) z → IsTaken (OrEnd (SpellsListEntry c) EndsList) (input_of at (kind ∷ rest)) z
    to h =
        let x = h.0 in
        let t = h.1 in
        subst (IsTaken (OrEnd (SpellsListEntry c) EndsList) (input_of at (kind ∷ rest))) (sym h.2) (record {
          front = kind ∷ t.front;
          spelled = record { kind = kind; rest = t.front; parts = refl; no_end = some; fields = fields; laid = laid; spelled = t.spelled };
          parts = ap (λ (w : List ℕ). kind ∷ w) t.parts;
          place = t.place ∙ omega arith;
        })

    from : (z : Option (List FieldItem) × Input) → IsTaken (OrEnd (SpellsListEntry c) EndsList) (input_of at (kind ∷ rest)) z
        → Made (IsTaken (SpellsFields (SpellsExpr c) fields) (input_of (at + 1) rest)) (λ x. (Some x.0, x.1)) z
    from (None, j) t =
        let both : kind ∷ rest ≡ 0 ∷ j.rest = t.parts ∙ ap (λ (w : List ℕ). w ++ j.rest) t.spelled in
        let same : kind ≡ 0 = cc in
        absurd (some same)
    from (Some founds, j) t =
        let s = t.spelled in
        let both : kind ∷ rest ≡ s.kind ∷ (s.rest ++ j.rest) = t.parts ∙ ap (λ (w : List ℕ). w ++ j.rest) s.parts in
        let same_kind : kind ≡ s.kind = cc in
        let same_rest : rest ≡ s.rest ++ j.rest = cc in
        let laid_too : Some fields ≡ Some s.fields = sym laid ∙ ap (λ (n : ℕ). fields_of (shape_of list_kind_rows n)) same_kind ∙ s.laid in
        let same_fields : s.fields ≡ fields = cc in (
          (founds, j),
          record {
            front = s.rest;
            spelled = subst (λ (w : List Field). SpellsFields (SpellsExpr c) w founds (at + 1) s.rest) same_fields s.spelled;
            parts = same_rest;
            place = t.place ∙ omega (arith, ap length s.parts);
          },
          refl,
        )

  kind_agrees : (at kind : ℕ) (rest : List ℕ) (laid : Option (List Field)) → kind ≢ 0 → fields_of (shape_of list_kind_rows kind) ≡ laid
      → Agrees (entry_by c at laid (behind_kind at rest)) (IsTaken (OrEnd (SpellsListEntry c) EndsList) (input_of at (kind ∷ rest))) (IsKindFault c at laid (at + 1) rest)
  kind_agrees at kind rest None some none = in_words (agrees_err (bad_list at)) (λ z. (λ no. absurd no, out z)) (λ f. (λ same. same, λ same. same)) where
    out : (z : Option (List FieldItem) × Input) → IsTaken (OrEnd (SpellsListEntry c) EndsList) (input_of at (kind ∷ rest)) z → ⊥
    out (None, j) t =
        let both : kind ∷ rest ≡ 0 ∷ j.rest = t.parts ∙ ap (λ (w : List ℕ). w ++ j.rest) t.spelled in
        let same : kind ≡ 0 = cc in
        some same
    out (Some founds, j) t =
        let s = t.spelled in
        let both : kind ∷ rest ≡ s.kind ∷ (s.rest ++ j.rest) = t.parts ∙ ap (λ (w : List ℕ). w ++ j.rest) s.parts in
        let same_kind : kind ≡ s.kind = cc in
        let laid_too : None ≡ Some s.fields = sym none ∙ ap (λ (n : ℕ). fields_of (shape_of list_kind_rows n)) same_kind ∙ s.laid in
        absurd cc
  kind_agrees at kind rest (Some fields) some laid =
      in_words (then_made ((fields_of_entry at fields).agrees (input_of (at + 1) rest)) (λ x. (Some x.0, x.1))) (kind_words at kind rest fields some laid) (λ f. (λ h. h, λ h. h))

  entry_agrees : (at : ℕ) (bytes : List ℕ) → Agrees (entry_in c at bytes) (IsTaken (OrEnd (SpellsListEntry c) EndsList) (input_of at bytes)) (IsListEntryFault c at bytes)
  entry_agrees at [] = in_words (agrees_err (bad_list at)) (λ z. (λ no. absurd no, out z)) (λ f. (λ same. same, λ same. same)) where
    out : (z : Option (List FieldItem) × Input) → IsTaken (OrEnd (SpellsListEntry c) EndsList) (input_of at []) z → ⊥
    out (None, j) t = omega (arith, ap length t.parts, ap length t.spelled, length-append t.front j.rest)
    out (Some founds, j) t = let s = t.spelled in omega (arith, ap length t.parts, ap length s.parts, length-append t.front j.rest)
  entry_agrees at (kind ∷ rest) = by (eqb kind 0) refl where
    ended : kind ≡ 0 → (z : Option (List FieldItem) × Input) → IsTaken (OrEnd (SpellsListEntry c) EndsList) (input_of at (kind ∷ rest)) z → z ≡ (None, behind_kind at rest)
    ended zero (None, j) t =
        let both : kind ∷ rest ≡ 0 ∷ j.rest = t.parts ∙ ap (λ (w : List ℕ). w ++ j.rest) t.spelled in
        let same_rest : rest ≡ j.rest = cc in
        let same_at : j.at ≡ at + 1 = t.place ∙ ap (λ (w : List ℕ). at + length w) t.spelled in
        λ n. (None, record { at = same_at n; rest = (sym same_rest) n })
    ended zero (Some founds, j) t =
        let s = t.spelled in
        let both : kind ∷ rest ≡ s.kind ∷ (s.rest ++ j.rest) = t.parts ∙ ap (λ (w : List ℕ). w ++ j.rest) s.parts in
        let same_kind : kind ≡ s.kind = cc in
        absurd (s.no_end (sym same_kind ∙ zero))

    by : (b : Bool) → eqb kind 0 ≡ b → Agrees (cond b (Ok (None, behind_kind at rest)) (entry_by c at (fields_of (shape_of list_kind_rows kind)) (behind_kind at rest)))
        (IsTaken (OrEnd (SpellsListEntry c) EndsList) (input_of at (kind ∷ rest))) (IsListEntryFault c at (kind ∷ rest))
    by true is =
        let zero : kind ≡ 0 = eqb-true kind 0 is in
        in_words (agrees_ok (None, behind_kind at rest))
        (λ z. (
          λ same. subst (IsTaken (OrEnd (SpellsListEntry c) EndsList) (input_of at (kind ∷ rest))) (sym same)
              (record { front = kind ∷ []; spelled = ap (λ (k : ℕ). k ∷ []) zero; parts = refl; place = refl }),
          ended zero z,
        ))
        (λ f. (λ none. absurd none, λ h. h.0 zero))
    by false is =
        let some : kind ≢ 0 = eqb-false kind 0 is in
        in_words (kind_agrees at kind rest (fields_of (shape_of list_kind_rows kind)) some refl) (λ z. (λ h. h, λ h. h)) (λ f. (λ h. (some, h), λ h. h.1))

  entry_reads : ReadsAs (list_entry_at c) (OrEnd (SpellsListEntry c) EndsList) (IsListEntryFault c)
  unfolding list_entry_at
  entry_reads = record { agrees = λ i. entry_agrees i.at i.rest }

  entry_takes : (founds : List FieldItem) (start : ℕ) (bytes : List ℕ) → SpellsListEntry c founds start bytes → 0 < length bytes
  entry_takes founds start bytes s = omega (arith, ap length s.parts)

  -- ---- a list

  pub list_reads : ReadsAs (list_at c) (SpellsList c) (IsListFault c)
  unfolding list_at
  list_reads = record {
    agrees = λ i. in_words (then_made ((row_read (list_entry_at c) (SpellsListEntry c) EndsList (IsListEntryFault c) entry_reads entry_takes (bad_list i.at)).agrees i) made)
        (words i) (λ f. (λ h. h, λ h. h));
  } where
    made : List (List FieldItem) × Input → LocList × Input
    made x = (list_of x.0 x.1.at, x.1)

    words : (i : Input) (z : LocList × Input) → Made (IsTaken (SpellsRow (SpellsListEntry c) EndsList) i) made z ↔ IsTaken (SpellsList c) i z
    words i z = (
      λ h.
          let x = h.0 in
          let t = h.1 in
          subst (IsTaken (SpellsList c) i) (sym h.2)
          (record { front = t.front; spelled = record { entries = x.0; spelled = t.spelled; exprs = refl; end = t.place }; parts = t.parts; place = t.place }),
      λ t.
          let s = t.spelled in
          let end : z.0.end ≡ z.1.at = s.end ∙ sym t.place in
          ((s.entries, z.1), record { front = t.front; spelled = s.spelled; parts = t.parts; place = t.place }, λ n. (record { exprs = s.exprs n; end = end n }, z.1)),
    )

  -- the entries of a list are the first of them, or their end, and those behind it
  pub row_goes_on : (stop : Fault) (i : Input) → row_at (list_entry_at c) stop i ≡ (list_entry_at c i >>= after_row_item (row_at (list_entry_at c) stop))
  row_goes_on stop i = row_begins (list_entry_at c) (SpellsListEntry c) EndsList (IsListEntryFault c) entry_reads entry_takes stop i
