-- Operands of a list are looked up one after the other, and kept.
use Rattle.std.proofs.Common.{◌≡◌, ℕ, ◌+◌, ◌<◌, ◌≤◌, ◌^◌, true, false, List, [], ◌∷◌, ◌++◌, length, map, take, drop, get_or, Some, None, Result, Ok, Err, slice_get, refl, sym, ap, subst, ◌∙◌, inl}
use Rattle.std.proofs.Common.{inr, arith}
use Rattle.std.specs.Option.{option_map}
use Rattle.std.proofs.lemmas.Option.{get_or_from_slice_get, slice_get-get_or, slice_get-map}
use Rattle.std.proofs.lemmas.List.{append-nil, append_assoc, map-append, take-append-drop, take_all}
use Rattle.dwz_model.specs.declared.fault.Fault.{Fault}
use Rattle.dwz_model.specs.declared.fault.ReadErr.{ReadErr}
use Rattle.dwz_model.specs.declared.fault.ReadErr.TheVariants.{NoMemory, Refused}
use Rattle.dwz_model.specs.declared.place.Base.{Base}
use Rattle.dwz_model.specs.declared.place.Base.TheVariants.{Unit as FromUnit, Info as FromInfo}
use Rattle.dwz_def_reading.specs.Lists.{In}
use Rattle.dwz_def_reading.specs.Units.{RawUnit, entries_in}
use Rattle.dwz_def_reading.specs.declared.exprs.Operand.{Operand}
use Rattle.dwz_def_reading.specs.Exprs.{bad_operand, first_unnamed}
use Rattle.dwz_def_reading.specs.Meanings.{MeaningContext, expr_context, leads_to, target_of}
use Rattle.dwz_def_reading.specs.Meant.{list_read}
use Rattle.dwz_def_reading.specs.Shared.{of_unit}
use Rattle.dwz_def_reading.specs.Faults.{Fails}
use Rattle.dwz_def_reading.specs.Reading.{◌>>=◌}
use Rattle.dwz_def_reading.proofs.ListFacts.{drop_here, in_cases, in_left, in_right}
use Rattle.dwz_expr.specs.FirstFault.{unless_one}
use Rattle.dwz_lists.specs.Entries.{with_before}
use Rattle.dwz_graph_resolve.specs.declared.lists.ListRow.{ListRow}
use Rattle.dwz_graph_resolve.specs.declared.list_parts.Stop.{Stop}
use Rattle.dwz_graph_resolve.specs.ListParts.{ReadsUp}
use Rattle.dwz_graph_resolve.specs.declared.operands.ListOperand.{ListOperand}
use Rattle.dwz_graph_resolve.specs.ListRows.{IsOfFile, number_for, operand_view, start_of}
use Rattle.dwz_graph_resolve.specs.ListSteps.{AreOperands, NamesRows}
use Rattle.dwz_graph_resolve.specs.Operands.{IsUnnamed, is_named}
use Rattle.dwz_graph_resolve.specs.Places.{place_at}
use Rattle.dwz_graph_resolve.proofs.OperandSteps.{first_of, one_named, one_unnamed}
use Rattle.dwz_unit.proofs.RowsFound.{take_here}

pub start_is : (raw : List RawUnit) (n : ℕ) (u : RawUnit) → slice_get raw n ≡ Some u → start_of raw n ≡ u.at
start_is raw n u is = get_or_from_slice_get (map (λ (x : RawUnit). x.at) raw) n u.at 0 (slice_get-map (λ (x : RawUnit). x.at) raw n ∙ ap (option_map (λ (x : RawUnit). x.at)) is)

number_is : (s : MeaningContext ℕ) (base : Base) (number : ℕ) → number_for base s.unit (leads_to s base number) ≡ number
number_is s FromUnit number = omega arith
number_is s FromInfo number = refl

pub view_is : (raw : List RawUnit) (s : MeaningContext ℕ) (k : ListOperand) (o : Operand) → start_of raw k.unit ≡ s.unit → k.at ≡ o.at → k.width ≡ o.width → k.uleb ≡ o.uleb → k.base ≡ o.base
    → k.place.offset ≡ target_of s o → operand_view raw k ≡ of_unit s.unit o
view_is raw s k o start at width uleb base place =
    let number : number_for k.base (start_of raw k.unit) k.place.offset ≡ o.number = (λ i. number_for (base i) (start i) (place i)) ∙ number_is s o.base o.number in
    (λ i. record { unit = start i; operand = record { at = at i; width = width i; uleb = uleb i; base = base i; number = number i } })

-- an operand that was kept is of the file
pub of_file_here : (raw : List RawUnit) (file n entry : ℕ) (o : ListOperand) → n < length raw → entry < entries_in raw → o.unit ≡ n → o.entry ≡ entry → o.place.offset ≡ place_at raw entry
    → o.place.file ≡ file → IsOfFile raw file o
of_file_here raw file n entry o low within unit is at of =
    record { unit = omega arith; entry = omega arith; at = ap (place_at raw) is ∙ sym at; file = of }

module _ (raw : List RawUnit) (file : ℕ) (s : MeaningContext ℕ) (operands : List Operand) where
  pub kept_none : (old : List ListOperand) → AreOperands raw file s (take 0 operands) old old
  unfolding first_unnamed
  kept_none old = record { more = []; added = sym (append-nil old); views = λ small. refl; of_file = λ o is. absurd is; named = refl }

  pub kept_more : (old mid new : List ListOperand) (k : ℕ) (d : Operand) (x : ListOperand) → k < length operands → is_named s (get_or operands k d) ≡ true → new ≡ mid ++ x ∷ [] → IsOfFile raw file x
      → ((get_or operands k d).at < 2 ^ 32 → operand_view raw x ≡ of_unit s.unit (get_or operands k d)) → AreOperands raw file s (take k operands) old mid
      → AreOperands raw file s (take (k + 1) operands) old new
  kept_more old mid new k d x lt named e own view h =
      let o = get_or operands k d in
      subst (λ (w : List Operand). AreOperands raw file s w old new) (sym (take_here operands k o (slice_get-get_or operands k d lt))) (record {
        more = h.more ++ x ∷ [];
        added = e ∙ ap (λ (w : List ListOperand). w ++ x ∷ []) h.added ∙ append_assoc old h.more (x ∷ []);
        views = λ small.
            map-append (operand_view raw) h.more (x ∷ [])
            ∙ (λ j. h.views (λ p is. small p (in_left p (take k operands) (o ∷ []) is)) j ++ view (small o (in_right o (take k operands) (o ∷ []) (inl refl))) j ∷ [])
            ∙ sym (map-append (of_unit s.unit) (take k operands) (o ∷ []));
        of_file = λ p is. elim (in_cases p h.more (x ∷ []) is) [
          | inl here ↦ h.of_file p here
          | inr there ↦ last p there
        ];
        named = first_of (is_named s) (take k operands) (o ∷ []) h.named ∙ one_named (is_named s) o named;
      }) where
        last : (p : ListOperand) → In p (x ∷ []) → IsOfFile raw file p
        last p (inl same) = subst (λ (y : ListOperand). IsOfFile raw file y) same own
        last p (inr there) = absurd there

  pub kept_unnamed : (old mid : List ListOperand) (k : ℕ) (d : Operand) → k < length operands → is_named s (get_or operands k d) ≡ false → AreOperands raw file s (take k operands) old mid
      → IsUnnamed s 7 operands (bad_operand (expr_context s 7) (get_or operands k d).at)
  kept_unnamed old mid k d lt none h =
      let o = get_or operands k d in
      record {
        operand = o;
        first = ap (first_unnamed (is_named s)) (sym (take-append-drop k operands) ∙ ap (λ (w : List Operand). take k operands ++ w) (drop_here operands k o (slice_get-get_or operands k d lt)))
            ∙ first_of (is_named s) (take k operands) (o ∷ drop (k + 1) operands) h.named ∙ one_unnamed (is_named s) o (drop (k + 1) operands) none;
        placed = refl;
      }

  pub kept_all : (old new : List ListOperand) (k : ℕ) → length operands ≤ k → AreOperands raw file s (take k operands) old new → AreOperands raw file s operands old new
  kept_all old new k le h = subst (λ (w : List Operand). AreOperands raw file s w old new) (take_all k operands le) h

pub kept_fail : (raw : List RawUnit) (file : ℕ) (s : MeaningContext ℕ) (operands : List Operand) (old new : List ListOperand) (e : ReadErr) (f : Fault) → e ≡ Refused f → IsUnnamed s 7 operands f
    → NamesRows {Y = Unit {0}} raw file s operands old new (Err e)
kept_fail raw file s operands old new NoMemory f is h = tt
kept_fail raw file s operands old new (Refused g) f is h = let same : g ≡ f = cc in subst (λ (x : Fault). IsUnnamed s 7 operands x) (sym same) h

-- ---- a list that is read

module _ (raw : List RawUnit) (file : ℕ) (s : MeaningContext ℕ) (place : ℕ) (operands : List Operand) (rows : List ListRow) (marks : List ℕ) (n : ℕ) (places : List ℕ) where
  -- where one of the operands names no entry
  pub list_unnamed : (e : ReadErr) (r : Result Stop ReadErr) (old new : List ListOperand) → (r ≡ Err NoMemory → ⊥) → ReadsUp s.around.sources.lists rows marks n place operands places r
      → NamesRows {Y = Unit {0}} raw file s operands old new (Err e) → Fails e (list_read s place)
  list_unnamed NoMemory r old new some w h = tt
  list_unnamed (Refused f) (Ok x) old new some w h =
      w.part.leads (expr_context s 7) refl ∙ ap (unless_one (expr_context s 7) (list_read s w.to >>= with_before w.part.exprs)) h.first ∙ ap (λ (x : Fault). Err x) (sym h.placed)
  list_unnamed (Refused f) (Err NoMemory) old new some w h = absurd (some refl)
  list_unnamed (Refused f) (Err (Refused g)) old new some w h = w (expr_context s 7) refl ∙ ap (unless_one (expr_context s 7) (Err g)) h.first ∙ ap (λ (x : Fault). Err x) (sym h.placed)

  -- where each does
  refused_by : (e : ReadErr) → ReadsUp s.around.sources.lists rows marks n place operands places (Err e) → first_unnamed (is_named s) operands ≡ None → Fails e (list_read s place)
  refused_by NoMemory w none = tt
  refused_by (Refused f) w none = w (expr_context s 7) refl ∙ ap (unless_one (expr_context s 7) (Err f)) none

  pub list_refused : (r : Result Stop ReadErr) (e : ReadErr) → r ≡ Err e → ReadsUp s.around.sources.lists rows marks n place operands places r → first_unnamed (is_named s) operands ≡ None
      → Fails e (list_read s place)
  list_refused r e is w none = refused_by e (subst (λ (x : Result Stop ReadErr). ReadsUp s.around.sources.lists rows marks n place operands places x) is w) none

-- what the call on the code's own rows says
pub ups_row : (section : List ℕ) (n place : ℕ) (rows rows' : List ListRow) (marks marks' : List ℕ) (operands operands' : List Operand) (places : List ℕ) (r : Result Stop ReadErr) → rows' ≡ rows
    → marks' ≡ marks → operands' ≡ operands → ReadsUp section rows' marks' n place operands places r → ReadsUp section rows marks n place operands' places r
ups_row section n place rows rows' marks marks' operands operands' places r same marked shown w =
    subst (λ (xs : List Operand). ReadsUp section rows marks n place xs places r) (sym shown)
    (subst (λ (xs : List ℕ). ReadsUp section rows xs n place operands places r) marked (subst (λ (xs : List ListRow). ReadsUp section xs marks' n place operands places r) same w))
