-- Attributes are read as they are spelled, and fail with the faults that they have.
use Rattle.std.proofs.Common.{◌≡◌, ℕ, ◌+◌, inl, inr, List, [], ◌∷◌, ◌++◌, length, Result, Ok, Err, refl, sym, ap}
use Rattle.std.proofs.Common.{subst, ◌∙◌, append_assoc, arith}
use Rattle.std.proofs.lemmas.List.{length-append}
use Rattle.dwz_model.specs.declared.fault.Fault.{Fault}
use Rattle.dwz_model.specs.declared.place.Pair.{Pair}
use Rattle.dwz_bytes.specs.Input.{Input}
use Rattle.dwz_bytes.specs.Reading.{◌>>=◌}
use Rattle.dwz_codes.specs.Rows.{RowView}
use Rattle.dwz_def_reading.specs.Entries.{IsAttr, IsAttrFault, RawAttr, SpellsAttrs}
use Rattle.dwz_def_reading.specs.Entries.{attrs_at, fault_in_entry, in_entry}
use Rattle.dwz_def_reading.specs.Entries.{with_value}
use Rattle.dwz_def_reading.specs.Values.{IsValueFault, Raw, SpellsValue, shape_of, value_at}
use Rattle.dwz_def_reading.proofs.PartLemmas.{bind_err, bind_ok, same_error, same_input, same_value}
use Rattle.dwz_def_reading.proofs.ReadLemmas.{regrouped}
use Rattle.dwz_def_reading.proofs.TreeLemmas.{Takes, Takes-then, input_at}
use Rattle.dwz_def_reading.proofs.ValueLemmas.{ValueLaws, shape_laws}

-- ---- bytes of two parts

pub place_behind : (start : ℕ) (bytes front back : List ℕ) → bytes ≡ front ++ back → start + length front + length back ≡ start + length bytes
place_behind start bytes front back parts = omega (arith, ap length parts, length-append front back)

module _ (rows : List RowView) where
  -- ---- one value

  values : (pair : Pair) → ValueLaws (SpellsValue rows pair) (value_at rows pair) (IsValueFault rows pair)
  values pair = shape_laws (shape_of rows pair.form) pair

  in_entry_ok : {X : Type 0} (entry : ℕ) (r : Result X Fault) (x : X) → in_entry entry r ≡ Ok x → r ≡ Ok x
  in_entry_ok {X} entry (Ok y) x e = let same : y ≡ x = cc in ap (λ (w : X). Ok w) same
  in_entry_ok entry (Err d) x e = absurd cc

  in_entry_err : {X : Type 0} (entry : ℕ) (r : Result X Fault) (f : Fault) → in_entry entry r ≡ Err f → (g : Fault) × (r ≡ Err g) × (f ≡ fault_in_entry entry g)
  in_entry_err entry (Ok y) f e = absurd cc
  in_entry_err entry (Err d) f e = (d, refl, same_error f (fault_in_entry entry d) (Err f) refl (sym e))

  -- ---- attributes: what is read is spelled

  -- the values behind the first
  abbrev others_at : ℕ → List Pair → ℕ → Pair → Raw × Input → Result (List RawAttr × Input) Fault
  others_at entry pairs at pair x = attrs_at rows entry pairs x.1 >>= with_value at x.1.at pair x.0

  pub record AttrsRead (pairs : List Pair) (i j : Input) (attrs : List RawAttr) : Type 0 where
    pub bytes : List ℕ
    pub spelled : SpellsAttrs rows pairs attrs i.at bytes
    pub takes : Takes i bytes j

  pub attrs_found : (pairs : List Pair) (entry : ℕ) (i j : Input) (attrs : List RawAttr) → attrs_at rows entry pairs i ≡ Ok (attrs, j) → AttrsRead pairs i j attrs
  unfolding attrs_at
  attrs_found [] entry i j attrs e =
      let same : [] ≡ attrs = same_value [] attrs i j (attrs_at rows entry [] i) refl e in
      let to : i ≡ j = same_input [] attrs i j (attrs_at rows entry [] i) refl e in
      let none : AttrsRead [] i i [] = record { bytes = []; spelled = refl; takes = record { parts = refl; place = omega arith } } in
      subst (λ (w : List RawAttr). AttrsRead [] i j w) same (subst (λ (w : Input). AttrsRead [] i w []) to none)
  attrs_found (pair ∷ pairs) entry i j attrs e =
      let a = bind_ok (in_entry entry (value_at rows pair i)) (others_at entry pairs i.at pair) (attrs, j) e in
      let x = a.0 in
      let v = (values pair).found i x.1 x.0 (in_entry_ok entry (value_at rows pair i) x a.1) in
      let b = bind_ok (attrs_at rows entry pairs x.1) (with_value i.at x.1.at pair x.0) (attrs, j) a.2 in
      let more = attrs_found pairs entry x.1 b.0.1 b.0.0 b.1 in
      let first : RawAttr = record { at = i.at; end = x.1.at; pair = pair; raw = x.0 } in
      let same : first ∷ b.0.0 ≡ attrs = same_value (first ∷ b.0.0) attrs b.0.1 j (with_value i.at x.1.at pair x.0 b.0) refl b.2 in
      let to : b.0.1 ≡ j = same_input (first ∷ b.0.0) attrs b.0.1 j (with_value i.at x.1.at pair x.0 b.0) refl b.2 in
      let one : AttrsRead (pair ∷ pairs) i b.0.1 (first ∷ b.0.0) = record {
        bytes = v.front ++ more.bytes;
        spelled = record {
          first_bytes = v.front;
          first = record { place = refl; end = v.place; same = refl; value = v.spelled };
          second_bytes = more.bytes;
          second = subst (λ (at : ℕ). SpellsAttrs rows pairs b.0.0 at more.bytes) v.place more.spelled;
          parts = refl;
        };
        takes = Takes-then i x.1 b.0.1 v.front more.bytes (record { parts = v.parts; place = v.place }) more.takes;
      } in
      subst (λ (w : List RawAttr). AttrsRead (pair ∷ pairs) i j w) same (subst (λ (w : Input). AttrsRead (pair ∷ pairs) i w (first ∷ b.0.0)) to one)

  -- ---- attributes: what is spelled is read

  -- an attribute is what is read of its value
  same_attr : (pair : Pair) (a : RawAttr) (start : ℕ) (bytes : List ℕ) → IsAttr rows pair a start bytes → record { at = start; end = start + length bytes; pair = pair; raw = a.raw } ≡ a
  same_attr pair a start bytes is =
      λ i. record { at = sym is.place i; end = sym is.end i; pair = sym is.same i; raw = a.raw }

  -- a value is read, and then the others
  attrs_step : (pairs : List Pair) (attrs : List RawAttr) (entry : ℕ) (pair : Pair) (a : RawAttr) (start : ℕ) (front rest : List ℕ) (j : Input) → IsAttr rows pair a start front
      → attrs_at rows entry pairs (input_at (start + length front) rest) ≡ Ok (attrs, j) → attrs_at rows entry (pair ∷ pairs) (input_at start (front ++ rest)) ≡ Ok (a ∷ attrs, j)
  unfolding attrs_at
  attrs_step pairs attrs entry pair a start front rest j is more =
      let head = (values pair).again start a.raw front rest is.value in
      let made : attrs_at rows entry (pair ∷ pairs) (input_at start (front ++ rest)) ≡ Ok (record { at = start; end = start + length front; pair = pair; raw = a.raw } ∷ attrs, j) =
      rw (head, more) refl in
      made ∙ ap (λ (w : RawAttr). Ok (w ∷ attrs, j)) (same_attr pair a start front is)

  pub attrs_again : (pairs : List Pair) (attrs : List RawAttr) (entry start : ℕ) (bytes rest : List ℕ) → SpellsAttrs rows pairs attrs start bytes
      → attrs_at rows entry pairs (input_at start (bytes ++ rest)) ≡ Ok (attrs, input_at (start + length bytes) rest)
  unfolding attrs_at
  attrs_again [] [] entry start bytes rest is =
      let place : start ≡ start + length bytes = omega (arith, ap length is) in
      ap (λ (w : List ℕ). Ok ([], input_at start (w ++ rest))) is ∙ ap (λ (n : ℕ). Ok ([], input_at n rest)) place
  attrs_again [] (a ∷ attrs) entry start bytes rest is = absurd is
  attrs_again (pair ∷ pairs) [] entry start bytes rest is = absurd is
  attrs_again (pair ∷ pairs) (a ∷ attrs) entry start bytes rest is =
      let more = attrs_again pairs attrs entry (start + length is.first_bytes) is.second_bytes rest is.second in
      ap (λ (w : List ℕ). attrs_at rows entry (pair ∷ pairs) (input_at start w)) (regrouped bytes is.first_bytes is.second_bytes rest is.parts)
      ∙ attrs_step pairs attrs entry pair a start is.first_bytes (is.second_bytes ++ rest) (input_at (start + length is.first_bytes + length is.second_bytes) rest) is.first more
      ∙ ap (λ (n : ℕ). Ok (a ∷ attrs, input_at n rest)) (place_behind start bytes is.first_bytes is.second_bytes is.parts)

  -- ---- attributes: faults

  -- behind a value that is spelled, the others have a fault
  attr_fault_behind : (entry : ℕ) (pair : Pair) (pairs : List Pair) (i j : Input) (raw : Raw) (front : List ℕ) (f : Fault) → SpellsValue rows pair front raw → Takes i front j
      → IsAttrFault rows entry pairs j.at j.rest f → IsAttrFault rows entry (pair ∷ pairs) i.at i.rest f
  attr_fault_behind entry pair pairs i j raw front f is takes more = record {
    earlier = pair ∷ more.earlier;
    pair = more.pair;
    later = more.later;
    which = ap (λ (w : List Pair). pair ∷ w) more.which;
    attrs = record { at = i.at; end = j.at; pair = pair; raw = raw } ∷ more.attrs;
    front = front ++ more.front;
    spelled = record {
      first_bytes = front;
      first = record { place = refl; end = takes.place; same = refl; value = is };
      second_bytes = more.front;
      second = subst (λ (at : ℕ). SpellsAttrs rows more.earlier more.attrs at more.front) takes.place more.spelled;
      parts = refl;
    };
    rest = more.rest;
    parts = takes.parts ∙ ap (λ (w : List ℕ). front ++ w) more.parts ∙ sym (append_assoc front more.front more.rest);
    fault = more.fault;
    is_fault =
        let place : j.at + length more.front ≡ i.at + length (front ++ more.front) = omega (arith, takes.place, length-append front more.front) in
        subst (λ (at : ℕ). IsValueFault rows more.pair (input_at at more.rest) more.fault) place more.is_fault;
    placed = more.placed;
  }

  pub attrs_fault : (pairs : List Pair) (entry : ℕ) (i : Input) (f : Fault) → attrs_at rows entry pairs i ≡ Err f → IsAttrFault rows entry pairs i.at i.rest f
  unfolding attrs_at
  attrs_fault [] entry i f e = absurd cc
  attrs_fault (pair ∷ pairs) entry i f e =
      elim (bind_err (in_entry entry (value_at rows pair i)) (others_at entry pairs i.at pair) f e) [
        | inl p ↦
            let g = in_entry_err entry (value_at rows pair i) f p in
            let place : i.at ≡ i.at + 0 = omega arith in
            record {
              earlier = [];
              pair = pair;
              later = pairs;
              which = refl;
              attrs = [];
              front = [];
              spelled = refl;
              rest = i.rest;
              parts = refl;
              fault = g.0;
              is_fault = subst (λ (at : ℕ). IsValueFault rows pair (input_at at i.rest) g.0) place (((values pair).fault i g.0).0 g.1);
              placed = g.2;
            }
        | inr p ↦
            let x = p.0 in
            let v = (values pair).found i x.1 x.0 (in_entry_ok entry (value_at rows pair i) x p.1) in
            let behind : attrs_at rows entry pairs x.1 ≡ Err f = elim (bind_err (attrs_at rows entry pairs x.1) (with_value i.at x.1.at pair x.0) f p.2) [ inl q ↦ q | inr q ↦ absurd cc ] in
            attr_fault_behind entry pair pairs i x.1 x.0 v.front f v.spelled (record { parts = v.parts; place = v.place }) (attrs_fault pairs entry x.1 f behind)
      ]

  fault_behind : (pairs : List Pair) (entry : ℕ) (pair : Pair) (a : RawAttr) (start : ℕ) (front rest : List ℕ) (f : Fault) → IsAttr rows pair a start front
      → attrs_at rows entry pairs (input_at (start + length front) rest) ≡ Err f → attrs_at rows entry (pair ∷ pairs) (input_at start (front ++ rest)) ≡ Err f
  unfolding attrs_at
  fault_behind pairs entry pair a start front rest f is more =
      let head = (values pair).again start a.raw front rest is.value in
      rw (head, more) refl

  fault_at_value : (pairs : List Pair) (entry : ℕ) (pair : Pair) (i : Input) (f : Fault) → IsValueFault rows pair i f → attrs_at rows entry (pair ∷ pairs) i ≡ Err (fault_in_entry entry f)
  unfolding attrs_at
  fault_at_value pairs entry pair i f is = rw (((values pair).fault i f).1 is) refl

  fault_up_to : (earlier : List Pair) (attrs : List RawAttr) (entry : ℕ) (pair : Pair) (later : List Pair) (start : ℕ) (front rest : List ℕ) (f : Fault) → SpellsAttrs rows earlier attrs start front
      → IsValueFault rows pair (input_at (start + length front) rest) f → attrs_at rows entry (earlier ++ pair ∷ later) (input_at start (front ++ rest)) ≡ Err (fault_in_entry entry f)
  fault_up_to [] [] entry pair later start front rest f is fault =
      let place : start ≡ start + length front = omega (arith, ap length is) in
      ap (λ (w : List ℕ). attrs_at rows entry (pair ∷ later) (input_at start (w ++ rest))) is
      ∙ ap (λ (n : ℕ). attrs_at rows entry (pair ∷ later) (input_at n rest)) place
      ∙ fault_at_value later entry pair (input_at (start + length front) rest) f fault
  fault_up_to [] (a ∷ attrs) entry pair later start front rest f is fault = absurd is
  fault_up_to (p ∷ earlier) [] entry pair later start front rest f is fault = absurd is
  fault_up_to (p ∷ earlier) (a ∷ attrs) entry pair later start front rest f is fault =
      let there = subst (λ (at : ℕ). IsValueFault rows pair (input_at at rest) f) (sym (place_behind start front is.first_bytes is.second_bytes is.parts)) fault in
      let more = fault_up_to earlier attrs entry pair later (start + length is.first_bytes) is.second_bytes rest f is.second there in
      ap (λ (w : List ℕ). attrs_at rows entry (p ∷ (earlier ++ pair ∷ later)) (input_at start w)) (regrouped front is.first_bytes is.second_bytes rest is.parts)
      ∙ fault_behind (earlier ++ pair ∷ later) entry p a start is.first_bytes (is.second_bytes ++ rest) (fault_in_entry entry f) is.first more

  pub attrs_fault_again : (entry : ℕ) (pairs : List Pair) (start : ℕ) (bytes : List ℕ) (f : Fault) → IsAttrFault rows entry pairs start bytes f
      → attrs_at rows entry pairs (input_at start bytes) ≡ Err f
  attrs_fault_again entry pairs start bytes f is =
      ap (λ (w : List Pair). attrs_at rows entry w (input_at start bytes)) is.which
      ∙ ap (λ (w : List ℕ). attrs_at rows entry (is.earlier ++ is.pair ∷ is.later) (input_at start w)) is.parts
      ∙ fault_up_to is.earlier is.attrs entry is.pair is.later start is.front is.rest is.fault is.spelled is.is_fault
      ∙ ap (λ (g : Fault). Err g) (sym is.placed)
