-- `.debug_info` is read unit by unit, as it is spelled, and fails with the first fault that it has.
use Rattle.std.proofs.Common.{◌≡◌, ℕ, zero, suc, ◌+◌, ◌<◌, ◌≤◌, inl, inr, Bool, true, false, cond, List, [], ◌∷◌, ◌++◌, length, Result, Ok, Err, refl, sym, ap, subst, ◌∙◌, append_assoc, arith}
use Rattle.std.proofs.lemmas.List.{append-nil, length-append}
use Rattle.dwz_model.specs.declared.fault.Fault.{Fault}
use Rattle.dwz_model.specs.declared.fault.ReadErr.{ReadErr}
use Rattle.dwz_model.specs.declared.fault.ReadErr.TheVariants.{NoMemory, Refused}
use Rattle.dwz_bytes.specs.Input.{Input}
use Rattle.dwz_bytes.specs.Reading.{◌>>=◌}
use Rattle.dwz_bytes.proofs.GroupLemmas.{chosen}
use Rattle.dwz_def_reading.specs.Entries.{Mode}
use Rattle.dwz_def_reading.specs.Faults.{Fails}
use Rattle.dwz_def_reading.specs.Units.{IsUnitFault, IsUnitsFault, RawUnit, SpellsUnit, SpellsUnits, after_unit, entries_in, entry_count, is_empty, unit_at, units_at, units_by, units_from, with_unit}
use Rattle.dwz_def_reading.proofs.AttrReads.{place_behind}
use Rattle.dwz_def_reading.proofs.HeaderLemmas.{header_some}
use Rattle.dwz_def_reading.proofs.PartLemmas.{bind_err, bind_ok}
use Rattle.dwz_def_reading.proofs.TreeLemmas.{input_at, shorter_by_some}
use Rattle.dwz_def_reading.proofs.UnitLemmas.{unit_again, unit_fault, unit_fault_again, unit_found}

-- ---- one step

pub some_unit : (abbrevs : List ℕ) (mode : Mode) (before : ℕ) (u : RawUnit) (start : ℕ) (bytes : List ℕ) → SpellsUnit abbrevs mode before u start bytes → 0 < length bytes
some_unit abbrevs mode before u start bytes is = omega (arith, ap length is.parts, length-append is.header (is.tree ++ is.padding), is.is_header.size, header_some u.kind)

-- a unit takes a byte at least
pub unit_moves : (abbrevs : List ℕ) (mode : Mode) (before : ℕ) (i : Input) (u : RawUnit) (j : Input) → unit_at abbrevs mode before i ≡ Ok (u, j) → length j.rest < length i.rest
unit_moves abbrevs mode before i u j e =
    let t = unit_found abbrevs mode before i u j e in
    shorter_by_some i j t.bytes t.takes (some_unit abbrevs mode before u i.at t.bytes t.spelled)

-- two ways of reading units answer the same of all inputs with at most n bytes
abbrev Agree : ℕ → (ℕ → Input → Result (List RawUnit) Fault) → (ℕ → Input → Result (List RawUnit) Fault) → Type 0
Agree n f g = (before : ℕ) (i : Input) → length i.rest < n → f before i ≡ g before i

-- the same of what is read behind one unit
step_agrees : (abbrevs : List ℕ) (mode : Mode) (before : ℕ) (i : Input) (f g : ℕ → Input → Result (List RawUnit) Fault) → Agree (length i.rest) f g
    → (r : Result (RawUnit × Input) Fault) → unit_at abbrevs mode before i ≡ r → (r >>= after_unit f before) ≡ (r >>= after_unit g before)
step_agrees abbrevs mode before i f g agree (Err d) is = refl
step_agrees abbrevs mode before i f g agree (Ok u) is =
    let less = unit_moves abbrevs mode before i u.0 u.1 is in
    ap (λ (r : Result (List RawUnit) Fault). r >>= with_unit u.0) (agree (before + entry_count u.0) u.1 less)

both_step : (abbrevs : List ℕ) (mode : Mode) (before : ℕ) (i : Input) (f g : ℕ → Input → Result (List RawUnit) Fault) → Agree (length i.rest) f g
    → units_by f abbrevs mode before i ≡ units_by g abbrevs mode before i
both_step abbrevs mode before i f g agree = ap (λ (r : Result (List RawUnit) Fault). cond (is_empty i.rest) (Ok []) r)
    (step_agrees abbrevs mode before i f g agree (unit_at abbrevs mode before i) refl)

-- where no bytes are left, there is no unit
none_left : (abbrevs : List ℕ) (mode : Mode) (k before : ℕ) (i : Input) → length i.rest ≡ 0 → units_from abbrevs mode k before i ≡ Ok []
unfolding units_from
none_left abbrevs mode zero before i none = refl
none_left abbrevs mode (suc k) before i none = ap (λ (b : Bool). cond b (Ok []) (unit_at abbrevs mode before i >>= after_unit (units_from abbrevs mode k) before)) (empty i.rest none) where
  empty : (bytes : List ℕ) → length bytes ≡ 0 → is_empty bytes ≡ true
  empty [] e = refl
  empty (b ∷ bytes) e = absurd (omega (arith, e))

-- more units than bytes are never needed
enough : (abbrevs : List ℕ) (mode : Mode) (k l before : ℕ) (i : Input) → length i.rest ≤ k → length i.rest ≤ l → units_from abbrevs mode k before i ≡ units_from abbrevs mode l before i
unfolding units_from
enough abbrevs mode zero l before i le le' = sym (none_left abbrevs mode l before i (omega (arith, le)))
enough abbrevs mode (suc k) zero before i le le' = none_left abbrevs mode (suc k) before i (omega (arith, le'))
enough abbrevs mode (suc k) (suc l) before i le le' =
    both_step abbrevs mode before i (units_from abbrevs mode k) (units_from abbrevs mode l)
    (λ q j less. enough abbrevs mode k l q j (omega (arith, less, le)) (omega (arith, less, le')))

-- units are the first of them, and those behind it
pub units_step : (abbrevs : List ℕ) (mode : Mode) (before : ℕ) (i : Input) → units_at abbrevs mode before i ≡ units_by (units_at abbrevs mode) abbrevs mode before i
unfolding units_at units_from
units_step abbrevs mode before i =
    enough abbrevs mode (length i.rest) (suc (length i.rest)) before i (omega arith) (omega arith)
    ∙ both_step abbrevs mode before i (units_from abbrevs mode (length i.rest)) (units_at abbrevs mode)
    (λ q j less. enough abbrevs mode (length i.rest) (length j.rest) q j (omega (arith, less)) (omega arith))

-- the same, as a loop meets it: no bytes are left, a unit is read, or one isn't
pub units_none : (abbrevs : List ℕ) (mode : Mode) (before : ℕ) (i : Input) → i.rest ≡ [] → units_at abbrevs mode before i ≡ Ok []
units_none abbrevs mode before i none =
    units_step abbrevs mode before i ∙ ap (λ (w : List ℕ). cond (is_empty w) (Ok []) (unit_at abbrevs mode before i >>= after_unit (units_at abbrevs mode) before)) none

not_empty : (bytes : List ℕ) → 0 < length bytes → is_empty bytes ≡ false
not_empty [] some = absurd (omega (arith, some))
not_empty (b ∷ bytes) some = refl

pub units_some : (abbrevs : List ℕ) (mode : Mode) (before : ℕ) (i : Input) → 0 < length i.rest
    → units_at abbrevs mode before i ≡ (unit_at abbrevs mode before i >>= after_unit (units_at abbrevs mode) before)
units_some abbrevs mode before i some =
    units_step abbrevs mode before i ∙ ap (λ (b : Bool). cond b (Ok []) (unit_at abbrevs mode before i >>= after_unit (units_at abbrevs mode) before)) (not_empty i.rest some)

pub units_more : (abbrevs : List ℕ) (mode : Mode) (before : ℕ) (i j : Input) (u : RawUnit) → unit_at abbrevs mode before i ≡ Ok (u, j)
    → units_at abbrevs mode before i ≡ (units_at abbrevs mode (before + entry_count u) j >>= with_unit u)
units_more abbrevs mode before i j u e =
    let moves = unit_moves abbrevs mode before i u j e in
    units_some abbrevs mode before i (omega (arith, moves)) ∙ ap (λ (r : Result (RawUnit × Input) Fault). r >>= after_unit (units_at abbrevs mode) before) e

pub units_fail : (abbrevs : List ℕ) (mode : Mode) (before : ℕ) (i : Input) (f : Fault) → 0 < length i.rest → unit_at abbrevs mode before i ≡ Err f → units_at abbrevs mode before i ≡ Err f
units_fail abbrevs mode before i f some e = units_some abbrevs mode before i some ∙ ap (λ (r : Result (RawUnit × Input) Fault). r >>= after_unit (units_at abbrevs mode) before) e

-- ---- what is read is spelled

abbrev pub row : List RawUnit → Result (List RawUnit) Fault
row units = Ok units

abbrev pub units_or : List RawUnit → Result (List RawUnit) Fault → List RawUnit
units_or d (Ok units) = units
units_or d (Err f) = d

same_row : (xs ys : List RawUnit) (r : Result (List RawUnit) Fault) → r ≡ Ok xs → r ≡ Ok ys → xs ≡ ys
same_row xs ys r p q = ap (units_or xs) (sym p ∙ q)

no_bytes : (bytes : List ℕ) → is_empty bytes ≡ true → bytes ≡ []
no_bytes [] e = refl
no_bytes (b ∷ bytes) e = absurd cc

found_in : (n : ℕ) (abbrevs : List ℕ) (mode : Mode) (before : ℕ) (i : Input) (units : List RawUnit) → length i.rest < n → units_at abbrevs mode before i ≡ Ok units
    → SpellsUnits abbrevs mode before units i.at i.rest
found_in zero abbrevs mode before i units lt e = absurd (omega (arith, lt))
found_in (suc n) abbrevs mode before i units lt e =
    elim (chosen (is_empty i.rest) (Ok []) (unit_at abbrevs mode before i >>= after_unit (units_at abbrevs mode) before) (Ok units) (sym (units_step abbrevs mode before i) ∙ e)) [
      | inl p ↦ subst (λ (w : List RawUnit). SpellsUnits abbrevs mode before w i.at i.rest) (same_row [] units (row []) refl p.1) (no_bytes i.rest p.0)
      | inr p ↦
          let a = bind_ok (unit_at abbrevs mode before i) (after_unit (units_at abbrevs mode) before) units p.1 in
          let u = a.0.0 in
          let j = a.0.1 in
          let b = bind_ok (units_at abbrevs mode (before + entry_count u) j) (with_unit u) units a.2 in
          let t = unit_found abbrevs mode before i u j a.1 in
          let less = unit_moves abbrevs mode before i u j a.1 in
          let more = found_in n abbrevs mode (before + entry_count u) j b.0 (omega (arith, less, lt)) b.1 in
          let one : SpellsUnits abbrevs mode before (u ∷ b.0) i.at i.rest = record {
            first_bytes = t.bytes;
            first = t.spelled;
            second_bytes = j.rest;
            second = subst (λ (at : ℕ). SpellsUnits abbrevs mode (before + entry_count u) b.0 at j.rest) t.takes.place more;
            parts = t.takes.parts;
          } in
          subst (λ (w : List RawUnit). SpellsUnits abbrevs mode before w i.at i.rest) (same_row (u ∷ b.0) units (row (u ∷ b.0)) refl b.2) one
    ]

pub units_found : (abbrevs : List ℕ) (mode : Mode) (before : ℕ) (i : Input) (units : List RawUnit) → units_at abbrevs mode before i ≡ Ok units → SpellsUnits abbrevs mode before units i.at i.rest
units_found abbrevs mode before i units e = found_in (suc (length i.rest)) abbrevs mode before i units (omega arith) e

-- ---- what is spelled is read

-- units that stand there are read, and then those behind them
pub units_up_to : (units : List RawUnit) (abbrevs : List ℕ) (mode : Mode) (before start : ℕ) (front rest : List ℕ) (r : Result (List RawUnit) Fault) → SpellsUnits abbrevs mode before units start front
    → units_at abbrevs mode (before + entries_in units) (input_at (start + length front) rest) ≡ r → units_at abbrevs mode before (input_at start (front ++ rest)) ≡ (r >>= λ more. Ok (units ++ more))
unfolding entries_in
units_up_to [] abbrevs mode before start front rest r is e =
    let at : start ≡ start + length front = omega (arith, ap length is) in
    let none : before ≡ before + 0 = omega arith in
    ap (λ (w : List ℕ). units_at abbrevs mode before (input_at start (w ++ rest))) is
    ∙ ap (λ (n : ℕ). units_at abbrevs mode before (input_at n rest)) at
    ∙ ap (λ (n : ℕ). units_at abbrevs mode n (input_at (start + length front) rest)) none
    ∙ e ∙ unchanged r where
      unchanged : (r : Result (List RawUnit) Fault) → r ≡ (r >>= λ more. Ok more)
      unchanged (Ok x) = refl
      unchanged (Err f) = refl
units_up_to (u ∷ units) abbrevs mode before start front rest r is e =
    let a = is.first_bytes in
    let b = is.second_bytes in
    let whole : front ++ rest ≡ a ++ (b ++ rest) = ap (λ (w : List ℕ). w ++ rest) is.parts ∙ append_assoc a b rest in
    let count : before + (entry_count u + entries_in units) ≡ before + entry_count u + entries_in units = omega arith in
    let there : units_at abbrevs mode (before + entry_count u + entries_in units) (input_at (start + length a + length b) rest) ≡ r =
    ap (λ (n : ℕ). units_at abbrevs mode n (input_at (start + length a + length b) rest)) (sym count)
    ∙ ap (λ (n : ℕ). units_at abbrevs mode (before + (entry_count u + entries_in units)) (input_at n rest)) (place_behind start front a b is.parts) ∙ e in
    let more = units_up_to units abbrevs mode (before + entry_count u) (start + length a) b rest r is.second there in
    ap (λ (w : List ℕ). units_at abbrevs mode before (input_at start w)) whole
    ∙ units_more abbrevs mode before (input_at start (a ++ (b ++ rest))) (input_at (start + length a) (b ++ rest)) u (unit_again abbrevs mode before u start a (b ++ rest) is.first)
    ∙ ap (λ (w : Result (List RawUnit) Fault). w >>= with_unit u) more
    ∙ joined r where
      joined : (r : Result (List RawUnit) Fault) → ((r >>= λ more. Ok (units ++ more)) >>= with_unit u) ≡ (r >>= λ more. Ok (u ∷ (units ++ more)))
      joined (Ok x) = refl
      joined (Err f) = refl

pub units_again : (abbrevs : List ℕ) (mode : Mode) (before : ℕ) (units : List RawUnit) (start : ℕ) (bytes : List ℕ) → SpellsUnits abbrevs mode before units start bytes
    → units_at abbrevs mode before (input_at start bytes) ≡ Ok units
units_again abbrevs mode before units start bytes is =
    let none = units_none abbrevs mode (before + entries_in units) (input_at (start + length bytes) []) refl in
    ap (λ (w : List ℕ). units_at abbrevs mode before (input_at start w)) (sym (append-nil bytes))
    ∙ units_up_to units abbrevs mode before start bytes [] (Ok []) is none
    ∙ ap row (append-nil units)

-- a section is a row of units in one way
pub units_one : (abbrevs : List ℕ) (mode : Mode) (before at : ℕ) (units others : List RawUnit) (bytes : List ℕ) → SpellsUnits abbrevs mode before units at bytes
    → SpellsUnits abbrevs mode before others at bytes → units ≡ others
units_one abbrevs mode before at units others bytes p q =
    same_row units others (units_at abbrevs mode before (input_at at bytes)) (units_again abbrevs mode before units at bytes p) (units_again abbrevs mode before others at bytes q)

-- ---- faults

fault_in : (n : ℕ) (abbrevs : List ℕ) (mode : Mode) (before : ℕ) (i : Input) (f : Fault) → length i.rest < n → units_at abbrevs mode before i ≡ Err f → IsUnitsFault abbrevs mode before i.at i.rest f
unfolding entries_in
fault_in zero abbrevs mode before i f lt e = absurd (omega (arith, lt))
fault_in (suc n) abbrevs mode before i f lt e =
    elim (chosen (is_empty i.rest) (Ok []) (unit_at abbrevs mode before i >>= after_unit (units_at abbrevs mode) before) (Err f) (sym (units_step abbrevs mode before i) ∙ e)) [
      | inl p ↦ absurd cc
      | inr p ↦
          elim (bind_err (unit_at abbrevs mode before i) (after_unit (units_at abbrevs mode) before) f p.1) [
            | inl h ↦
                let count : before ≡ before + 0 = omega arith in
                let at : i.at ≡ i.at + 0 = omega arith in
                record {
                  units = [];
                  front = [];
                  spelled = refl;
                  rest = i.rest;
                  some = some_bytes i.rest p.0;
                  parts = refl;
                  is_fault = unit_fault abbrevs mode (before + 0) (input_at (i.at + 0) i.rest) f
                      (ap (λ (m : ℕ). unit_at abbrevs mode m (input_at (i.at + 0) i.rest)) (sym count) ∙ ap (λ (m : ℕ). unit_at abbrevs mode before (input_at m i.rest)) (sym at) ∙ h);
                }
            | inr h ↦
                let u = h.0.0 in
                let j = h.0.1 in
                let t = unit_found abbrevs mode before i u j h.1 in
                let less = unit_moves abbrevs mode before i u j h.1 in
                let behind : units_at abbrevs mode (before + entry_count u) j ≡ Err f = elim (bind_err (units_at abbrevs mode (before + entry_count u) j) (with_unit u) f h.2) [
                  | inl q ↦ q
                  | inr q ↦ absurd cc
                ] in
                let more = fault_in n abbrevs mode (before + entry_count u) j f (omega (arith, less, lt)) behind in
                let count : before + entry_count u + entries_in more.units ≡ before + (entry_count u + entries_in more.units) = omega arith in
                let at : j.at + length more.front ≡ i.at + length (t.bytes ++ more.front) = omega (arith, t.takes.place, length-append t.bytes more.front) in
                record {
                  units = u ∷ more.units;
                  front = t.bytes ++ more.front;
                  spelled = record {
                    first_bytes = t.bytes;
                    first = t.spelled;
                    second_bytes = more.front;
                    second = subst (λ (m : ℕ). SpellsUnits abbrevs mode (before + entry_count u) more.units m more.front) t.takes.place more.spelled;
                    parts = refl;
                  };
                  rest = more.rest;
                  some = more.some;
                  parts = t.takes.parts ∙ ap (λ (w : List ℕ). t.bytes ++ w) more.parts ∙ sym (append_assoc t.bytes more.front more.rest);
                  is_fault =
                      subst (λ (m : ℕ). IsUnitFault abbrevs mode m (input_at (i.at + length (t.bytes ++ more.front)) more.rest) f) count
                      (subst (λ (m : ℕ). IsUnitFault abbrevs mode (before + entry_count u + entries_in more.units) (input_at m more.rest) f) at more.is_fault);
                }
          ]
    ] where
      some_bytes : (bytes : List ℕ) → is_empty bytes ≡ false → 0 < length bytes
      some_bytes [] e = absurd cc
      some_bytes (b ∷ bytes) e = omega arith

pub units_fault : (abbrevs : List ℕ) (mode : Mode) (before : ℕ) (i : Input) (f : Fault) → units_at abbrevs mode before i ≡ Err f → IsUnitsFault abbrevs mode before i.at i.rest f
units_fault abbrevs mode before i f e = fault_in (suc (length i.rest)) abbrevs mode before i f (omega arith) e

pub units_fault_again : (abbrevs : List ℕ) (mode : Mode) (before start : ℕ) (bytes : List ℕ) (f : Fault) → IsUnitsFault abbrevs mode before start bytes f
    → units_at abbrevs mode before (input_at start bytes) ≡ Err f
units_fault_again abbrevs mode before start bytes f is =
    let there = input_at (start + length is.front) is.rest in
    let fails = units_fail abbrevs mode (before + entries_in is.units) there f is.some (unit_fault_again abbrevs mode (before + entries_in is.units) there f is.is_fault) in
    ap (λ (w : List ℕ). units_at abbrevs mode before (input_at start w)) is.parts
    ∙ units_up_to is.units abbrevs mode before start is.front is.rest (Err f) is.spelled fails

-- ---- the same, as a loop reads a row: some units are read, and then those behind them

abbrev pub behind_units : List RawUnit → List RawUnit → Result (List RawUnit) Fault
behind_units units more = row (units ++ more)

pub row_begins : (abbrevs : List ℕ) (mode : Mode) (before : ℕ) (i : Input) → units_at abbrevs mode before i ≡ (units_at abbrevs mode before i >>= behind_units [])
row_begins abbrevs mode before i = unchanged (units_at abbrevs mode before i) where
  unchanged : (r : Result (List RawUnit) Fault) → r ≡ (r >>= behind_units [])
  unchanged (Ok units) = refl
  unchanged (Err f) = refl

-- one more unit is read
pub row_more : (abbrevs : List ℕ) (mode : Mode) (before : ℕ) (i j : Input) (u : RawUnit) (units : List RawUnit) (r : Result (List RawUnit) Fault)
    → r ≡ (units_at abbrevs mode before i >>= behind_units units)
    → unit_at abbrevs mode before i ≡ Ok (u, j) → r ≡ (units_at abbrevs mode (before + entry_count u) j >>= behind_units (units ++ u ∷ []))
row_more abbrevs mode before i j u units r so_far e =
    so_far ∙ ap (λ (w : Result (List RawUnit) Fault). w >>= behind_units units) (units_more abbrevs mode before i j u e) ∙ joined (units_at abbrevs mode (before + entry_count u) j) where
      joined : (w : Result (List RawUnit) Fault) → ((w >>= with_unit u) >>= behind_units units) ≡ (w >>= behind_units (units ++ u ∷ []))
      joined (Ok more) = ap row (sym (append_assoc units (u ∷ []) more))
      joined (Err f) = refl

-- no bytes are left
pub row_ends : (abbrevs : List ℕ) (mode : Mode) (before : ℕ) (i : Input) (units : List RawUnit) (r : Result (List RawUnit) Fault) → r ≡ (units_at abbrevs mode before i >>= behind_units units)
    → i.rest ≡ [] → r ≡ Ok units
row_ends abbrevs mode before i units r so_far none = so_far ∙ ap (λ (w : Result (List RawUnit) Fault). w >>= behind_units units) (units_none abbrevs mode before i none) ∙ ap row (append-nil units)

-- a unit isn't read
pub row_fails : (abbrevs : List ℕ) (mode : Mode) (before : ℕ) (i : Input) (f : Fault) (units : List RawUnit) (r : Result (List RawUnit) Fault)
    → r ≡ (units_at abbrevs mode before i >>= behind_units units) → 0 < length i.rest
    → unit_at abbrevs mode before i ≡ Err f → r ≡ Err f
row_fails abbrevs mode before i f units r so_far some e = so_far ∙ ap (λ (w : Result (List RawUnit) Fault). w >>= behind_units units) (units_fail abbrevs mode before i f some e)

-- a call that failed on a unit fails on the row
pub row_fails_so : (abbrevs : List ℕ) (mode : Mode) (before : ℕ) (i : Input) (e : ReadErr) (units : List RawUnit) (r : Result (List RawUnit) Fault)
    → r ≡ (units_at abbrevs mode before i >>= behind_units units) → 0 < length i.rest
    → Fails e (unit_at abbrevs mode before i) → Fails e r
row_fails_so abbrevs mode before i NoMemory units r so_far some is = tt
row_fails_so abbrevs mode before i (Refused f) units r so_far some is = row_fails abbrevs mode before i f units r so_far some is
