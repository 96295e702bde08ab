-- Items one after the other up to an end of their own are read as they are spelled.
use Rattle.std.proofs.Common.{◌≡◌, ◌↔◌, ◌⊎◌, ℕ, zero, suc, ◌+◌, ◌<◌, List, [], ◌∷◌, ◌++◌, length, Option, Some, None, Result, Ok, Err, refl, sym, ap, subst, ◌∙◌, inl, inr, arith}
use Rattle.std.proofs.Common.{append_assoc}
use Rattle.std.proofs.lemmas.List.{length-append}
use Rattle.dwz_model.specs.declared.fault.Fault.{Fault}
use Rattle.dwz_bytes.specs.Input.{Input}
use Rattle.dwz_bytes.specs.Reading.{◌>>=◌}
use Rattle.dwz_def_reading.specs.Sequences.{Behind, BehindItems, FaultAt, Reader, Spelling, SpellsAll, SpellsRow, after_row_item, row_at}
use Rattle.dwz_def_reading.specs.Sequences.{row_items_from, with_item_before}
use Rattle.dwz_def_reading.proofs.AgreeLemmas.{Agrees, Made, Next, OrNext, agrees_ok, and_given, in_words, then_made}
use Rattle.dwz_def_reading.proofs.SequenceLemmas.{IsTaken, ReadsAs, TakesBytes}

-- ---- items up to an end of their own

-- what agrees with the same relations is the same
one_row : {Y : Type 0} {M : Y → Type 0} {F : Fault → Type 0} (r q : Result Y Fault) → Agrees r M F → Agrees q M F → r ≡ q
one_row (Ok y) q a b = sym ((b.ok y).1 ((a.ok y).0 refl))
one_row (Err f) q a b = sym ((b.err f).1 ((a.err f).0 refl))

-- the front of an item, or the end
abbrev pub OrEnd : {X : Type 0} → Spelling X → (ℕ → List ℕ → Type 0) → Spelling (Option X)
OrEnd Item End None start bytes = End start bytes
OrEnd Item End (Some x) start bytes = Item x start bytes

module _ {X : Type 0} (item : Reader (Option X)) (Item : Spelling X) (End : ℕ → List ℕ → Type 0) (Fails : FaultAt) (reads : ReadsAs item (OrEnd Item End) Fails) (takes : TakesBytes Item)
    (stop : Fault) where
  row_moves : (i j : Input) (x : X) → IsTaken (OrEnd Item End) i (Some x, j) → length j.rest < length i.rest
  row_moves i j x t = let some = takes x i.at t.front t.spelled in omega (arith, some, ap length t.parts, length-append t.front j.rest)

  abbrev RowFault : FaultAt
  RowFault = BehindItems Item Fails

  abbrev RowStep : ℕ → List ℕ → Fault → Type 0
  RowStep start bytes f = Fails start bytes f ⊎ Behind Item (λ x. RowFault) start bytes f

  row_step : (start : ℕ) (bytes : List ℕ) (f : Fault) → RowStep start bytes f ↔ RowFault start bytes f
  row_step start bytes f = (to, from) where
    to : RowStep start bytes f → RowFault start bytes f
    to (inl is) = record { x = []; front = []; first = refl; rest = bytes; parts = refl; fails = (let same : start + 0 ≡ start = omega arith in subst (λ (n : ℕ). Fails n bytes f) (sym same) is) }
    to (inr b) =
        let c = b.fails in
        let place : start + length b.front + length c.front ≡ start + length (b.front ++ c.front) = omega (arith, length-append b.front c.front) in
        record {
          x = b.x ∷ c.x;
          front = b.front ++ c.front;
          first = record { first_bytes = b.front; first = b.first; second_bytes = c.front; second = c.first; parts = refl };
          rest = c.rest;
          parts = b.parts ∙ ap (λ (w : List ℕ). b.front ++ w) c.parts ∙ sym (append_assoc b.front c.front c.rest);
          fails = subst (λ (n : ℕ). Fails n c.rest f) place c.fails;
        }

    from_items : (xs : List X) (front rest : List ℕ) → SpellsAll Item xs start front → bytes ≡ front ++ rest → Fails (start + length front) rest f → RowStep start bytes f
    from_items [] front rest none parts fails =
        let whole : bytes ≡ rest = parts ∙ ap (λ (w : List ℕ). w ++ rest) none in
        let place : start + length front ≡ start = ap (λ (w : List ℕ). start + length w) none ∙ omega arith in
        inl (subst (λ (w : List ℕ). Fails start w f) (sym whole) (subst (λ (n : ℕ). Fails n rest f) place fails))
    from_items (x ∷ xs) front rest is parts fails =
        let place : start + length front ≡ start + length is.first_bytes + length is.second_bytes = omega (arith, ap length is.parts, length-append is.first_bytes is.second_bytes) in
        inr (record {
          x = x;
          front = is.first_bytes;
          first = is.first;
          rest = is.second_bytes ++ rest;
          parts = parts ∙ ap (λ (w : List ℕ). w ++ rest) is.parts ∙ append_assoc is.first_bytes is.second_bytes rest;
          fails = record { x = xs; front = is.second_bytes; first = is.second; rest = rest; parts = refl; fails = subst (λ (n : ℕ). Fails n rest f) place fails };
        })

    from : RowFault start bytes f → RowStep start bytes f
    from b = from_items b.x b.front b.rest b.first b.parts b.fails

  -- what is behind one item, or the end
  abbrev Rest : Option X × Input → List X × Input → Type 0
  Rest (None, j) z = z ≡ ([], j)
  Rest (Some x, j) z = Made (IsTaken (SpellsRow Item End) j) (λ y. (x ∷ y.0, y.1)) z

  abbrev RestFault : Option X × Input → Fault → Type 0
  RestFault (None, j) f = ⊥
  RestFault (Some x, j) f = RowFault j.at j.rest f

  row_words : (i : Input) (z : List X × Input) → Next (IsTaken (OrEnd Item End) i) Rest z ↔ IsTaken (SpellsRow Item End) i z
  row_words i z = (to z, from z) where
    to : (z : List X × Input) → Next (IsTaken (OrEnd Item End) i) Rest z → IsTaken (SpellsRow Item End) i z
    to z ((None, j), one, same) = subst (IsTaken (SpellsRow Item End) i) (sym same) (record { front = one.front; spelled = one.spelled; parts = one.parts; place = one.place })
    to z ((Some x, j), one, (y, two, same)) = subst (IsTaken (SpellsRow Item End) i) (sym same) (record {
      front = one.front ++ two.front;
      spelled = record { first_bytes = one.front; first = one.spelled; second_bytes = two.front; second = subst (λ (n : ℕ). SpellsRow Item End y.0 n two.front) one.place two.spelled; parts = refl };
      parts = one.parts ∙ ap (λ (w : List ℕ). one.front ++ w) two.parts ∙ sym (append_assoc one.front two.front y.1.rest);
      place = omega (arith, one.place, two.place, length-append one.front two.front);
    })

    from : (z : List X × Input) → IsTaken (SpellsRow Item End) i z → Next (IsTaken (OrEnd Item End) i) Rest z
    from ([], k) t = ((None, k), record { front = t.front; spelled = t.spelled; parts = t.parts; place = t.place }, refl)
    from (x ∷ xs, k) t =
        let p = t.spelled in
        let middle : Input = record { at = i.at + length p.first_bytes; rest = p.second_bytes ++ k.rest } in (
          (Some x, middle),
          record { front = p.first_bytes; spelled = p.first; parts = t.parts ∙ ap (λ (w : List ℕ). w ++ k.rest) p.parts ∙ append_assoc p.first_bytes p.second_bytes k.rest; place = refl },
          ((xs, k), record { front = p.second_bytes; spelled = p.second; parts = refl; place = t.place ∙ omega (arith, ap length p.parts, length-append p.first_bytes p.second_bytes) }, refl),
        )

  row_faults : (i : Input) (f : Fault) → OrNext (Fails i.at i.rest) (IsTaken (OrEnd Item End) i) RestFault f ↔ RowFault i.at i.rest f
  row_faults i f = (λ h. (row_step i.at i.rest f).0 (to h), λ b. from ((row_step i.at i.rest f).1 b)) where
    to : OrNext (Fails i.at i.rest) (IsTaken (OrEnd Item End) i) RestFault f → RowStep i.at i.rest f
    to (inl is) = inl is
    to (inr ((None, j), one, none)) = absurd none
    to (inr ((Some x, j), one, fault)) =
        inr (record { x = x; front = one.front; first = one.spelled; rest = j.rest; parts = one.parts; fails = subst (λ (n : ℕ). RowFault n j.rest f) one.place fault })

    from : RowStep i.at i.rest f → OrNext (Fails i.at i.rest) (IsTaken (OrEnd Item End) i) RestFault f
    from (inl is) = inl is
    from (inr c) = inr ((Some c.x, record { at = i.at + length c.front; rest = c.rest }), record { front = c.front; spelled = c.first; parts = c.parts; place = refl }, c.fails)

  abbrev RowsBelow : ℕ → Type 0
  RowsBelow k = (i : Input) → length i.rest < k → Agrees (row_items_from item stop k i) (IsTaken (SpellsRow Item End) i) (RowFault i.at i.rest)

  row_from_agrees : (k : ℕ) (i : Input) → length i.rest < k → Agrees (row_items_from item stop k i) (IsTaken (SpellsRow Item End) i) (RowFault i.at i.rest)
  unfolding row_items_from
  row_from_agrees zero i lt = absurd (omega (arith, lt))
  row_from_agrees (suc k) i lt = whole (λ j less. row_from_agrees k j less) where
    rest_agrees : RowsBelow k → (x : Option X × Input) → IsTaken (OrEnd Item End) i x → Agrees (after_row_item (row_items_from item stop k) x) (Rest x) (RestFault x)
    rest_agrees below (None, j) t = agrees_ok ([], j)
    rest_agrees below (Some x, j) t = let less = row_moves i j x t in then_made (below j (omega (arith, less, lt))) (λ y. (x ∷ y.0, y.1))

    whole : RowsBelow k → Agrees (item i >>= after_row_item (row_items_from item stop k)) (IsTaken (SpellsRow Item End) i) (RowFault i.at i.rest)
    whole below = in_words (and_given (reads.agrees i) (after_row_item (row_items_from item stop k)) (rest_agrees below)) (row_words i) (row_faults i)

  pub row_read : ReadsAs (row_at item stop) (SpellsRow Item End) RowFault
  unfolding row_at
  row_read = record { agrees = λ i. row_from_agrees (suc (length i.rest)) i (omega arith) }

  rest_same : (k : ℕ) (i : Input) (r : Result (Option X × Input) Fault) → length i.rest < suc k → item i ≡ r
      → (r >>= after_row_item (row_items_from item stop k)) ≡ (r >>= after_row_item (row_at item stop))
  rest_same k i (Err f) lt is = refl
  rest_same k i (Ok (None, j)) lt is = refl
  rest_same k i (Ok (Some x, j)) lt is =
      let less = row_moves i j x (((reads.agrees i).ok (Some x, j)).0 is) in
      let same = one_row (row_items_from item stop k j) (row_at item stop j) (row_from_agrees k j (omega (arith, less, lt))) (row_read.agrees j) in
      ap (λ (r : Result (List X × Input) Fault). r >>= with_item_before x) same

  -- the row is its first item, or its end, and what is behind it
  pub row_begins : (i : Input) → row_at item stop i ≡ (item i >>= after_row_item (row_at item stop))
  unfolding row_at row_items_from
  row_begins i = rest_same (length i.rest) i (item i) (omega arith) refl
