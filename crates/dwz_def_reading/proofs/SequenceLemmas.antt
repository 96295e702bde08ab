-- Reading one thing behind another agrees with how they are spelled, where each of them does.
use Rattle.std.proofs.Common.{◌≡◌, ◌↔◌, ◌⊎◌, ℕ, zero, suc, ◌+◌, ◌<◌, ◌≤◌, List, [], ◌∷◌, ◌++◌, length, Result, Ok, Err, cond, refl, sym, ap, subst, ◌∙◌, inl, inr, arith}
use Rattle.std.proofs.Common.{append_assoc}
use Rattle.std.proofs.lemmas.List.{length-append}
use Rattle.dwz_model.specs.declared.fault.Fault.{Fault}
use Rattle.dwz_bytes.specs.Input.{Input}
use Rattle.dwz_bytes.specs.Reading.{◌>>=◌}
use Rattle.dwz_def_reading.specs.Parts.{IsRead}
use Rattle.dwz_def_reading.specs.Sequences.{Behind, BehindItems, Both, FaultAt, Reader, Spelling, SpellsAll, WithBytes, after_one, all_at, all_from, both_at}
use Rattle.dwz_def_reading.specs.Sequences.{then_read, with_item}
use Rattle.dwz_def_reading.specs.Units.{is_empty}
use Rattle.dwz_def_reading.proofs.AgreeLemmas.{Agrees, Made, Next, OrNext, agrees_ok, and_given, and_with, in_words, then_made}

-- what was read from an input on, and what is behind it, are spelled
abbrev pub IsTaken : {X : Type 0} → Spelling X → Input → X × Input → Type 0
IsTaken Spells i y = IsRead (λ bytes x. Spells x i.at bytes) i y.1 y.0

-- reading agrees with spelling, and fails as said
pub record ReadsAs {X : Type 0} (read : Reader X) (Spells : Spelling X) (Fails : FaultAt) : Type 0 where
  pub agrees : (i : Input) → Agrees (read i) (IsTaken Spells i) (Fails i.at i.rest)

-- the same, where all bytes are read
pub record ReadsWhole {X : Type 0} (read : Input → Result X Fault) (Spells : Spelling X) (Fails : FaultAt) : Type 0 where
  pub agrees : (i : Input) → Agrees (read i) (λ x. Spells x i.at i.rest) (Fails i.at i.rest)

abbrev pub input_of : ℕ → List ℕ → Input
input_of at rest = record { at = at; rest = rest }

-- ---- one thing, and then another

abbrev pub OrBehind : {X : Type 0} → FaultAt → Spelling X → (X → FaultAt) → FaultAt
OrBehind FirstFails First Fails start bytes f = FirstFails start bytes f ⊎ Behind First Fails start bytes f

module _ {X Y Z : Type 0} (r : Reader X) (s : X → Reader Y) (First : Spelling X) (Second : X → Spelling Y) (FirstFails : FaultAt) (SecondFails : X → FaultAt) (make : X → Y → Z) where
  -- what is taken by both
  Taken-both : Input → Z × Input → Type 0
  Taken-both i = Next (IsTaken First i) (λ x. Made (IsTaken (Second x.0) x.1) (λ y. (make x.0 y.0, y.1)))

  both_words : (i : Input) (z : Z × Input) → Next (IsTaken First i) (λ x. Made (IsTaken (Second x.0) x.1) (λ y. (make x.0 y.0, y.1))) z ↔ IsTaken (Both First Second make) i z
  both_words i z = (to, from) where
    to : Next (IsTaken First i) (λ x. Made (IsTaken (Second x.0) x.1) (λ y. (make x.0 y.0, y.1))) z → IsTaken (Both First Second make) i z
    to h =
        let x = h.0 in
        let one = h.1 in
        let y = h.2.0 in
        let two = h.2.1 in
        let value : z.0 ≡ make x.0 y.0 = ap (λ (w : Z × Input). w.0) h.2.2 in
        let behind : z.1 ≡ y.1 = ap (λ (w : Z × Input). w.1) h.2.2 in
        record {
          front = one.front ++ two.front;
          spelled = record {
            x = x.0;
            y = y.0;
            both = record {
              first_bytes = one.front;
              first = one.spelled;
              second_bytes = two.front;
              second = subst (λ (n : ℕ). Second x.0 y.0 n two.front) one.place two.spelled;
              parts = refl;
            };
            made = value;
          };
          parts = one.parts ∙ ap (λ (w : List ℕ). one.front ++ w) two.parts ∙ sym (append_assoc one.front two.front y.1.rest) ∙ ap (λ (k : Input). (one.front ++ two.front) ++ k.rest) (sym behind);
          place = ap (λ (k : Input). k.at) behind ∙ omega (arith, one.place, two.place, length-append one.front two.front);
        }

    from : IsTaken (Both First Second make) i z → Next (IsTaken First i) (λ x. Made (IsTaken (Second x.0) x.1) (λ y. (make x.0 y.0, y.1))) z
    from t =
        let b = t.spelled in
        let p = b.both in
        let middle : Input = record { at = i.at + length p.first_bytes; rest = p.second_bytes ++ z.1.rest } in (
          (b.x, middle),
          record { front = p.first_bytes; spelled = p.first; parts = t.parts ∙ ap (λ (w : List ℕ). w ++ z.1.rest) p.parts ∙ append_assoc p.first_bytes p.second_bytes z.1.rest; place = refl },
          (
            (b.y, z.1),
            record { front = p.second_bytes; spelled = p.second; parts = refl; place = t.place ∙ omega (arith, ap length p.parts, length-append p.first_bytes p.second_bytes) },
            λ n. (b.made n, z.1),
          ),
        )

  both_faults : (i : Input) (f : Fault) → OrNext (FirstFails i.at i.rest) (IsTaken First i) (λ x. SecondFails x.0 x.1.at x.1.rest) f ↔ OrBehind FirstFails First SecondFails i.at i.rest f
  both_faults i f = (
    λ h. elim h [
      | inl is ↦ inl is
      | inr p ↦ inr (record { x = p.0.0; front = p.1.front; first = p.1.spelled; rest = p.0.1.rest; parts = p.1.parts; fails = subst (λ (n : ℕ). SecondFails p.0.0 n p.0.1.rest f) p.1.place p.2 })
    ],
    λ h. elim h [
      | inl is ↦ inl is
      | inr b ↦ inr ((b.x, record { at = i.at + length b.front; rest = b.rest }), record { front = b.front; spelled = b.first; parts = b.parts; place = refl }, b.fails)
    ],
  )

  pub both_read : ReadsAs r First FirstFails → ((x : X) → ReadsAs (s x) (Second x) (SecondFails x)) → ReadsAs (both_at r s make) (Both First Second make) (OrBehind FirstFails First SecondFails)
  both_read one others = record {
    agrees = λ i. in_words (and_with (one.agrees i) (then_read s make) (λ x. then_made ((others x.0).agrees x.1) (λ y. (make x.0 y.0, y.1)))) (both_words i) (both_faults i);
  }

-- ---- something else made of what is read

-- what is made of what the bytes spell
pub record MadeOf {X Y : Type 0} (Spells : Spelling X) (make : X → Y) (y : Y) (start : ℕ) (bytes : List ℕ) : Type 0 where
  pub value : X
  pub spelled : Spells value start bytes
  pub made : y ≡ make value

-- the same relations in other words
pub read_words : {X : Type 0} {read : Reader X} {S T : Spelling X} {F G : FaultAt} → ReadsAs read S F → ((x : X) (start : ℕ) (bytes : List ℕ) → S x start bytes ↔ T x start bytes)
    → ((start : ℕ) (bytes : List ℕ) (f : Fault) → F start bytes f ↔ G start bytes f) → ReadsAs read T G
read_words {X} {read} {S} {T} {F} {G} r means faults = record {
  agrees = λ i. in_words (r.agrees i)
      (λ y. (
        λ t. record { front = t.front; spelled = (means y.0 i.at t.front).0 t.spelled; parts = t.parts; place = t.place },
        λ t. record { front = t.front; spelled = (means y.0 i.at t.front).1 t.spelled; parts = t.parts; place = t.place },
      ))
      (faults i.at i.rest);
}

pub whole_words : {X : Type 0} {read : Input → Result X Fault} {S T : Spelling X} {F G : FaultAt} → ReadsWhole read S F → ((x : X) (start : ℕ) (bytes : List ℕ) → S x start bytes ↔ T x start bytes)
    → ((start : ℕ) (bytes : List ℕ) (f : Fault) → F start bytes f ↔ G start bytes f) → ReadsWhole read T G
whole_words {X} {read} {S} {T} {F} {G} r means faults = record { agrees = λ i. in_words (r.agrees i) (λ x. means x i.at i.rest) (faults i.at i.rest) }

-- ---- items up to the end of the bytes

abbrev pub TakesBytes : {X : Type 0} → Spelling X → Type 0
TakesBytes {X} Item = (x : X) (start : ℕ) (bytes : List ℕ) → Item x start bytes → 0 < length bytes

module _ {X : Type 0} (item : Reader X) (Item : Spelling X) (Fails : FaultAt) (reads : ReadsAs item Item Fails) (takes : TakesBytes Item) where
  -- an item takes bytes
  moves : (i : Input) (x : X × Input) → IsTaken Item i x → length x.1.rest < length i.rest
  moves i x t = let some = takes x.0 i.at t.front t.spelled in omega (arith, some, ap length t.parts, length-append t.front x.1.rest)

  abbrev AllFault : FaultAt
  AllFault = BehindItems Item (WithBytes Fails)

  -- the first item is at fault, or one behind it
  abbrev StepFault : ℕ → List ℕ → Fault → Type 0
  StepFault start bytes f = Fails start bytes f ⊎ Behind Item (λ x. AllFault) start bytes f

  step_faults : (start : ℕ) (bytes : List ℕ) (f : Fault) → 0 < length bytes → StepFault start bytes f ↔ AllFault start bytes f
  step_faults start bytes f some = (to, from) where
    to : StepFault start bytes f → AllFault start bytes f
    to (inl is) = record {
      x = [];
      front = [];
      first = refl;
      rest = bytes;
      parts = refl;
      fails =
          (some, (let same : start + 0 ≡ start = omega arith in subst (λ (n : ℕ). Fails n bytes f) (sym same) is));
    }
    to (inr b) =
        let c = b.fails in
        let place : start + length b.front + length c.front ≡ start + length (b.front ++ c.front) = omega (arith, length-append b.front c.front) in
        record {
          x = b.x ∷ c.x;
          front = b.front ++ c.front;
          first = record { first_bytes = b.front; first = b.first; second_bytes = c.front; second = c.first; parts = refl };
          rest = c.rest;
          parts = b.parts ∙ ap (λ (w : List ℕ). b.front ++ w) c.parts ∙ sym (append_assoc b.front c.front c.rest);
          fails = subst (λ (n : ℕ). WithBytes Fails n c.rest f) place c.fails;
        }

    from_items : (xs : List X) (front rest : List ℕ) → SpellsAll Item xs start front → bytes ≡ front ++ rest → WithBytes Fails (start + length front) rest f → StepFault start bytes f
    from_items [] front rest none parts fails =
        let whole : bytes ≡ rest = parts ∙ ap (λ (w : List ℕ). w ++ rest) none in
        let place : start + length front ≡ start = ap (λ (w : List ℕ). start + length w) none ∙ omega arith in
        inl (subst (λ (w : List ℕ). Fails start w f) (sym whole) (subst (λ (n : ℕ). Fails n rest f) place fails.1))
    from_items (x ∷ xs) front rest is parts fails =
        let place : start + length front ≡ start + length is.first_bytes + length is.second_bytes = omega (arith, ap length is.parts, length-append is.first_bytes is.second_bytes) in
        inr (record {
          x = x;
          front = is.first_bytes;
          first = is.first;
          rest = is.second_bytes ++ rest;
          parts = parts ∙ ap (λ (w : List ℕ). w ++ rest) is.parts ∙ append_assoc is.first_bytes is.second_bytes rest;
          fails = record { x = xs; front = is.second_bytes; first = is.second; rest = rest; parts = refl; fails = subst (λ (n : ℕ). WithBytes Fails n rest f) place fails };
        })

    from : AllFault start bytes f → StepFault start bytes f
    from b = from_items b.x b.front b.rest b.first b.parts b.fails

  none_agree : (start : ℕ) (bytes : List ℕ) → length bytes ≡ 0 → Agrees {E = Fault} (Ok []) (λ xs. SpellsAll Item xs start bytes) (AllFault start bytes)
  none_agree start bytes empty = in_words (agrees_ok []) means faults where
    no_bytes : (w : List ℕ) → length w ≡ 0 → w ≡ []
    no_bytes [] e = refl
    no_bytes (b ∷ w) e = absurd (omega (arith, e))

    means : (xs : List X) → (xs ≡ []) ↔ SpellsAll Item xs start bytes
    means [] = (λ same. no_bytes bytes empty, λ is. refl)
    means (x ∷ xs) = (
      λ same. absurd (let no = same in cc),
      λ is. absurd
          (let some = takes x start is.first_bytes is.first in omega (arith, some, empty, ap length is.parts, length-append is.first_bytes is.second_bytes)),
    )

    faults : (f : Fault) → ⊥ ↔ AllFault start bytes f
    faults f = (λ no. absurd no, λ b. omega (arith, b.fails.0, empty, ap length b.parts, length-append b.front b.rest))

  all_words : (i : Input) (xs : List X) → 0 < length i.rest → Next (IsTaken Item i) (λ x. Made (λ ys. SpellsAll Item ys x.1.at x.1.rest) (λ ys. x.0 ∷ ys)) xs ↔ SpellsAll Item xs i.at i.rest
  all_words i [] some = (λ h. absurd (let no = h.2.2 in cc), λ none. absurd (let len : length i.rest ≡ 0 = ap length none in omega (arith, some, len)))
  all_words i (x ∷ xs) some = (
    λ h.
        let one = h.1 in
        let head : x ≡ h.0.0 = let same = h.2.2 in cc in
        let tail : xs ≡ h.2.0 = let same = h.2.2 in cc in
        record {
          first_bytes = one.front;
          first = subst (λ (w : X). Item w i.at one.front) (sym head) one.spelled;
          second_bytes = h.0.1.rest;
          second = subst (λ (w : List X). SpellsAll Item w (i.at + length one.front) h.0.1.rest) (sym tail) (subst (λ (n : ℕ). SpellsAll Item h.2.0 n h.0.1.rest) one.place h.2.1);
          parts = one.parts;
        },
    λ is. (
      (x, record { at = i.at + length is.first_bytes; rest = is.second_bytes }),
      record { front = is.first_bytes; spelled = is.first; parts = is.parts; place = refl },
      (xs, is.second, refl),
    ),
  )

  all_faults : (i : Input) (f : Fault) → 0 < length i.rest → OrNext (Fails i.at i.rest) (IsTaken Item i) (λ x. AllFault x.1.at x.1.rest) f ↔ AllFault i.at i.rest f
  all_faults i f some = (
    λ h. (step_faults i.at i.rest f some).0 (elim h [
      | inl is ↦ inl is
      | inr p ↦ inr (record { x = p.0.0; front = p.1.front; first = p.1.spelled; rest = p.0.1.rest; parts = p.1.parts; fails = subst (λ (n : ℕ). AllFault n p.0.1.rest f) p.1.place p.2 })
    ]),
    λ b. elim ((step_faults i.at i.rest f some).1 b) [
      | inl is ↦ inl is
      | inr c ↦ inr ((c.x, record { at = i.at + length c.front; rest = c.rest }), record { front = c.front; spelled = c.first; parts = c.parts; place = refl }, c.fails)
    ],
  )

  -- items agree from an input on
  abbrev Below : ℕ → Type 0
  Below k = (i : Input) → length i.rest ≤ k → Agrees (all_from item k i) (λ xs. SpellsAll Item xs i.at i.rest) (AllFault i.at i.rest)

  all_from_agrees : (k : ℕ) (i : Input) → length i.rest ≤ k → Agrees (all_from item k i) (λ xs. SpellsAll Item xs i.at i.rest) (AllFault i.at i.rest)
  unfolding all_from
  all_from_agrees zero i le = none_agree i.at i.rest (omega (arith, le))
  all_from_agrees (suc k) i le = by (λ j less. all_from_agrees k j less) i.rest refl where
    rest_agrees : Below k → (x : X × Input) → IsTaken Item i x → Agrees (after_one (all_from item k) x) (Made (λ ys. SpellsAll Item ys x.1.at x.1.rest) (λ ys. x.0 ∷ ys)) (AllFault x.1.at x.1.rest)
    rest_agrees below x t = let less = moves i x t in then_made (below x.1 (omega (arith, less, le))) (λ ys. x.0 ∷ ys)

    some_agrees : Below k → 0 < length i.rest → Agrees (item i >>= after_one (all_from item k)) (λ xs. SpellsAll Item xs i.at i.rest) (AllFault i.at i.rest)
    some_agrees below some = in_words (and_given (reads.agrees i) (after_one (all_from item k)) (rest_agrees below)) (λ xs. all_words i xs some) (λ f. all_faults i f some)

    by : Below k → (bytes : List ℕ) → i.rest ≡ bytes → Agrees (cond (is_empty bytes) (Ok []) (item i >>= after_one (all_from item k))) (λ xs. SpellsAll Item xs i.at i.rest) (AllFault i.at i.rest)
    by below [] same = none_agree i.at i.rest (ap length same)
    by below (b ∷ bytes) same = some_agrees below (omega (arith, ap length same))

  pub all_read : ReadsWhole (all_at item) (SpellsAll Item) AllFault
  unfolding all_at
  all_read = record { agrees = λ i. all_from_agrees (length i.rest) i (omega arith) }

  -- what agrees with the same relations is the same
  one_answer : {Y : Type 0} {M : Y → Type 0} {F : Fault → Type 0} (r q : Result Y Fault) → Agrees r M F → Agrees q M F → r ≡ q
  one_answer (Ok y) q a b = sym ((b.ok y).1 ((a.ok y).0 refl))
  one_answer (Err f) q a b = sym ((b.err f).1 ((a.err f).0 refl))

  others_same : (k : ℕ) (i : Input) (r : Result (X × Input) Fault) → length i.rest ≤ suc k → item i ≡ r → (r >>= after_one (all_from item k)) ≡ (r >>= after_one (all_at item))
  others_same k i (Err f) le is = refl
  others_same k i (Ok x) le is =
      let less = moves i x (((reads.agrees i).ok x).0 is) in
      let same = one_answer (all_from item k x.1) (all_at item x.1) (all_from_agrees k x.1 (omega (arith, less, le))) (all_read.agrees x.1) in
      ap (λ (r : Result (List X) Fault). r >>= with_item x.0) same

  -- the items are the first of them, and those behind it
  pub all_step : (at b : ℕ) (bytes : List ℕ) → all_at item (input_of at (b ∷ bytes)) ≡ (item (input_of at (b ∷ bytes)) >>= after_one (all_at item))
  unfolding all_at all_from
  all_step at b bytes = others_same (length bytes) (input_of at (b ∷ bytes)) (item (input_of at (b ∷ bytes))) (omega arith) refl

  pub all_none : (at : ℕ) → all_at item (input_of at []) ≡ Ok []
  unfolding all_at all_from
  all_none at = refl
