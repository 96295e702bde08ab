-- Reading whatever the faults, one thing after another.
use Rattle.std.proofs.Common.{◌≡◌, ◌↔◌, ℕ, zero, suc, ◌+◌, List, [], ◌∷◌, ◌++◌, length, Ok, Err, refl, sym, ap, subst, ◌∙◌, arith}
use Rattle.dwz_bytes.specs.Input.{Input}
use Rattle.dwz_def_reading.specs.Sequences.{Both, FaultAt, Reader, Spelling, SpellsAll, SpellsTimes, both_at}
use Rattle.dwz_def_reading.specs.Sequences.{times_at}
use Rattle.dwz_def_reading.proofs.SequenceLemmas.{IsTaken, ReadsAs, both_read, input_of, read_words}

-- ---- reading, whatever the faults

pub record ReadsSome {X : Type 0} (read : Reader X) (Spells : Spelling X) : Type 0 where
  pub agrees : (i : Input) (y : X × Input) → (read i ≡ Ok y) ↔ IsTaken Spells i y

-- the faults are those that are answered
abbrev pub ItsFaults : {X : Type 0} → Reader X → FaultAt
ItsFaults read start bytes f = read (input_of start bytes) ≡ Err f

pub with_faults : {X : Type 0} {read : Reader X} {Spells : Spelling X} → ReadsSome read Spells → ReadsAs read Spells (ItsFaults read)
with_faults {X} {read} {Spells} r = record { agrees = λ i. record { ok = r.agrees i; err = λ f. (λ e. e, λ e. e) } }

pub without_faults : {X : Type 0} {read : Reader X} {Spells : Spelling X} {Fails : FaultAt} → ReadsAs read Spells Fails → ReadsSome read Spells
without_faults {X} {read} {Spells} {Fails} r = record { agrees = λ i. (r.agrees i).ok }

pub both_some : {X Y Z : Type 0} (r : Reader X) (s : X → Reader Y) (First : Spelling X) (Second : X → Spelling Y) (make : X → Y → Z)
    → ReadsSome r First → ((x : X) → ReadsSome (s x) (Second x)) → ReadsSome (both_at r s make) (Both First Second make)
both_some r s First Second make one others =
    without_faults (both_read r s First Second (ItsFaults r) (λ x. ItsFaults (s x)) make (with_faults one) (λ x. with_faults (others x)))

pub some_words : {X : Type 0} {read : Reader X} {S T : Spelling X} → ReadsSome read S → ((x : X) (start : ℕ) (bytes : List ℕ) → S x start bytes ↔ T x start bytes) → ReadsSome read T
some_words {X} {read} {S} {T} r means = without_faults (read_words (with_faults r) means (λ start bytes f. (λ h. h, λ h. h)))

-- nothing is read
abbrev pub none_at : {X : Type 0} → Reader (List X)
none_at i = Ok ([], i)

pub none_some : {X : Type 0} → ReadsSome {X = List X} none_at (λ xs start bytes. (xs ≡ []) × (bytes ≡ []))
none_some {X} = record { agrees = λ i y. (to i y, from i y) } where
  to : (i : Input) (y : List X × Input) → none_at i ≡ Ok y → IsTaken (λ xs start bytes. (xs ≡ []) × (bytes ≡ [])) i y
  to i y e =
      let same : ([], i) ≡ y = let f : none_at i ≡ Ok y = e in cc in
      subst (IsTaken (λ xs start bytes. (xs ≡ []) × (bytes ≡ [])) i) same (record { front = []; spelled = (refl, refl); parts = refl; place = omega arith })

  from : (i : Input) (y : List X × Input) → IsTaken (λ xs start bytes. (xs ≡ []) × (bytes ≡ [])) i y → none_at i ≡ Ok y
  from i y t =
      let rest : i.rest ≡ y.1.rest = t.parts ∙ ap (λ (w : List ℕ). w ++ y.1.rest) t.spelled.1 in
      let at : i.at ≡ y.1.at = omega (arith, t.place, ap length t.spelled.1) in
      let none : [] ≡ y.0 = sym t.spelled.0 in
      λ n. Ok (none n, record { at = at n; rest = rest n })

-- so many items
module _ {X : Type 0} (item : Reader X) (Item : Spelling X) (reads : ReadsSome item Item) where
  no_times_words : (xs : List X) (start : ℕ) (bytes : List ℕ) → ((xs ≡ []) × (bytes ≡ [])) ↔ SpellsTimes Item zero xs start bytes
  no_times_words [] start bytes = (λ h. (refl, h.1), λ h. (refl, h.1))
  no_times_words (x ∷ xs) start bytes = (λ h. absurd (let no = h.0 in cc), λ h. absurd (let some = h.0 in omega (arith, some)))

  times_words : (n : ℕ) (xs : List X) (start : ℕ) (bytes : List ℕ) → Both Item (λ _. SpellsTimes Item n) (λ x xs. x ∷ xs) xs start bytes ↔ SpellsTimes Item (suc n) xs start bytes
  times_words n [] start bytes = (λ b. absurd (let none = b.made in cc), λ s. absurd (let none = s.0 in omega (arith, none)))
  times_words n (x ∷ xs) start bytes = (
    λ b.
        let p = b.both in
        let head : x ≡ b.x = let same = b.made in cc in
        let tail : xs ≡ b.y = let same = b.made in cc in (
          omega (arith, ap length tail, p.second.0),
          record {
            first_bytes = p.first_bytes;
            first = subst (λ (w : X). Item w start p.first_bytes) (sym head) p.first;
            second_bytes = p.second_bytes;
            second = subst (λ (w : List X). SpellsAll Item w (start + length p.first_bytes) p.second_bytes) (sym tail) p.second.1;
            parts = p.parts;
          },
        ),
    λ s.
        let p = s.1 in
        record { x = x; y = xs; both = record { first_bytes = p.first_bytes; first = p.first; second_bytes = p.second_bytes; second = (omega (arith, s.0), p.second); parts = p.parts }; made = refl },
  )

  pub times_read : (n : ℕ) → ReadsSome (times_at item n) (SpellsTimes Item n)
  unfolding times_at
  times_read zero = some_words none_some no_times_words
  times_read (suc n) = some_words (both_some item (λ _. times_at item n) Item (λ _. SpellsTimes Item n) (λ x xs. x ∷ xs) reads (λ _. times_read n)) (times_words n)
