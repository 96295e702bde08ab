-- Texts and slots.
use Rattle.std.proofs.Common.{◌≡◌, ◌≢◌, ℕ, zero, suc, ◌+◌, ◌<◌, ◌≤◌, List, [], ◌∷◌, ◌++◌, length, take, drop, Option, Some, None, Ok, refl, sym, ap, subst, ◌∙◌, eqb, ltb, false, true, arith, inl, inr}
use Rattle.std.proofs.Common.{append_assoc, get_or}
use Rattle.std.specs.Option.{option_map}
use Rattle.std.proofs.lemmas.Bool.{eq-eqb, eqb-false, eqb-true, le-ltb, lt-ltb, ltb-false, ltb-true, ne_eqb}
use Rattle.std.proofs.lemmas.List.{length-append, length-drop, length-take, take-append-drop}
use Rattle.dwz_bytes.specs.Input.{Input, past}
use Rattle.dwz_bytes.specs.Laws.{One}
use Rattle.dwz_bytes.specs.Spelling.{le_value}
use Rattle.dwz_bytes.proofs.GroupLemmas.{chosen}
use Rattle.dwz_bytes.proofs.LebLemmas.{drop-front, take-front}
use Rattle.dwz_def_reading.specs.Parts.{Again, Found, IsRead}
use Rattle.dwz_def_reading.specs.Texts.{IsSlot, IsTextAt, NoZero, SpellsText, behind_text, slot, slot_place, text_at, text_in, zero_ended_at}
use Rattle.dwz_def_reading.proofs.PartLemmas.{same_input, same_value}

-- what was mapped
pub mapped : {A B : Type 0} (f : A → B) (o : Option A) (y : B) → option_map f o ≡ Some y → (x : A) × (o ≡ Some x) × (f x ≡ y)
mapped f (Some x) y e = (x, refl, cc)
mapped f None y e = absurd cc

not_mapped : {A B : Type 0} (f : A → B) (o : Option A) → option_map f o ≡ None → o ≡ None
not_mapped f (Some x) e = absurd cc
not_mapped f None e = refl

-- a text, the zero byte behind it, and what follows
pub record Begins (bytes text : List ℕ) : Type 0 where
  pub after : List ℕ
  pub no_zero : NoZero text
  pub parts : bytes ≡ text ++ 0 ∷ after

pub text_begins : (bytes text : List ℕ) → text_in bytes ≡ Some text → Begins bytes text
unfolding text_in
text_begins [] text e = absurd cc
text_begins (b ∷ bs) text e =
    elim (chosen (eqb b 0) (Some []) (option_map (λ t. b ∷ t) (text_in bs)) (Some text) e) [
      | inl p ↦
          let none : [] ≡ text = cc in
          record {
            after = bs;
            no_zero = subst NoZero none tt;
            parts = subst (λ (t : List ℕ). b ∷ bs ≡ t ++ 0 ∷ bs) none (ap (λ (z : ℕ). z ∷ bs) (eqb-true b 0 p.0));
          }
      | inr p ↦
          let m = mapped (λ t. b ∷ t) (text_in bs) text p.1 in
          let more = text_begins bs m.0 m.1 in
          record {
            after = more.after;
            no_zero = subst NoZero m.2 (eqb-false b 0 p.0, more.no_zero);
            parts = subst (λ (t : List ℕ). b ∷ bs ≡ t ++ 0 ∷ more.after) m.2 (ap (λ (w : List ℕ). b ∷ w) more.parts);
          }
    ]

pub none_begins : (bytes : List ℕ) → text_in bytes ≡ None → NoZero bytes
unfolding text_in
none_begins [] e = tt
none_begins (b ∷ bs) e =
    elim (chosen (eqb b 0) (Some []) (option_map (λ t. b ∷ t) (text_in bs)) None e) [
      | inl p ↦ absurd cc
      | inr p ↦ (eqb-false b 0 p.0, none_begins bs (not_mapped (λ t. b ∷ t) (text_in bs) p.1))
    ]

pub text_again : (text after : List ℕ) → NoZero text → text_in (text ++ 0 ∷ after) ≡ Some text
unfolding text_in
text_again [] after n = refl
text_again (t ∷ text) after n =
    let test : eqb t 0 ≡ false = ne_eqb t 0 n.0 in
    let more = text_again text after n.1 in
    rw (test, more) refl

pub none_again : (bytes : List ℕ) → NoZero bytes → text_in bytes ≡ None
unfolding text_in
none_again [] n = refl
none_again (b ∷ bs) n =
    let test : eqb b 0 ≡ false = ne_eqb b 0 n.0 in
    let more = none_again bs n.1 in
    rw (test, more) refl

-- no byte is 0
zero_free : (bytes : List ℕ) → ((k : ℕ) → k < length bytes → get_or bytes k 0 ≢ 0) → NoZero bytes
zero_free [] each = tt
zero_free (b ∷ bs) each = (each 0 (omega arith), zero_free bs (λ k lt. each (suc k) (omega arith)))

pub text_in-none : (bytes : List ℕ) → ((k : ℕ) → k < length bytes → get_or bytes k 0 ≢ 0) → text_in bytes ≡ None
text_in-none bytes each = none_again bytes (zero_free bytes each)

-- the first byte that is 0 ends the text
pub text_in-some : (bytes : List ℕ) (end : ℕ) → end < length bytes → ((k : ℕ) → k < end → get_or bytes k 0 ≢ 0) → get_or bytes end 0 ≡ 0 → text_in bytes ≡ Some (take end bytes)
unfolding text_in
text_in-some [] end lt before is = absurd (omega (arith, lt))
text_in-some (b ∷ bs) zero lt before is = let test : eqb b 0 ≡ true = eq-eqb b 0 is in rw test refl
text_in-some (b ∷ bs) (suc end) lt before is =
    let test : eqb b 0 ≡ false = ne_eqb b 0 (before 0 (omega arith)) in
    let more = text_in-some bs end (omega (arith, lt)) (λ k less. before (suc k) (omega arith)) is in
    rw (test, more) refl

-- ---- at an offset

before_drop : (offset : ℕ) (bytes : List ℕ) → offset ≤ length bytes → length (take offset bytes) ≡ offset
before_drop offset bytes le = omega (arith, length-take offset bytes)

not_empty : (text after : List ℕ) → length (text ++ 0 ∷ after) ≡ 0 → ⊥
not_empty text after e = omega (arith, length-append text (0 ∷ after))

-- what a text is found in reaches beyond the offset
within : (section text after : List ℕ) (offset : ℕ) → drop offset section ≡ text ++ 0 ∷ after → offset ≤ length section
within section text after offset e =
    let len : length (drop offset section) ≡ length (text ++ 0 ∷ after) = ap length e in
    omega (arith, length-drop offset section, length-append text (0 ∷ after))

pub text_here : (section text : List ℕ) (offset : ℕ) → text_at section offset ≡ Some text → IsTextAt section offset text
text_here section text offset e =
    let b = text_begins (drop offset section) text e in
    record {
      before = take offset section;
      front = text ++ 0 ∷ [];
      after = b.after;
      spelled = record { no_zero = b.no_zero; parts = refl };
      length_before = before_drop offset section (within section text b.after offset b.parts);
      parts = sym (take-append-drop offset section) ∙ ap (λ (w : List ℕ). take offset section ++ w) (b.parts ∙ sym (append_assoc text (0 ∷ []) b.after));
    }

pub here_text : (section text : List ℕ) (offset : ℕ) → IsTextAt section offset text → text_at section offset ≡ Some text
here_text section text offset is =
    let at : drop offset section ≡ is.front ++ is.after = ap (λ (n : ℕ). drop n section) (sym is.length_before) ∙ ap (drop (length is.before)) is.parts ∙ drop-front is.before (is.front ++ is.after) in
    let bytes : drop offset section ≡ text ++ 0 ∷ is.after = at ∙ ap (λ (w : List ℕ). w ++ is.after) is.spelled.parts ∙ append_assoc text (0 ∷ []) is.after in
    ap text_in bytes ∙ text_again text is.after is.spelled.no_zero

-- ---- at the front of an input

pub text_found : Found SpellsText zero_ended_at
text_found i j x e = behind (text_in i.rest) refl e where
  behind : (o : Option (List ℕ)) → text_in i.rest ≡ o → behind_text i o ≡ Ok (x, j) → IsRead SpellsText i j x
  behind None is f = absurd cc
  behind (Some text) is f =
      let b = text_begins i.rest text is in
      let same : text ≡ x = same_value text x (past (length text + 1) i) j (behind_text i (Some text)) refl f in
      let to : past (length text + 1) i ≡ j = same_input text x (past (length text + 1) i) j (behind_text i (Some text)) refl f in
      let whole : i.rest ≡ (text ++ 0 ∷ []) ++ b.after = b.parts ∙ sym (append_assoc text (0 ∷ []) b.after) in
      let len : length (text ++ 0 ∷ []) ≡ length text + 1 = length-append text (0 ∷ []) in
      let left : drop (length text + 1) i.rest ≡ b.after = ap (λ (n : ℕ). drop n i.rest) (sym len) ∙ ap (drop (length (text ++ 0 ∷ []))) whole ∙ drop-front (text ++ 0 ∷ []) b.after in
      subst (λ (t : List ℕ). IsRead SpellsText i j t) same (subst (λ (k : Input). IsRead SpellsText i k text) to (record {
        front = text ++ 0 ∷ [];
        spelled = record { no_zero = b.no_zero; parts = refl };
        parts = whole ∙ ap (λ (w : List ℕ). (text ++ 0 ∷ []) ++ w) (sym left);
        place = ap (λ (n : ℕ). i.at + n) (sym len);
      }))

pub text_read_again : Again SpellsText zero_ended_at
text_read_again at x front rest is =
    let whole : front ++ rest ≡ x ++ 0 ∷ rest = ap (λ (w : List ℕ). w ++ rest) is.parts ∙ append_assoc x (0 ∷ []) rest in
    let in_front : text_in (front ++ rest) ≡ Some x = ap text_in whole ∙ text_again x rest is.no_zero in
    let len : length x + 1 ≡ length front = sym (length-append x (0 ∷ [])) ∙ ap length (sym is.parts) in
    let left : drop (length x + 1) (front ++ rest) ≡ rest = ap (λ (n : ℕ). drop n (front ++ rest)) len ∙ drop-front front rest in
    rw (in_front, left, len) refl

pub text_one : One SpellsText
text_one a b more others x y p q e =
    let first = text_in (a ++ more) in
    let px : text_in (a ++ more) ≡ Some x = ap (λ (w : List ℕ). text_in (w ++ more)) p.parts ∙ ap text_in (append_assoc x (0 ∷ []) more) ∙ text_again x more p.no_zero in
    let qy : text_in (b ++ others) ≡ Some y = ap (λ (w : List ℕ). text_in (w ++ others)) q.parts ∙ ap text_in (append_assoc y (0 ∷ []) others) ∙ text_again y others q.no_zero in
    let both : Some x ≡ Some y = sym px ∙ ap text_in e ∙ qy in
    let same : x ≡ y = cc in
    (p.parts ∙ ap (λ (t : List ℕ). t ++ 0 ∷ []) same ∙ sym q.parts, same)

-- ---- slots

pub slot_here : (section : List ℕ) (base index number : ℕ) → slot section base index ≡ Some number → IsSlot section base index number
slot_here section base index number e =
    let place = slot_place base index in
    elim (chosen (ltb (length section) (place + 4)) None (Some (le_value (take 4 (drop place section)))) (Some number) e) [
      | inl p ↦ absurd cc
      | inr p ↦
          let room : place + 4 ≤ length section = ltb-false (length section) (place + 4) p.0 in
          let value : le_value (take 4 (drop place section)) ≡ number = cc in
          record {
            before = take place section;
            front = take 4 (drop place section);
            after = drop 4 (drop place section);
            spelled = record { len = omega (arith, length-take 4 (drop place section), length-drop place section); value = sym value };
            length_before = before_drop place section (omega arith);
            parts = sym (take-append-drop place section) ∙ ap (λ (w : List ℕ). take place section ++ w) (sym (take-append-drop 4 (drop place section)));
          }
    ]

pub here_slot : (section : List ℕ) (base index number : ℕ) → IsSlot section base index number → slot section base index ≡ Some number
here_slot section base index number is =
    let place = slot_place base index in
    let at : drop place section ≡ is.front ++ is.after = ap (λ (n : ℕ). drop n section) (sym is.length_before) ∙ ap (drop (length is.before)) is.parts ∙ drop-front is.before (is.front ++ is.after) in
    let four : take 4 (drop place section) ≡ is.front = ap (take 4) at ∙ ap (λ (n : ℕ). take n (is.front ++ is.after)) (sym is.spelled.len) ∙ take-front is.front is.after in
    let len : length section ≡ length is.before + (length is.front + length is.after) = ap length is.parts ∙ length-append is.before (is.front ++ is.after)
    ∙ ap (λ (n : ℕ). length is.before + n) (length-append is.front is.after) in
    let test : ltb (length section) (place + 4) ≡ false = le-ltb (length section) (place + 4) (omega (arith, len, is.length_before, is.spelled.len)) in
    rw (test, four) (ap Some (sym is.spelled.value))

pub no_slot : (section : List ℕ) (base index : ℕ) → slot section base index ≡ None → length section < slot_place base index + 4
no_slot section base index e =
    let place = slot_place base index in
    elim (chosen (ltb (length section) (place + 4)) None (Some (le_value (take 4 (drop place section)))) None e) [
      | inl p ↦ ltb-true (length section) (place + 4) p.0
      | inr p ↦ absurd cc
    ]

pub short_section : (section : List ℕ) (base index : ℕ) → length section < slot_place base index + 4 → slot section base index ≡ None
short_section section base index lt =
    let test : ltb (length section) (slot_place base index + 4) ≡ true = lt-ltb (length section) (slot_place base index + 4) lt in
    rw test refl
