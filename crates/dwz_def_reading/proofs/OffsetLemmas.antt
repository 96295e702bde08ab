-- String offsets tables: contributions are read front by front.
use Rattle.std.proofs.Common.{◌≡◌, ℕ, zero, suc, ◌+◌, ◌-◌, ◌*◌, ◌/◌, ◌%◌, ◌<◌, ◌≤◌, Bool, true, cond, ◌&&◌, eqb, leb, List, [], ◌∷◌, ◌++◌, length, take, drop, Option, Some, None, refl, sym, ap, subst}
use Rattle.std.proofs.Common.{◌∙◌, inl, inr, arith, append_assoc, length-append, length-take, length-drop}
use Rattle.std.specs.Option.{option_map}
use Rattle.std.proofs.lemmas.Bool.{eq-eqb, eqb-true, le-leb, leb-true}
use Rattle.std.proofs.lemmas.List.{drop-drop, take-append-drop}
use Rattle.dwz_bytes.specs.Spelling.{le_value}
use Rattle.dwz_bytes.proofs.GroupLemmas.{chosen}
use Rattle.dwz_bytes.proofs.LebLemmas.{drop-front, take-front}
use Rattle.dwz_def_reading.specs.OffsetTables.{AreSlots, SpellContributions, SpellsContribution, count_at, counts_in, is_contribution, size_at, slot_places, slots_in}
use Rattle.dwz_def_reading.proofs.AbbrevLemmas.{and_true}

-- ---- one contribution

-- what the test says
pub record Whole (bytes : List ℕ) : Type 0 where
  pub long : 8 ≤ length bytes
  pub version : le_value (take 2 (drop 4 bytes)) ≡ 5
  pub low : 4 ≤ size_at bytes
  pub fours : size_at bytes % 4 ≡ 0
  pub fits : 4 + size_at bytes ≤ length bytes
  pub size : size_at bytes ≡ 4 + 4 * count_at bytes

pub whole : (bytes : List ℕ) → is_contribution bytes ≡ true → Whole bytes
unfolding is_contribution count_at
whole bytes e =
    let a = and_true (leb 8 (length bytes)) _ e in
    let b = and_true (eqb (le_value (take 2 (drop 4 bytes))) 5) _ a.1 in
    let d = and_true (leb 4 (size_at bytes)) _ b.1 in
    let f = and_true (eqb (size_at bytes % 4) 0) _ d.1 in
    let low = leb-true 4 (size_at bytes) d.0 in
    let fours = eqb-true (size_at bytes % 4) 0 f.0 in
    record {
      long = leb-true 8 (length bytes) a.0;
      version = eqb-true (le_value (take 2 (drop 4 bytes))) 5 b.0;
      low = low;
      fours = fours;
      fits = leb-true (4 + size_at bytes) (length bytes) f.1;
      size = omega (arith, low, fours);
    }

-- what the front spells, and what is behind it
pub record Fronted (bytes : List ℕ) : Type 0 where
  pub front : List ℕ
  pub spelled : SpellsContribution front (count_at bytes)
  pub parts : bytes ≡ front ++ drop (8 + 4 * count_at bytes) bytes

pub five_parts : (a v p s r : List ℕ) → a ++ (v ++ (p ++ (s ++ r))) ≡ (a ++ (v ++ (p ++ s))) ++ r
five_parts a v p s r = simp append_assoc

pub fronted : (bytes : List ℕ) → is_contribution bytes ≡ true → Fronted bytes
fronted bytes e =
    let w = whole bytes e in
    let n = count_at bytes in
    let behind_len = drop 4 bytes in
    let behind_version = drop 2 behind_len in
    let behind_padding = drop 2 behind_version in
    let a = length-drop 4 bytes in
    let b = length-drop 2 behind_len in
    let d = length-drop 2 behind_version in
    let rest : drop (4 * n) behind_padding ≡ drop (8 + 4 * n) bytes =
    ap (drop (4 * n)) (ap (drop 2) (drop-drop 2 4 bytes) ∙ drop-drop 2 6 bytes) ∙ drop-drop (4 * n) 8 bytes in
    let parts : bytes ≡ take 4 bytes ++ (take 2 behind_len ++ (take 2 behind_version ++ (take (4 * n) behind_padding ++ drop (4 * n) behind_padding))) =
    sym (take-append-drop 4 bytes)
    ∙ ap (λ (x : List ℕ). take 4 bytes ++ x) (sym (take-append-drop 2 behind_len)
    ∙ ap (λ (x : List ℕ). take 2 behind_len ++ x) (sym (take-append-drop 2 behind_version)
    ∙ ap (λ (x : List ℕ). take 2 behind_version ++ x) (sym (take-append-drop (4 * n) behind_padding)))) in
    record {
      front = take 4 bytes ++ (take 2 behind_len ++ (take 2 behind_version ++ take (4 * n) behind_padding));
      spelled = record {
        len = take 4 bytes;
        len_is = record { len = omega (arith, length-take 4 bytes, w.long); value = sym w.size };
        version = take 2 behind_len;
        version_is_5 = record { len = omega (arith, length-take 2 behind_len, a, w.long); value = sym w.version };
        padding = take 2 behind_version;
        padding_is = omega (arith, length-take 2 behind_version, a, b, w.long);
        slots = take (4 * n) behind_padding;
        slots_are = omega (arith, length-take (4 * n) behind_padding, a, b, d, w.size, w.fits);
        parts = refl;
      };
      parts = parts ∙ five_parts (take 4 bytes) (take 2 behind_len) (take 2 behind_version) (take (4 * n) behind_padding) (drop (4 * n) behind_padding)
          ∙ ap (λ (x : List ℕ). (take 4 bytes ++ (take 2 behind_len ++ (take 2 behind_version ++ take (4 * n) behind_padding))) ++ x) rest;
    }

-- what is spelled is read
pub record Seen (bytes rest : List ℕ) (count : ℕ) : Type 0 where
  pub stands : is_contribution bytes ≡ true
  pub count_is : count_at bytes ≡ count
  pub rest_is : drop (8 + 4 * count_at bytes) bytes ≡ rest
  pub longer : length bytes ≡ 8 + 4 * count + length rest

pub take-of : (n : ℕ) (xs ys : List ℕ) → length xs ≡ n → take n (xs ++ ys) ≡ xs
take-of n xs ys len = ap (λ (k : ℕ). take k (xs ++ ys)) (sym len) ∙ take-front xs ys

pub drop-of : (n : ℕ) (xs ys : List ℕ) → length xs ≡ n → drop n (xs ++ ys) ≡ ys
drop-of n xs ys len = ap (λ (k : ℕ). drop k (xs ++ ys)) (sym len) ∙ drop-front xs ys

pub seen : (front rest : List ℕ) (count : ℕ) → SpellsContribution front count → Seen (front ++ rest) rest count
unfolding is_contribution count_at
seen front rest count is =
    let bytes = front ++ rest in
    let tail = is.version ++ (is.padding ++ (is.slots ++ rest)) in
    let parts : bytes ≡ is.len ++ tail = ap (λ (x : List ℕ). x ++ rest) is.parts ∙ sym (five_parts is.len is.version is.padding is.slots rest) in
    let size : size_at bytes ≡ 4 + 4 * count = ap le_value (ap (take 4) parts ∙ take-of 4 is.len tail is.len_is.len) ∙ sym is.len_is.value in
    let version : le_value (take 2 (drop 4 bytes)) ≡ 5 =
    ap le_value (ap (take 2) (ap (drop 4) parts ∙ drop-of 4 is.len tail is.len_is.len) ∙ take-of 2 is.version (is.padding ++ (is.slots ++ rest)) is.version_is_5.len) ∙ sym is.version_is_5.value in
    let front_len : length front ≡ 8 + 4 * count =
    omega (
      arith,
      ap length is.parts,
      length-append is.len (is.version ++ (is.padding ++ is.slots)),
      length-append is.version (is.padding ++ is.slots),
      length-append is.padding is.slots,
      is.len_is.len,
      is.version_is_5.len,
      is.padding_is,
      is.slots_are,
    ) in
    let long : length bytes ≡ 8 + 4 * count + length rest = length-append front rest ∙ ap (λ (n : ℕ). n + length rest) front_len in
    let count_is : (size_at bytes - 4) / 4 ≡ count = omega (arith, size) in
    record {
      stands = (λ j. le-leb 8 (length bytes) (omega (arith, long)) j
          && (eq-eqb (le_value (take 2 (drop 4 bytes))) 5 version j
          && (le-leb 4 (size_at bytes) (omega (arith, size)) j
          && (eq-eqb (size_at bytes % 4) 0 (omega (arith, size)) j
          && le-leb (4 + size_at bytes) (length bytes) (omega (arith, size, long)) j))));
      count_is = count_is;
      rest_is = drop-of (8 + 4 * ((size_at bytes - 4) / 4)) front rest (omega (arith, front_len, count_is));
      longer = long;
    }

-- ---- rows

-- a step on bytes that aren't empty
pub counts_step : (most : ℕ) (bytes : List ℕ) → 0 < length bytes
    → counts_in (suc most) bytes ≡ cond (is_contribution bytes) (option_map (λ (counts : List ℕ). count_at bytes ∷ counts) (counts_in most (drop (8 + 4 * count_at bytes) bytes))) None
unfolding counts_in
counts_step most [] some = absurd (omega (arith, some))
counts_step most (b ∷ rest) some = refl

pub counts_end : (most : ℕ) → counts_in most [] ≡ Some []
unfolding counts_in
counts_end zero = refl
counts_end (suc most) = refl

mapped : (n : ℕ) (o : Option (List ℕ)) (counts : List ℕ) → option_map (λ (cs : List ℕ). n ∷ cs) o ≡ Some counts → (cs : List ℕ) × (o ≡ Some cs) × (counts ≡ n ∷ cs)
mapped n None counts e = absurd cc
mapped n (Some cs) counts e = (cs, refl, cc)

counts_found : (most : ℕ) (bytes counts : List ℕ) → counts_in most bytes ≡ Some counts → SpellContributions counts bytes
unfolding counts_in
counts_found most [] counts e = let none : counts ≡ [] = cc in subst (λ (cs : List ℕ). SpellContributions cs []) (sym none) refl
counts_found zero (b ∷ rest) counts e = absurd cc
counts_found (suc most) (b ∷ rest) counts e =
    let bytes = b ∷ rest in
    elim (chosen (is_contribution bytes) (option_map (λ (cs : List ℕ). count_at bytes ∷ cs) (counts_in most (drop (8 + 4 * count_at bytes) bytes))) None (Some counts) e) [
      | inl p ↦
          let f = fronted bytes p.0 in
          let m = mapped (count_at bytes) (counts_in most (drop (8 + 4 * count_at bytes) bytes)) counts p.1 in
          let others = counts_found most (drop (8 + 4 * count_at bytes) bytes) m.0 m.1 in
          let whole_row : SpellContributions (count_at bytes ∷ m.0) bytes =
          record { front = f.front; first = f.spelled; back = drop (8 + 4 * count_at bytes) bytes; second = others; parts = f.parts } in
          subst (λ (cs : List ℕ). SpellContributions cs bytes) (sym m.2) whole_row
      | inr p ↦ absurd cc
    ]

counts_again : (counts bytes : List ℕ) (most : ℕ) → SpellContributions counts bytes → length bytes ≤ most → counts_in most bytes ≡ Some counts
counts_again [] bytes most is le = ap (counts_in most) is ∙ counts_end most
counts_again (count ∷ counts) bytes zero is le =
    let s = seen is.front is.back count is.first in
    absurd (omega (arith, le, ap length is.parts, s.longer))
counts_again (count ∷ counts) bytes (suc most) is le =
    let both_parts = is.front ++ is.back in
    let s = seen is.front is.back count is.first in
    let others = counts_again counts is.back most is.second (omega (arith, le, ap length is.parts, s.longer)) in
    ap (counts_in (suc most)) is.parts ∙ counts_step most both_parts (omega (arith, s.longer))
    ∙ ap (λ (b : Bool). cond b (option_map (λ (cs : List ℕ). count_at both_parts ∷ cs) (counts_in most (drop (8 + 4 * count_at both_parts) both_parts))) None) s.stands
    ∙ (λ j. option_map (λ (cs : List ℕ). s.count_is j ∷ cs) (counts_in most (s.rest_is j)))
    ∙ ap (option_map (λ (cs : List ℕ). count ∷ cs)) others

pub slots_found : (section places : List ℕ) → slots_in section ≡ Some places → AreSlots section places
slots_found section places e = go (counts_in (length section) section) refl e where
  go : (o : Option (List ℕ)) → counts_in (length section) section ≡ o → option_map (slot_places 0) o ≡ Some places → AreSlots section places
  go None none e = absurd cc
  go (Some counts) some e = (counts, counts_found (length section) section counts some, cc)

pub slots_again : (section places : List ℕ) → AreSlots section places → slots_in section ≡ Some places
slots_again section places is =
    ap (option_map (slot_places 0)) (counts_again is.0 section (length section) is.1 (omega arith)) ∙ ap (λ (ps : List ℕ). Some ps) (sym is.2)
