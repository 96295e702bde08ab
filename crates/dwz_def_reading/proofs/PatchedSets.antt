-- Sets of address ranges with other unit offsets are spelled, set by set.
use Rattle.std.proofs.Common.{◌≡◌, ℕ, ◌+◌, ◌^◌, ◌<◌, ◌≤◌, Bool, true, List, [], ◌∷◌, ◌++◌, length, take, drop, refl, sym, ap, subst, ◌∙◌, arith, append_assoc}
use Rattle.std.proofs.lemmas.List.{drop-drop, length-append, length-drop, length-take-le, take-append-drop}
use Rattle.std.proofs.Math.Seq.{drop-append_seam, set-append_seam, take-append_seam}
use Rattle.dwz_bytes.specs.Spelling.{le_bytes, le_value}
use Rattle.dwz_bytes.proofs.FixedLemmas.{fixed_written}
use Rattle.dwz_def_reading.specs.Units.{field}
use Rattle.dwz_def_reading.proofs.HeaderLemmas.{field-append}
use Rattle.dwz_def_reading.specs.Patching.{AreUnits, of_units, with_units, written_at}
use Rattle.dwz_def_reading.specs.Ranges.{RangeSet, SpellsSet, SpellsSets, set_length, set_unit}
use Rattle.dwz_def_reading.proofs.CutLemmas.{le_len}

-- bytes written over as many others
pub over : (before old new rest : List ℕ) → length old ≡ length new → written_at (length before) new (before ++ (old ++ rest)) ≡ before ++ (new ++ rest)
unfolding written_at
over before [] [] rest many = refl
over before [] (b ∷ new) rest many = absurd (omega (arith, many))
over before (o ∷ old) [] rest many = absurd (omega (arith, many))
over before (o ∷ old) (b ∷ new) rest many =
    let longer : length (before ++ b ∷ []) ≡ length before + 1 = omega (arith, length-append before (b ∷ [])) in
    ap (written_at (length before + 1) new) (set-append_seam before o (old ++ rest) b ∙ sym (append_assoc before (b ∷ []) (old ++ rest)))
    ∙ ap (λ (n : ℕ). written_at n new ((before ++ b ∷ []) ++ (old ++ rest))) (sym longer)
    ∙ over (before ++ b ∷ []) old new rest (omega (arith, many))
    ∙ append_assoc before (b ∷ []) (new ++ rest)

-- a set with another unit offset
abbrev renewed : ℕ → List ℕ → List ℕ
renewed n bytes = take 6 bytes ++ (le_bytes 4 n ++ drop 10 bytes)

renewed_len : (n : ℕ) (bytes : List ℕ) → 12 ≤ length bytes → length (renewed n bytes) ≡ length bytes
renewed_len n bytes le =
    let front : length (take 6 bytes) ≡ 6 = length-take-le 6 bytes (omega (arith, le)) in
    omega (arith, front, length-append (take 6 bytes) (le_bytes 4 n ++ drop 10 bytes), length-append (le_bytes 4 n) (drop 10 bytes), le_len 4 n, length-drop 10 bytes, le)

one_written : (before bytes rest : List ℕ) (n : ℕ) → 12 ≤ length bytes → written_at (length before + 6) (le_bytes 4 n) (before ++ (bytes ++ rest)) ≡ before ++ (renewed n bytes ++ rest)
one_written before bytes rest n le =
    let front = take 6 bytes in
    let old = take 4 (drop 6 bytes) in
    let behind = drop 10 bytes in
    let front_len : length front ≡ 6 = length-take-le 6 bytes (omega (arith, le)) in
    let old_len : length old ≡ 4 = length-take-le 4 (drop 6 bytes) (omega (arith, length-drop 6 bytes, le)) in
    let cut : bytes ≡ front ++ (old ++ behind) = sym (take-append-drop 6 bytes)
    ∙ ap (λ (w : List ℕ). front ++ w) (sym (take-append-drop 4 (drop 6 bytes)) ∙ ap (λ (w : List ℕ). old ++ w) (drop-drop 4 6 bytes)) in
    let whole : before ++ (bytes ++ rest) ≡ (before ++ front) ++ (old ++ (behind ++ rest)) =
    ap (λ (w : List ℕ). before ++ (w ++ rest)) cut ∙ ap (λ (w : List ℕ). before ++ w) (append_assoc front (old ++ behind) rest ∙ ap (λ (w : List ℕ). front ++ w) (append_assoc old behind rest))
    ∙ sym (append_assoc before front (old ++ (behind ++ rest))) in
    let place : length before + 6 ≡ length (before ++ front) = omega (arith, front_len, length-append before front) in
    let back : (before ++ front) ++ (le_bytes 4 n ++ (behind ++ rest)) ≡ before ++ (renewed n bytes ++ rest) =
    append_assoc before front (le_bytes 4 n ++ (behind ++ rest)) ∙ ap (λ (w : List ℕ). before ++ w)
    (ap (λ (w : List ℕ). front ++ w) (sym (append_assoc (le_bytes 4 n) behind rest)) ∙ sym (append_assoc front (le_bytes 4 n ++ behind) rest)) in
    ap (written_at (length before + 6) (le_bytes 4 n)) whole
    ∙ ap (λ (k : ℕ). written_at k (le_bytes 4 n) ((before ++ front) ++ (old ++ (behind ++ rest)))) place
    ∙ over (before ++ front) old (le_bytes 4 n) (behind ++ rest) (omega (arith, old_len, le_len 4 n))
    ∙ back

-- what stands before the offset is the same
field_stays : (at width n : ℕ) (bytes : List ℕ) → at + width ≤ 6 → 12 ≤ length bytes → field at width (renewed n bytes) ≡ field at width bytes
field_stays at width n bytes le room =
    let front_len : length (take 6 bytes) ≡ 6 = length-take-le 6 bytes (omega (arith, room)) in
    field-append at width (take 6 bytes) (le_bytes 4 n ++ drop 10 bytes) (omega (arith, le, front_len))
    ∙ sym (field-append at width (take 6 bytes) (drop 6 bytes) (omega (arith, le, front_len)))
    ∙ ap (field at width) (take-append-drop 6 bytes)

unit_is : (n : ℕ) (bytes : List ℕ) → n < 2 ^ 32 → 12 ≤ length bytes → set_unit (renewed n bytes) ≡ n
unit_is n bytes lt room =
    let front_len : length (take 6 bytes) ≡ 6 = length-take-le 6 bytes (omega (arith, room)) in
    let behind : drop 6 (renewed n bytes) ≡ le_bytes 4 n ++ drop 10 bytes = ap (λ (k : ℕ). drop k (renewed n bytes)) (sym front_len)
    ∙ drop-append_seam (take 6 bytes) (le_bytes 4 n ++ drop 10 bytes) in
    let four : take 4 (le_bytes 4 n ++ drop 10 bytes) ≡ le_bytes 4 n = ap (λ (k : ℕ). take k (le_bytes 4 n ++ drop 10 bytes)) (sym (le_len 4 n)) ∙ take-append_seam (le_bytes 4 n) (drop 10 bytes) in
    let value = (fixed_written 4 n lt).value in
    ap (λ (w : List ℕ). le_value (take 4 w)) behind ∙ ap le_value four ∙ sym value

set_renewed : (is_unit others : ℕ → Bool) (s : RangeSet) (n start : ℕ) (bytes : List ℕ) → SpellsSet is_unit s start bytes → n < 2 ^ 32 → others n ≡ true
    → SpellsSet others (record { at = s.at; unit = n }) start (renewed n bytes)
set_renewed is_unit others s n start bytes spelled lt known =
    let room : 12 ≤ length bytes = omega (arith, spelled.whole, spelled.some) in
    let len : set_length (renewed n bytes) ≡ set_length bytes = field_stays 0 4 n bytes (omega arith) room in
    let unit = unit_is n bytes lt room in
    record {
      place = spelled.place;
      whole = omega (arith, len, spelled.whole, renewed_len n bytes room);
      some = omega (arith, len, spelled.some);
      version = field_stays 4 2 n bytes (omega arith) room ∙ spelled.version;
      unit = sym unit;
      known = ap others unit ∙ known;
    }

pub record AreRenewed (others : ℕ → Bool) (before : List ℕ) (sets : List RangeSet) (numbers : List ℕ) (start : ℕ) (bytes : List ℕ) : Type 0 where
  pub new : List ℕ
  pub written : with_units sets numbers (before ++ bytes) ≡ before ++ new
  pub spelled : SpellsSets others (of_units sets numbers) start new
  pub len : length new ≡ length bytes

sets_renewed : (is_unit others : ℕ → Bool) (before : List ℕ) (sets : List RangeSet) (numbers : List ℕ) (start : ℕ) (bytes : List ℕ) → length before ≡ start → SpellsSets is_unit sets start bytes
    → length numbers ≡ length sets → AreUnits others numbers → AreRenewed others before sets numbers start bytes
unfolding with_units of_units
sets_renewed is_unit others before [] [] start bytes place s many are = record { new = bytes; written = refl; spelled = s; len = refl }
sets_renewed is_unit others before [] (n ∷ numbers) start bytes place s many are = absurd (omega (arith, many))
sets_renewed is_unit others before (t ∷ sets) [] start bytes place s many are = absurd (omega (arith, many))
sets_renewed is_unit others before (t ∷ sets) (n ∷ numbers) start bytes place s many are =
    let front = s.first_bytes in
    let one = s.first in
    let room : 12 ≤ length front = omega (arith, one.whole, one.some) in
    let first = set_renewed is_unit others t n start front one are.0 are.1 in
    let new_len = renewed_len n front room in
    let behind : start + length front ≡ start + length (renewed n front) = omega (arith, new_len) in
    let rest = sets_renewed is_unit others (before ++ renewed n front) sets numbers (start + length front) s.second_bytes (omega (arith, place, new_len, length-append before (renewed n front)))
    s.second (omega (arith, many)) are.2 in
    let at : t.at + 6 ≡ length before + 6 = omega (arith, one.place, place) in
    let written : written_at (t.at + 6) (le_bytes 4 n) (before ++ bytes) ≡ (before ++ renewed n front) ++ s.second_bytes =
    ap (λ (k : ℕ). written_at k (le_bytes 4 n) (before ++ bytes)) at
    ∙ ap (λ (w : List ℕ). written_at (length before + 6) (le_bytes 4 n) (before ++ w)) s.parts
    ∙ one_written before front s.second_bytes n room
    ∙ sym (append_assoc before (renewed n front) s.second_bytes) in
    record {
      new = renewed n front ++ rest.new;
      written = ap (with_units sets numbers) written ∙ rest.written ∙ append_assoc before (renewed n front) rest.new;
      spelled = record {
        first_bytes = renewed n front;
        first = first;
        second_bytes = rest.new;
        second = subst (λ (k : ℕ). SpellsSets others (of_units sets numbers) k rest.new) behind rest.spelled;
        parts = refl;
      };
      len = omega (arith, length-append (renewed n front) rest.new, new_len, rest.len, ap length s.parts, length-append front s.second_bytes);
    }

pub sets_patched : (is_unit others : ℕ → Bool) (section : List ℕ) (sets : List RangeSet) (numbers : List ℕ) → SpellsSets is_unit sets 0 section → length numbers ≡ length sets → AreUnits others numbers
    → SpellsSets others (of_units sets numbers) 0 (with_units sets numbers section)
sets_patched is_unit others section sets numbers s many are =
    let r = sets_renewed is_unit others [] sets numbers 0 section refl s many are in
    subst (λ (w : List ℕ). SpellsSets others (of_units sets numbers) 0 w) (sym r.written) r.spelled

pub sets_length : (is_unit others : ℕ → Bool) (section : List ℕ) (sets : List RangeSet) (numbers : List ℕ) → SpellsSets is_unit sets 0 section → length numbers ≡ length sets → AreUnits others numbers
    → length (with_units sets numbers section) ≡ length section
sets_length is_unit others section sets numbers s many are =
    let r = sets_renewed is_unit others [] sets numbers 0 section refl s many are in
    ap length r.written ∙ r.len
