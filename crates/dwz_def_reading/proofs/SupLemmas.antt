-- `.debug_sup`, part by part: each part is read exactly where it is spelled, and the checksum is the rest.
use Rattle.std.proofs.Common.{◌≡◌, ℕ, ◌+◌, ◌^◌, ◌<◌, Bool, true, false, cond, eqb, List, [], ◌∷◌, ◌++◌, length, Some, None, Result, Ok, Err, refl, sym, ap, subst, ◌∙◌, inl, inr, append_assoc, arith}
use Rattle.std.proofs.lemmas.Bool.{eq-eqb, eqb-true}
use Rattle.dwz_bytes.specs.declared.error.ByteErr.{ByteErr}
use Rattle.dwz_bytes.specs.Input.{Input, input}
use Rattle.dwz_bytes.specs.Reading.{fixed_at, uleb_at}
use Rattle.dwz_bytes.specs.Spelling.{SpellsFixed, SpellsUleb, le_bytes, uleb}
use Rattle.dwz_bytes.proofs.FixedLemmas.{fixed_written}
use Rattle.dwz_bytes.proofs.PaddedLemmas.{uleb_spells}
use Rattle.dwz_bytes.proofs.GroupLemmas.{chosen}
use Rattle.dwz_def_reading.specs.declared.supplementary.Sup.{Sup}
use Rattle.dwz_def_reading.specs.Supplementary.{SpellsSup, flag_byte, flag_read, name_read, read_sup, sum_read, sup_bytes, version_read}
use Rattle.dwz_def_reading.specs.Texts.{NoZero, SpellsText, zero_ended_at}
use Rattle.dwz_def_reading.proofs.ReadLemmas.{fixed_reads, text_reads, uleb_reads}

-- ---- what is written is spelled

pub sup_written : (s : Sup) → NoZero s.name → length s.sum < 2 ^ 64 → SpellsSup (sup_bytes s) s
unfolding sup_bytes
sup_written s no_zero short = record {
  version = le_bytes 2 5;
  version_is_5 = fixed_written 2 5 (omega arith);
  name = s.name ++ 0 ∷ [];
  name_is = record { no_zero = no_zero; parts = refl };
  len = uleb (length s.sum);
  len_is = uleb_spells (length s.sum) short;
  parts = ap (λ (w : List ℕ). le_bytes 2 5 ++ (flag_byte s.supplementary ∷ w)) (sym (append_assoc s.name (0 ∷ []) (uleb (length s.sum) ++ s.sum)));
}

-- ---- what is spelled is read

sum_again : (s : Sup) (at : ℕ) (len : List ℕ) → SpellsUleb len (length s.sum) → sum_read s.supplementary s.name (uleb_at (record { at = at; rest = len ++ s.sum })) ≡ Some s
sum_again s at len is =
    ap (sum_read s.supplementary s.name) (uleb_reads.again at (length s.sum) len s.sum is)
    ∙ ap (λ (b : Bool). cond b (Some s) None) (eq-eqb (length s.sum) (length s.sum) refl)

name_again : (s : Sup) (at : ℕ) (name len : List ℕ) → SpellsText name s.name → SpellsUleb len (length s.sum)
    → name_read s.supplementary (zero_ended_at (record { at = at; rest = name ++ (len ++ s.sum) })) ≡ Some s
name_again s at name len named is =
    ap (name_read s.supplementary) (text_reads.again at s.name name (len ++ s.sum) named) ∙ sum_again s (at + length name) len is

flag_again : (at : ℕ) (rest : List ℕ) (supplementary : Bool) → flag_read at (flag_byte supplementary ∷ rest) ≡ name_read supplementary (zero_ended_at (record { at = at; rest = rest }))
flag_again at rest true = refl
flag_again at rest false = refl

pub sup_again : (bytes : List ℕ) (s : Sup) → SpellsSup bytes s → read_sup bytes ≡ Some s
unfolding read_sup
sup_again bytes s is =
    let rest = flag_byte s.supplementary ∷ (is.name ++ (is.len ++ s.sum)) in
    ap (λ (w : List ℕ). version_read (fixed_at 2 (input w 0))) is.parts
    ∙ ap version_read ((fixed_reads 2).again 0 5 is.version rest is.version_is_5)
    ∙ flag_again (0 + length is.version + 1) (is.name ++ (is.len ++ s.sum)) s.supplementary
    ∙ name_again s (0 + length is.version + 1) is.name is.len is.name_is is.len_is

-- ---- what is read is spelled

-- from there on stand the length of the checksum, and the checksum
record SumFound (supplementary : Bool) (name rest : List ℕ) (s : Sup) : Type 0 where
  len : List ℕ
  len_is : SpellsUleb len (length s.sum)
  parts : rest ≡ len ++ s.sum
  flag_is : supplementary ≡ s.supplementary
  name_is : name ≡ s.name

sum_found : (supplementary : Bool) (name : List ℕ) (i : Input) (s : Sup) → sum_read supplementary name (uleb_at i) ≡ Some s → SumFound supplementary name i.rest s
sum_found supplementary name i s e = go (uleb_at i) refl e where
  go : (r : Result (ℕ × Input) ByteErr) → uleb_at i ≡ r → sum_read supplementary name r ≡ Some s → SumFound supplementary name i.rest s
  go (Err d) is e = absurd cc
  go (Ok (n, j)) is e =
      elim (chosen (eqb (length j.rest) n) (Some (record { supplementary = supplementary; name = name; sum = j.rest })) None (Some s) e) [
        | inl p ↦
            let read = uleb_reads.found i j n is in
            let same : record { supplementary = supplementary; name = name; sum = j.rest } ≡ s = cc in
            let rest : j.rest ≡ s.sum = ap (λ (t : Sup). t.sum) same in
            record {
              len = read.front;
              len_is = subst (SpellsUleb read.front) (sym (eqb-true (length j.rest) n p.0) ∙ ap length rest) read.spelled;
              parts = read.parts ∙ ap (λ (w : List ℕ). read.front ++ w) rest;
              flag_is = ap (λ (t : Sup). t.supplementary) same;
              name_is = ap (λ (t : Sup). t.name) same;
            }
        | inr p ↦ absurd cc
      ]

-- from there on stand the name, and what is behind it
record NameFound (supplementary : Bool) (rest : List ℕ) (s : Sup) : Type 0 where
  name : List ℕ
  name_is : SpellsText name s.name
  len : List ℕ
  len_is : SpellsUleb len (length s.sum)
  parts : rest ≡ name ++ (len ++ s.sum)
  flag_is : supplementary ≡ s.supplementary

name_found : (supplementary : Bool) (i : Input) (s : Sup) → name_read supplementary (zero_ended_at i) ≡ Some s → NameFound supplementary i.rest s
name_found supplementary i s e = go (zero_ended_at i) refl e where
  go : (r : Result (List ℕ × Input) ByteErr) → zero_ended_at i ≡ r → name_read supplementary r ≡ Some s → NameFound supplementary i.rest s
  go (Err d) is e = absurd cc
  go (Ok (name, j)) is e =
      let read = text_reads.found i j name is in
      let sum = sum_found supplementary name j s e in
      record {
        name = read.front;
        name_is = subst (SpellsText read.front) sum.name_is read.spelled;
        len = sum.len;
        len_is = sum.len_is;
        parts = read.parts ∙ ap (λ (w : List ℕ). read.front ++ w) sum.parts;
        flag_is = sum.flag_is;
      }

-- from there on stand the flag, the name, and what is behind it
record FlagFound (rest : List ℕ) (s : Sup) : Type 0 where
  name : List ℕ
  name_is : SpellsText name s.name
  len : List ℕ
  len_is : SpellsUleb len (length s.sum)
  parts : rest ≡ flag_byte s.supplementary ∷ (name ++ (len ++ s.sum))

with_flag : (b : ℕ) (supplementary : Bool) (rest : List ℕ) (s : Sup) → b ≡ flag_byte supplementary → NameFound supplementary rest s → FlagFound (b ∷ rest) s
with_flag b supplementary rest s is f = record {
  name = f.name;
  name_is = f.name_is;
  len = f.len;
  len_is = f.len_is;
  parts = ap (λ (x : ℕ). x ∷ rest) (is ∙ ap flag_byte f.flag_is) ∙ ap (λ (w : List ℕ). flag_byte s.supplementary ∷ w) f.parts;
}

flag_found : (at : ℕ) (rest : List ℕ) (s : Sup) → flag_read at rest ≡ Some s → FlagFound rest s
flag_found at [] s e = absurd cc
flag_found at (b ∷ rest) s e =
    let behind : Input = record { at = at; rest = rest } in
    elim (chosen (eqb b 1) (name_read true (zero_ended_at behind)) (cond (eqb b 0) (name_read false (zero_ended_at behind)) None) (Some s) e) [
      | inl p ↦ with_flag b true rest s (eqb-true b 1 p.0) (name_found true behind s p.1)
      | inr p ↦ elim (chosen (eqb b 0) (name_read false (zero_ended_at behind)) None (Some s) p.1) [
        | inl q ↦ with_flag b false rest s (eqb-true b 0 q.0) (name_found false behind s q.1)
        | inr q ↦ absurd cc
      ]
    ]

pub sup_found : (bytes : List ℕ) (s : Sup) → read_sup bytes ≡ Some s → SpellsSup bytes s
unfolding read_sup
sup_found bytes s e = go (fixed_at 2 (input bytes 0)) refl e where
  go : (r : Result (ℕ × Input) ByteErr) → fixed_at 2 (input bytes 0) ≡ r → version_read r ≡ Some s → SpellsSup bytes s
  go (Err d) is e = absurd cc
  go (Ok (version, i)) is e =
      elim (chosen (eqb version 5) (flag_read (i.at + 1) i.rest) None (Some s) e) [
        | inl p ↦
            let read = (fixed_reads 2).found (input bytes 0) i version is in
            let f = flag_found (i.at + 1) i.rest s p.1 in
            record {
              version = read.front;
              version_is_5 = subst (SpellsFixed 2 read.front) (eqb-true version 5 p.0) read.spelled;
              name = f.name;
              name_is = f.name_is;
              len = f.len;
              len_is = f.len_is;
              parts = read.parts ∙ ap (λ (w : List ℕ). read.front ++ w) f.parts;
            }
        | inr p ↦ absurd cc
      ]
