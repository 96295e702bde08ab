-- The values of an entry, read one after the other.
use Rattle.std.proofs.Common.{◌≡◌, ℕ, suc, ◌+◌, ◌<◌, List, [], ◌∷◌, drop, get_or, length, Some, slice_get, Ok, sym, ap, ◌∙◌, arith, refl, zero}
use Rattle.dwz_bytes.specs.Input.{Input}
use Rattle.dwz_bytes.specs.Reading.{◌>>=◌}
use Rattle.dwz_def_reading.specs.Entries.{RawAttr, attrs_at, in_entry, with_value}
use Rattle.dwz_def_reading.specs.Values.{Raw, value_at, written_rows}
use Rattle.dwz_def_reading.proofs.PartLemmas.{bind_ok, same_value}
use Rattle.dwz_def_reading.proofs.ListFacts.{drop_pairs}
use Rattle.dwz_model.specs.declared.place.Pair.{Pair}
use Rattle.dwz_unit.specs.Values.{Reads}
use Rattle.dwz_unit.proofs.FrontLemmas.{attrs_count, in_entry_ok}

-- the next value, and those behind it
pub record Next (entry : ℕ) (pairs : List Pair) (k : ℕ) (pair : Pair) (at : Input) (attrs : List RawAttr) : Type 0 where
  pub raw : Raw
  pub place : Input
  pub value : value_at written_rows pair at ≡ Ok (raw, place)
  pub is : slice_get attrs k ≡ Some (record { at = at.at; end = place.at; pair = pair; raw = raw })
  pub rest : Reads entry (drop (k + 1) pairs) place (drop (k + 1) attrs)

first_left : (attrs : List RawAttr) (k : ℕ) (a : RawAttr) (rest : List RawAttr) → a ∷ rest ≡ drop k attrs → (slice_get attrs k ≡ Some a) × (rest ≡ drop (k + 1) attrs)
first_left [] zero a rest e = absurd cc
first_left [] (suc k) a rest e = absurd cc
first_left (x ∷ attrs) zero a rest e = (let same : x ≡ a = cc in ap Some same, cc)
first_left (x ∷ attrs) (suc k) a rest e =
    let r = first_left attrs k a rest e in
    let one : k + 1 + 1 ≡ suc k + 1 = omega arith in
    let two : suc (k + 1) ≡ suc k + 1 = omega arith in
    (r.0, r.1 ∙ ap (λ (n : ℕ). drop n (x ∷ attrs)) two)

pub reads_next : (entry : ℕ) (pairs : List Pair) (k : ℕ) (d : Pair) (at : Input) (attrs : List RawAttr) → k < length pairs → Reads entry (drop k pairs) at (drop k attrs)
    → Next entry pairs k (get_or pairs k d) at attrs
unfolding attrs_at
reads_next entry pairs k d at attrs lt reads =
    let pair = get_or pairs k d in
    let rest = drop (k + 1) pairs in
    let e = ap (λ (w : List Pair). attrs_at written_rows entry w at) (sym (drop_pairs pairs k d lt)) ∙ reads.read in
    let a = bind_ok (in_entry entry (value_at written_rows pair at)) (λ x. attrs_at written_rows entry rest x.1 >>= with_value at.at x.1.at pair x.0) (drop k attrs, reads.behind) e in
    let b = bind_ok (attrs_at written_rows entry rest a.0.1) (with_value at.at a.0.1.at pair a.0.0) (drop k attrs, reads.behind) a.2 in
    let first : RawAttr = record { at = at.at; end = a.0.1.at; pair = pair; raw = a.0.0 } in
    let same = same_value (first ∷ b.0.0) (drop k attrs) b.0.1 reads.behind (with_value at.at a.0.1.at pair a.0.0 b.0) refl b.2 in
    let left = first_left attrs k first b.0.0 same in
    record {
      raw = a.0.0;
      place = a.0.1;
      value = in_entry_ok entry (value_at written_rows pair at) a.0 a.1;
      is = left.0;
      rest = record { behind = b.0.1; read = b.1 ∙ ap (λ (w : List RawAttr). Ok (w, b.0.1)) left.1 };
    }

-- there are as many values as names and forms
pub reads_count : (entry : ℕ) (pairs : List Pair) (at : Input) (attrs : List RawAttr) → Reads entry pairs at attrs → length attrs ≡ length pairs
reads_count entry pairs at attrs reads = attrs_count written_rows pairs entry at reads.behind attrs reads.read
