-- The sets of a section are its first, and those behind it.
use Rattle.std.proofs.Common.{◌≡◌, ℕ, ◌<◌, ◌≤◌, List, [], ◌∷◌, ◌++◌, length, drop, Result, Ok, Err, refl, sym, ap, ◌∙◌, append_assoc, arith}
use Rattle.std.proofs.lemmas.List.{append-nil, length-drop}
use Rattle.dwz_model.specs.declared.fault.Fault.{Fault}
use Rattle.dwz_bytes.specs.Input.{Input}
use Rattle.dwz_bytes.specs.Reading.{◌>>=◌}
use Rattle.dwz_def_reading.specs.Ranges.{IsSetFault, RangeSet, SpellsSet, set_at, sets_at}
use Rattle.dwz_def_reading.specs.Sequences.{after_one, with_item}
use Rattle.dwz_def_reading.proofs.RangeLemmas.{set_reads}
use Rattle.dwz_def_reading.proofs.SequenceLemmas.{all_none, all_step, input_of}
use Rattle.dwz_aranges.specs.declared.sets.Set.{Set}
use Rattle.dwz_aranges.specs.Views.{any_unit, set_view, set_views}

set_takes : (set : RangeSet) (start : ℕ) (bytes : List ℕ) → SpellsSet any_unit set start bytes → 0 < length bytes
set_takes set start bytes s = omega (arith, s.whole)

abbrev pub with_more : List RangeSet → List RangeSet → Result (List RangeSet) Fault
with_more xs ys = Ok (xs ++ ys)

-- these sets, and those of an input
abbrev pub sets_into : List RangeSet → Input → Result (List RangeSet) Fault
sets_into xs i = sets_at any_unit i >>= with_more xs

-- what begins with a set goes on behind it
pub sets_begin : (i : Input) → 0 < length i.rest → sets_at any_unit i ≡ (set_at any_unit i >>= after_one (sets_at any_unit))
sets_begin i some = by i.rest refl where
  by : (bytes : List ℕ) → i.rest ≡ bytes → sets_at any_unit i ≡ (set_at any_unit i >>= after_one (sets_at any_unit))
  by [] same = absurd (let len = ap length same in omega (arith, len, some))
  by (b ∷ bytes) same =
      let whole : i ≡ input_of i.at (b ∷ bytes) = λ n. record { at = i.at; rest = same n } in
      ap (sets_at any_unit) whole ∙ all_step (set_at any_unit) (SpellsSet any_unit) (IsSetFault any_unit) (set_reads any_unit) set_takes i.at b bytes
      ∙ ap (λ (j : Input). set_at any_unit j >>= after_one (sets_at any_unit)) (sym whole)

pub sets_end : (i : Input) → length i.rest ≡ 0 → sets_at any_unit i ≡ Ok []
sets_end i none = by i.rest refl where
  by : (bytes : List ℕ) → i.rest ≡ bytes → sets_at any_unit i ≡ Ok []
  by [] same =
      let whole : i ≡ input_of i.at [] = λ n. record { at = i.at; rest = same n } in
      ap (sets_at any_unit) whole ∙ all_none (set_at any_unit) (SpellsSet any_unit) (IsSetFault any_unit) (set_reads any_unit) set_takes i.at
  by (b ∷ bytes) same = absurd (let len = ap length same in omega (arith, len, none))

-- a set was read
pub goes_on : (xs : List RangeSet) (i j : Input) (set : RangeSet) → 0 < length i.rest → set_at any_unit i ≡ Ok (set, j) → sets_into xs i ≡ sets_into (xs ++ set ∷ []) j
goes_on xs i j set some is = ap (λ (r : Result (List RangeSet) Fault). r >>= with_more xs) (sets_begin i some ∙ ap (λ (r : Result (RangeSet × Input) Fault). r >>= after_one (sets_at any_unit)) is)
    ∙ by (sets_at any_unit j) where
      by : (r : Result (List RangeSet) Fault) → ((r >>= with_item set) >>= with_more xs) ≡ (r >>= with_more (xs ++ set ∷ []))
      by (Ok ys) = ap (λ (w : List RangeSet). Ok w) (sym (append_assoc xs (set ∷ []) ys))
      by (Err f) = refl

-- none was read
pub breaks_off : (xs : List RangeSet) (i : Input) (f : Fault) → 0 < length i.rest → set_at any_unit i ≡ Err f → sets_into xs i ≡ Err f
breaks_off xs i f some is = ap (λ (r : Result (List RangeSet) Fault). r >>= with_more xs) (sets_begin i some ∙ ap (λ (r : Result (RangeSet × Input) Fault). r >>= after_one (sets_at any_unit)) is)

pub is_over : (xs : List RangeSet) (i : Input) → length i.rest ≡ 0 → sets_into xs i ≡ Ok xs
is_over xs i none = ap (λ (r : Result (List RangeSet) Fault). r >>= with_more xs) (sets_end i none) ∙ ap (λ (w : List RangeSet). Ok w) (append-nil xs)

pub from_none : (i : Input) → sets_into [] i ≡ sets_at any_unit i
from_none i = by (sets_at any_unit i) where
  by : (r : Result (List RangeSet) Fault) → (r >>= with_more []) ≡ r
  by (Ok ys) = refl
  by (Err f) = refl

pub views_more : (xs : List Set) (x : Set) → set_views (xs ++ x ∷ []) ≡ set_views xs ++ set_view x ∷ []
views_more [] x = refl
views_more (y ∷ xs) x = ap (λ (w : List RangeSet). set_view y ∷ w) (views_more xs x)

pub left_of : (section : List ℕ) (at : ℕ) → at < length section → 0 < length (drop at section)
left_of section at lt = omega (arith, length-drop at section, lt)

pub none_of : (section : List ℕ) (at : ℕ) → length section ≤ at → length (drop at section) ≡ 0
none_of section at le = omega (arith, length-drop at section, le)
