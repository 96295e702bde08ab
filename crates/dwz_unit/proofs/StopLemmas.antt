-- From one stop to the next: what is passed over, and the value that is read there.
use Rattle.std.proofs.Common.{◌≡◌, ℕ, zero, suc, ◌+◌, ◌<◌, ◌≤◌, Bool, true, false, List, [], ◌∷◌, ◌++◌, drop, length, map, take, Option, Some, None, refl, sym, ap, subst, ◌∙◌, arith}
use Rattle.std.specs.Prelude.{◌&&◌, if◌then◌else◌}
use Rattle.std.specs.Option.{is_some, option_map_or}
use Rattle.std.proofs.lemmas.List.{drop-drop, length-drop, take-map}
use Rattle.dwz_bytes.specs.Input.{Input, past}
use Rattle.dwz_def_reading.specs.Entries.{RawAttr}
use Rattle.dwz_def_reading.proofs.AttrPairs.{read_pairs}
use Rattle.dwz_forms.specs.FixedSizes.{fixed_size}
use Rattle.dwz_forms.proofs.FixedEnds.{fixed_ends}
use Rattle.dwz_model.specs.Lists.{Each}
use Rattle.dwz_model.specs.declared.place.Pair.{Pair}
use Rattle.dwz_unit.specs.Stops.{is_passed, passed_size, stops_from}
use Rattle.dwz_unit.specs.Values.{Reads}
use Rattle.dwz_unit.specs.declared.stops.Stop.{Stop}
use Rattle.dwz_unit.proofs.ReadsLemmas.{reads_next}

abbrev pub IsPassed : Pair → Type 0
IsPassed pair = is_passed pair ≡ true

-- how many bytes the values have that are passed over
run_size : List Pair → ℕ
run_size [] = 0
run_size (pair ∷ pairs) = passed_size pair + run_size pairs

-- ---- among names and forms

-- the first stop, behind a run that is passed over
record FirstStop (pairs : List Pair) (from before : ℕ) (s : Stop) (others : List Stop) : Type 0 where
  pub count : ℕ
  pub below : count < length pairs
  pub number : s.number ≡ from + count
  pub skip : s.skip ≡ before + run_size (take count pairs)
  pub passed : Each IsPassed (take count pairs)
  pub rest : stops_from (drop (count + 1) pairs) (s.number + 1) 0 ≡ others

first_stop : (pairs : List Pair) (number skip : ℕ) (s : Stop) (rest : List Stop) → stops_from pairs number skip ≡ s ∷ rest → FirstStop pairs number skip s rest
unfolding stops_from run_size
first_stop [] number skip s rest e = absurd cc
first_stop (pair ∷ pairs) number skip s rest e = by (is_passed pair) refl (first_stop pairs (number + 1) (skip + passed_size pair) s rest) e where
  here : Stop
  here = record { skip = skip; number = number }

  by : (b : Bool) → is_passed pair ≡ b
      → (stops_from pairs (number + 1) (skip + passed_size pair) ≡ s ∷ rest → FirstStop pairs (number + 1) (skip + passed_size pair) s rest)
      → (if b then stops_from pairs (number + 1) (skip + passed_size pair) else here ∷ stops_from pairs (number + 1) 0) ≡ s ∷ rest → FirstStop (pair ∷ pairs) number skip s rest
  by true is later e =
      let r = later e in
      let one : suc r.count + 1 ≡ suc (r.count + 1) = omega arith in
      record {
        count = suc r.count;
        below = omega (arith, r.below);
        number = omega (arith, r.number);
        skip = omega (arith, r.skip);
        passed = (is, r.passed);
        rest = ap (λ (n : ℕ). stops_from (drop n (pair ∷ pairs)) (s.number + 1) 0) one ∙ r.rest;
      }
  by false is later e =
      let same : here ≡ s = cc in
      let behind : stops_from pairs (number + 1) 0 ≡ rest = cc in
      let at : s.number ≡ number = ap (λ (x : Stop). x.number) (sym same) in
      let between : s.skip ≡ skip = ap (λ (x : Stop). x.skip) (sym same) in
      record {
        count = 0;
        below = omega arith;
        number = omega (arith, at);
        skip = omega (arith, between);
        passed = tt;
        rest = ap (λ (n : ℕ). stops_from pairs (n + 1) 0) at ∙ behind;
      }

-- where there is no stop, all are passed over
all_passed : (pairs : List Pair) (number skip : ℕ) → stops_from pairs number skip ≡ [] → Each IsPassed pairs
unfolding stops_from
all_passed [] number skip e = tt
all_passed (pair ∷ pairs) number skip e = by (is_passed pair) refl (all_passed pairs (number + 1) (skip + passed_size pair)) e where
  by : (b : Bool) → is_passed pair ≡ b → (stops_from pairs (number + 1) (skip + passed_size pair) ≡ [] → Each IsPassed pairs)
      → (if b then stops_from pairs (number + 1) (skip + passed_size pair) else record { skip = skip; number = number } ∷ stops_from pairs (number + 1) 0) ≡ []
      → Each IsPassed (pair ∷ pairs)
  by true is later e = (is, later e)
  by false is later e = absurd cc

-- ---- among values

sized : (o : Option ℕ) (b : Bool) → (is_some o && b) ≡ true → o ≡ Some (option_map_or (λ n. n) o 0)
sized None b e = absurd cc
sized (Some n) b e = refl

-- the values behind a run that is passed over
record ReadsBehind (entry : ℕ) (pairs : List Pair) (count : ℕ) (at : Input) (attrs : List RawAttr) : Type 0 where
  pub within : run_size (take count pairs) ≤ length at.rest
  pub reads : Reads entry (drop count pairs) (past (run_size (take count pairs)) at) (drop count attrs)

pub past_none : (at : Input) → past 0 at ≡ at
past_none at = let same : at.at + 0 ≡ at.at = omega arith in (λ i. record { at = same i; rest = at.rest })

pub past_both : (m n : ℕ) (at : Input) → past n (past m at) ≡ past (m + n) at
past_both m n at =
    let place : at.at + m + n ≡ at.at + (m + n) = omega arith in
    let rest : drop n (drop m at.rest) ≡ drop (m + n) at.rest = drop-drop n m at.rest in
    (λ i. record { at = place i; rest = rest i })

reads_behind : (entry : ℕ) (pairs : List Pair) (count : ℕ) (at : Input) (attrs : List RawAttr) → count ≤ length pairs → Each IsPassed (take count pairs) → Reads entry pairs at attrs
    → ReadsBehind entry pairs count at attrs
unfolding run_size
reads_behind entry pairs zero at attrs le passed reads =
    record { within = omega arith; reads = subst (λ (i : Input). Reads entry pairs i attrs) (sym (past_none at)) reads }
reads_behind entry [] (suc count) at attrs le passed reads = absurd (omega arith)
reads_behind entry (pair ∷ pairs) (suc count) at attrs le passed reads =
    let x = reads_next entry (pair ∷ pairs) 0 pair at attrs (omega arith) reads in
    let size = passed_size pair in
    let ends = fixed_ends pair at x.place x.raw size x.value (sized (fixed_size pair.form) _ passed.0) in
    let next : Reads entry pairs (past size at) (drop 1 attrs) = subst (λ (i : Input). Reads entry pairs i (drop 1 attrs)) ends.end x.rest in
    let r = reads_behind entry pairs count (past size at) (drop 1 attrs) (omega (arith, le)) passed.1 next in
    let run = run_size (take count pairs) in
    let one : 1 + count ≡ suc count = omega arith in
    let left : drop count (drop 1 attrs) ≡ drop (suc count) attrs = drop-drop count 1 attrs ∙ ap (λ (n : ℕ). drop n attrs) one in
    record {
      within = omega (arith, r.within, ends.within, length-drop size at.rest);
      reads = subst (λ (i : Input). Reads entry (drop count pairs) i (drop (suc count) attrs)) (past_both size run at)
          (subst (λ (w : List RawAttr). Reads entry (drop count pairs) (past run (past size at)) w) left r.reads);
    }

-- values have the pairs that were declared
each_map : {X Y : Type 0} (P : Y → Type 0) (f : X → Y) (xs : List X) → Each P (map f xs) → Each (λ x. P (f x)) xs
each_map P f [] h = tt
each_map P f (x ∷ xs) h = (h.0, each_map P f xs h.1)

each_attr : (entry : ℕ) (pairs : List Pair) (count : ℕ) (at : Input) (attrs : List RawAttr) → Each IsPassed (take count pairs) → Reads entry pairs at attrs
    → Each (λ (a : RawAttr). IsPassed a.pair) (take count attrs)
each_attr entry pairs count at attrs passed reads =
    let of = read_pairs entry pairs at reads.behind attrs reads.read in
    each_map IsPassed (λ (a : RawAttr). a.pair) (take count attrs)
    (subst (λ (w : List Pair). Each IsPassed w) (ap (take count) of ∙ take-map (λ (a : RawAttr). a.pair) count attrs) passed)

take_none : {X : Type 0} (n : ℕ) → take {A = X} n [] ≡ []
take_none zero = refl
take_none (suc n) = refl

take_on : {X : Type 0} (m n : ℕ) (xs : List X) → take (m + n) xs ≡ take m xs ++ take n (drop m xs)
take_on zero n xs = let none : zero + n ≡ n = omega arith in ap (λ (k : ℕ). take k xs) none
take_on (suc m) n [] = take_none (suc m + n) ∙ sym (take_none n)
take_on (suc m) n (x ∷ xs) =
    let one : suc m + n ≡ suc (m + n) = omega arith in
    ap (λ (k : ℕ). take k (x ∷ xs)) one ∙ ap (λ (w : List _). x ∷ w) (take_on m n xs)

-- ---- from a place on

-- the stop behind `now` values: those between are passed over
pub record NextStop (entry : ℕ) (pairs : List Pair) (now : ℕ) (at : Input) (attrs : List RawAttr) (s : Stop) (others : List Stop) : Type 0 where
  pub below : s.number < length pairs
  pub within : s.skip ≤ length at.rest
  pub reads : Reads entry (drop s.number pairs) (past s.skip at) (drop s.number attrs)
  pub between : List RawAttr
  pub taken : take s.number attrs ≡ take now attrs ++ between
  pub passed : Each (λ (a : RawAttr). IsPassed a.pair) between
  pub rest : stops_from (drop (s.number + 1) pairs) (s.number + 1) 0 ≡ others

pub next_stop : (entry : ℕ) (pairs : List Pair) (now : ℕ) (at : Input) (attrs : List RawAttr) (s : Stop) (rest : List Stop) → now ≤ length pairs → stops_from (drop now pairs) now 0 ≡ s ∷ rest
    → Reads entry (drop now pairs) at (drop now attrs) → NextStop entry pairs now at attrs s rest
next_stop entry pairs now at attrs s rest le e reads =
    let f = first_stop (drop now pairs) now 0 s rest e in
    let long = length-drop now pairs in
    let r = reads_behind entry (drop now pairs) f.count at (drop now attrs) (omega (arith, f.below)) f.passed reads in
    let number : now + f.count ≡ s.number = sym f.number in
    let skip : run_size (take f.count (drop now pairs)) ≡ s.skip = omega (arith, f.skip) in
    let left : drop f.count (drop now pairs) ≡ drop s.number pairs = drop-drop f.count now pairs ∙ ap (λ (n : ℕ). drop n pairs) number in
    let kept : drop f.count (drop now attrs) ≡ drop s.number attrs = drop-drop f.count now attrs ∙ ap (λ (n : ℕ). drop n attrs) number in
    let behind : now + (f.count + 1) ≡ s.number + 1 = omega (arith, number) in
    record {
      below = omega (arith, long, f.below, number);
      within = subst (λ (n : ℕ). n ≤ length at.rest) skip r.within;
      reads = subst (λ (w : List RawAttr). Reads entry (drop s.number pairs) (past s.skip at) w) kept
          (subst (λ (w : List Pair). Reads entry w (past s.skip at) (drop f.count (drop now attrs))) left
          (subst (λ (n : ℕ). Reads entry (drop f.count (drop now pairs)) (past n at) (drop f.count (drop now attrs))) skip r.reads));
      between = take f.count (drop now attrs);
      taken = ap (λ (n : ℕ). take n attrs) (sym number) ∙ take_on now f.count attrs;
      passed = each_attr entry (drop now pairs) f.count at (drop now attrs) f.passed reads;
      rest = ap (λ (w : List Pair). stops_from w (s.number + 1) 0) (sym (drop-drop (f.count + 1) now pairs ∙ ap (λ (n : ℕ). drop n pairs) behind)) ∙ f.rest;
    }

-- where no stop is left, all values behind `now` are passed over
pub no_stop : (entry : ℕ) (pairs : List Pair) (now : ℕ) (at : Input) (attrs : List RawAttr) → stops_from (drop now pairs) now 0 ≡ [] → Reads entry (drop now pairs) at (drop now attrs)
    → Each (λ (a : RawAttr). IsPassed a.pair) (drop now attrs)
no_stop entry pairs now at attrs e reads =
    let of = read_pairs entry (drop now pairs) at reads.behind (drop now attrs) reads.read in
    each_map IsPassed (λ (a : RawAttr). a.pair) (drop now attrs) (subst (λ (w : List Pair). Each IsPassed w) of (all_passed (drop now pairs) now 0 e))
