-- The copy in the unit at hand, or else the first.
use Rattle.std.proofs.Common.{◌≡◌, ℕ, zero, suc, ◌+◌, ◌<◌, ◌≤◌, Bool, true, false, List, [], ◌∷◌, length, get_or, Option, Some, None, if◌then◌else◌, refl, sym, ap, ◌∙◌, arith}
use Rattle.std.specs.Prelude.{IfSome}
use Rattle.std.specs.Option.{option_map}
use Rattle.dwz_model.proofs.ListFacts.{got_in}
use Rattle.dwz_def_encoding.specs.Placing.{has_key}
use Rattle.dwz_def_expand.specs.ExpandLaws.{IsTest}
use Rattle.dwz_def_expand.specs.Source.{first_with, unit_for}
use Rattle.dwz_def_expand.proofs.WholeLemmas.{is_there}
use Rattle.dwz_imports.specs.Imports.{same}
use Rattle.std.proofs.lemmas.Bool.{eq-eqb, eqb-true}
use Rattle.dwz_expand_sources.specs.Copies.{IsCopyNumber}
use Rattle.dwz_expand_sources.specs.declared.copies.CopyAt.{CopyAt}

pub tests : IsTest same
tests = record { yes = eqb-true; no = λ p. eq-eqb p p refl }

-- ---- the first unit that has an entry

module _ (i : ℕ) where
  abbrev Has : List (List ℕ) → ℕ → Type 0
  Has units m = has_key same i (get_or units m []) ≡ true

  pub first_none : (s : ℕ) (units : List (List ℕ)) → ((m : ℕ) → Has units m → ⊥) → first_with same s units i ≡ None
  unfolding first_with
  first_none s [] never = refl
  first_none s (list ∷ units) never = by (has_key same i list) refl (first_none (suc s) units (λ m h. never (suc m) h)) where
    by : (t : Bool) → has_key same i list ≡ t → first_with same (suc s) units i ≡ None → (if t then Some s else first_with same (suc s) units i) ≡ None
    by true e more = absurd (never 0 e)
    by false e more = more

  pub first_some : (s : ℕ) (units : List (List ℕ)) (n k : ℕ) → n ≡ s + k → Has units k → ((m : ℕ) → Has units m → k ≤ m) → first_with same s units i ≡ Some n
  unfolding first_with has_key
  first_some s [] n k e has least = absurd cc
  first_some s (list ∷ units) n zero e has least = (let at : s ≡ n = omega arith in rw has (ap (λ (m : ℕ). Some m) at))
  first_some s (list ∷ units) n (suc k) e has least =
      by (has_key same i list) refl (first_some (suc s) units n k (omega arith) has (λ m h. (let more = least (suc m) h in omega arith))) where
        by : (t : Bool) → has_key same i list ≡ t → first_with same (suc s) units i ≡ Some n → (if t then Some s else first_with same (suc s) units i) ≡ Some n
        by true h more = absurd (let low = least 0 h in omega arith)
        by false h more = more

pub has_below : (units : List (List ℕ)) (m i : ℕ) → has_key same i (get_or units m []) ≡ true → m < length units
unfolding has_key
has_below [] m i has = absurd cc
has_below (list ∷ units) zero i has = omega arith
has_below (list ∷ units) (suc m) i has = let r = has_below units m i has in omega arith

-- ---- which is answered

-- the same of entries by their numbers
pub record IsNumberFor (units : List (List ℕ)) (n i : ℕ) (answer : Option CopyAt) : Type 0 where
  pub unit : option_map (λ (c : CopyAt). c.unit) answer ≡ unit_for same units n i
  pub number : IfSome answer (λ c. IsCopyNumber units c.unit i c.number)

pub copy_has : (units : List (List ℕ)) (n i number : ℕ) → IsCopyNumber units n i number → has_key same i (get_or units n []) ≡ true
copy_has units n i number is = is_there same tests i (get_or units n []) (got_in (get_or units n []) is.before i is.stands)

module _ (units : List (List ℕ)) (n i : ℕ) where
  for_here : has_key same i (get_or units n []) ≡ true → unit_for same units n i ≡ Some n
  unfolding unit_for
  for_here h = rw h refl

  for_first : has_key same i (get_or units n []) ≡ false → unit_for same units n i ≡ first_with same 0 units i
  unfolding unit_for
  for_first h = rw h refl

  pub answer_here : (c : CopyAt) → c.unit ≡ n → IsCopyNumber units c.unit i c.number → IsNumberFor units n i (Some c)
  answer_here c e is =
      let has = copy_has units c.unit i c.number is in
      let here : has_key same i (get_or units n []) ≡ true = sym (ap (λ (m : ℕ). has_key same i (get_or units m [])) e) ∙ has in
      record { unit = ap (λ (m : ℕ). Some m) e ∙ sym (for_here here); number = is }

  abbrev Other : Type 0
  Other = has_key same i (get_or units n []) ≡ true → ⊥

  other_false : (t : Bool) → (t ≡ true → ⊥) → t ≡ false
  other_false true never = absurd (never refl)
  other_false false never = refl

  pub answer_first : Other → (c : CopyAt) → IsCopyNumber units c.unit i c.number → ((m : ℕ) → has_key same i (get_or units m []) ≡ true → c.unit ≤ m) → IsNumberFor units n i (Some c)
  answer_first other c is least =
      let has = copy_has units c.unit i c.number is in
      let never = other_false (has_key same i (get_or units n [])) other in
      record { unit = sym (for_first never ∙ first_some i 0 units c.unit c.unit (omega arith) has least); number = is }

  pub answer_none : Other → ((m : ℕ) → has_key same i (get_or units m []) ≡ true → ⊥) → IsNumberFor units n i None
  answer_none other none =
      let never = other_false (has_key same i (get_or units n [])) other in
      record { unit = sym (for_first never ∙ first_none i 0 units none); number = tt }
