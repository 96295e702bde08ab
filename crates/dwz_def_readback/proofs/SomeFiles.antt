-- Names and places of some files: each pair of a name and its place is one of those of all files.
use Rattle.std.proofs.Common.{◌≡◌, ℕ, Bool, true, false, List, [], ◌∷◌, ◌++◌, cond, map, refl, sym, ap, subst, ◌∙◌, inl, inr}
use Rattle.std.specs.List.{filter}
use Rattle.dwz_def_reading.specs.Lists.{In}
use Rattle.dwz_def_reading.proofs.ListFacts.{in_cases, in_left, in_right}
use Rattle.dwz_def_tops.specs.Lists.{NoneTwice}
use Rattle.dwz_def_tops.specs.Shown.{units_keys}
use Rattle.dwz_def_tops.proofs.Members.{each_in}
use Rattle.dwz_def_tops.proofs.OnceLemmas.{none_append, none_both, none_left, none_right}
use Rattle.dwz_def_encoding.specs.Placing.{FileOut, files_keys, files_placed, number_of_key, units_placed}
use Rattle.dwz_def_encoding.proofs.Places.{IsSame, files_placed_keys, firsts, number_agrees}
use Rattle.dwz_def_readback.specs.Fewer.{AreSome}

-- ---- some of a list

pub some_in : {X : Type 0} (all some : List X) → AreSome some all → (x : X) → In x some → In x all
some_in all [] is x there = absurd there
some_in [] (y ∷ some) is x there = absurd is
some_in (z ∷ all) (y ∷ some) (inl s) x (inl e) = inl (s.0 ∙ e)
some_in (z ∷ all) (y ∷ some) (inl s) x (inr r) = inr (some_in all some s.1 x r)
some_in (z ∷ all) (y ∷ some) (inr s) x there = inr (some_in all (y ∷ some) s x there)

pub some_map : {X Y : Type 0} (f : X → Y) (all some : List X) → AreSome some all → AreSome (map f some) (map f all)
some_map f all [] is = tt
some_map f [] (y ∷ some) is = absurd is
some_map f (z ∷ all) (y ∷ some) (inl s) = inl (ap f s.0, some_map f all some s.1)
some_map f (z ∷ all) (y ∷ some) (inr s) = inr (some_map f all (y ∷ some) s)

-- with another one in front of all
some_behind : {X : Type 0} (z : X) (all some : List X) → AreSome some all → AreSome some (z ∷ all)
some_behind z all [] is = tt
some_behind z all (y ∷ some) is = inr is

pub some_pass : {X : Type 0} (passes : X → Bool) (all : List X) → AreSome (filter passes all) all
some_pass passes [] = tt
some_pass {X} passes (z ∷ all) = by (some_pass passes all) (passes z) where
  by : AreSome (filter passes all) all → (b : Bool) → AreSome (cond b (z ∷ filter passes all) (filter passes all)) (z ∷ all)
  by rest true = inl (refl, rest)
  by rest false = some_behind z all (filter passes all) rest

-- ---- names

some_keys : {K : Type 0} (all some : List (FileOut K)) → AreSome some all → (k : K) → In k (files_keys some) → In k (files_keys all)
unfolding files_keys
some_keys all [] is k there = absurd there
some_keys [] (f ∷ some) is k there = absurd is
some_keys {K} (g ∷ all) (f ∷ some) (inl s) k there = elim (in_cases k (units_keys f.units) (files_keys some) there) [
  | inl a ↦ in_left k (units_keys g.units) (files_keys all) (subst (λ (h : FileOut K). In k (units_keys h.units)) (sym s.0) a)
  | inr b ↦ in_right k (units_keys g.units) (files_keys all) (some_keys all some s.1 k b)
]
some_keys (g ∷ all) (f ∷ some) (inr s) k there = in_right k (units_keys g.units) (files_keys all) (some_keys all (f ∷ some) s k there)

pub some_once : {K : Type 0} (all some : List (FileOut K)) → AreSome some all → NoneTwice (files_keys all) → NoneTwice (files_keys some)
unfolding files_keys
some_once all [] is once = tt
some_once [] (f ∷ some) is once = absurd is
some_once {K} (g ∷ all) (f ∷ some) (inl s) once =
    let here : NoneTwice (units_keys g.units ++ files_keys some) =
    none_append (units_keys g.units) (files_keys some) (none_left (units_keys g.units) (files_keys all) once) (some_once all some s.1 (none_right (units_keys g.units) (files_keys all) once))
    (λ k a b. none_both (units_keys g.units) (files_keys all) once k a (some_keys all some s.1 k b)) in
    subst (λ (h : FileOut K). NoneTwice (units_keys h.units ++ files_keys some)) s.0 here
some_once (g ∷ all) (f ∷ some) (inr s) once = some_once all (f ∷ some) s (none_right (units_keys g.units) (files_keys all) once)

-- ---- places

placed_in : {K : Type 0} (all : List (FileOut K)) (f : FileOut K) (p : K × ℕ) → In f all → In p (units_placed 0 f.units) → In p (files_placed all)
unfolding files_placed
placed_in [] f p there is = absurd there
placed_in {K} (g ∷ all) f p (inl e) is = in_left p (units_placed 0 g.units) (files_placed all) (subst (λ (h : FileOut K). In p (units_placed 0 h.units)) (sym e) is)
placed_in (g ∷ all) f p (inr r) is = in_right p (units_placed 0 g.units) (files_placed all) (placed_in all f p r is)

placed_among : {K : Type 0} (all some : List (FileOut K)) → ((f : FileOut K) → In f some → In f all) → (p : K × ℕ) → In p (files_placed some) → In p (files_placed all)
unfolding files_placed
placed_among all [] into p is = absurd is
placed_among all (f ∷ some) into p is = elim (in_cases p (units_placed 0 f.units) (files_placed some) is) [
  | inl a ↦ placed_in all f p (into f (inl refl)) a
  | inr b ↦ placed_among all some (λ g there. into g (inr there)) p b
]

module _ {K : Type 0} (same : K → K → Bool) (is : IsSame same) where
  -- the number of a key stands beside it
  number_there : (ps : List (K × ℕ)) (k : K) → In k (firsts ps) → In (k, number_of_key same ps k) ps
  unfolding number_of_key
  number_there [] k there = absurd there
  number_there (p ∷ ps) k there = by (λ r. number_there ps k r) (same p.0 k) refl where
    by : (In k (firsts ps) → In (k, number_of_key same ps k) ps) → (t : Bool) → same p.0 k ≡ t → In (k, elim t as (λ _. ℕ) [ true ↦ p.1 | false ↦ number_of_key same ps k ]) (p ∷ ps)
    by rest true e = inl (ap (λ (x : K). (x, p.1)) (is.true_is p.0 k e))
    by rest false e = elim there [ inl i ↦ absurd (let t : same p.0 k ≡ true = subst (λ (x : K). same p.0 x ≡ true) i (is.refl_is p.0) in cc) | inr r ↦ inr (rest r) ]

  pub some_number : (all some : List (FileOut K)) → ((f : FileOut K) → In f some → In f all) → NoneTwice (files_keys all) → (k : K) → In k (files_keys some)
      → number_of_key same (files_placed some) k ≡ number_of_key same (files_placed all) k
  some_number all some into once k key =
      let there = number_there (files_placed some) k (subst (In k) (sym (files_placed_keys some)) key) in
      let agrees = number_agrees same is (files_placed all) (subst NoneTwice (sym (files_placed_keys all)) once) in
      let pair : K × ℕ = (k, number_of_key same (files_placed some) k) in
      sym (each_in (λ p. number_of_key same (files_placed all) p.0 ≡ p.1) pair (files_placed all) agrees (placed_among all some into pair there))
