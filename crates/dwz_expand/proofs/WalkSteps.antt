-- What is told of sources, one after the other.
use Rattle.std.proofs.Common.{◌≡◌, ℕ, suc, zero, ◌+◌, ◌<◌, ◌≤◌, List, [], ◌∷◌, ◌++◌, length, map, take, Some, None, slice_get, refl, sym, ap, subst, ◌∙◌, append_assoc, arith, inl}
use Rattle.std.specs.List.{flat_map}
use Rattle.std.proofs.lemmas.List.{append-nil, map-append}
use Rattle.std.proofs.lemmas.Option.{same_Some}
use Rattle.dwz_model.specs.Lists.{In}
use Rattle.dwz_model.proofs.ListFacts.{got_there, in_left, in_map, in_right}
use Rattle.dwz_def_reading.specs.declared.exprs.Operand.{Operand}
use Rattle.dwz_def_expand.specs.OneFile.{OneFile}
use Rattle.dwz_expand_sources.specs.declared.sources.NewUnit.{NewUnit}
use Rattle.dwz_expand_sources.specs.declared.sources.SourceRange.{SourceRange}
use Rattle.dwz_expand_passes.proofs.OperandLemmas.{long_take, take_one, take_whole}
use Rattle.dwz_expand_sources.specs.Walk.{sources_of}
use Rattle.dwz_expand_passes.specs.Noted.{plan_sources}
use Rattle.dwz_expand_passes.specs.declared.new_file.NewFile.{NewFile}
use Rattle.dwz_expand.specs.Walked.{told_by, told_of}

flat_joined : {X Y : Type 0} (f : X → List Y) (xs ys : List X) → flat_map f (xs ++ ys) ≡ flat_map f xs ++ flat_map f ys
flat_joined f [] ys = refl
flat_joined f (x ∷ xs) ys = ap (λ w. f x ++ w) (flat_joined f xs ys) ∙ sym (append_assoc (f x) (flat_map f xs) (flat_map f ys))

in_middle : {X : Type 0} (xs ys : List X) (x : X) → In x (xs ++ x ∷ ys)
in_middle xs ys x = in_right x xs (x ∷ ys) (inl refl)

-- those of one source more
pub one_source : (f : OneFile) (x : NewFile) (n : ℕ) (done : List ℕ) (i : ℕ) (old before after : List Operand) → before ≡ old ++ told_of f x (map (λ k. (n, k)) done) → after ≡ before ++ told_by f x (n, i)
    → after ≡ old ++ told_of f x (map (λ k. (n, k)) (done ++ i ∷ []))
one_source f x n done i old before after was is =
    let more : told_of f x (map (λ k. (n, k)) (done ++ i ∷ [])) ≡ told_of f x (map (λ k. (n, k)) done) ++ told_by f x (n, i) =
    ap (told_of f x) (map-append (λ k. (n, k)) done (i ∷ [])) ∙ flat_joined (told_by f x) (map (λ k. (n, k)) done) ((n, i) ∷ [])
    ∙ ap (λ (w : List Operand). told_of f x (map (λ k. (n, k)) done) ++ w) (append-nil (told_by f x (n, i))) in
    is ∙ ap (λ (w : List Operand). w ++ told_by f x (n, i)) was ∙ append_assoc old (told_of f x (map (λ k. (n, k)) done)) (told_by f x (n, i)) ∙ ap (λ (w : List Operand). old ++ w) (sym more)

planned_from : (ranges : List SourceRange) (first : ℕ) (xs : List NewUnit) (n : ℕ) (new : NewUnit) (i m : ℕ) → first + n ≡ m → slice_get xs n ≡ Some new → In i (sources_of ranges new)
    → In {X = ℕ × ℕ} (m, i) (plan_sources ranges first xs)
unfolding plan_sources
planned_from ranges first [] n new i m at got there = absurd (let z : None ≡ Some new = got in cc)
planned_from ranges first (x ∷ xs) zero new i m at got there =
    let same : x ≡ new = same_Some x new got in
    let one : first ≡ m = omega (arith, at) in
    let p : ℕ × ℕ = (m, i) in
    in_left p (map (λ k. (first, k)) (sources_of ranges x)) (plan_sources ranges (suc first) xs)
    (subst (λ (q : ℕ). In {X = ℕ × ℕ} (q, i) (map (λ k. (first, k)) (sources_of ranges x))) one
    (in_map (λ (k : ℕ). (first, k)) i (sources_of ranges x) (subst (λ (y : NewUnit). In i (sources_of ranges y)) (sym same) there)))
planned_from ranges first (x ∷ xs) (suc n) new i m at got there =
    let p : ℕ × ℕ = (m, i) in
    in_right p (map (λ k. (first, k)) (sources_of ranges x)) (plan_sources ranges (suc first) xs)
    (planned_from ranges (suc first) xs n new i m (omega (arith, at)) got there)

-- a source of a unit is planned
pub planned_source : (ranges : List SourceRange) (xs : List NewUnit) (n : ℕ) (new : NewUnit) (done rest : List ℕ) (i : ℕ) → slice_get xs n ≡ Some new → sources_of ranges new ≡ done ++ i ∷ rest
    → In {X = ℕ × ℕ} (n, i) (plan_sources ranges 0 xs)
planned_source ranges xs n new done rest i got whole = planned_from ranges 0 xs n new i n (omega arith) got (subst (λ (is : List ℕ). In i is) (sym whole) (in_middle done rest i))

-- ---- units

sources_joined : (ranges : List SourceRange) (n : ℕ) (xs : List NewUnit) (new : NewUnit)
    → plan_sources ranges n (xs ++ new ∷ []) ≡ plan_sources ranges n xs ++ map (λ i. (n + length xs, i)) (sources_of ranges new)
unfolding plan_sources
sources_joined ranges n [] new =
    let here : n ≡ n + 0 = omega arith in
    append-nil (map (λ i. (n, i)) (sources_of ranges new)) ∙ ap (λ (m : ℕ). map (λ i. (m, i)) (sources_of ranges new)) here
sources_joined ranges n (x ∷ xs) new =
    let next : suc n + length xs ≡ n + suc (length xs) = omega arith in
    ap (λ (w : List (ℕ × ℕ)). map (λ i. (n, i)) (sources_of ranges x) ++ w)
    (sources_joined ranges (suc n) xs new ∙ ap (λ (m : ℕ). plan_sources ranges (suc n) xs ++ map (λ i. (m, i)) (sources_of ranges new)) next)
    ∙ sym (append_assoc (map (λ i. (n, i)) (sources_of ranges x)) (plan_sources ranges (suc n) xs) (map (λ i. (n + suc (length xs), i)) (sources_of ranges new)))

pub none_told : (f : OneFile) (x : NewFile) → [] ≡ told_of f x (plan_sources x.sources.now.ranges 0 [])
unfolding plan_sources
none_told f x = refl

-- those of one unit more
pub one_unit : (f : OneFile) (x : NewFile) (n : ℕ) (before after : List Operand) → n < length x.sources.now.units → before ≡ told_of f x (plan_sources x.sources.now.ranges 0 (take n x.sources.now.units))
    → ((new : NewUnit) → slice_get x.sources.now.units n ≡ Some new → after ≡ before ++ told_of f x (map (λ i. (n, i)) (sources_of x.sources.now.ranges new)))
    → after ≡ told_of f x (plan_sources x.sources.now.ranges 0 (take (n + 1) x.sources.now.units))
one_unit f x n before after lt was one =
    let units = x.sources.now.units in
    let ranges = x.sources.now.ranges in
    let new = got_there units n lt in
    let at : 0 + length (take n units) ≡ n = (let long = long_take units n new.0 new.1 in omega (arith, long)) in
    let all : plan_sources ranges 0 (take (n + 1) units) ≡ plan_sources ranges 0 (take n units) ++ map (λ i. (n, i)) (sources_of ranges new.0) =
    ap (plan_sources ranges 0) (take_one units n new.0 new.1) ∙ sources_joined ranges 0 (take n units) new.0
    ∙ ap (λ (m : ℕ). plan_sources ranges 0 (take n units) ++ map (λ i. (m, i)) (sources_of ranges new.0)) at in
    one new.0 new.1 ∙ ap (λ (w : List Operand). w ++ told_of f x (map (λ i. (n, i)) (sources_of ranges new.0))) was
    ∙ sym (ap (told_of f x) all ∙ flat_joined (told_by f x) (plan_sources ranges 0 (take n units)) (map (λ i. (n, i)) (sources_of ranges new.0)))

pub all_units : (f : OneFile) (x : NewFile) (n : ℕ) (told : List Operand) → length x.sources.now.units ≤ n → told ≡ told_of f x (plan_sources x.sources.now.ranges 0 (take n x.sources.now.units))
    → told ≡ told_of f x (plan_sources x.sources.now.ranges 0 x.sources.now.units)
all_units f x n told le is = is ∙ ap (λ (us : List NewUnit). told_of f x (plan_sources x.sources.now.ranges 0 us)) (take_whole x.sources.now.units n le)
