-- The operands of copied entries, one entry after the other.
use Rattle.std.proofs.Common.{◌≡◌, ℕ, suc, ◌+◌, ◌<◌, ◌≤◌, List, [], ◌∷◌, ◌++◌, length, map, take, Option, Some, None, slice_get, sym, ap, subst, ◌∙◌, append_assoc, arith}
use Rattle.std.proofs.lemmas.List.{append-nil}
use Rattle.dwz_def_cross.specs.CrossSame.{EachTwo}
use Rattle.dwz_def_cross.specs.Tops.{WithCommon}
use Rattle.dwz_def_expand.specs.Refusals.{Where}
use Rattle.dwz_expand_layout.specs.Shown.{keys_of}
use Rattle.dwz_expand_sources.specs.declared.sources.NewUnit.{NewUnit}
use Rattle.dwz_expand_sources.specs.declared.sources.SourceRange.{SourceRange}
use Rattle.dwz_expand_passes.proofs.OperandLemmas.{long_take, take_one, take_whole}
use Rattle.std.specs.Prelude.{IsTrue, ◌↔◌}
use Rattle.dwz_def_reading.specs.Units.{entries_in}
use Rattle.dwz_expand_passes.specs.Files.{SpeaksEntry, raw_in}
use Rattle.dwz_expand_passes.specs.declared.files.Known.{Known}
use Rattle.dwz_expand_passes.specs.declared.files.SourceFile.{SourceFile}
use Rattle.dwz_expand_sources.specs.Walk.{sources_of}
use Rattle.dwz_expand_passes.specs.Noted.{AreNoted, AreNotedOf, IsNoted, IsNotedAt, Noted, plan_sources}
use Rattle.dwz_expand_passes.specs.Passes.{Says}
use Rattle.dwz_expand_passes.specs.Steps.{KnowsHere, NotedTo, rest_of}
use Rattle.dwz_expand_passes.specs.declared.copied.Source.{Source}
use Rattle.dwz_expand_passes.specs.declared.new_file.NewFile.{NewFile}
use Rattle.dwz_model.proofs.ListFacts.{got_there}
use Rattle.dwz_expand_passes.specs.Numbered.{key_in}

-- ---- lists

two_joined : {X Y : Type 0} (R : X → Y → Type 0) (xs us : List X) (ys vs : List Y) → EachTwo R xs ys → EachTwo R us vs → EachTwo R (xs ++ us) (ys ++ vs)
two_joined R [] us [] vs a b = b
two_joined R [] us (y ∷ ys) vs a b = absurd a
two_joined R (x ∷ xs) us [] vs a b = absurd a
two_joined R (x ∷ xs) us (y ∷ ys) vs a b = (a.0, two_joined R xs us ys vs a.1 b)

two_mapped : {X Z Y : Type 0} (R : X → Y → Type 0) (S : Z → Y → Type 0) (f : X → Z) (xs : List X) (ys : List Y) → ((x : X) (y : Y) → R x y → S (f x) y) → EachTwo R xs ys → EachTwo S (map f xs) ys
two_mapped R S f [] [] to h = tt
two_mapped R S f [] (y ∷ ys) to h = absurd h
two_mapped R S f (x ∷ xs) [] to h = absurd h
two_mapped R S f (x ∷ xs) (y ∷ ys) to h = (to x y h.0, two_mapped R S f xs ys to h.1)

two_to : {X Y : Type 0} (R S : X → Y → Type 0) (xs : List X) (ys : List Y) → ((x : X) (y : Y) → R x y → S x y) → EachTwo R xs ys → EachTwo S xs ys
two_to R S [] [] to h = tt
two_to R S [] (y ∷ ys) to h = absurd h
two_to R S (x ∷ xs) [] to h = absurd h
two_to R S (x ∷ xs) (y ∷ ys) to h = (to x y h.0, two_to R S xs ys to h.1)

-- ---- the entries of a unit

pub none_noted : (x : Known) (all rest : List ℕ) → all ≡ rest → NotedTo x all rest []
none_noted x all rest is = record { done = []; whole = is; are = tt }

pub one_noted : (x : Known) (all : List ℕ) (i : ℕ) (walk rest : List ℕ) (given : List Noted) (s : Noted) → NotedTo x all (i ∷ walk) given → walk ≡ rest
    → IsNoted (KnowsHere x) x.own x.common x.unit i s → NotedTo x all rest (given ++ s ∷ [])
one_noted x all i walk rest given s p is one = record {
  done = p.done ++ i ∷ [];
  whole = p.whole ∙ ap (λ (r : List ℕ). p.done ++ i ∷ r) is ∙ sym (append_assoc p.done (i ∷ []) rest);
  are = two_joined (IsNoted (KnowsHere x) x.own x.common x.unit) p.done (i ∷ []) given (s ∷ []) p.are (one, tt);
}

pub noted_some : (x : Known) (all : List ℕ) (o : Option Source) (walk : List ℕ) (given : List Noted) (s : Source) → o ≡ Some s → NotedTo x all (rest_of o walk) given
    → NotedTo x all (s.entry ∷ walk) given
noted_some x all o walk given s is p = subst (λ (r : Option Source). NotedTo x all (rest_of r walk) given) is p

pub noted_none : (x : Known) (all : List ℕ) (o : Option Source) (walk : List ℕ) (given : List Noted) → o ≡ None → NotedTo x all (rest_of o walk) given
    → AreNotedOf (KnowsHere x) x.own x.common x.unit all given
noted_none x all o walk given is p =
    let q = subst (λ (r : Option Source). NotedTo x all (rest_of r walk) given) is p in
    subst (λ (is : List ℕ). AreNotedOf (KnowsHere x) x.own x.common x.unit is given) (sym (q.whole ∙ append-nil q.done)) q.are

-- what is known of the file is known here
pub noted_in_file : (x : NewFile) (k : Known) (sources : List ℕ) (given : List Noted) → k.own ≡ x.own → k.common ≡ x.common
    → ((w : WithCommon ℕ) (stands : Where ℕ) → Says x w stands → KnowsHere k w stands) → AreNotedOf (KnowsHere k) k.own k.common k.unit sources given
    → AreNotedOf (Says x) x.own x.common k.unit sources given
noted_in_file x k sources given own common know are =
    two_to (IsNoted (KnowsHere k) k.own k.common k.unit) (IsNoted (Says x) x.own x.common k.unit) sources given
    (λ i s h. record {
      in_unit = h.in_unit;
      of_source = h.of_source;
      of_common = subst (λ (f : SourceFile). IsTrue s.common ↔ (entries_in (raw_in f) ≤ i)) own h.of_common;
      speaks = λ w stands l says found.
          subst (λ (c : Option SourceFile). SpeaksEntry x.own c k.unit w (keys_of (key_in w)) i s.operands) common
          (subst (λ (f : SourceFile). SpeaksEntry f k.common k.unit w (keys_of (key_in w)) i s.operands) own (h.speaks w stands l (know w stands says) found));
    }) are

-- ---- all new units

-- those of the first units were told
abbrev pub NotedFor : NewFile → ℕ → List Noted → Type 0
NotedFor x n given = EachTwo (IsNotedAt x) (plan_sources x.sources.now.ranges 0 (take n x.sources.now.units)) given

pub none_for : (x : NewFile) → NotedFor x 0 []
unfolding plan_sources
none_for x = tt

sources_joined : (ranges : List SourceRange) (n : ℕ) (xs : List NewUnit) (new : NewUnit)
    → plan_sources ranges n (xs ++ new ∷ []) ≡ plan_sources ranges n xs ++ map (λ i. (n + length xs, i)) (sources_of ranges new)
unfolding plan_sources
sources_joined ranges n [] new =
    let here : n ≡ n + 0 = omega arith in
    append-nil (map (λ i. (n, i)) (sources_of ranges new)) ∙ ap (λ (m : ℕ). map (λ i. (m, i)) (sources_of ranges new)) here
sources_joined ranges n (x ∷ xs) new =
    let next : suc n + length xs ≡ n + suc (length xs) = omega arith in
    ap (λ (w : List (ℕ × ℕ)). map (λ i. (n, i)) (sources_of ranges x) ++ w)
    (sources_joined ranges (suc n) xs new ∙ ap (λ (m : ℕ). plan_sources ranges (suc n) xs ++ map (λ i. (m, i)) (sources_of ranges new)) next)
    ∙ sym (append_assoc (map (λ i. (n, i)) (sources_of ranges x)) (plan_sources ranges (suc n) xs) (map (λ i. (n + suc (length xs), i)) (sources_of ranges new)))

pub one_for : (x : NewFile) (n : ℕ) (given more : List Noted) → n < length x.sources.now.units → NotedFor x n given
    → ((new : NewUnit) → slice_get x.sources.now.units n ≡ Some new → AreNotedOf (Says x) x.own x.common n (sources_of x.sources.now.ranges new) more) → NotedFor x (n + 1) (given ++ more)
one_for x n given more lt noted one =
    let units = x.sources.now.units in
    let ranges = x.sources.now.ranges in
    let new = got_there units n lt in
    let at : 0 + length (take n units) ≡ n = (let long = long_take units n new.0 new.1 in omega (arith, long)) in
    let all : plan_sources ranges 0 (take (n + 1) units) ≡ plan_sources ranges 0 (take n units) ++ map (λ i. (n, i)) (sources_of ranges new.0) =
    ap (plan_sources ranges 0) (take_one units n new.0 new.1) ∙ sources_joined ranges 0 (take n units) new.0
    ∙ ap (λ (m : ℕ). plan_sources ranges 0 (take n units) ++ map (λ i. (m, i)) (sources_of ranges new.0)) at in
    subst (λ (ps : List (ℕ × ℕ)). EachTwo (IsNotedAt x) ps (given ++ more)) (sym all)
    (two_joined (IsNotedAt x) (plan_sources ranges 0 (take n units)) (map (λ i. (n, i)) (sources_of ranges new.0)) given more noted
    (two_mapped (IsNoted (Says x) x.own x.common n) (IsNotedAt x) (λ i. (n, i)) (sources_of ranges new.0) more (λ i s h. h) (one new.0 new.1)))

pub all_for : (x : NewFile) (n : ℕ) (given : List Noted) → length x.sources.now.units ≤ n → NotedFor x n given → AreNoted x given
all_for x n given le noted = subst (λ (us : List NewUnit). EachTwo (IsNotedAt x) (plan_sources x.sources.now.ranges 0 us) given) (take_whole x.sources.now.units n le) noted
