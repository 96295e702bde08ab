-- Under each target stand just the tops that refer into it.
use Rattle.std.proofs.Common.{◌≡◌, ℕ, zero, suc, ◌+◌, ◌<◌, All, List, [], ◌∷◌, ◌++◌, length, map, get_or, take, sym, ap, subst, ◌∙◌, inl, inr, ⊎_elim, arith}
use Rattle.std.proofs.lemmas.List.{append-nil, append_assoc}
use Rattle.dwz_def_reading.specs.Lists.{In}
use Rattle.dwz_def_reading.proofs.ListFacts.{in_cases, in_left, in_right}
use Rattle.dwz_groups.specs.declared.groups.Edge.{Edge}
use Rattle.dwz_groups.specs.Groups.{grouped}
use Rattle.dwz_groups.specs.Spreading.{AreInside, sources_of}
use Rattle.dwz_groups.proofs.MarkLemmas.{each_pair, edge_grouped, grouped_edge, grouped_length, inside_at}
use Rattle.dwz_move.specs.Sources.{source, sources_from}

-- ---- one top more

sources_more : (s i : ℕ) (targets : List (List ℕ)) → i < length targets → sources_from s (take (suc i) targets) ≡ sources_from s (take i targets) ++ map (source (s + i)) (get_or targets i [])
sources_more s i [] l = absurd (omega arith)
sources_more s zero (ts ∷ targets) l = append-nil (map (source s) ts) ∙ (let e : s ≡ s + 0 = omega arith in ap (λ (k : ℕ). map (source k) ts) e)
sources_more s (suc i) (ts ∷ targets) l =
    let e : suc s + i ≡ s + suc i = omega arith in
    ap (λ (w : List Edge). map (source s) ts ++ w) (sources_more (suc s) i targets (omega arith) ∙ ap (λ (k : ℕ). sources_from (suc s) (take i targets) ++ map (source k) (get_or targets i [])) e)
    ∙ sym (append_assoc (map (source s) ts) (sources_from (suc s) (take i targets)) (map (source (s + suc i)) (get_or targets i [])))

pub sources_next : (i : ℕ) (targets : List (List ℕ)) → i < length targets → sources_from 0 (take i targets) ++ map (source i) (get_or targets i []) ≡ sources_from 0 (take (i + 1) targets)
sources_next i targets l =
    let e : suc i ≡ i + 1 = omega arith in
    let z : i ≡ 0 + i = omega arith in
    ap (λ (k : ℕ). sources_from 0 (take i targets) ++ map (source k) (get_or targets i [])) z ∙ sym (sources_more 0 i targets l) ∙ ap (λ (k : ℕ). sources_from 0 (take k targets)) e

-- ---- what a pair says

source_from : (n m k : ℕ) (ts : List ℕ) → In (source k m) (map (source n) ts) → (n ≡ k) × In m ts
source_from n m k [] i = absurd i
source_from n m k (t ∷ ts) (inl e) = (ap (λ (q : Edge). q.value) e, inl (ap (λ (q : Edge). q.key) e))
source_from n m k (t ∷ ts) (inr i) = let r = source_from n m k ts i in (r.0, inr r.1)

source_in : (n m : ℕ) (ts : List ℕ) → In m ts → In (source n m) (map (source n) ts)
source_in n m [] i = absurd i
source_in n m (t ∷ ts) (inl e) = inl (ap (source n) e)
source_in n m (t ∷ ts) (inr i) = inr (source_in n m ts i)

-- a top, counted from the first, and its target
from_sources : (s k m : ℕ) (targets : List (List ℕ)) → In (source k m) (sources_from s targets) → (i : ℕ) × (k ≡ s + i) × In m (sources_of targets i)
from_sources s k m [] i = absurd i
from_sources s k m (ts ∷ targets) h = ⊎_elim
    (λ j. let r = source_from s m k ts j in let e = r.0 in (0, omega arith, r.1))
    (λ j. let r = from_sources (suc s) k m targets j in let e = r.1 in (suc r.0, omega arith, r.2))
    (in_cases (source k m) (map (source s) ts) (sources_from (suc s) targets) h)

to_sources : (s i m : ℕ) (targets : List (List ℕ)) → In m (sources_of targets i) → In (source (s + i) m) (sources_from s targets)
to_sources s i m [] j = absurd j
to_sources s zero m (ts ∷ targets) j =
    let e : s ≡ s + 0 = omega arith in
    in_left (source (s + 0) m) (map (source s) ts) (sources_from (suc s) targets) (subst (λ (k : ℕ). In (source k m) (map (source s) ts)) e (source_in s m ts j))
to_sources s (suc i) m (ts ∷ targets) j =
    let e : suc s + i ≡ s + suc i = omega arith in
    in_right (source (s + suc i) m) (map (source s) ts) (sources_from (suc s) targets) (subst (λ (k : ℕ). In (source k m) (sources_from (suc s) targets)) e (to_sources (suc s) i m targets j))

-- ---- grouped

abbrev pub sources_by : List (List ℕ) → List (List ℕ)
sources_by targets = grouped (length targets) (sources_from 0 targets)

pub source_target : (targets : List (List ℕ)) (m n : ℕ) → In n (sources_of (sources_by targets) m) → In m (sources_of targets n)
source_target targets m n i =
    let r = from_sources 0 n m targets (grouped_edge (length targets) m n (sources_from 0 targets) i) in
    let e : r.0 ≡ n = (let f = r.1 in omega arith) in
    subst (λ (k : ℕ). In m (sources_of targets k)) e r.2

pub target_source : (targets : List (List ℕ)) (m n : ℕ) → m < length targets → In m (sources_of targets n) → In n (sources_of (sources_by targets) m)
target_source targets m n l i =
    let e : 0 + n ≡ n = omega arith in
    edge_grouped (length targets) m n (sources_from 0 targets) l (subst (λ (k : ℕ). In (source k m) (sources_from 0 targets)) e (to_sources 0 n m targets i))

pub sources_low : (targets : List (List ℕ)) → AreInside (sources_by targets)
sources_low targets m n i =
    let low = inside_at targets n m (source_target targets m n i) in
    let len = grouped_length (length targets) (sources_from 0 targets) in
    omega arith

pub targets_low : (targets : List (List ℕ)) → AreInside targets → All (λ p. p.key < length targets) (sources_from 0 targets)
targets_low targets inside = each_pair (λ p. p.key < length targets) (sources_from 0 targets) (λ p i. let r = from_sources 0 p.value p.key targets i in inside r.0 p.key r.2)
