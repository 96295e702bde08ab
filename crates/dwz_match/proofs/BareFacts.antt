-- Bare labels behind languages: numbers at the front of labels are passed by group by group.
use Rattle.std.proofs.Common.{◌≡◌, ℕ, ◌+◌, ◌-◌, ◌/◌, ◌<◌, ◌≤◌, List, [], ◌∷◌, ◌++◌, length, get_or, sym, ap, ◌∙◌, ⊎_elim, arith, map, take, slice_get, Some}
use Rattle.std.proofs.lemmas.Bool.{cases_lt}
use Rattle.std.proofs.lemmas.List.{append_assoc}
use Rattle.std.proofs.Math.ListN.{get_or-append}
use Rattle.std.proofs.Math.Seq.{get_or-append_right}
use Rattle.dwz_model.proofs.ListFacts.{got_index_or, got_map, got_there}
use Rattle.dwz_unit.proofs.FlatLemmas.{map_got}
use Rattle.dwz_def_reading.specs.Trees.{size}
use Rattle.dwz_def_tops.specs.Spots.{Top, name_list}
use Rattle.dwz_label.specs.Labels.{counted, each_counted, entries_label, label_of, language_label, node_label, number}
use Rattle.dwz_label.specs.Shown.{nth_label}
use Rattle.dwz_label.proofs.Codes.{heads, tails}
use Rattle.dwz_label.proofs.NumberLemmas.{number_last, number_more}
use Rattle.dwz_match.specs.Bare.{bare_label}

-- ---- group by group

abbrev with_rest : List ℕ → List ℕ → List ℕ
with_rest rest w = w ++ rest

pub group_last : (m group : ℕ) (others rest : List ℕ) → group ∷ others ≡ number m ++ rest → group < 128 → others ≡ rest
group_last m group others rest e l =
    ⊎_elim (λ (lt : m < 128). tails (e ∙ ap (with_rest rest) (number_last m lt)))
    (λ (ge : 128 ≤ m). absurd (let h = heads (e ∙ ap (with_rest rest) (number_more m ge)) in omega (arith, h, l))) (cases_lt m 128)

pub group_more : (m group : ℕ) (others rest : List ℕ) → group ∷ others ≡ number m ++ rest → 128 ≤ group → others ≡ number (m / 128) ++ rest
group_more m group others rest e le =
    ⊎_elim (λ (lt : m < 128). absurd (let h = heads (e ∙ ap (with_rest rest) (number_last m lt)) in omega (arith, h, le, lt)))
    (λ (ge : 128 ≤ m). tails (e ∙ ap (with_rest rest) (number_more m ge))) (cases_lt m 128)

-- ---- labels

-- a label is a bare one behind a language
pub label_parts : (t : Top) → label_of t ≡ language_label t.language ++ bare_label t
unfolding label_of
label_parts t = append_assoc (language_label t.language) (each_counted counted (name_list t)) (node_label (size t.below) t.node ++ entries_label t.below)

abbrev pub AreBareTo : List (List ℕ) → ℕ → List (List ℕ) → Type 0
AreBareTo labels n bare = (k : ℕ) (t : Top) → k < n → nth_label labels k ≡ label_of t → nth_label bare k ≡ 0 ∷ bare_label t

pub bare_next : (labels : List (List ℕ)) (n : ℕ) (bare : List (List ℕ)) (row : List ℕ) → length bare ≡ n → ((t : Top) → nth_label labels n ≡ label_of t → row ≡ 0 ∷ bare_label t) → AreBareTo labels n bare
    → AreBareTo labels (n + 1) (bare ++ row ∷ [])
bare_next labels n bare row len here h k t l is = ⊎_elim
    (λ (before : k < n). get_or-append bare (row ∷ []) [] k (omega (arith, before, len)) ∙ h k t before is)
    (λ (at : k ≡ n).
    get_or-append_right bare (row ∷ []) k [] (omega (arith, at, len))
    ∙ (let z : k - length bare ≡ 0 = omega (arith, at, len) in ap (λ (w : ℕ). get_or (row ∷ []) w []) z)
    ∙ here t (ap (nth_label labels) (sym at) ∙ is))
    (grind (arith, l))

-- ---- labels behind others

abbrev pub zeroed : List ℕ → List ℕ
zeroed label = 0 ∷ label

pub zeroed_next : (bare labels : List (List ℕ)) (n : ℕ) → n < length labels
    → (bare ++ map zeroed (take n labels)) ++ zeroed (nth_label labels n) ∷ [] ≡ bare ++ map zeroed (take (n + 1) labels)
zeroed_next bare labels n l =
    let here : slice_get labels n ≡ Some (nth_label labels n) = (let o = got_there labels n l in o.1 ∙ ap (λ (w : List ℕ). Some w) (sym (got_index_or labels n o.0 [] o.1))) in
    append_assoc bare (map zeroed (take n labels)) (zeroed (nth_label labels n) ∷ [])
    ∙ ap (λ (w : List (List ℕ)). bare ++ w) (sym (map_got zeroed labels n (nth_label labels n) here))

pub joined_own : (bare labels : List (List ℕ)) (n : ℕ) → n < length bare → nth_label (bare ++ map zeroed labels) n ≡ nth_label bare n
joined_own bare labels n l = get_or-append bare (map zeroed labels) [] n l

zeroed_at : (labels : List (List ℕ)) (k : ℕ) → k < length labels → nth_label (map zeroed labels) k ≡ zeroed (nth_label labels k)
zeroed_at labels k l =
    let o = got_there labels k l in
    got_index_or (map zeroed labels) k (zeroed o.0) [] (got_map zeroed labels k o.0 o.1) ∙ ap zeroed (sym (got_index_or labels k o.0 [] o.1))

pub joined_common : (bare labels : List (List ℕ)) (many k : ℕ) → length bare ≡ many → k < length labels → nth_label (bare ++ map zeroed labels) (many + k) ≡ zeroed (nth_label labels k)
joined_common bare labels many k len l =
    get_or-append_right bare (map zeroed labels) (many + k) [] (omega (arith, len))
    ∙ (let z : many + k - length bare ≡ k = omega (arith, len) in ap (nth_label (map zeroed labels)) z) ∙ zeroed_at labels k l
