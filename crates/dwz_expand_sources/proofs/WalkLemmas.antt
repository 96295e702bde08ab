-- What is left of a walk behind its next source.
use Rattle.std.proofs.Common.{◌≡◌, ℕ, suc, ◌+◌, ◌-◌, ◌<◌, ◌≤◌, List, ◌∷◌, ◌++◌, ap, ◌∙◌, arith}
use Rattle.std.specs.List.{flat_map, range_with_len}
use Rattle.std.proofs.lemmas.List.Concat.{flat_map-cons}
use Rattle.dwz_expand_sources.specs.declared.sources.SourceRange.{SourceRange}
use Rattle.dwz_expand_sources.specs.Walk.{between, left}

abbrev of_ranges : List SourceRange → List ℕ
of_ranges rs = flat_map (λ r. between r.first r.end) rs

pub left_next : (next end : ℕ) (rs : List SourceRange) → next < end → left next end rs ≡ next ∷ left (next + 1) end rs
left_next next end rs lt =
    let one : end - next ≡ suc (end - (next + 1)) = omega arith in
    ap (λ (k : ℕ). range_with_len next k ++ of_ranges rs) one

pub left_range : (next end : ℕ) (r : SourceRange) (rs ranges : List SourceRange) → end ≤ next → ranges ≡ r ∷ rs → r.first < r.end → left next end ranges ≡ r.first ∷ left (r.first + 1) r.end rs
left_range next end r rs ranges over is some =
    let none : end - next ≡ 0 = omega arith in
    ap (λ (k : ℕ). range_with_len next k ++ of_ranges ranges) none
    ∙ ap of_ranges is
    ∙ flat_map-cons (λ (x : SourceRange). between x.first x.end) r rs
    ∙ left_next r.first r.end rs some
