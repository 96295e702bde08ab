-- What stands in a list that is part of another.
use Rattle.std.proofs.Common.{◌≡◌, ℕ, ◌+◌, List, ◌++◌, length, take, Some, slice_get, sym, ap, ◌∙◌}
use Rattle.std.proofs.Math.Seq.{take-append-add, take-append_seam}
use Rattle.dwz_def_reading.proofs.ListFacts.{get_first}
use Rattle.dwz_graph.proofs.TopLemmas.{get_later}
use Rattle.dwz_graph.specs.Across.{IsPart}

pub part_get : {X : Type 0} (all part : List X) (before k : ℕ) (x : X) → IsPart all before part → slice_get part k ≡ Some x → slice_get all (before + k) ≡ Some x
part_get {X} all part before k x h e =
    let at : before + k ≡ length h.front + k = ap (λ (n : ℕ). n + k) (sym h.many) in
    ap (λ (w : List X). slice_get w (before + k)) h.all_are
    ∙ ap (slice_get (h.front ++ (part ++ h.back))) at
    ∙ get_later h.front (part ++ h.back) k x (get_first part h.back k x e)

pub take_part : {X : Type 0} (all part : List X) (before : ℕ) → IsPart all before part → take (before + length part) all ≡ take before all ++ part
take_part {X} all part before h =
    let at : before + length part ≡ length h.front + length part = ap (λ (n : ℕ). n + length part) (sym h.many) in
    ap (take (before + length part)) h.all_are
    ∙ ap (λ (n : ℕ). take n (h.front ++ (part ++ h.back))) at
    ∙ take-append-add h.front (part ++ h.back) (length part)
    ∙ ap (λ (w : List X). h.front ++ w) (take-append_seam part h.back)
    ∙ ap (λ (w : List X). w ++ part) (sym (ap (take before) h.all_are ∙ ap (λ (n : ℕ). take n (h.front ++ (part ++ h.back))) (sym h.many) ∙ take-append_seam h.front (part ++ h.back)))
