use Rattle.std.proofs.Common.{◌≡◌, ℕ, suc, ◌++◌, List, [], ◌∷◌, Vec, Global, get_or, map, sym, ap, ◌∙◌, add-one, arith}
use Rattle.std.specs.List.{range_with_len}
use Rattle.std.proofs.lemmas.List.{map_push}
use Rattle.std.proofs.lemmas.List.FromFn.{map-range_with_len_more}
use Rattle.dwz_run.proofs.reused.contents_behind.Goals as goal

pub loop-number-preserved : goal.loop-number-preserved
loop-number-preserved c =
    let items : List (Vec ℕ Global) → List (List ℕ) = λ cs. map (λ (v : Vec ℕ Global). v.items) cs in
    let at : ℕ → List ℕ = λ n. get_or (items c.args.contents.now) (suc n) [] in
    let n = c.loop-number.number in
    let v = c.in_ok-from_slice.field-0 in
    let one : v.items ≡ at n = c.in_ok-from_slice.ensures.items ∙ c.content_at.ensures ∙ ap (λ (k : ℕ). get_or (items c.args.contents.now) k []) (add-one n) in
    ap items c.in_ok-push.ensures.items
    ∙ map_push (λ (w : Vec ℕ Global). w.items) c.loop-number.files.items v
    ∙ ap (λ (rows : List (List ℕ)). rows ++ v.items ∷ []) c.loop-number.invariant
    ∙ ap (λ (row : List ℕ). map at (range_with_len 0 n) ++ row ∷ []) one
    ∙ sym (map-range_with_len_more at 0 n n (omega arith))
