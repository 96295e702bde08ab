use Rattle.std.proofs.Common.{◌≡◌, ℕ, suc, List, [], Vec, Global, get_or, length, map, sym, ap, refl, ◌+◌, ◌∙◌, arith}
use Rattle.std.specs.List.{range_with_len}
use Rattle.std.proofs.lemmas.List.{length-map}
use Rattle.std.proofs.lemmas.List.FromFn.{length-map-range_with_len}
use Rattle.dwz_def_run.specs.Comes.{reusing}
use Rattle.dwz_run.proofs.FilesReused.{behind_got, reuses_got, tail_got}
use Rattle.dwz_run.proofs.reused.reused_files.Goals as goal

pub written_over-requires-else-contents-count-clause-few : goal.written_over-requires-else-contents-count-clause-few
written_over-requires-else-contents-count-clause-few g c κs within =
    let items : List (Vec ℕ Global) → List (List ℕ) = λ cs. map (λ (v : Vec ℕ Global). v.items) cs in
    let at : ℕ → List ℕ = λ n. get_or (items c.args.contents.now) (suc n) [] in
    let same : length c.deref.result.now ≡ c.len-count.result =
    ap (λ (vs : List (Vec ℕ Global)). length vs) c.deref.ensures.value
    ∙ sym (length-map c.in_ok-files.files.items (λ (v : Vec ℕ Global). v.items))
    ∙ ap (λ (rows : List (List ℕ)). length rows) c.in_ok-files.ensures
    ∙ length-map-range_with_len at 0 c.len-count.result in
    omega (arith, same, c.if-count-ge-MANY_FILES.false)

pub returns-then-contents-count : goal.returns-then-contents-count
returns-then-contents-count g c =
    let o = reusing c.args.options.now in
    let many : length c.args.contents.now ≡ length c.args.options.now.files + 1 = omega (arith, c.if-contents-count.true, c.len-count.ensures) in
    reuses_got o (map (λ (v : Vec ℕ Global). v.items) c.args.contents.now) _ _ c.written_over.result c.content_at-common.ensures
    (tail_got o c.args.contents.now _ refl many) c.written_over.ensures

pub returns-in_ok-files : goal.returns-in_ok-files
returns-in_ok-files g c =
    let o = reusing c.args.options.now in
    let items : List (Vec ℕ Global) → List (List ℕ) = λ cs. map (λ (v : Vec ℕ Global). v.items) cs in
    let contents = items c.args.contents.now in
    let at : ℕ → List ℕ = λ n. get_or contents (suc n) [] in
    let is = ap items c.deref.ensures.value ∙ c.in_ok-files.ensures ∙ ap (λ (k : ℕ). map at (range_with_len 0 k)) c.len-count.ensures in
    reuses_got o contents _ _ c.written_over-else-contents-count.result c.content_at-common.ensures (behind_got o contents (items c.deref.result.now) is) c.written_over-else-contents-count.ensures
