use Rattle.std.proofs.Common.{ℕ, ◌<◌, ◌^◌, List, Vec, Global, length, get_or, map, refl, sym, subst, ap, ◌∙◌, below_more, arith}
use Rattle.std.specs.Prelude.{All, Some, option_map}
use Rattle.std.proofs.lemmas.List.{length-map}
use Rattle.std.proofs.lemmas.Option.{get_or_from_slice_get, slice_get-map, slice_get_read}
use Rattle.dwz_run_course.proofs.looking.look_at_all.Goals as goal

pub loop-content-preserved : goal.loop-content-preserved
loop-content-preserved c k d less =
    let items : Vec ℕ Global → List ℕ = λ v. v.items in
    let rows : List (List ℕ) = map items c.args.contents.now in
    let i = c.loop-content.content-index in
    let at = slice_get-map items c.args.contents.now i
    ∙ (ap (option_map items) (slice_get_read c.args.contents.now (length c.args.contents.now) i c.content-item.result refl c.loop-content-test.true c.content-item.is)
    ∙ ap (λ (b : List ℕ). Some b) (sym c.as_slice.ensures.value)) in
    let here = subst (All (λ byte. byte < 2 ^ 8)) (sym (get_or_from_slice_get rows i c.as_slice.result.now d at)) c.look_at.ensures in
    let Are : ℕ → Type 0 = λ k. All (λ byte. byte < 2 ^ 8) (get_or rows k d) in
    below_more Are i (λ k less. c.loop-content.invariant k d less) here k less

pub returns : goal.returns
returns c k d less =
    let len = length-map c.args.contents.now (λ (v : Vec ℕ Global). v.items) in
    c.loop-content.invariant k d (omega (arith, len, less, c.loop-content-test.false))
