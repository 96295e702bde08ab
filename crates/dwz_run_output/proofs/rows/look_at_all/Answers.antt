use Rattle.std.proofs.Common.{ℕ, List, [], Vec, Global, get_or, map, refl, sym, subst, below_more, arith}
use Rattle.std.proofs.lemmas.List.{length-map}
use Rattle.std.proofs.lemmas.Option.{get_or_from_slice_get}
use Rattle.dwz_def_reading.specs.Values.{AreBytes}
use Rattle.dwz_def_tops.proofs.Members.{each_below}
use Rattle.dwz_def_output.proofs.FilesRead.{content_at}
use Rattle.dwz_run_output.proofs.rows.look_at_all.Goals as goal

items_of : Vec ℕ Global → List ℕ
items_of c = c.items

pub loop-content-preserved : goal.loop-content-preserved
loop-content-preserved c =
    let rows : List (List ℕ) = map (λ (v : Vec ℕ Global). v.items) c.args.contents.now in
    let i = c.loop-content.content-index in
    let at = content_at (λ (v : Vec ℕ Global). v.items) rows c.args.contents.now i c.content-item.result c.as_slice.result.now refl
    c.loop-content-test.true c.content-item.is c.as_slice.ensures.value in
    let here = subst AreBytes (sym (get_or_from_slice_get rows i c.as_slice.result.now [] at)) c.look_at.ensures in
    let Are : ℕ → Type 0 = λ k. AreBytes (get_or rows k []) in
    below_more Are i c.loop-content.invariant here

pub returns : goal.returns
returns c =
    let rows : List (List ℕ) = map (λ (v : Vec ℕ Global). v.items) c.args.contents.now in
    each_below AreBytes rows (λ k less. (let len = length-map c.args.contents.now (λ (v : Vec ℕ Global). v.items) in
    c.loop-content.invariant k (omega (arith, len, less, c.loop-content-test.false))))
