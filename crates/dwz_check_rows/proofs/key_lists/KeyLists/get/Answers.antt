use Rattle.std.proofs.Common.{ℕ, ◌<◌, [], length, sym, ap, ◌∙◌, arith, List}
use Rattle.std.specs.Prelude.{slice_range, slice_index_or}
use Rattle.dwz_groups.specs.Parts.{start_at}
use Rattle.dwz_groups.proofs.PartLemmas.{length-parts_of, get_or-parts_of, Rise-at}
use Rattle.dwz_check_rows.proofs.key_lists.KeyLists.get.Goals as goal

pub index-end-requires : goal.index-end-requires
index-end-requires c = let e = length-parts_of 0 c.self.inside.ends.items c.self.inside.keys.items in let v = ap (λ (g : List (List ℕ)). length g) c.self.view_is in let r = c.requires in omega arith

pub start_at-requires : goal.start_at-requires
start_at-requires c = let e = length-parts_of 0 c.self.inside.ends.items c.self.inside.keys.items in let v = ap (λ (g : List (List ℕ)). length g) c.self.view_is in let r = c.requires in let s =
    ap (λ (l : List ℕ). length l) c.as_slice-2.ensures.value in omega arith

pub part-requires-clause-rising : goal.part-requires-clause-rising
part-requires-clause-rising c =
    let e = length-parts_of 0 c.self.inside.ends.items c.self.inside.keys.items in let v = ap (λ (g : List (List ℕ)). length g) c.self.view_is in
    let r = c.requires in
    let l : c.args.unit < length c.self.inside.ends.items = omega arith in
    let at = Rise-at 0 c.self.inside.ends.items (length c.self.inside.keys.items) c.args.unit c.index-end.result.now c.self.invariant l in
    let start = c.start_at.ensures ∙ ap (λ (es : List ℕ). start_at 0 es c.args.unit) c.as_slice-2.ensures.value in
    let end = c.index-end.ensures in
    omega (arith, at.0)

pub part-requires-clause-within : goal.part-requires-clause-within
part-requires-clause-within c =
    let e = length-parts_of 0 c.self.inside.ends.items c.self.inside.keys.items in let v = ap (λ (g : List (List ℕ)). length g) c.self.view_is in
    let r = c.requires in
    let l : c.args.unit < length c.self.inside.ends.items = omega arith in
    let at = Rise-at 0 c.self.inside.ends.items (length c.self.inside.keys.items) c.args.unit c.index-end.result.now c.self.invariant l in
    let s = ap (λ (l : List ℕ). length l) c.as_slice.ensures.value in
    let end = c.index-end.ensures in
    omega (arith, at.1)

pub returns : goal.returns
returns c =
    let es : List ℕ = c.self.inside.ends.items in
    let ns : List ℕ = c.self.inside.keys.items in
    let e = length-parts_of 0 es ns in let v = ap (λ (g : List (List ℕ)). length g) c.self.view_is in
    let r = c.requires in
    let l : c.args.unit < length es = omega arith in
    let start = c.start_at.ensures ∙ ap (λ (es : List ℕ). start_at 0 es c.args.unit) c.as_slice-2.ensures.value in
    let end = c.index-end.ensures in
    c.part.ensures ∙ ((λ i. slice_range (c.as_slice.ensures.value i) (start i) (end i))
    ∙ (sym (get_or-parts_of 0 es ns c.args.unit c.index-end.result.now [] l) ∙ ap (λ (g : List (List ℕ)). slice_index_or g c.args.unit []) c.self.view_is))
