use Rattle.std.proofs.Common.{◌≡◌, ℕ, ◌<◌, ◌++◌, List, length, ap, ◌∙◌, arith, length-append}
use Rattle.std.specs.Prelude.{slice_index_or}
use Rattle.dwz_groups.proofs.PartLemmas.{Rise-at}
use Rattle.dwz_label.proofs.Moved.{all_behind}
use Rattle.dwz_label.proofs.labels.Labels.with.Goals as goal

pub overflow_add-start : goal.overflow_add-start
overflow_add-start c =
    let fs : List ℕ = c.more.inside.ends.items in
    let ws : List ℕ = c.more.inside.bytes.items in
    let n : ℕ = c.loop-end.end-index in
    let items : c.deref-end-items.result.now ≡ fs = c.deref-end-items.ensures.value in
    let many = ap (λ (xs : List ℕ). length xs) items in
    let low : n < length fs = (let t = c.loop-end-test.true in omega arith) in
    let at = Rise-at 0 fs (length ws) n 0 c.more.invariant low in
    let value = ap (λ (xs : List ℕ). slice_index_or xs n 0) items in
    let bs : List ℕ = c.self.inside.bytes.items in
    let all : c.extend_from_slice.new.self.items ≡ bs ++ ws = c.in_ok-extend_from_slice.ensures.items ∙ ap (λ (xs : List ℕ). bs ++ xs) c.as_slice.ensures.value in
    let len = ap (λ (xs : List ℕ). length xs) all ∙ length-append bs ws in
    let start = c.len-start.ensures in
    omega (arith, at.1)

pub invariant_of-result : goal.invariant_of-result
invariant_of-result c =
    let bs : List ℕ = c.self.inside.bytes.items in
    let all : c.extend_from_slice.new.self.items ≡ bs ++ c.more.inside.bytes.items = c.in_ok-extend_from_slice.ensures.items ∙ ap (λ (xs : List ℕ). bs ++ xs) c.as_slice.ensures.value in
    let start : c.len-start.result ≡ length bs = (let e = c.len-start.ensures in omega arith) in
    let count : c.loop-end.end-index ≡ length c.deref-end-items.result.now = (let t = c.loop-end-test.false in omega arith) in
    (all_behind c.self.inside.ends.items bs c.more.inside.ends.items c.more.inside.bytes.items c.loop-end.ends.items c.extend_from_slice.new.self.items
    c.len-start.result c.loop-end.end-index c.deref-end-items.result.now c.self.invariant c.more.invariant start c.deref-end-items.ensures.value count c.loop-end.invariant all).rise

pub returns : goal.returns
returns c =
    let bs : List ℕ = c.self.inside.bytes.items in
    let all : c.extend_from_slice.new.self.items ≡ bs ++ c.more.inside.bytes.items = c.in_ok-extend_from_slice.ensures.items ∙ ap (λ (xs : List ℕ). bs ++ xs) c.as_slice.ensures.value in
    let start : c.len-start.result ≡ length bs = (let e = c.len-start.ensures in omega arith) in
    let count : c.loop-end.end-index ≡ length c.deref-end-items.result.now = (let t = c.loop-end-test.false in omega arith) in
    (all_behind c.self.inside.ends.items bs c.more.inside.ends.items c.more.inside.bytes.items c.loop-end.ends.items c.extend_from_slice.new.self.items
    c.len-start.result c.loop-end.end-index c.deref-end-items.result.now c.self.invariant c.more.invariant start c.deref-end-items.ensures.value count c.loop-end.invariant all).parts
    ∙ (λ i. c.self.view_is i ++ c.more.view_is i)
