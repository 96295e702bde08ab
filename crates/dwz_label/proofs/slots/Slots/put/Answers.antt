use Rattle.std.proofs.Common.{◌≡◌, ℕ, ◌+◌, ◌<◌, List, length, refl, ap, ◌∙◌, arith}
use Rattle.std.specs.Prelude.{slice_index, slice_set}
use Rattle.std.proofs.lemmas.List.{get_or_default}
use Rattle.dwz_label.proofs.Filling.{crowded_here, found_here, found_inside, slotted_found, slotted_new, slotted_rest}
use Rattle.dwz_label.proofs.slots.Slots.put.Goals as goal

pub returns-then-first-len-clause-put : goal.returns-then-first-len-clause-put
returns-then-first-len-clause-put c = λ movable h free. (
    let at : ℕ = c.in-Some.at in
    let found = found_here c.args.labels.now c.as_slice.result.now c.args.self.now.slots.items c.get-label.result.now c.args.self.now.size c.args.n c.home.result at c.as_slice.ensures.value c.get-label.ensures c.home.ensures.value c.in-Some.ensures in
    let len : length c.as_slice.result.now ≡ c.args.self.now.size + 16 = ap (λ (ls : List ℕ). length ls) c.as_slice.ensures.value ∙ c.requires.size.1 in
    let low : at < length c.as_slice.result.now = found_inside c.args.labels.now c.as_slice.result.now c.get-label.result.now c.args.self.now.size c.home.result at c.in-Some.ensures c.home.ensures.below len in
    let inside : at < length c.args.self.now.slots.items = (let e = c.requires.size.1 in omega arith) in
    let first : c.index-first.result.now ≡ slice_index c.args.self.now.slots.items at = c.index-first.ensures ∙ get_or_default c.args.self.now.slots.items at _ 0 inside in
    let taken : slice_index c.args.self.now.slots.items at < length c.args.labels.now = (let t = c.if-first-len.true in let e = c.len.ensures in omega arith) in
    slotted_found c.args.labels.now movable c.args.n c.args.self.now _ refl refl refl at inside (ap (λ (m : ℕ). slice_set c.args.self.now.firsts.items c.args.n m) first)
    (let e = c.requires.len in let l = c.requires.inside in omega arith) found taken free h)

pub returns-else-first-len-clause-put : goal.returns-else-first-len-clause-put
returns-else-first-len-clause-put c = λ movable h free. (
    let at : ℕ = c.in-Some.at in
    let found = found_here c.args.labels.now c.as_slice.result.now c.args.self.now.slots.items c.get-label.result.now c.args.self.now.size c.args.n c.home.result at c.as_slice.ensures.value c.get-label.ensures c.home.ensures.value c.in-Some.ensures in
    let len : length c.as_slice.result.now ≡ c.args.self.now.size + 16 = ap (λ (ls : List ℕ). length ls) c.as_slice.ensures.value ∙ c.requires.size.1 in
    let low : at < length c.as_slice.result.now = found_inside c.args.labels.now c.as_slice.result.now c.get-label.result.now c.args.self.now.size c.home.result at c.in-Some.ensures c.home.ensures.below len in
    let inside : at < length c.args.self.now.slots.items = (let e = c.requires.size.1 in omega arith) in
    let first : c.index-first.result.now ≡ slice_index c.args.self.now.slots.items at = c.index-first.ensures ∙ get_or_default c.args.self.now.slots.items at _ 0 inside in
    let empty : slice_index c.args.self.now.slots.items at < length c.args.labels.now → ⊥ = λ l. (let t = c.if-first-len.false in let e = c.len.ensures in omega arith) in
    slotted_new c.args.labels.now movable c.args.n c.args.self.now _ refl refl refl at inside refl c.requires.inside found empty free h)

pub returns-in_ok-push-in-None-clause-put : goal.returns-in_ok-push-in-None-clause-put
returns-in_ok-push-in-None-clause-put c = λ movable h free. (
    let crowded = crowded_here c.args.labels.now c.as_slice.result.now c.args.self.now.slots.items c.get-label.result.now c.args.self.now.size c.args.n c.home.result c.as_slice.ensures.value c.get-label.ensures c.home.ensures.value c.in-None.ensures in
    slotted_rest c.args.labels.now movable c.args.n c.args.self.now _ refl refl refl _ c.in_ok-push-in-None.ensures.items refl c.get-label.ensures crowded free h)
