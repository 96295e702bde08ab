use Rattle.std.proofs.Common.{◌∙◌, ◌<◌, List, ℕ, Ok, Err, ap, arith, get_or, length, subst, sym}
use Rattle.std.specs.List.Sorted.{IsStrictlyIncreasing}
use Rattle.std.proofs.lemmas.List.{get_or_default}
use Rattle.std.proofs.lemmas.List.Sorted.{searched}
use Rattle.dwz_strs.specs.Pruned.{Pruning, moved_in}
use Rattle.dwz_strs.proofs.MovedLemmas.{found, missing, rising}
use Rattle.dwz_strs.proofs.pruned.Pruned.moved.Goals as goal

pub returns-then-index-offset : goal.returns-then-index-offset
returns-then-index-offset c =
    let inside = c.self.inside in
    let place = c.place-place.result in
    let lt : place < length inside.uses.items = omega (arith, c.len.ensures, inside.uses.ok.0) in
    found inside.bytes.items inside.uses.items inside.numbers.items c.self.invariant c.args.offset place c.index-then-index-offset.result.now lt
    (sym (get_or_default inside.uses.items place c.index.result.now 0 lt) ∙ sym c.index.ensures ∙ c.if-index-offset.true) c.index-then-index-offset.ensures
    ∙ ap (λ (p : Pruning). moved_in p c.args.offset) c.self.view_is

pub returns-in-Ok : goal.returns-in-Ok
returns-in-Ok c =
    let inside = c.self.inside in
    let seen = c.deref.ensures.value in
    let s = searched c.deref.result.now c.args.offset (Ok c.in-Ok.place) c.in-Ok.ensures.position (rising c.deref.result.now (subst IsStrictlyIncreasing (sym seen) c.self.invariant.rises)) in
    found inside.bytes.items inside.uses.items inside.numbers.items c.self.invariant c.args.offset c.in-Ok.place c.index-in-Ok.result.now (omega (arith, s.0, ap length seen))
    (ap (λ (us : List ℕ). get_or us c.in-Ok.place 0) (sym seen) ∙ s.1) c.index-in-Ok.ensures
    ∙ ap (λ (p : Pruning). moved_in p c.args.offset) c.self.view_is

pub returns-in-Err : goal.returns-in-Err
returns-in-Err c =
    let inside = c.self.inside in
    let seen = c.deref.ensures.value in
    let s = searched c.deref.result.now c.args.offset (Err c.in-Err.field-0) c.in-Err.ensures.position (rising c.deref.result.now (subst IsStrictlyIncreasing (sym seen) c.self.invariant.rises)) in
    missing inside.bytes.items inside.uses.items inside.numbers.items c.self.invariant c.args.offset c.in-Err.field-0
    (λ k lt. omega (arith, s.1 k lt, ap (λ (us : List ℕ). get_or us k 0) seen))
    (λ k le lt. omega (arith, s.2 k le (omega (arith, lt, ap length seen)), ap (λ (us : List ℕ). get_or us k 0) seen))
    ∙ ap (λ (p : Pruning). moved_in p c.args.offset) c.self.view_is
