use Rattle.std.proofs.Common.{◌≡◌, ℕ, List, length, take, sum, ap, ◌∙◌, arith}
use Rattle.dwz_nodes.specs.Rooms.{count_below, span}
use Rattle.dwz_nodes.proofs.Apart.{rooms-none}
use Rattle.dwz_nodes.proofs.Counts.{sum_fits, sum_is}
use Rattle.dwz_nodes.proofs.back.rooms_of.Goals as goal

pub spans_of-requires : goal.spans_of-requires
spans_of-requires c =
    let ns : List ℕ = c.in_ok-counts.counts.items in
    let len = c.in_ok-counts.ensures.len in
    let same = ap sum c.as_slice.ensures.value in
    omega (arith, same, sum_fits c.args.targets.now ns (λ a l. c.in_ok-counts.ensures.each a (omega arith)))

pub returns-clause-rooms : goal.returns-clause-rooms
returns-clause-rooms c =
    let ts : List ℕ = c.args.targets.now in
    let ns : List ℕ = c.in_ok-counts.counts.items in
    let len = c.in_ok-counts.ensures.len in
    let same = c.as_slice.ensures.value in
    let same_len = ap (λ (xs : List ℕ). length xs) same in
    let more = c.in_ok-spans.ensures.len in
    rooms-none ts c.in_ok-spans.spans.items (λ a l.
    let start : sum (take a c.as_slice.result.now) ≡ count_below ts a = ap (λ (xs : List ℕ). sum (take a xs)) same ∙ sum_is ts ns (λ b m. c.in_ok-counts.ensures.each b (omega arith)) a
    (omega arith) in
    c.in_ok-spans.ensures.each a (omega arith) ∙ ap (λ n. span n n) start)
