use Rattle.std.proofs.Common.{◌<◌, refl, sym, ◌∙◌, arith}
use Rattle.dwz_run_files.proofs.CommonThere.{none_counted}
use Rattle.dwz_run_files.proofs.NothingShared.{nothing_shared}
use Rattle.dwz_run_files.proofs.common.whole_lists.Goals as goal

pub with_texts-requires : goal.with_texts-requires
with_texts-requires c = c.requires

pub returns-then-known-eq0 : goal.returns-then-known-eq0
returns-then-known-eq0 c = λ f s t b. (
    let zero = c.if-known-eq0.true in
    let none = none_counted f b.prepared.facts (sym b.prepared.listed.commons ∙ zero) in
    nothing_shared f s t c.args.known c.args.orders.now b.prepared b.as_read none _ refl refl)

pub returns : goal.returns
returns c = λ f s t b. (
    let some = c.if-known-eq0.false in
    let more : 0 < c.args.known.commons = omega (arith, some) in
    c.with_texts.ensures f s t b more)
