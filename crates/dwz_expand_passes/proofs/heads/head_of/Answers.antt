use Rattle.std.proofs.Common.{◌≡◌, ℕ, ◌-◌, ◌<◌, ◌≤◌, Some, slice_get, arith, ap, subst}
use Rattle.dwz_def_reading.specs.Units.{entries_in}
use Rattle.dwz_expand_passes.specs.Files.{common_count, raw_in}
use Rattle.dwz_expand_passes.specs.Heads.{IsHead}
use Rattle.dwz_unit.specs.Rows.{EntryRow, rows_of}
use Rattle.dwz_expand_passes.proofs.HeadLemmas.{common_head, own_head}
use Rattle.dwz_expand_passes.proofs.heads.head_of.Goals as goal

pub returns-then-entry-own-clause-is : goal.returns-then-entry-own-clause-is
returns-then-entry-own-clause-is c = λ w keys stands know l found. (
    let lt : c.args.entry < entries_in (raw_in c.args.known.now.own) = (let t = c.if-entry-own.true in let m = c.entries-own.ensures in omega (arith, t, m)) in
    own_head c.args.known.now w keys stands know c.args.entry l c.head_in.result lt found c.head_in.ensures.is)

pub returns-clause-is : goal.returns-clause-is
returns-clause-is c = λ w keys stands know l found. (
    let k = c.args.known.now in
    let f = c.in-Some.common in
    let own = c.entries-own.ensures in
    let t = c.if-entry-own.false in
    let le : entries_in (raw_in k.own) ≤ c.args.entry = omega (arith, t, own) in
    let there = c.requires.there in
    let count = ap common_count c.in-Some.is in
    let less : c.args.entry - entries_in (raw_in k.own) < entries_in (raw_in f) = omega (arith, count, there, own, t) in
    common_head k w keys stands know f c.in-Some.is c.args.entry l c.head_in-in-Some.result le less found
    (subst (λ (n : ℕ). (row : EntryRow) → slice_get (rows_of (raw_in f)) (c.args.entry - n) ≡ Some row → IsHead row c.head_in-in-Some.result) own c.head_in-in-Some.ensures.is))
