use Rattle.std.proofs.Common.{rules, ◌+◌, ◌≤◌, sym, subst, arith}
use Rattle.std.proofs.lemmas.List.Elements.{All-nil, All-push}
use Rattle.dwz_bytes.specs.Input.{Input}
use Rattle.dwz_lines.specs.Known.{IsPart, Skips}
use Rattle.dwz_lines.specs.Marks.{IsMark, Stands}
use Rattle.dwz_lines.specs.RowViews.{item_of}
use Rattle.dwz_lines.proofs.LocalLemmas.{skips_none, skips_stand, skips_then}
use Rattle.dwz_lines.proofs.runs.marked_run.Goals as goal

pub loop-number-init : goal.loop-number-init
loop-number-init c =
    let item = item_of c.args.known.now.reader in
    let begin = c.args.cursor.now in
    record {
      within = omega arith;
      skips = subst (λ (j : Input). Skips item 0 begin j) (sym c.again-end.ensures) (skips_none item begin);
      part = subst (λ (j : Input). IsPart c.args.known.now.line.now c.args.start j) (sym c.again-end.ensures) c.requires.part;
      marks = rw c.new-marks.ensures.items (All-nil (IsMark item begin));
    }

pub loop-number-preserved : goal.loop-number-preserved
loop-number-preserved c =
    let item = item_of c.args.known.now.reader in
    let begin = c.args.cursor.now in
    let i = c.loop-number.invariant in
    let n = c.loop-number.number in
    let within : n + c.min-rows.result ≤ c.args.count = search rules in
    let stands = subst (λ (j : Input). Stands item begin n j) (sym c.again-begin.ensures) (skips_stand item n begin c.loop-number.end i.skips) in
    record {
      within = within;
      skips = skips_then item n c.min-rows.result begin c.loop-number.end c.in-Some.next i.skips c.in-Some.ensures.skips;
      part = c.in-Some.ensures.part;
      marks = rw c.in_ok-push.ensures.items (All-push (IsMark item begin) c.loop-number.marks.items (record { number = n; begin = c.again-begin.result }) i.marks stands);
    }
