use Rattle.std.proofs.Common.{◌≡◌, ◌∙◌, ℕ, ◌-◌, ◌<◌, ◌≤◌, true, Option, None, Some, arith, ap, sym, subst}
use Rattle.std.proofs.lemmas.Result.{on_ok_weaker}
use Rattle.dwz_def_expand.specs.Source.{copy_for, source_places}
use Rattle.dwz_graph.specs.Surroundings.{behind_own}
use Rattle.dwz_expand_sources.specs.Imports.{same}
use Rattle.dwz_def_reading.specs.Units.{entries_in}
use Rattle.dwz_expand_passes.specs.declared.files.SourceFile.{SourceFile}
use Rattle.dwz_expand_passes.specs.Attributes.{IsEntryOf}
use Rattle.dwz_expand_passes.specs.Files.{IsCommonReady, IsSource, KnowsCommon, SpeaksAs, around_at, around_beside, common_count, raw_in}
use Rattle.dwz_expand_passes.proofs.EntrySteps.{common_answer, common_speaks, own_answer, own_speaks, refs_ready}
use Rattle.dwz_expand_passes.proofs.FitLemmas.{got_first_entry, got_second_entry}
use Rattle.dwz_expand_passes.proofs.values.put_attrs.Goals as goal

pub returns-then-entry-own-clause-copies : goal.returns-then-entry-own-clause-copies
returns-then-entry-own-clause-copies c = λ w keys stands d know found. (
    let k = c.args.known.now in
    let lt : c.args.entry < entries_in (raw_in k.own) = (let t = c.if-entry-own.true in let m = c.entries-own.ensures in omega (arith, t, m)) in
    own_answer k w keys stands know c.args.entry c.entry_of-x.result d c.put_values.new.attrs.items c.put_values.new.operands.items c.put_values.result c.entry_of-x.ensures
    (got_first_entry w.own w.common (raw_in k.own) (around_at k) know.own.means c.args.entry d lt found)
    (λ q row e fits is. c.put_values.ensures.copies q row e fits is))

pub put_values-requires-in-Some-clause-refs : goal.put_values-requires-in-Some-clause-refs
put_values-requires-in-Some-clause-refs c = (
    let k = c.args.known.now in
    let f = c.in-Some.common in
    let ready = subst IsCommonReady c.in-Some.is c.requires.ready.common in
    let count : common_count k.common ≡ entries_in (raw_in f) = ap common_count c.in-Some.is in
    let own = c.entries-own.ensures in
    refs_ready k f c.entries-own.result (c.args.entry - c.entries-own.result) (entries_in (raw_in f)) true c.entry_of-x-in-Some.result c.requires.ready ready.0 c.entry_of-x-in-Some.ensures
    (omega (arith, count, own)) ready.1)

pub returns-clause-copies : goal.returns-clause-copies
returns-clause-copies c = λ w keys stands d know found. (
    let k = c.args.known.now in
    let f = c.in-Some.common in
    let own = c.entries-own.ensures in
    let le : entries_in (raw_in k.own) ≤ c.args.entry = (let t = c.if-entry-own.false in omega (arith, t, own)) in
    let kc = subst (λ (o : Option SourceFile). KnowsCommon o w.common stands) c.in-Some.is know.common in
    let is = subst (λ (n : ℕ). IsSource k f n true (c.args.entry - n) c.entry_of-x-in-Some.result) own c.entry_of-x-in-Some.ensures in
    common_answer k w keys stands know f kc.0 kc.1 kc.2 kc.3 (c.args.entry - entries_in (raw_in k.own)) c.entry_of-x-in-Some.result d c.put_values-in-Some.new.attrs.items
    c.put_values-in-Some.new.operands.items c.put_values-in-Some.result is
    (got_second_entry w.own w.common (raw_in k.own) (around_at k) know.own.means c.args.entry d le found)
    (λ q row e fits s. c.put_values-in-Some.ensures.copies q row e fits
    (subst (λ (n : ℕ). IsEntryOf c.entry_of-x-in-Some.result q (c.args.entry - n) row e) (sym own) s)))

pub returns-then-entry-own-clause-speaks : goal.returns-then-entry-own-clause-speaks
returns-then-entry-own-clause-speaks c = λ w keys stands d know found. (
    let k = c.args.known.now in
    let lt : c.args.entry < entries_in (raw_in k.own) = (let t = c.if-entry-own.true in let m = c.entries-own.ensures in omega (arith, t, m)) in
    on_ok_weaker c.put_values.result (λ s. record { own = λ less. s; common = λ f is le. absurd (omega (arith, lt, le)) })
    (own_speaks k w keys stands know c.args.entry c.entry_of-x.result d c.put_values.new.operands.items c.put_values.result c.entry_of-x.ensures
    (got_first_entry w.own w.common (raw_in k.own) (around_at k) know.own.means c.args.entry d lt found)
    (λ q row e fits is. c.put_values.ensures.speaks q row e fits is)))

pub returns-clause-speaks : goal.returns-clause-speaks
returns-clause-speaks c = λ w keys stands d know found. (
    let k = c.args.known.now in
    let f = c.in-Some.common in
    let own = c.entries-own.ensures in
    let le : entries_in (raw_in k.own) ≤ c.args.entry = (let t = c.if-entry-own.false in omega (arith, t, own)) in
    let kc = subst (λ (o : Option SourceFile). KnowsCommon o w.common stands) c.in-Some.is know.common in
    let is = subst (λ (n : ℕ). IsSource k f n true (c.args.entry - n) c.entry_of-x-in-Some.result) own c.entry_of-x-in-Some.ensures in
    on_ok_weaker c.put_values-in-Some.result
    (λ s. record {
      own = λ lt. absurd (omega (arith, lt, le));
      common = λ g is_g more. (
          let both : Some f ≡ Some g = sym c.in-Some.is ∙ is_g in
          let one : f ≡ g = cc in
          subst (λ (h : SourceFile). SpeaksAs h (around_beside h None) behind_own (copy_for same (source_places same w) k.unit) keys (c.args.entry - entries_in (raw_in k.own))
          c.put_values-in-Some.new.operands.items) one s);
    })
    (common_speaks k w keys stands know f kc.0 kc.1 kc.2 kc.3 (c.args.entry - entries_in (raw_in k.own)) c.entry_of-x-in-Some.result d c.put_values-in-Some.new.operands.items
    c.put_values-in-Some.result is
    (got_second_entry w.own w.common (raw_in k.own) (around_at k) know.own.means c.args.entry d le found)
    (λ q row e fits s. c.put_values-in-Some.ensures.speaks q row e fits
    (subst (λ (n : ℕ). IsEntryOf c.entry_of-x-in-Some.result q (c.args.entry - n) row e) (sym own) s))))
