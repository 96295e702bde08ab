use Rattle.std.proofs.Common.{List, [], ◌∷◌, ◌++◌, length, sym, ap, subst, ◌∙◌, append_assoc, arith}
use Rattle.std.proofs.lemmas.List.{append-nil}
use Rattle.std.proofs.lemmas.Result.{err_from_is_err_and}
use Rattle.dwz_expand_passes.proofs.OrderLemmas.{all_done, none_done, one_done, refused_all}
use Rattle.dwz_expand_passes.specs.Noted.{Noted}
use Rattle.dwz_expand_passes.proofs.NotedLemmas.{all_for, none_for, one_for}
use Rattle.dwz_expand_passes.proofs.units.pass_all.Goals as goal

pub loop-n-init : goal.loop-n-init
loop-n-init g c = record {
  copies = c.requires.copies;
  many = c.requires.many;
  table = c.in_ok-last.ensures;
  order = [];
  done = none_done c.args.file.now;
  state = λ made start. start;
  given = [];
  noted = none_for c.args.file.now;
  told = λ before start. subst (λ (all : List Noted). g.P.Pass.noted c.args.pass.now all) (sym (append-nil before)) start;
}

pub returns-in_err-pass_here-clause-refused : goal.returns-in_err-pass_here-clause-refused
returns-in_err-pass_here-clause-refused g c =
    let e = err_from_is_err_and c.from_residual-in_err-pass_here.result c.from_residual-in_err-pass_here.ensures.1 in
    let i = c.loop-n.invariant in
    let h = c.loop-n-test.true in
    let many = ap length c.units-n-end.ensures in
    rw (e.1, e.2) (refused_all c.args.file.now c.loop-n.n i.order c.in_err-pass_here.field-0.0 (omega (arith, h, many)) i.done c.in_err-pass_here.ensures.refused)

pub loop-n-preserved : goal.loop-n-preserved
loop-n-preserved g c =
    let i = c.loop-n.invariant in
    let p = c.in_ok-pass_here.ensures.passed in
    let t = c.in_ok-pass_here.ensures.noted in
    let h = c.loop-n-test.true in
    let many = ap length c.units-n-end.ensures in
    record {
      copies = c.enter.ensures.copies;
      many = c.enter.ensures.entries ∙ i.many;
      table = c.in_ok-pass_here.ensures.table;
      order = i.order ++ p.0 ∷ [];
      done = one_done c.args.file.now c.loop-n.n i.order p.0 i.done p.1;
      state = λ made start. p.2 made i.order (i.state made start);
      given = i.given ++ t.0;
      noted = one_for c.args.file.now c.loop-n.n i.given t.0 (omega (arith, h, many)) i.noted t.1;
      told = λ before start. subst (λ (all : List Noted). g.P.Pass.noted c.pass_here.new.pass all) (append_assoc before i.given t.0) (t.2 (before ++ i.given) (i.told before start));
    }

pub returns-clause-passed : goal.returns-clause-passed
returns-clause-passed g c =
    let i = c.loop-n.invariant in
    let h = c.loop-n-test.false in
    let many = ap length c.units-n-end.ensures in
    let end = c.loop-n.auto.n-end in
    (i.order, all_done c.args.file.now c.loop-n.n i.order (omega (arith, h, many, end)) i.done, λ made start. i.state made start)

pub returns-clause-noted : goal.returns-clause-noted
returns-clause-noted g c =
    let i = c.loop-n.invariant in
    let h = c.loop-n-test.false in
    let many = ap length c.units-n-end.ensures in
    let end = c.loop-n.auto.n-end in
    (i.given, all_for c.args.file.now c.loop-n.n i.given (omega (arith, h, many, end)) i.noted, i.told)
