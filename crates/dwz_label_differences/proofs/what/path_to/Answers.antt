use Rattle.std.proofs.Common.{◌∙◌, arith}
use Rattle.dwz_label_differences.specs.Labels.{whole}
use Rattle.dwz_label_differences.proofs.Flats.{labels_long}
use Rattle.dwz_label_differences.proofs.TopLemmas.{path_far, path_near}
use Rattle.dwz_label_differences.proofs.what.path_to.Goals as goal

pub returns-in_default : goal.returns-in_default
returns-in_default c = λ x h l small. absurd (let n = c.in_default.ensures.cases in let m = labels_long (whole x) c.args.rows.now h in omega (arith, n, m))

pub returns-then-k-eq0 : goal.returns-then-k-eq0
returns-then-k-eq0 c = λ x h l small. c.no_path-itself.ensures ∙ path_near x c.args.k c.if-k-eq0.true

pub returns : goal.returns
returns c = λ x h l small. (
    let p = path_far x c.args.rows.now c.in-Some._top.now c.in-Some.others.now c.args.k c.if-k-eq0.false c.in-Some.ensures.cases.0 h l in
    c.new-numbers.ensures ∙ c.in_ok-path.ensures x.below p.0 p.1 small ∙ p.2)
