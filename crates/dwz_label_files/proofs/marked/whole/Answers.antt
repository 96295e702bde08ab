use Rattle.std.proofs.Common.{◌≡◌, ◌*◌, ◌≤◌, ℕ, List, ap, arith, length, subst, sym, ◌∙◌}
use Rattle.std.proofs.lemmas.Result.{IfOk-weaker}
use Rattle.dwz_def_tops.specs.Spots.{units_of}
use Rattle.dwz_graph.specs.Files.{docs_of}
use Rattle.dwz_label.specs.Stretches.{before}
use Rattle.dwz_label_files.specs.Marked.{AreStretches, IsStretch}
use Rattle.dwz_label_files.specs.declared.stretch.Stretch.{Stretch}
use Rattle.dwz_label_files.proofs.marked.whole.Goals as goal

pub returns : goal.returns
returns g c =
    let units = units_of (docs_of c.args.run.now.graph.now.given) in
    let movable = c.args.movable.now in
    let len = c.stretch_len-len.result in
    let parts : List Stretch = c.as_slice-3.result.now in
    let shown = c.as_slice-3.ensures.value in
    let many : length parts ≡ c.args.workers = ap (λ (ps : List Stretch). length ps) shown ∙ c.in_ok-parts.ensures.many in
    let enough : length movable ≤ length parts * len = subst (λ (n : ℕ). length movable ≤ n * len) (sym many) (subst (λ (n : ℕ). n ≤ c.args.workers * len) c.requires.count c.stretch_len-len.ensures) in
    let all : before (length movable) len (length parts) ≡ length movable = omega arith in
    let are = subst (λ (ps : List Stretch). AreStretches units movable len ps) (sym shown) c.in_ok-parts.ensures.each in
    IfOk-weaker c.joined.result _ _ (λ s is. subst (λ (n : ℕ). IsStretch units movable 0 n s) all is) (c.joined.ensures units movable len are)
