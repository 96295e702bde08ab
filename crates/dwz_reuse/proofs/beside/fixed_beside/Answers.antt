use Rattle.std.proofs.Common.{List, ℕ, sym, subst, ◌∙◌}
use Rattle.std.proofs.lemmas.Result.{IfOk-weaker}
use Rattle.dwz_def_taken.specs.Beside.{reused_of}
use Rattle.dwz_graph.specs.Files.{docs_of}
use Rattle.dwz_match.specs.MatchRows.{AreKinRows, ShowMatch}
use Rattle.std.proofs.Common.{length}
use Rattle.dwz_reuse.proofs.beside.fixed_beside.Goals as goal

pub fixed-requires-clause-kin : goal.fixed-requires-clause-kin
fixed-requires-clause-kin g c =
    let m = c.in_ok-found.found in
    subst (λ (w : List ℕ). AreKinRows (length m.rows.classes) w m.targets) (sym c.as_slice-kin.ensures) c.in_ok-found.ensures.is.kin

pub returns-clause-roots : goal.returns-clause-roots
returns-clause-roots g c = λ around said place means. IfOk-weaker c.fixed.result _ _ (λ x e. e ∙ c.in_ok-roots.ensures around said place means) c.fixed.ensures.roots

pub returns-clause-lists : goal.returns-clause-lists
returns-clause-lists g c = λ doc b. (
    let m = c.in_ok-found.found in
    let s = c.in_ok-found.ensures.shows doc b in
    c.fixed.ensures.lists (docs_of c.args.graph.now.given) doc s.name b.placed
    (subst (λ (w : List ℕ). ShowMatch (reused_of (docs_of c.args.graph.now.given) doc) s.name m.rows w m.targets) (sym c.as_slice-kin.ensures) s.shows))
