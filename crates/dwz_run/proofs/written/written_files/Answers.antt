use Rattle.std.proofs.Common.{List, ℕ, Err, Vec, Global, ap, map, subst, sym, ◌∙◌}
use Rattle.std.proofs.lemmas.Result.{err_from_is_err_and}
use Rattle.dwz_run_course.specs.Answers.{IsAnswer}
use Rattle.dwz_def_run.specs.Out.{Slims}
use Rattle.dwz_def_run.specs.Tells.{TellsWhy}
use Rattle.dwz_graph.specs.Files.{FilesRead}
use Rattle.dwz_run.proofs.FilesWritten.{all_read, batched_as_asked, compared_as_asked, expanded_as_asked, not_batched, read_refused, reused_as_asked, slimmed_as_asked, told_as_asked}
use Rattle.dwz_run.proofs.written.written_files.Goals as goal

pub returns-in_err-graph : goal.returns-in_err-graph
returns-in_err-graph g c =
    let contents = map (λ (v : Vec ℕ Global). v.items) c.args.contents.now in
    let p = err_from_is_err_and c.from_residual.result c.from_residual.ensures.1 in
    rw (p.1, p.2)
    (not_batched c.args.options.now contents (Err c.in_err-graph.field-0.0) (sym c.batches.ensures ∙ c.if-batches.false)
    (read_refused c.args.options.now contents c.in_err-graph.field-0.0 (sym c.reuses.ensures ∙ c.if-reuses.false) (sym c.compares.ensures ∙ c.if-compares.false) (sym c.expands.ensures ∙ c.if-expands.false)
    c.in_err-graph.ensures.answers))

pub returns-then-batches : goal.returns-then-batches
returns-then-batches g c =
    batched_as_asked c.args.options.now (map (λ (v : Vec ℕ Global). v.items) c.args.contents.now) c.batched_files.result (sym c.batches.ensures ∙ c.if-batches.true)
    c.batched_files.ensures

pub returns-then-reuses : goal.returns-then-reuses
returns-then-reuses g c =
    not_batched c.args.options.now (map (λ (v : Vec ℕ Global). v.items) c.args.contents.now) c.reused_files.result (sym c.batches.ensures ∙ c.if-batches.false)
    (reused_as_asked c.args.options.now (map (λ (v : Vec ℕ Global). v.items) c.args.contents.now) c.reused_files.result (sym c.reuses.ensures ∙ c.if-reuses.true)
    c.reused_files.ensures)

pub returns-then-compares : goal.returns-then-compares
returns-then-compares g c =
    not_batched c.args.options.now (map (λ (v : Vec ℕ Global). v.items) c.args.contents.now) c.compared_files.result (sym c.batches.ensures ∙ c.if-batches.false)
    (compared_as_asked c.args.options.now (map (λ (v : Vec ℕ Global). v.items) c.args.contents.now) c.compared_files.result (sym c.reuses.ensures ∙ c.if-reuses.false) (sym c.compares.ensures ∙ c.if-compares.true)
    c.compared_files.ensures)

pub returns-then-expands : goal.returns-then-expands
returns-then-expands g c =
    not_batched c.args.options.now (map (λ (v : Vec ℕ Global). v.items) c.args.contents.now) c.expanded_files.result (sym c.batches.ensures ∙ c.if-batches.false)
    (expanded_as_asked c.args.options.now (map (λ (v : Vec ℕ Global). v.items) c.args.contents.now) c.expanded_files.result (sym c.reuses.ensures ∙ c.if-reuses.false) (sym c.expands.ensures ∙ c.if-expands.true)
    c.expanded_files.ensures)

pub told_places-requires-clause-reads : goal.told_places-requires-clause-reads
told_places-requires-clause-reads g c κs within =
    all_read c.in_ok-graph.graph.given (map (λ (v : Vec ℕ Global). v.items) c.args.contents.now) (ap (λ (w : FilesRead). w.given) c.in_ok-graph.ensures.contents) c.in_ok-graph.ensures.answers

pub slimmed_files-requires-clause-reads : goal.slimmed_files-requires-clause-reads
slimmed_files-requires-clause-reads g c κs within =
    all_read c.in_ok-graph.graph.given (map (λ (v : Vec ℕ Global). v.items) c.args.contents.now) (ap (λ (w : FilesRead). w.given) c.in_ok-graph.ensures.contents) c.in_ok-graph.ensures.answers

pub slimmed_files-requires-clause-read : goal.slimmed_files-requires-clause-read
slimmed_files-requires-clause-read g c κs within = ap (λ (w : FilesRead). w.given) c.in_ok-graph.ensures.contents

pub returns-then-options : goal.returns-then-options
returns-then-options g c =
    let o = c.args.options.now in
    let is = subst (λ (bytes : List (List ℕ)). IsAnswer (TellsWhy o bytes) c.told_places.result) (ap (λ (w : FilesRead). w.given) c.in_ok-graph.ensures.contents) c.told_places.ensures in
    not_batched o (map (λ (v : Vec ℕ Global). v.items) c.args.contents.now) c.told_places.result (sym c.batches.ensures ∙ c.if-batches.false)
    (told_as_asked o (map (λ (v : Vec ℕ Global). v.items) c.args.contents.now) c.told_places.result (sym c.reuses.ensures ∙ c.if-reuses.false) c.if-options.true is)

pub returns : goal.returns
returns g c =
    let o = c.args.options.now in
    let is = subst (λ (bytes : List (List ℕ)). IsAnswer (Slims o bytes) c.slimmed_files.result) (ap (λ (w : FilesRead). w.given) c.in_ok-graph.ensures.contents) c.slimmed_files.ensures in
    not_batched o (map (λ (v : Vec ℕ Global). v.items) c.args.contents.now) c.slimmed_files.result (sym c.batches.ensures ∙ c.if-batches.false)
    (slimmed_as_asked o (map (λ (v : Vec ℕ Global). v.items) c.args.contents.now) c.slimmed_files.result (sym c.reuses.ensures ∙ c.if-reuses.false) c.if-options.false (sym c.compares.ensures ∙ c.if-compares.false)
    (sym c.expands.ensures ∙ c.if-expands.false) is)
