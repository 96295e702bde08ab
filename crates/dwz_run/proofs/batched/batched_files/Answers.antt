use Rattle.std.proofs.Common.{◌≡◌, ℕ, Vec, Global, length, map, sym}
use Rattle.dwz_def_run.specs.Yields.{batching}
use Rattle.dwz_run.proofs.AllBatched.{all_batched}
use Rattle.dwz_run.proofs.batched.batched_files.Goals as goal

pub returns : goal.returns
returns g c =
    let o = c.args.options.now in
    let cs = map (λ (v : Vec ℕ Global). v.items) c.args.contents.now in
    let many : length o.files ≡ c.len-count.result = sym c.len-count.ensures in
    all_batched o cs c.in_ok-outcomes.outcomes c.in_ok-output_of.field-0 c.len-count.result c.job_laws.ensures.jobs many c.in_ok-read_common.ensures
    (c.in_ok-are_few.ensures (batching o) many) c.in_ok-outcomes.ensures c.in_ok-output_of.ensures
