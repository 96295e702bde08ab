use Rattle.std.proofs.Common.{◌≡◌, ℕ, List, [], Vec, Global, length, map, subst, sym, Err}
use Rattle.dwz_model.specs.declared.fault.GraphErr.{GraphErr}
use Rattle.dwz_def_reading.specs.Finished.{beside_meaning}
use Rattle.dwz_graph.specs.Files.{FilesFail}
use Rattle.dwz_def_run.specs.Reuses.{common_got}
use Rattle.dwz_def_run.specs.Batches.{IsCommonRefused}
use Rattle.dwz_def_run.specs.Yields.{batching}
use Rattle.dwz_run.proofs.ByNumber.{common_is_read, common_is_refused}
use Rattle.dwz_run.proofs.batched.read_common.Goals as goal

abbrev contents : List (Vec ℕ Global) → List (List ℕ)
contents cs = map (λ (v : Vec ℕ Global). v.items) cs

pub returns-in-Ok : goal.returns-in-Ok
returns-in-Ok c = common_is_read (length c.args.options.now.files) (common_got (contents c.args.contents.now)) c.in-Ok.ensures.0 c.in-Ok.ensures.1

pub returns-in-Err-Refused : goal.returns-in-Err-Refused
returns-in-Err-Refused c =
    let common = common_got (contents c.args.contents.now) in
    let o = batching c.args.options.now in
    let r = c.in-Err-Refused.refusal in
    let same : beside_meaning common [] ≡ Err r = subst (λ (e : GraphErr). FilesFail e (beside_meaning common [])) c.in-Err-Refused.field-0-is c.in-Err-Refused.ensures in
    let is = common_is_refused (length o.files) common r same in
    (subst (λ (n : ℕ). IsCommonRefused o common (record r { file = n })) (sym c.len-number.ensures) is.0, is.1)
