use Rattle.std.proofs.Common.{◌≢◌, ℕ, ◌++◌, List, Option, unwrap_or, refl, sym, ap, ◌∙◌, arith}
use Rattle.std.specs.Prelude.{is_some}
use Rattle.dwz_outside.specs.declared.puts.Put.{Put}
use Rattle.dwz_def_run.specs.Out.{puts_by}
use Rattle.dwz_run_output.proofs.RowsAfter.{puts_end, puts_step}
use Rattle.dwz_run_output.proofs.puts.add_files.Goals as goal

pub loop-file-init : goal.loop-file-init
loop-file-init c = (λ n above. refl, λ k o r same before bytes. refl)

pub loop-file-preserved : goal.loop-file-preserved
loop-file-preserved c = (
  λ n above. (let other : n ≢ c.loop-file.file = omega arith in c.take_row-new.ensures.others n other ∙ c.loop-file.invariant.0 n (omega arith)),
  λ k o r same before bytes.
      (let row = c.take_row-new.ensures.row ∙ (c.loop-file.invariant.0 c.loop-file.file (omega arith) ∙ bytes c.loop-file.file) in
      let place : Option (List ℕ) → List Put = λ out.
      c.loop-file.puts.items ++ puts_by (is_some c.take_row-new.result) out c.index-names-file.result (unwrap_or c.take_row-new.result c.content_of-old.result.now) in
      puts_step k o r c.loop-file.puts.items c.add_put.new.puts.items _ c.args.names.now c.loop-file.file c.index-names-file.result
      c.content_of-old.result.now c.take_row-new.result c.loop-file-test.true c.index-names-file.is
      (c.content_of-old.ensures ∙ before c.loop-file.file) row (c.in_ok-add_put.ensures ∙ ap place (sym same)) (c.loop-file.invariant.1 k o r same before bytes)),
)

pub returns : goal.returns
returns c k o r same before bytes =
    puts_end k o r c.loop-file.puts.items _ c.args.names.now c.loop-file.file c.loop-file-test.false (c.loop-file.invariant.1 k o r same before bytes)
