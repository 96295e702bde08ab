use Rattle.dwz_unit.proofs.fixed_run.put_runs_in.Goals as goal

pub loop-place-preserved : goal.loop-place-preserved
loop-place-preserved c = λ decls stands told. c.put_run.ensures decls (c.pairs_at.ensures decls stands) (c.loop-place.invariant decls stands told)

pub returns-in_err-put_run : goal.returns-in_err-put_run
returns-in_err-put_run c = λ decls stands told. c.put_run.ensures decls (c.pairs_at.ensures decls stands) (c.loop-place.invariant decls stands told)
