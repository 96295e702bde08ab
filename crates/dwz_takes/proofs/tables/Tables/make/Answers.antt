use Rattle.std.proofs.Common.{ℕ, sym, subst, arith}
use Rattle.dwz_takes.specs.Steps.{AreTurned}
use Rattle.dwz_takes.specs.Takes.{AreBelow}
use Rattle.dwz_takes.proofs.TableFacts.{holders_below, tables_by}
use Rattle.dwz_takes.proofs.tables.Tables.make.Goals as goal

pub turn-requires-clause-few : goal.turn-requires-clause-few
turn-requires-clause-few c = let h = c.in_ok-holders.ensures in let e = h.len in let few = c.requires.few_tops in omega arith

pub turn-requires-clause-below : goal.turn-requires-clause-below
turn-requires-clause-below c =
    subst (λ (n : ℕ). AreBelow n c.in_ok-holders.holders) (sym c.len.ensures) (holders_below c.args.rows.now c.in_ok-holders.holders c.in_ok-holders.ensures)

pub turn-requires-2-clause-below : goal.turn-requires-2-clause-below
turn-requires-2-clause-below c = subst (λ (n : ℕ). AreBelow n c.args.rows.now.part_targets) (sym c.len-2.ensures) c.requires.part_targets

pub returns : goal.returns
returns c = tables_by c.args.rows.now c.in_ok-holders.holders c.in_ok-classes.classes c.in_ok-watchers.watchers c.in_ok-sources.sources c.in_ok-holders.ensures
    (subst (λ (n : ℕ). AreTurned n c.in_ok-holders.holders c.in_ok-classes.classes) c.len.ensures c.in_ok-classes.ensures) c.in_ok-watchers.ensures
    (subst (λ (n : ℕ). AreTurned n c.args.rows.now.part_targets c.in_ok-sources.sources) c.len-2.ensures c.in_ok-sources.ensures)
