use Rattle.dwz_expand.proofs.OneGraph.{one_known}
use Rattle.dwz_expand.proofs.PlanLemmas.{keys_known}
use Rattle.dwz_expand.proofs.NewFiles.{new_file}
use Rattle.dwz_expand.proofs.laws.known_laws.Goals as goal

pub returns-clause-files : goal.returns-clause-files
returns-clause-files c = λ r files own common s long has back is are.
    one_known (record { common = c.placed_laws.ensures.common; back = c.placed_laws.ensures.back }) r files own common s long has back is are

pub returns-clause-keys : goal.returns-clause-keys
returns-clause-keys c = λ w u p n is. keys_known w u p n is

pub returns-clause-ready : goal.returns-clause-ready
returns-clause-ready c = λ s x starts k ready plan copies many. record {
  own_ready = ready.own;
  refs = ready.refs;
  common_ready = ready.common;
  units = plan.units;
  copies = copies;
  many = many;
  few = ready.few;
}

pub returns-clause-new : goal.returns-clause-new
returns-clause-new c = λ r own common s k x order are have. new_file r own common s k x order are have
