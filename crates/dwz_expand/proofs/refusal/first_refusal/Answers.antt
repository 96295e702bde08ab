use Rattle.dwz_expand_layout.specs.Shown.{keys_of}
use Rattle.dwz_expand_passes.specs.Numbered.{key_in}
use Rattle.dwz_expand.specs.OneKnown.{stands_of}
use Rattle.dwz_expand.proofs.PlanLemmas.{keys_known}
use Rattle.dwz_expand.proofs.RefusalSteps.{sites_answered}
use Rattle.dwz_expand.proofs.refusal.first_refusal.Goals as goal

pub returns : goal.returns
returns c = λ r own common k p.
    let known = k.knows (keys_of (key_in k.w)) (keys_known k.w) in
    sites_answered r own common c.args.files.now k c.first_fault.result (c.first_fault.ensures k.w (keys_of (key_in k.w)) (stands_of k.f k.place) known p.sources)
