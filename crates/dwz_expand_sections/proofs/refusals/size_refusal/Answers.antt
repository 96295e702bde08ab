use Rattle.dwz_def_expand.specs.Output.{LargeRefusal, NarrowIn, NarrowInLists, in_lists, spoken_in}
use Rattle.dwz_def_reading.specs.FirstOf.{OrElse}
use Rattle.dwz_expand_sections.proofs.RefusalLemmas.{or_else_found}
use Rattle.dwz_expand_sections.proofs.refusals.size_refusal.Goals as goal

pub returns-clause-found : goal.returns-clause-found
returns-clause-found c f has lengths =
    let common =
    or_else_found (NarrowIn f 1) (LargeRefusal f) c.narrow_in.result c.first_large.result c.or-common.result c.or-common.ensures (c.narrow_in.ensures f (spoken_in f 1) has.common_is)
    (c.first_large.ensures.found f lengths) in
    let listed =
    or_else_found (NarrowInLists f) (OrElse (NarrowIn f 1) (LargeRefusal f)) c.narrow_in-2.result c.or-common.result c.or-listed.result c.or-listed.ensures
    (c.narrow_in-2.ensures f (in_lists f) has.listed_is) common in
    or_else_found (NarrowIn f 0) (OrElse (NarrowInLists f) (OrElse (NarrowIn f 1) (LargeRefusal f))) c.narrow_in-3.result c.or-listed.result c.or.result c.or.ensures
    (c.narrow_in-3.ensures f (spoken_in f 0) has.own_is) listed
