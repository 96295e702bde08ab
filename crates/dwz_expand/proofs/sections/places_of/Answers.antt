use Rattle.std.proofs.Common.{List, subst, sym}
use Rattle.dwz_graph.specs.ListOperand.{ListOperand}
use Rattle.dwz_expand_sections.specs.Lists.{HasNumbers}
use Rattle.dwz_expand.proofs.sections.places_of.Goals as goal

pub returns : goal.returns
returns c = λ f of l has. (
    let section = c.args.own.now.sections.lists.now in
    let first = c.in_ok-copied.ensures f of l in
    record {
      own_is = first.own;
      listed_is =
          c.first_listed.ensures.file f section (subst (λ (os : List ListOperand). HasNumbers f section os c.args.numbers.now) (sym c.as_slice.ensures.value) has);
      common_is = first.common;
    })
