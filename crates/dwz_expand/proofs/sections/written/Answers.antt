use Rattle.std.proofs.Common.{List, refl, ap, subst, sym, ◌∙◌}
use Rattle.dwz_def_encoding.specs.Writing.{joined}
use Rattle.dwz_def_output.specs.Contents.{if_other}
use Rattle.dwz_graph.specs.ListOperand.{ListOperand}
use Rattle.dwz_expand_layout.specs.Laid.{Made}
use Rattle.dwz_expand_sections.specs.Lists.{HasNumbers}
use Rattle.dwz_expand.proofs.SectionsMade.{sections_made}
use Rattle.dwz_expand.proofs.sections.written.Goals as goal

pub returns : goal.returns
returns c = λ f file of l has. (
    let section = c.args.own.now.sections.lists.now in
    let lists = c.in_ok-lists.ensures f (subst (λ (os : List ListOperand). HasNumbers f section os c.args.numbers.now) (sym c.as_slice.ensures.value) has) in
    let ranges = c.in_ok-aranges.ensures f c.args.file.now file l in
    sections_made f _ (c.new.ensures ∙ c.in_ok-info.ensures f of l)
    (c.new-2.ensures ∙ c.in_ok-abbrev.ensures.items_if_clones_equal (λ x y e. e) ∙ c.section.ensures ∙ ap (λ (m : Made). joined m.tables) l.is ∙ l.file.abbrevs) refl refl refl
    (c.if_other.ensures ∙ (λ j. if_other (file.lists j) (lists j)))
    (c.if_other-2.ensures ∙ (λ j. if_other (file.aranges j) (ranges j))))
