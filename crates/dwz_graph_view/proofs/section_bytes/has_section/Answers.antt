use Rattle.std.proofs.Common.{Some, ap, sym, ◌∙◌}
use Rattle.std.specs.Option.{option_map}
use Rattle.dwz_graph_view.specs.Sections.{has_named}
use Rattle.dwz_graph_view.proofs.SectionSteps.{no_fault, own_bytes}
use Rattle.dwz_graph_view.proofs.section_bytes.has_section.Goals as goal

pub returns : goal.returns
returns c =
    let contents = c.args.graph.now.given in
    let bytes = c.as_slice-bytes.result.now in
    let got = own_bytes (λ v. v.items) contents c.contents-contents.result.now c.args.file c.index-contents-file.result bytes (sym c.contents-contents.ensures) c.requires.there c.index-contents-file.is
    c.as_slice-bytes.ensures.value in
    let has = c.file.ensures bytes got in
    ap Some (c.has_section.ensures has.read.elf (no_fault has.limits c.args.file bytes c.file.result.now has.read))
    ∙ ap (option_map (has_named c.args.name.now)) (sym got)
