use Rattle.std.proofs.Common.{◌∙◌, sym}
use Rattle.dwz_graph_view.proofs.SectionSteps.{none_there, own_bytes, some_there}
use Rattle.dwz_graph_view.proofs.section_bytes.section.Goals as goal

pub returns-in-None : goal.returns-in-None
returns-in-None c =
    let contents = c.args.graph.now.given in
    let bytes = c.as_slice-bytes.result.now in
    let got = own_bytes (λ v. v.items) contents c.contents-contents.result.now c.args.file c.index-contents-file.result bytes (sym c.contents-contents.ensures) c.requires c.index-contents-file.is
    c.as_slice-bytes.ensures.value in
    none_there contents c.args.file c.args.code bytes c.file.result.now (c.file.ensures bytes got) got (sym c.section.ensures ∙ c.in-None.is)

pub returns-in-Some : goal.returns-in-Some
returns-in-Some c =
    let contents = c.args.graph.now.given in
    let bytes = c.as_slice-bytes.result.now in
    let got = own_bytes (λ v. v.items) contents c.contents-contents.result.now c.args.file c.index-contents-file.result bytes (sym c.contents-contents.ensures) c.requires c.index-contents-file.is
    c.as_slice-bytes.ensures.value in
    some_there contents c.args.file c.args.code bytes c.file.result.now (c.file.ensures bytes got) got c.in-Some.field-0 c.content.result.now (sym c.section.ensures ∙ c.in-Some.is) c.content.ensures
