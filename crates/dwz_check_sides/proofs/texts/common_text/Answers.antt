use Rattle.std.proofs.Common.{◌≡◌, Option, Some, ap, ◌∙◌}
use Rattle.std.specs.Option.{option_map}
use denote.Ref.{Bor}
use Rattle.dwz_graph.specs.declared.file.File.{File}
use Rattle.dwz_check_sides.specs.Says.{common_of}
use Rattle.dwz_check_sides.proofs.SpaceTexts.{common_found}
use Rattle.dwz_check_sides.proofs.texts.common_text.Goals as goal

pub returns : goal.returns
returns c = λ base m v text own means is. (
    let there : common_of c.args.side.now ≡ Some c.in_ok-common.common.now = ap (λ (o : Option (Bor File)). option_map (λ (f : Bor File). f.now) o) c.in_ok-common.was in
    c.text_in.ensures ∙ common_found c.args.side.now base m c.args.offset v text c.in_ok-common.common.now own means is there)
