use Rattle.std.proofs.Common.{◌≡◌, Some, refl, subst}
use Rattle.dwz_graph.specs.declared.file.File.{File}
use Rattle.dwz_graph.specs.Files.{CommonRead, HasCommon}
use Rattle.dwz_graph.proofs.common_file.CommonFile.beside.Goals as goal

pub returns-clause-part : goal.returns-clause-part
returns-clause-part c =
    let own = c.self.inside.file in
    subst (λ (s : CommonRead). (f : File) × HasCommon s.number (Some s.bytes) (Some f) × (own.units ≡ f.units) × (own.sections.strs ≡ f.sections.strs))
    c.self.view_is (own, c.self.invariant.read, refl, refl)
