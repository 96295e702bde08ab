use Rattle.std.proofs.Common.{◌≡◌, ◌+◌, ℕ, List, [], Bor, Ok, Option, length, subst}
use Rattle.std.specs.Option.{option_map}
use Rattle.std.specs.Prelude.{unwrap_or}
use Rattle.dwz_def_reading.specs.Finished.{beside_meaning}
use Rattle.dwz_graph.specs.Files.{HasCommon}
use Rattle.dwz_graph.specs.declared.file.File.{File}
use Rattle.dwz_run.proofs.FilesReused.{alone_said}
use Rattle.dwz_run.proofs.reused.say_alone.Goals as goal

pub returns : goal.returns
returns c said means =
    let graph = c.args.graph.now in
    let bytes = c.requires.0 in
    let n = length graph.given + length graph.back in
    let read : beside_meaning bytes graph.given ≡ Ok said = subst (λ (o : Option (List ℕ)). beside_meaning (unwrap_or o []) graph.given ≡ Ok said) c.requires.1 means in
    let has = subst (λ (o : Option (List ℕ)). HasCommon n o (option_map (λ (w : Bor File). w.now) c.common.result)) c.requires.1 c.common.ensures in
    alone_said n bytes (option_map (λ (w : Bor File). w.now) c.common.result) has graph.given c.files.result.now c.files.ensures c.read_laws.ensures.beside said read
