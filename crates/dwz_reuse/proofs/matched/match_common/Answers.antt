use Rattle.std.proofs.Common.{◌≡◌, ◌+◌, ℕ, List, [], Bor, Ok, Option, Some, length, ap, subst}
use Rattle.std.specs.Option.{option_map}
use Rattle.std.specs.Prelude.{unwrap_or}
use Rattle.dwz_def_reading.specs.Finished.{beside_meaning}
use Rattle.dwz_graph.specs.Files.{HasCommon}
use Rattle.dwz_graph.specs.declared.file.File.{File}
use Rattle.dwz_reuse.proofs.CommonKnown.{fixed_if, known, some_common}
use Rattle.dwz_reuse.proofs.matched.match_common.Goals as goal

pub fixed_beside-requires-clause-beside : goal.fixed_beside-requires-clause-beside
fixed_beside-requires-clause-beside g c κs within =
    let graph = c.args.graph.now in
    let n = length graph.given + length graph.back in
    let f = c.in-Some.common.now in
    let bytes = c.requires.common.0 in
    let has : HasCommon n (Some bytes) (Some f) =
    some_common n graph.common bytes (option_map (λ (w : Bor File). w.now) c.common.result) f c.requires.common.1 (ap (option_map (λ (w : Bor File). w.now)) c.in-Some.is) c.common.ensures in
    let k = known n bytes f has graph.given c.files.result.now c.files.ensures c.common_laws.ensures c.read_laws.ensures.placed in
    (k.doc, k.is)

pub returns : goal.returns
returns g c = λ said e. (
    let graph = c.args.graph.now in
    let n = length graph.given + length graph.back in
    let f = c.in-Some.common.now in
    let bytes = c.requires.common.0 in
    let has : HasCommon n (Some bytes) (Some f) =
    some_common n graph.common bytes (option_map (λ (w : Bor File). w.now) c.common.result) f c.requires.common.1 (ap (option_map (λ (w : Bor File). w.now)) c.in-Some.is) c.common.ensures in
    let read : beside_meaning bytes graph.given ≡ Ok said = subst (λ (o : Option (List ℕ)). beside_meaning (unwrap_or o []) graph.given ≡ Ok said) c.requires.common.1 e in
    fixed_if n bytes f has graph.given c.files.result.now c.files.ensures c.common_laws.ensures c.read_laws.ensures.placed c.placed_laws.ensures.common c.read_laws.ensures.beside said read c.fixed_beside.result
    c.fixed_beside.ensures.roots c.fixed_beside.ensures.lists)
