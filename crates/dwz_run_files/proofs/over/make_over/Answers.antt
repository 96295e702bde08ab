use Rattle.std.proofs.Common.{◌+◌, Bor, Option, length, sym, ap, subst}
use Rattle.std.specs.Option.{option_map}
use Rattle.dwz_def_reading.specs.Lists.{Each}
use Rattle.dwz_def_reading.specs.Values.{AreBytes}
use Rattle.dwz_graph.specs.Files.{HasCommon}
use Rattle.dwz_graph.specs.declared.file.File.{File}
use Rattle.dwz_run_files.proofs.over.make_over.Goals as goal

pub new_over-requires-clause-bytes : goal.new_over-requires-clause-bytes
new_over-requires-clause-bytes g c = λ lifetimes lives. (subst (Each AreBytes) (sym c.requires.read) c.look_at_all.ensures)

pub new_over-requires-clause-kept : goal.new_over-requires-clause-kept
new_over-requires-clause-kept g c = λ lifetimes lives. ((c.files.result.now, c.files.ensures))

pub new_over-requires-clause-common : goal.new_over-requires-clause-common
new_over-requires-clause-common g c = λ lifetimes lives. (
    let graph = c.args.graph.now in
    subst (λ (o : Option File). HasCommon (length graph.given + length graph.back) graph.common o)
    (ap (option_map (λ (w : Bor File). w.now)) c.in-Some.is) c.common.ensures)
