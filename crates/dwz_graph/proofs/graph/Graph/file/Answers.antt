use Rattle.std.proofs.Common.{ℕ, ◌<◌, List, length, map, slice_get, ap, subst, ◌∙◌, arith}
use Rattle.dwz_def_reading.proofs.ListFacts.{item_got}
use Rattle.dwz_def_reading.specs.Files.{no_files_before}
use Rattle.dwz_graph.specs.Files.{FilesRead, HasRead}
use Rattle.dwz_graph.proofs.GraphLemmas.{as_many, file_there}
use Rattle.dwz_graph.proofs.graph.Graph.file.Goals as goal

pub index-requires : goal.index-requires
index-requires c =
    let many = as_many no_files_before 0 (map (λ v. v.items) c.self.inside.contents.now) c.self.inside.files.items c.self.invariant.given_are.end c.self.invariant.given_are.are in
    let same = ap (λ (w : FilesRead). length w.given) c.self.view_is in
    let low = c.requires in
    omega arith

pub returns : goal.returns
returns c = λ bytes is. (
    let contents : List (List ℕ) = map (λ v. v.items) c.self.inside.contents.now in
    let files = c.self.inside.files.items in
    let many = as_many no_files_before 0 contents files c.self.invariant.given_are.end c.self.invariant.given_are.are in
    let same = ap (λ (w : FilesRead). length w.given) c.self.view_is in
    let low = c.requires in
    let within : c.args.number < length files = omega arith in
    let there = file_there no_files_before 0 contents files c.self.invariant.given_are.end c.args.number c.args.number bytes c.index.result.now (omega arith) c.self.invariant.given_are.are
    (ap (λ (w : FilesRead). slice_get w.given c.args.number) c.self.view_is ∙ is) (item_got files c.args.number c.index.result.now within c.index.ensures) in
    subst (λ (w : FilesRead). HasRead w.given c.args.number bytes c.index.result.now) c.self.view_is (record { limits = there.limits; read = there.read; there = there.there }))
