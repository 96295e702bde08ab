use Rattle.std.proofs.Common.{ℕ, List, [], map, refl, sym, subst}
use Rattle.dwz_graph.specs.declared.file.File.{File}
use Rattle.dwz_graph.specs.Files.{AreKept}
use Rattle.dwz_graph.proofs.ContentLemmas.{content}
use Rattle.dwz_graph.proofs.GraphLemmas.{files_read}
use Rattle.dwz_graph.proofs.KeptLemmas.{none_back}
use Rattle.dwz_graph.proofs.graph.given_graph.Goals as goal

pub invariant_of-result : goal.invariant_of-result
invariant_of-result c =
    let files : List (List ℕ) = map content c.args.files.now in
    let given : AreKept files c.args.kept.items = c.requires.kept in
    record {
      common_is = tt;
      given_are = given;
      back_are = none_back [] c.new.result.items refl c.new.ensures.items;
      indexes_are = c.in_ok-indexes.ensures files (subst (λ (fs : List File). AreKept files fs) (sym c.deref.ensures.value) given);
    }

pub indexes_of-requires : goal.indexes_of-requires
indexes_of-requires c =
    let files : List (List ℕ) = map content c.args.files.now in
    (files, subst (λ (fs : List File). AreKept files fs) (sym c.deref.ensures.value) c.requires.kept)

pub returns-clause-answers : goal.returns-clause-answers
returns-clause-answers c =
    let files : List (List ℕ) = map content c.args.files.now in
    let kept : AreKept files c.args.kept.items = c.requires.kept in
    files_read files c.args.kept.items kept.end kept.are
