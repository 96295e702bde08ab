use Rattle.std.proofs.Common.{◌≡◌, ℕ, List, [], length, map, refl, sym, subst, arith}
use Rattle.std.proofs.lemmas.List.{length-map}
use Rattle.dwz_graph.specs.declared.file.File.{File}
use Rattle.dwz_graph.specs.Files.{AreBehind, AreKept, CommonRead}
use Rattle.dwz_graph.specs.Held.{held}
use Rattle.dwz_graph.proofs.BesideLemmas.{beside_says, common_says}
use Rattle.dwz_graph.proofs.ContentLemmas.{content}
use Rattle.dwz_graph.proofs.GraphLemmas.{given_read}
use Rattle.dwz_graph.proofs.KeptLemmas.{kept_behind, none_beside}
use Rattle.dwz_graph.proofs.graph.beside_graph.Goals as goal

pub invariant_of-result : goal.invariant_of-result
invariant_of-result c =
    let files : List (List ℕ) = map content c.args.files.now in
    let shared : CommonRead = held c.args.common in
    let bytes : List ℕ = shared.bytes in
    let items = c.args.kept.items in
    let behind : AreBehind bytes files items = c.requires.kept in
    let number : shared.number ≡ length c.args.files.now = c.requires.number in
    record {
      common_is = omega (arith, number, length-map c.args.files.now content);
      given_are = kept_behind bytes behind.units files items behind.are;
      back_are = none_beside bytes behind.units behind.doc [] c.new.result.items behind.means refl c.new.ensures.items;
      indexes_are = c.in_ok-indexes.ensures files (subst (λ (fs : List File). AreKept files fs) (sym c.deref.ensures.value) (kept_behind bytes behind.units files items behind.are));
    }

pub indexes_of-requires : goal.indexes_of-requires
indexes_of-requires c =
    let files : List (List ℕ) = map content c.args.files.now in
    let bytes : List ℕ = (held c.args.common).bytes in
    let behind : AreBehind bytes files c.args.kept.items = c.requires.kept in
    (files, subst (λ (fs : List File). AreKept files fs) (sym c.deref.ensures.value) (kept_behind bytes behind.units files c.args.kept.items behind.are))

pub returns-clause-answers : goal.returns-clause-answers
returns-clause-answers c =
    let files : List (List ℕ) = map content c.args.files.now in
    let bytes : List ℕ = (held c.args.common).bytes in
    let items = c.args.kept.items in
    let behind : AreBehind bytes files items = c.requires.kept in
    let docs = given_read _ files items behind.are.end behind.are.are in
    beside_says files bytes behind.units _ docs.0 (common_says files bytes behind.units behind.doc behind.means) docs.1
