use Rattle.std.proofs.Common.{◌≡◌, ◌<◌, ◌++◌, ℕ, ℤ, List, drop, length, Option, Some, slice_get, ap, sym, subst, ◌∙◌, arith}
use Rattle.dwz_def_reading.proofs.ListFacts.{got_there}
use Rattle.dwz_def_tops.specs.Spots.{tops_of, units_of}
use Rattle.dwz_graph.specs.Files.{docs_of}
use Rattle.dwz_label.specs.Labels.{language_label}
use Rattle.dwz_label_files.proofs.BareLemmas.{bare_at}
use Rattle.dwz_label_files.proofs.tops.bare.Goals as goal

pub spot_of-spot-requires-clause-there : goal.spot_of-spot-requires-clause-there
spot_of-spot-requires-clause-there c = subst (λ (w : List (List ℕ)). c.args.top < length (tops_of (units_of (docs_of w)))) (sym c.run_of.ensures.graph) c.requires

pub returns : goal.returns
returns c =
    let contents = c.args.graph.now.given in
    let t = got_there (tops_of (units_of (docs_of contents))) c.args.top c.requires in
    let there = subst (λ (w : List (List ℕ)). slice_get (tops_of (units_of (docs_of w))) c.args.top ≡ Some t.0) (sym c.run_of.ensures.graph) t.1 in
    let spoken = c.in_ok-put_language.ensures ∙ ap (λ (w : List ℕ). w ++ language_label c.spot_of-spot.result.row.language) c.new-language.ensures.items ∙ ap (λ (w : Option ℤ). language_label w) (c.spot_of-spot.ensures.language t.0 there) in
    let count : c.len.result ≡ length c.put_language.new.out.items = omega (arith, c.len.ensures, c.put_language.new.out.ok.0) in
    c.new.ensures ∙ c.in_ok-from_slice.ensures.items ∙ c.behind-bare.ensures ∙ (λ i. drop (count i) (c.as_slice.ensures i))
    ∙ bare_at contents c.args.top t.0 t.1 c.put_language.new.out.items c.in_ok-label.label spoken c.in_ok-label.ensures
