use Rattle.std.proofs.Common.{ℕ, List, None, Vec, Global, ap, subst, ◌∙◌}
use Rattle.std.specs.Option.{option_map}
use Rattle.std.proofs.lemmas.Option.{slice_get-map}
use Rattle.dwz_def_reading.proofs.ListFacts.{item_got}
use Rattle.dwz_def_reading.specs.Files.{Limits}
use Rattle.dwz_graph.specs.Files.{IsRead}
use Rattle.dwz_graph.proofs.ahead.read_job.Goals as goal

abbrev content : Vec ℕ Global → List ℕ
content v = v.items

pub returns : goal.returns
returns g c =
    let files : List (Vec ℕ Global) = c.args.files.now in
    let n = c.args.job.now.number in
    let v = c.index-files-number.result in
    let l : Limits = record { bytes = c.args.job.now.left; entries = 16777216; machine = None } in
    record {
      bytes = v.items;
      content = slice_get-map content files n ∙ ap (option_map content) (item_got files n v c.requires c.index-files-number.is);
      ahead = record { limits = l; read = subst (λ (b : List ℕ). IsRead l n b c.in_ok-file.file) c.as_slice.ensures.value c.in_ok-file.ensures };
    }
