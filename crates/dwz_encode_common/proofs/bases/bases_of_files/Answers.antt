use Rattle.std.proofs.Common.{◌∙◌, Global, List, Option, Vec, ℕ, map, ap, arith}
use Rattle.std.proofs.lemmas.List.{take_all}
use Rattle.dwz_def_reading.proofs.ListFacts.{item_got}
use Rattle.dwz_layout.specs.declared.known.FileRows.{FileRows}
use Rattle.dwz_encode_texts.proofs.TextSteps.{maps_push}
use Rattle.dwz_encode_common.specs.Stored.{file_bases}
use Rattle.dwz_encode_common.proofs.bases.bases_of_files.Goals as goal

abbrev shown : Vec (Option ℕ) Global → List (Option ℕ)
shown v = v.items

pub loop-file-preserved : goal.loop-file-preserved
loop-file-preserved c =
    let files = c.args.files.now in
    let k = c.loop-file.file-index in
    let f = c.file-item.result in
    maps_push file_bases shown files k f c.loop-file.all.items c.push.new.self.items c.in_ok-bases.bases
    (item_got files k f c.loop-file-test.true c.file-item.is) c.loop-file.invariant c.in_ok-bases.ensures c.in_ok-push.ensures.items

pub returns : goal.returns
returns c =
    c.loop-file.invariant ∙ ap (λ (w : List FileRows). map file_bases w)
    (take_all c.loop-file.file-index c.args.files.now (omega (arith, c.loop-file-test.false)))
