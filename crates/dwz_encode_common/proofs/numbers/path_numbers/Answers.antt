use Rattle.std.proofs.Common.{◌∙◌, List, ℕ, map, ap, arith}
use Rattle.std.specs.Global.{Vec}
use Rattle.std.proofs.lemmas.List.{take_all}
use Rattle.dwz_def_reading.proofs.ListFacts.{item_got}
use Rattle.dwz_graph.specs.declared.file.File.{File}
use Rattle.dwz_encode_texts.proofs.TextSteps.{maps_push}
use Rattle.dwz_encode_common.specs.Numbers.{numbers_in_file}
use Rattle.dwz_encode_common.proofs.numbers.path_numbers.Goals as goal

abbrev shown : Vec ℕ → List ℕ
shown v = v.items

pub loop-file-preserved : goal.loop-file-preserved
loop-file-preserved c =
    let files = c.args.files.now in
    let k = c.loop-file.file-index in
    let f = c.file-item.result in
    maps_push (numbers_in_file c.args.paths.now) shown files k f c.loop-file.all.items c.push.new.self.items c.in_ok-numbers.numbers
    (item_got files k f c.loop-file-test.true c.file-item.is) c.loop-file.invariant c.in_ok-numbers.ensures c.in_ok-push.ensures.items

pub returns : goal.returns
returns c =
    c.loop-file.invariant
    ∙ ap (λ (w : List File). map (numbers_in_file c.args.paths.now) w)
    (take_all c.loop-file.file-index c.args.files.now (omega (arith, c.loop-file-test.false)))
