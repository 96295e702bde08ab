use Rattle.std.proofs.Common.{◌≡◌, ℕ, ◌+◌, ◌-◌, List, length, ap, subst, arith}
use Rattle.std.specs.Prelude.{OnOk}
use Rattle.dwz_graph.specs.Files.{docs_of}
use Rattle.dwz_graph.specs.declared.index.TopEntry.{TopEntry}
use Rattle.dwz_move_files.specs.Drafts.{IsDraft}
use Rattle.dwz_move_files.proofs.draft.put_file.Goals as goal

pub returns : goal.returns
returns c = λ contents bytes is named from count sum d. (
    let x = c.args.index.now in
    let len : length c.tops-end.result.now ≡ length x.tops = ap (λ (w : List TopEntry). length w) c.tops-end.ensures in
    let all : count + (length c.tops-end.result.now - 0) ≡ count + length x.tops = omega arith in
    subst (λ (n : ℕ). OnOk c.put_tops.result (IsDraft (docs_of contents) from n c.put_tops.new.draft)) all
    (c.put_tops.ensures contents bytes is named from count (omega arith) d))
