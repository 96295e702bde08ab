use Rattle.std.proofs.Common.{subst, ℕ}
use Rattle.dwz_def_reading.specs.Documents.{Node}
use Rattle.dwz_expand_layout.specs.Shown.{keys_of}
use Rattle.dwz_expand_passes.specs.Files.{AnswersEntry}
use Rattle.dwz_expand_passes.specs.Numbered.{key_in}
use Rattle.dwz_expand_passes.proofs.LineSteps.{line_answer, node_there}
use Rattle.dwz_expand_passes.proofs.copied.CopiedEntry.copy.Goals as goal

pub returns-clause-copies : goal.returns-clause-copies
returns-clause-copies c = λ w stands l know found. (
    let x = c.args.known.now in
    let d = node_there w c.args.source.entry l found in
    line_answer x w stands l c.args.source.head c.put_attrs.new.attrs.items c.put_attrs.new.operands.items c.put_attrs.result (c.requires.source.is w stands know l found)
    (subst (λ (n : Node ℕ). AnswersEntry x w (keys_of (key_in w)) stands n c.put_attrs.new.attrs.items c.put_attrs.new.operands.items c.put_attrs.result) d.2
    (c.put_attrs.ensures.copies w (keys_of (key_in w)) stands d.0 know d.1)))

pub returns-clause-speaks : goal.returns-clause-speaks
returns-clause-speaks c = λ w stands l know found. (
    let d = node_there w c.args.source.entry l found in
    c.put_attrs.ensures.speaks w (keys_of (key_in w)) stands d.0 know d.1)
