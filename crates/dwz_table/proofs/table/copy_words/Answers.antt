use Rattle.std.proofs.Common.{rules, ◌≡◌, ◌<◌, length, ◌∙◌, length-set}
use Rattle.std.specs.Mem.Slots.{slots_items}
use Rattle.dwz_table.proofs.Ends.{copied_one}
use Rattle.dwz_table.proofs.table.copy_words.Goals as goal

pub loop-i-preserved : goal.loop-i-preserved
loop-i-preserved c =
    let same : length c.loop-i.row.items ≡ length c.args.row.items = c.loop-i.invariant.len in
    let inside : c.loop-i.i < length c.loop-i.row.items = search rules in
    record {
      len = length-set c.loop-i.row.items c.loop-i.i c.word.result ∙ same;
      words = copied_one c.args.row.items c.loop-i.row.items (slots_items c.args.closed.now.words) c.loop-i.i c.word.result inside same c.word.ensures c.loop-i.invariant.words;
    }
