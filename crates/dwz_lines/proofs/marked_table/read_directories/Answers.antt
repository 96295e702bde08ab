use Rattle.dwz_lines.specs.Views.{format_views}
use Rattle.dwz_lines.proofs.LocalLemmas.{part_count, part_formats}
use Rattle.dwz_lines.proofs.marked_table.read_directories.Goals as goal

pub read_or_known-requires-clause-part : goal.read_or_known-requires-clause-part
read_or_known-requires-clause-part c =
    let line = c.args.table.line.now in
    let start = c.args.table.start in
    let formats = part_formats line start c.args.cursor.now c.formats.new.cursor (format_views c.in_ok-formats.formats.items) c.in_ok-formats.ensures c.requires.part in
    part_count line start c.formats.new.cursor c.uleb.new.self c.in-Ok.count c.in-Ok.ensures formats
