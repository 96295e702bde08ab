use Rattle.std.proofs.Common.{◌<◌, ◌^◌, ℕ, List, length, subst, ◌∙◌}
use Rattle.dwz_check_columns.proofs.FileSides.{file_long}
use Rattle.dwz_check_columns.proofs.ThreeFiles.{behind, common_raw}
use Rattle.dwz_check_columns.proofs.TwoDrawn.{two_drawn}
use Rattle.dwz_check_columns.proofs.Whole.{drawn, imports_low, paths_low}
use Rattle.dwz_check_columns.proofs.columns.columns_of.Goals as goal

pub finish-requires : goal.finish-requires
finish-requires c =
    let r = c.requires.said in
    let x = c.in_ok-nodes.field-0 in
    let three = c.in_ok-nodes.ensures.three r.0 r.1 r.2 r.3 in
    record {
      paths = paths_low r.0 r.1 r.2 r.3.old_read r.3.new_read x.nodes x.units three;
      imports = imports_low r.0 r.1 r.2 r.3.old_read r.3.new_read x.nodes x.units three;
    }

pub returns : goal.returns
returns c = λ a b d name other t. (
    let x = c.in_ok-nodes.field-0 in
    let short : length c.args.old.now.units.info < 2 ^ 32 = subst (λ (bytes : List ℕ). length bytes < 2 ^ 32) c.info-old_info.ensures.bytes c.info-old_info.ensures.short in
    let new_short : length c.args.new.now.units.info < 2 ^ 32 = subst (λ (bytes : List ℕ). length bytes < 2 ^ 32) c.info-new_info.ensures.bytes c.info-new_info.ensures.short in
    two_drawn c.args.old.now c.args.new.now (behind c.args.common) c.args.indexes.now a b d t short new_short c.requires.old c.requires.new
    (common_raw c.args.old.now c.args.new.now c.args.common c.args.indexes.now a b d t c.requires.old c.requires.new c.requires.common) name other c.in_ok-columns.columns
    (drawn a b d t.old_read t.new_read x.nodes x.units (c.in_ok-nodes.ensures.three a b d t) x.nodes.next c.in_ok-nodes.ensures.apart c.in_ok-nodes.ensures.few c.in_ok-columns.columns c.in_ok-columns.ensures.names
    c.in_ok-columns.ensures.plain c.in_ok-columns.ensures.units
    (c.in_ok-columns.ensures.old ∙ c.len-old_count.ensures ∙ file_long c.args.old.now (behind c.args.common) a t.old_says)
    (c.in_ok-columns.ensures.new ∙ c.len-new_count.ensures ∙ file_long c.args.new.now (behind c.args.common) b t.new_says)
    c.in_ok-columns.ensures.paths c.in_ok-columns.ensures.imports))
