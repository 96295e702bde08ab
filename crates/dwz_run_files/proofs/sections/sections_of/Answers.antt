use Rattle.std.proofs.Common.{ℕ, List, Option, refl, ap, ◌∙◌}
use Rattle.dwz_def_output.specs.Contents.{if_other}
use Rattle.dwz_encode_texts.specs.declared.pruning.PrunedFile.{PrunedFile}
use Rattle.dwz_run_files.specs.Moved.{pruned_at}
use Rattle.dwz_run_files.specs.Works.{other_offsets, other_strs}
use Rattle.dwz_run_files.proofs.SectionsMade.{sections_made}
use Rattle.dwz_run_files.proofs.sections.sections_of.Goals as goal

pub returns : goal.returns
returns g c beside f is begin =
    let m = c.args.moved.now in
    let old = m.file.now.sections in
    let pruned = c.as_slice-pruned.ensures.value in
    sections_made f c.args.work.now m is _ (c.in_ok-info.ensures beside f is) (c.in_ok-abbrev.ensures beside f is)
    (c.in_ok-strs.ensures ∙ ap (λ (ps : List (Option PrunedFile)). other_strs old.strs.bytes.now (pruned_at ps m.number)) pruned)
    (c.in_ok-offsets.ensures ∙ ap (λ (ps : List (Option PrunedFile)). other_offsets old.offsets.now (pruned_at ps m.number)) pruned)
    refl
    (c.if_other.ensures ∙ ap (λ (b : List ℕ). if_other old.lists.now b) (c.in_ok-loclists.ensures beside f is begin))
    (c.if_other-2.ensures ∙ ap (λ (b : List ℕ). if_other old.aranges.now b) (c.in_ok-aranges.ensures beside f is begin))
