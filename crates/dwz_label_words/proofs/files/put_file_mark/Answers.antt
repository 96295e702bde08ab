use Rattle.std.proofs.Common.{ℕ, Option, [], ◌∷◌, subst, sym}
use Rattle.std.proofs.lemmas.Result.{on_ok_weaker}
use Rattle.dwz_def_reading.specs.Documents.{Plain}
use Rattle.dwz_def_reading.specs.Meanings.{stmt_list}
use Rattle.dwz_label_entries.specs.Plain.{KnowsLine}
use Rattle.dwz_label_marks.specs.Marks.{plain_mark}
use Rattle.dwz_label_marks.specs.Told.{Adds}
use Rattle.dwz_label_marks.proofs.AddsLemmas.{adds_plainly}
use Rattle.dwz_label_words.proofs.RowLemmas.{no_file}
use Rattle.dwz_label_words.proofs.files.put_file_mark.Goals as goal

pub returns-in-None-clause-told : goal.returns-in-None-clause-told
returns-in-None-clause-told c = λ s a v file raw line means. (
    let names = c.args.names.now in
    let none = subst (λ (o : Option ℕ). KnowsLine s a names.tables o) c.in-None.is line file in
    let is = no_file s a (stmt_list s) v none means in
    on_ok_weaker c.put_plainly.result (λ e. subst (λ (p : Plain). Adds names.names (plain_mark p ∷ []) c.args.out.now.items c.put_plainly.new.out.items) (sym is)
    (adds_plainly names.names 4 c.args.out.now.items c.put_plainly.new.out.items e)) c.put_plainly.ensures)
