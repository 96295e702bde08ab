use Rattle.std.proofs.Common.{ℕ, List, Option, sym, ap, ◌∙◌}
use Rattle.std.specs.Option.{option_map}
use denote.Ref.{Bor}
use Rattle.dwz_label_words.proofs.FoundLemmas.{found_kept, stays_named, text_kept}
use Rattle.dwz_label_words.proofs.file_names.FileNames.text.Goals as goal

pub invariant_of-self : goal.invariant_of-self
invariant_of-self c =
    let x = c.self.inside in
    found_kept x.names x.strs.now x.tables.now x.declarations x.texts x.paths x.shapes c.self.invariant c.name_text.new.names c.name_text.ensures.kept

pub returns-in_err-number-clause-stays : goal.returns-in_err-number-clause-stays
returns-in_err-number-clause-stays c =
    let x = c.self.inside in
    stays_named c.args.self.now x.strs.now x.tables.now x.declarations x.names c.name_text.new.names c.self.view_is c.name_text.ensures.kept

pub invariant_of-self-2 : goal.invariant_of-self-2
invariant_of-self-2 c =
    let x = c.self.inside in
    let more = c.name_text.new.names in
    let text = c.in-Some-text_at.text.now in
    let f = found_kept x.names x.strs.now x.tables.now x.declarations x.texts x.paths x.shapes c.self.invariant more c.name_text.ensures.kept in
    let there = sym c.text_at.ensures ∙ ap (λ (o : Option (Bor (List ℕ))). option_map (λ (t : Bor (List ℕ)). t.now) o) c.in-Some-text_at.is in
    text_kept more x.strs.now x.tables.now x.declarations x.texts x.paths x.shapes f c.put.new.self c.args.offset c.in_ok-number.number text
    there c.in_ok-number.ensures.number c.put.ensures
