use Rattle.std.proofs.Common.{◌≡◌, ◌++◌, ℕ, List, Some, ap, map, subst, ◌∙◌}
use Rattle.std.specs.Prelude.{IfOk}
use Rattle.dwz_def_reading.specs.TextRows.{text_number}
use Rattle.dwz_label.specs.Labels.{counted, each_counted, language_label}
use Rattle.dwz_label_words.proofs.places.name_place.Goals as goal

pub returns-clause-told : goal.returns-clause-told
returns-clause-told c = λ u list here spaces. (
    let front = language_label c.args.language in
    let behind = each_counted counted (map (λ x. x.text) list) in
    let is = c.as_slice.ensures.value ∙ c.in_ok-put_names.ensures u list here spaces
    ∙ ap (λ (w : List ℕ). w ++ behind) (c.in_ok-put_language.ensures ∙ ap (λ (w : List ℕ). w ++ front) c.clear.ensures.items) in
    subst (λ (w : List ℕ). IfOk c.other.result (λ n. text_number c.other.new.self.names w ≡ Some n)) is c.other.ensures.found)
