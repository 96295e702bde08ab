use Rattle.std.proofs.Common.{List, ℕ, length, ◌∙◌, ap}
use Rattle.dwz_def_encoding.specs.Writing.{joined}
use Rattle.dwz_expand_layout.specs.Laid.{Made}
use Rattle.dwz_expand.proofs.sizes.sizes_refused.Goals as goal

pub returns-clause-found : goal.returns-clause-found
returns-clause-found c = λ f x reads l places.
    c.size_refusal.ensures.found f places (record {
      read = reads;
      info_is = ap (λ (m : Made). m.end) l.is ∙ l.file.end;
      abbrevs_is = c.len.ensures.len ∙ (ap (λ (m : Made). length (joined m.tables)) l.is ∙ ap (λ (bytes : List ℕ). length bytes) l.file.abbrevs);
    })
