-- What is written of an expression means its value.
use Rattle.std.proofs.Common.{ℕ, map, refl, sym, ap, subst, ◌∙◌}
use Rattle.dwz_def_reading.specs.Entries.{RawAttr}
use Rattle.dwz_def_reading.specs.Values.{Bytes}
use Rattle.dwz_def_reading.specs.Documents.{Attr, Plain, value_map}
use Rattle.dwz_def_reading.specs.Exprs.{parts_of}
use Rattle.dwz_def_reading.specs.Meanings.{IsExpression, MeaningContext}
use Rattle.dwz_def_reading.specs.Patching.{AreParts}
use Rattle.dwz_def_reading.proofs.PatchedLemmas.{patched_value}
use Rattle.dwz_def_encoding.specs.Fitting.{ExprFits}
use Rattle.dwz_def_encoding.specs.Meant.{ExprSays, Own, Tells}
use Rattle.dwz_def_encoding.specs.Writing.{Numbering, expr_bytes, pair_of}
use Rattle.dwz_def_encoding.proofs.FilledParts.{numbers_of, parts_filled, parts_lead}
use Rattle.dwz_def_encoding.proofs.ScopeIs.{IsScope}

pub expr_means : {K P : Type 0} (n : Numbering K) (g : K → P) (unit : ℕ) (t : Tells K) (own : Own K) (s : MeaningContext P) → IsScope n g unit t own s
    → (a : Attr K) (at end : ℕ) → ExprFits n unit a.value.plain a.value.refs → ExprSays t own a
    → IsExpression s (record { at = at; end = end; pair = pair_of a; raw = Bytes (expr_bytes n unit a.value.plain a.value.refs) }) (value_map g a.value)
expr_means {K} {P} n g unit t own s is a at end fits says =
    let parts = parts_of says.expression in
    let raw : RawAttr = record { at = at; end = end; pair = pair_of a; raw = Bytes (expr_bytes n unit a.value.plain a.value.refs) } in
    let fit = subst (λ (p : Plain). ExprFits n unit p a.value.refs) says.plain fits in
    let lead = parts_lead n g unit t own s is parts a.value.refs fit says.operands in
    let written = ap (λ (p : Plain). expr_bytes n unit p a.value.refs) says.plain ∙ parts_filled n unit parts a.value.refs in
    let are : AreParts parts a.value.address =
    record { context = says.context; expression = says.expression; start = says.start; bytes = says.bytes; spelled = says.spelled; are = refl; addressed = says.address } in
    subst (λ (p : Plain). IsExpression s raw (record { plain = p; refs = map g a.value.refs; address = a.value.address })) (sym says.plain)
    (patched_value s raw parts (numbers_of n unit parts a.value.refs) (map g a.value.refs) a.value.address are lead written)
