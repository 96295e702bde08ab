use Rattle.std.proofs.Common.{◌≡◌, ℕ, ◌+◌, ◌≤◌, ◌∷◌, Bool, List, drop, length, take, Result, Some, Err, Ok, sym, ap, ◌∙◌, cond, arith}
use Rattle.std.specs.Option.{option_map}
use Rattle.std.proofs.lemmas.Bool.{le-ltb}
use Rattle.std.proofs.lemmas.List.{length-append}
use Rattle.std.proofs.lemmas.Result.{err_from_is_err_and}
use Rattle.dwz_bytes.specs.declared.error.ByteErr.{ByteErr}
use Rattle.dwz_bytes.specs.declared.error.ByteErr.TheVariants.{Short}
use Rattle.dwz_bytes.specs.Input.{Input, past}
use Rattle.dwz_bytes.specs.Reading.{take_at}
use Rattle.dwz_def_reading.specs.Texts.{text_in}
use Rattle.dwz_def_reading.proofs.TextLemmas.{text_begins}
use Rattle.dwz_sup.proofs.reading.text.Goals as goal

no_error : {X E : Type 0} {x : X} {e : E} → Ok x ≡ Err e → ⊥
no_error h = absurd cc

-- a text that stands there has its zero byte behind it
is_there : (i : Input) (text : List ℕ) (e : ByteErr) → text_in i.rest ≡ Some text → take_at (length text + 1) i ≡ Err e → ⊥
is_there i text e is fails =
    let b = text_begins i.rest text is in
    let long : length text + 1 ≤ length i.rest = omega (arith, ap length b.parts, length-append text (0 ∷ b.after)) in
    let taken : take_at (length text + 1) i ≡ Ok (take (length text + 1) i.rest, past (length text + 1) i) =
    ap (λ (t : Bool). cond t (Err (Short i.at)) (Ok (take (length text + 1) i.rest, past (length text + 1) i))) (le-ltb (length i.rest) (length text + 1) long) in
    no_error (sym taken ∙ fails)

pub returns-in_err-take-in-Some : goal.returns-in_err-take-in-Some
returns-in_err-take-in-Some c =
    let i = c.args.cursor.now in
    let rest : text_in i.rest ≡ text_in (drop i.at c.bytes.result.now) = sym (ap (λ (j : Input). text_in j.rest) c.bytes.ensures.here) in
    let at : text_in (drop i.at c.bytes.result.now) ≡ text_in (drop c.at-at.result c.bytes.result.now) = ap (λ (n : ℕ). text_in (drop n c.bytes.result.now)) (sym c.at-at.ensures) in
    let found : text_in i.rest ≡ Some c.in-Some.text.now = rest ∙ at ∙ sym c.text_at.ensures ∙ ap (option_map (λ t. t.now)) c.in-Some.is in
    absurd (is_there i c.in-Some.text.now c.in_err-take-in-Some.field-0.0 found c.in_err-take-in-Some.ensures.0)
