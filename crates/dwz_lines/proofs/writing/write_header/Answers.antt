use Rattle.std.proofs.Common.{◌≡◌, ◌++◌, ◌∷◌, ◌+◌, ℕ, List, length, ap, ◌∙◌, arith}
use Rattle.dwz_bytes.specs.Spelling.{le_bytes}
use Rattle.dwz_lines.proofs.WriteLemmas.{header_is}
use Rattle.dwz_lines.proofs.writing.write_header.Goals as goal

pub returns : goal.returns
returns c =
    let tables = c.in_ok-tables.tables.items in
    let len : c.len-2.result ≡ length tables = omega (arith, c.len-2.ensures, c.in_ok-tables.tables.ok.0) in
    let first = c.before-2.ensures ∙ ap (λ (n : ℕ). le_bytes 4 (n + 8) ++ (le_bytes 2 5 ++ (8 ∷ 0 ∷ le_bytes 4 n))) len in
    c.in_ok-extend_from_slice-2.ensures.items
    ∙ ap (λ (w : List ℕ). w ++ c.deref.result.now) (c.in_ok-extend_from_slice.ensures.items ∙ ap (λ (w : List ℕ). w ++ c.before-2.result) c.in_ok-out.ensures.items)
    ∙ ap (λ (w : List ℕ). c.before-2.result ++ w) c.deref.ensures.value
    ∙ header_is c.args.paths.now c.before-2.result tables c.in_ok-tables.ensures first
