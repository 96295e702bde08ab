use Rattle.std.proofs.Common.{◌+◌, ◌++◌, ◌∷◌, [], ℕ, List, drop, get_or, sym, ap, ◌∙◌, append_assoc}
use Rattle.std.proofs.lemmas.List.{append-nil}
use Rattle.dwz_def_reading.specs.LinesWritten.{rows_bytes, tables_written}
use Rattle.dwz_lines.proofs.WriteLemmas.{all_written, no_rows, one_row}
use Rattle.dwz_lines.proofs.writing.tables.Goals as goal

pub loop-path-preserved : goal.loop-path-preserved
loop-path-preserved c =
    let paths = c.as_slice-paths.result.now in
    let k = c.loop-path.path-index in
    let path = c.as_slice-in-loop-path.ensures ∙ c.path-item.is in
    let out = c.in_ok-put_row-2.ensures ∙ ap (λ (w : List ℕ). c.loop-path.out.items ++ (w ++ 0 ∷ 0 ∷ [])) path in
    ap (λ (w : List ℕ). w ++ rows_bytes (drop (k + 1) paths)) out
    ∙ append_assoc c.loop-path.out.items (get_or paths k c.path-item.result ++ 0 ∷ 0 ∷ []) (rows_bytes (drop (k + 1) paths))
    ∙ ap (λ (w : List ℕ). c.loop-path.out.items ++ w) (sym (one_row paths k c.path-item.result c.loop-path-test.true))
    ∙ c.loop-path.invariant

pub returns : goal.returns
returns c =
    let paths = c.as_slice-paths.result.now in
    let none = ap (λ (w : List ℕ). c.loop-path.out.items ++ w) (no_rows paths c.loop-path.path-index c.loop-path-test.false) ∙ append-nil c.loop-path.out.items in
    let first = c.as_slice.ensures ∙ c.index-paths-0.is in
    let row = c.in_ok-put_row.ensures ∙ ap (λ (w : List ℕ). c.put_uleb.new.out.items ++ (w ++ 0 ∷ 0 ∷ [])) first in
    let front = c.in_ok-extend_from_slice.ensures.items ∙ ap (λ (w : List ℕ). w ++ _) c.new-out.ensures.items in
    let some = rw (← c.as_slice-paths.ensures) at c.requires in
    sym none ∙ c.loop-path.invariant
    ∙ ap (λ (w : List ℕ). w ++ rows_bytes paths) (row ∙ ap (λ (w : List ℕ). w ++ (get_or paths 0 c.index-paths-0.result ++ 0 ∷ 0 ∷ [])) c.in_ok-put_uleb.ensures.ok)
    ∙ all_written paths c.index-paths-0.result c.extend_from_slice.new.self.items some front
    ∙ ap tables_written c.as_slice-paths.ensures
