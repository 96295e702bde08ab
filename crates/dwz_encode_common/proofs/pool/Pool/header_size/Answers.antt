use Rattle.std.proofs.Common.{◌≡◌, ℕ, ◌+◌, List, ◌++◌, IfOk, ap, arith, length, refl, subst, sym, ◌∙◌, slice_get}
use Rattle.dwz_bytes.specs.Spelling.{uleb}
use Rattle.dwz_def_reading.specs.TextRows.{text_section}
use Rattle.dwz_def_reading.specs.LinesWritten.{header_written}
use Rattle.dwz_encode_common.proofs.SectionBytes.{is_there, size_is}
use Rattle.dwz_encode_common.proofs.pool.Pool.header_size.Goals as goal
use Rattle.dwz_encode_common.proofs.pool.Pool.header_size.Goals.{in-Some, in-None}

pub returns : goal.returns
returns c =
    let own = c.self.inside.texts in
    let ts = c.args.self.now in
    let same = c.self.view_is in
    let long = ap (λ (w : List (List ℕ)). length w) same in
    elim c.match-text.branch [
      | in-Some w ↦
          (let all = ap (λ (w : List (List ℕ)). length (text_section w)) same in
          let sized = size_is ts w.in-Some.path.now (ap (λ (w : List (List ℕ)). slice_get w 0) (sym same) ∙ sym w.in-Some.ensures) in
          let count : c.len-count.result + 1 ≡ length ts + 1 = omega (arith, c.len-count.ensures.count, long) in
          let rows = ap (λ (w : List ℕ). length w) (c.in_ok-put_uleb.ensures.ok ∙ ap (λ (w : List ℕ). w ++ uleb (c.len-count.result + 1)) c.new-rows.ensures.items)
          ∙ ap (λ (n : ℕ). length (uleb n)) count in
          let is : c.in_ok-more.field-0 + c.in_ok-paths.paths ≡ length (header_written ts) =
          omega (arith, sized, all, long, rows, w.first-is, c.len.ensures, c.len-count.ensures.count, c.in_ok-front.ensures, c.in_ok-more.ensures, c.in_ok-paths.ensures, c.size.ensures) in
          subst (λ (n : ℕ). IfOk c.more-4.result (λ s. s ≡ n)) is c.more-4.ensures)
      | in-None w ↦ absurd (is_there own 0 (length own) refl (omega (arith, c.requires, long)) w.in-None.ensures)
    ]
