use Rattle.std.proofs.Common.{◌≡◌, ℕ, ◌+◌, ◌<◌, ◌∷◌, [], List, length, slice_get, sym, ap, ◌∙◌, arith}
use Rattle.std.proofs.lemmas.List.{length-append}
use Rattle.dwz_def_reading.proofs.ListFacts.{item_got}
use Rattle.dwz_move_files.specs.declared.draft.KnownFile.{KnownFile}
use Rattle.dwz_move_files.proofs.StretchSteps.{one_known}
use Rattle.dwz_move_files.proofs.stretches.known_files.Goals as goal

pub loop-k-preserved : goal.loop-k-preserved
loop-k-preserved c =
    let files = c.args.files.now in
    let indexes = c.args.indexes.now in
    let old : List KnownFile = c.loop-k.known.items in
    let one : KnownFile = c.in_ok-known_of.field-0 in
    let k = c.loop-k.k in
    let at : k ≡ length old = sym c.loop-k.invariant.len in
    let low : k < length indexes = omega arith in
    let file = item_got files k c.index-files-k.result c.loop-k-test.true c.index-files-k.is in
    let index = item_got indexes k c.index-indexes-k.result low c.index-indexes-k.is in
    record {
      len = ap (λ (w : List KnownFile). length w) c.in_ok-push.ensures.items ∙ length-append old (one ∷ []) ∙ ap (λ (n : ℕ). n + 1) (sym at);
      each = one_known files indexes old c.push.new.self.items c.index-files-k.result c.index-indexes-k.result one (ap (slice_get files) (sym at) ∙ file) (ap (slice_get indexes) (sym at) ∙ index)
          c.in_ok-known_of.ensures c.in_ok-push.ensures.items c.loop-k.invariant.each;
    }
