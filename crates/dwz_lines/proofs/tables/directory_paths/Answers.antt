use Rattle.std.proofs.Common.{◌+◌, ◌-◌, ℕ, List, [], ◌∷◌, map, Bor, refl, sym, ap, ◌∙◌}
use Rattle.std.proofs.lemmas.List.{map-append}
use Rattle.dwz_lines.specs.Reading.{path_of, row_in}
use Rattle.dwz_lines.specs.RowViews.{row_view, strings_view}
use Rattle.dwz_lines.specs.Views.{format_views}
use Rattle.dwz_lines.proofs.FileLemmas.{paths_are}
use Rattle.dwz_lines.proofs.LoopLemmas.{all_read, none_read, one_read, times_into}
use Rattle.dwz_lines.proofs.tables.directory_paths.Goals as goal

pub returns-in_default : goal.returns-in_default
returns-in_default c =
    let item = row_in (strings_view c.args.strings) c.args.count (format_views c.args.formats.now) in
    let paths = map (λ (p : Bor (List ℕ)). p.now) c.loop-number.paths.items in (
      refl,
      paths_are (strings_view c.args.strings) (format_views c.args.formats.now) c.args.count c.args.cursor.now
          ∙ sym c.loop-number.invariant
          ∙ none_read path_of item paths c.args.count c.loop-number._number c.loop-number.cursor c.loop-number-test.true c.in_default.ensures,
    )

pub loop-number-preserved : goal.loop-number-preserved
loop-number-preserved c =
    let item = row_in (strings_view c.args.strings) c.args.count (format_views c.args.formats.now) in
    let paths = map (λ (p : Bor (List ℕ)). p.now) c.loop-number.paths.items in
    let step = one_read path_of item paths c.args.count c.loop-number._number c.loop-number.cursor c.loop-number-test.true (row_view c.in-Some.row) c.one_row.new.cursor c.in-Some.ensures in
    let more = ap (λ (w : List (Bor (List ℕ))). map (λ p. p.now) w) c.in_ok-push.ensures.items ∙ map-append (λ (p : Bor (List ℕ)). p.now) c.loop-number.paths.items (c.in-Some.row.path ∷ []) in
    ap (λ (w : List (List ℕ)). times_into path_of item w (c.args.count - (c.loop-number._number + 1)) c.one_row.new.cursor) more ∙ sym step ∙ c.loop-number.invariant

pub returns : goal.returns
returns c =
    let item = row_in (strings_view c.args.strings) c.args.count (format_views c.args.formats.now) in
    let paths = map (λ (p : Bor (List ℕ)). p.now) c.loop-number.paths.items in
    paths_are (strings_view c.args.strings) (format_views c.args.formats.now) c.args.count c.args.cursor.now
    ∙ sym c.loop-number.invariant
    ∙ all_read path_of item paths c.args.count c.loop-number._number c.loop-number.cursor c.loop-number-test.false
