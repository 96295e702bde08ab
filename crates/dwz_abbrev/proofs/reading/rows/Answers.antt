use Rattle.std.proofs.Common.{◌≡◌, ℕ, ◌<◌, ◌≤◌, List, ◌++◌, ◌∷◌, [], length, refl, sym, ap, subst, ◌∙◌, arith}
use Rattle.std.proofs.lemmas.List.Elements.{All-nil}
use Rattle.std.proofs.lemmas.Result.{err_from_is_err_and}
use Rattle.dwz_def_reading.specs.Abbrevs.{Declaration, declarations_at}
use Rattle.dwz_def_reading.proofs.TableLemmas.{More, past_end, table_end, table_fails_so, table_more}
use Rattle.dwz_abbrev.specs.ReadParts.{IsIn}
use Rattle.dwz_abbrev.specs.ReadViews.{IsInRow, read_view, read_views}
use Rattle.dwz_abbrev.specs.Starts.{Reach}
use Rattle.dwz_abbrev.proofs.BehindLemmas.{codes_read}
use Rattle.dwz_abbrev.proofs.FollowLemmas.{fits_more, fits_none}
use Rattle.dwz_abbrev.proofs.PairLemmas.{decl_in}
use Rattle.dwz_abbrev.proofs.PlaceLemmas.{none_of}
use Rattle.dwz_abbrev.proofs.ReadLemmas.{begins_both, begins_same, reads_kept, reads_more, within_kept, within_more}
use Rattle.dwz_abbrev.proofs.StartLemmas.{reach_end, reach_more, reach_none}
use Rattle.dwz_abbrev.specs.Places.{place_of}
use Rattle.dwz_abbrev.proofs.reading.rows.Goals.{After-declaration, In-Some}
use Rattle.dwz_abbrev.proofs.reading.rows.Goals as goal

pub loop-cursor-init : goal.loop-cursor-init
loop-cursor-init c =
    let section = c.args.pairs.now.section in
    let within : c.args.at ≤ length section = subst (λ (s : List ℕ). c.args.at ≤ length s) c.section-section.ensures (omega (arith, c.if-at-section.false)) in
    rw (c.in_ok-rows.ensures, c.in_ok-starts.ensures.items, c.new-cursor.ensures, c.section-section.ensures) (record {
      section = refl;
      read = refl;
      reach = reach_none section c.args.at;
      inside = record { here = refl; within = within };
      here = refl;
      fits = fits_none;
      within = All-nil (IsInRow c.args.pairs.now.row);
      begins = begins_same c.args.pairs.now.row;
    })

pub returns-then-at-section-clause-fault : goal.returns-then-at-section-clause-fault
returns-then-at-section-clause-fault c =
    rw c.bad.ensures (past_end c.args.pairs.now.section c.args.at (subst (λ (s : List ℕ). length s < c.args.at) c.section-section.ensures c.if-at-section.true))

pub declaration-requires : goal.declaration-requires
declaration-requires c = subst (λ (s : List ℕ). IsIn s c.loop-cursor.cursor) (sym c.loop-cursor.invariant.section) c.loop-cursor.invariant.inside

pub returns-in_err-decl-clause-fault : goal.returns-in_err-decl-clause-fault
returns-in_err-decl-clause-fault c =
    let p = err_from_is_err_and c.from_residual-in_err-decl.result c.from_residual-in_err-decl.ensures.1 in
    rw (p.1, p.2) (table_fails_so _ _ _ _ _ c.loop-cursor.invariant.read c.in_err-decl.ensures.decl)

-- what was read before stands in the row as it is now
kept : (c : After-declaration) → read_views c.declaration.new.pairs.row c.loop-cursor.rows ≡ read_views c.loop-cursor.pairs.row c.loop-cursor.rows
kept c = reads_kept c.loop-cursor.pairs.row c.declaration.new.pairs.row c.loop-cursor.rows c.declaration.ensures.begins c.loop-cursor.invariant.within

pub returns-in_default-clause-read : goal.returns-in_default-clause-read
returns-in_default-clause-read c =
    let read = rw c.in_default.is at c.in_ok-decl.ensures.decl in
    let table = read_views c.loop-cursor.pairs.row c.loop-cursor.rows in
    let cursor = c.loop-cursor.cursor in
    rw (kept (goal.at.returns-in_default-clause-read c).After-declaration) (
      table_end c.args.pairs.now.section c.args.at table cursor c.declaration.new.cursor c.loop-cursor.invariant.read read,
      reach_end c.args.pairs.now.section table c.loop-cursor.starts.items cursor c.declaration.new.cursor c.loop-cursor.invariant.reach read,
    )

pub returns-in_default-clause-fits : goal.returns-in_default-clause-fits
returns-in_default-clause-fits c = rw (kept (goal.at.returns-in_default-clause-fits c).After-declaration) c.loop-cursor.invariant.fits

pub returns-in_default-clause-within : goal.returns-in_default-clause-within
returns-in_default-clause-within c =
    within_kept c.loop-cursor.pairs.row c.declaration.new.pairs.row c.loop-cursor.rows c.declaration.ensures.begins c.loop-cursor.invariant.within

pub returns-in_default-clause-begins : goal.returns-in_default-clause-begins
returns-in_default-clause-begins c = begins_both c.args.pairs.now.row c.loop-cursor.pairs.row c.declaration.new.pairs.row c.loop-cursor.invariant.begins c.declaration.ensures.begins

-- one declaration more was read
more : (c : In-Some) → More (read_views c.loop-cursor.pairs.row c.loop-cursor.rows) c.loop-cursor.cursor c.declaration.new.cursor (read_view c.declaration.new.pairs.row c.in-Some.decl)
more c =
    let read = rw c.in-Some.is at c.in_ok-decl.ensures.decl in
    table_more (read_views c.loop-cursor.pairs.row c.loop-cursor.rows) c.loop-cursor.cursor c.declaration.new.cursor (read_view c.declaration.new.pairs.row c.in-Some.decl) read

pub push-requires : goal.push-requires
push-requires c =
    ap (λ (w : List ℕ). place_of w c.in-Some.decl.code) (sym (codes_read c.loop-cursor.pairs.row c.loop-cursor.rows))
    ∙ none_of (read_views c.loop-cursor.pairs.row c.loop-cursor.rows) c.in-Some.decl.code (more (goal.at.push-requires c).In-Some).is_new

pub loop-cursor-smaller : goal.loop-cursor-smaller
loop-cursor-smaller c = (more (goal.at.loop-cursor-smaller c).In-Some).shorter

pub loop-cursor-preserved : goal.loop-cursor-preserved
loop-cursor-preserved c =
    let one = more (goal.at.loop-cursor-preserved c).In-Some in
    let read = rw c.in-Some.is at c.in_ok-decl.ensures.decl in
    let old = c.loop-cursor.pairs.row in
    let new = c.declaration.new.pairs.row in
    let rows = c.loop-cursor.rows in
    let all = c.push.new.self in
    let decl = c.in-Some.decl in
    let begins = c.declaration.ensures.begins in
    let within = c.loop-cursor.invariant.within in
    let table = read_views old rows in
    let d = read_view new decl in
    let starts = c.loop-cursor.starts.items in
    let from = c.loop-cursor.cursor in
    let to = c.declaration.new.cursor in
    let views : read_views new all ≡ table ++ d ∷ [] = reads_more old new rows all decl begins within c.in_ok-push.ensures.ok in
    let here = rw c.in-Some.is at c.in_ok-decl.ensures.within in
    let reach : Reach c.args.pairs.now.section (table ++ d ∷ []) (starts ++ from.at ∷ []) to = reach_more c.args.pairs.now.section table starts from to c.loop-cursor.invariant.reach d read in
    let pushed : c.push-in-loop-cursor.new.self.items ≡ starts ++ from.at ∷ [] = c.in_ok-push-2.ensures.items ∙ ap (λ (n : ℕ). starts ++ n ∷ []) c.loop-cursor.invariant.here in
    record {
      section = c.declaration.ensures.section ∙ c.loop-cursor.invariant.section;
      inside = decl_in c.args.pairs.now.section table from to d read c.loop-cursor.invariant.inside;
      read = ap (λ (t : List Declaration). declarations_at t to) views ∙ sym one.same ∙ c.loop-cursor.invariant.read;
      reach = rw (views, pushed) reach;
      here = c.at-start.ensures;
      fits = rw views (fits_more table from to d read c.loop-cursor.invariant.fits);
      within = within_more old new rows all decl begins within c.in_ok-push.ensures.ok here;
      begins = begins_both c.args.pairs.now.row old new c.loop-cursor.invariant.begins begins;
    }
