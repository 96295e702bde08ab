-- What is settled of a planned run: which files are written, which tops and spaces stay, the rows of the spaces of all files, those that
-- tops stand in, and the line tables of partial units.
use Rattle.std.specs.Prelude.{◌≡◌, ℕ, List, map}
use Rattle.dwz_def_tops.specs.Lists.{Nth}
use Rattle.dwz_def_images.specs.Plan.{PartialUnit}
use Rattle.dwz_layout_order.specs.Lists.{all_spaces, all_tops, rows_from, spaces_at}
use Rattle.dwz_layout_order.specs.Named.{MarksAll}
use Rattle.dwz_layout_order.specs.Orders.{ShowsLine}
use Rattle.dwz_layout_order.specs.Shown.{KnowsSpaces}
use Rattle.dwz_layout.specs.declared.order.Sort.TheVariants.{Partial}
use Rattle.dwz_layout_order.specs.declared.orders.Settled.{Settled}
use Rattle.dwz_layout_order.specs.Ordered.{line_given}
use Rattle.dwz_law_layout.specs.Beside.{Beside}
use Rattle.dwz_law_layout.specs.Facts.{IsMade, RunFacts, move, units, written}

-- the root of each partial unit that is made has the line table that is said
abbrev pub HaveLines : {beside : Beside} → RunFacts beside → Settled → Type 0
HaveLines f s = (n : ℕ) (part : PartialUnit) → Nth 0 (move f).parts n part → IsMade f part.home
    → ShowsLine (Partial (line_given s n)) ((move f).roots n)

pub record IsSettled {beside : Beside} (f : RunFacts beside) (s : Settled) : Type 0 where
  pub plan : s.plan.now ≡ f.planned
  pub files : s.files.now ≡ written f
  pub marks : MarksAll (move f) (units f) s.marks
  pub texts : List ℕ
  pub lists : List ℕ
  pub rows_are : s.rows.now ≡ rows_from 0 (all_spaces f.indexes)
  pub spaces : KnowsSpaces (units f) s.rows.now texts lists (all_tops f.indexes)
  pub of_tops : s.of_tops.now ≡ map (spaces_at lists) (all_tops f.indexes)
  pub lines : HaveLines f s
