-- Entries of a list that are read up to one that was read before, and the places that are kept of them.
use Rattle.std.specs.Prelude.{◌≡◌, ◌⊎◌, ℕ, suc, ◌+◌, ◌<◌, ◌≤◌, true, false, List, [], ◌++◌, length, Option, Some, None, Result, Ok, Err, slice_get}
use Rattle.dwz_model.specs.declared.fault.ReadErr.{ReadErr}
use Rattle.dwz_model.specs.declared.fault.ReadErr.TheVariants.{NoMemory, Refused}
use Rattle.dwz_def_reading.specs.Reading.{◌>>=◌}
use Rattle.dwz_def_reading.specs.Lists.{In}
use Rattle.dwz_def_reading.specs.declared.exprs.Operand.{Operand}
use Rattle.dwz_def_reading.specs.Exprs.{ExprContext, Expression}
use Rattle.dwz_def_reading.specs.LocLists.{list_at}
use Rattle.dwz_def_reading.specs.Sequences.{read_from}
use Rattle.dwz_def_reading.specs.Shared.{operands_of}
use Rattle.dwz_expr.specs.FirstFault.{asked}
use Rattle.dwz_lists.specs.Entries.{IsEnd, with_before}
use Rattle.dwz_lists.specs.FirstFault.{WalksInto}
use Rattle.dwz_graph_resolve.specs.declared.lists.ListRow.{ListRow}
use Rattle.dwz_graph_resolve.specs.declared.list_parts.Stop.{Stop}

-- ---- entries

-- Entries stand from a place up to another, and these operands of their expressions are looked up: the list is those entries, and the list
-- that begins behind them.
pub record IsPart (section : List ℕ) (from : ℕ) (operands : List Operand) (to : ℕ) : Type 0 where
  pub exprs : List Expression
  pub has : operands_of exprs ≡ operands
  pub order : from ≤ to
  pub within : to ≤ length section
  pub inside : (o : Operand) → In o operands → o.at + o.width ≤ to
  pub leads : (c : ExprContext) → c.section ≡ 7 → read_from (list_at c) section from
      ≡ asked c operands (read_from (list_at c) section to >>= with_before exprs)

-- one of these entries begins there: the operands before it end there, or before, and the others are those of the entries from it on
pub record Passes (section : List ℕ) (from : ℕ) (operands : List Operand) (to : ℕ) (place : ℕ) : Type 0 where
  pub before : List Operand
  pub own : List Operand
  pub both : operands ≡ before ++ own
  pub low : from ≤ place
  pub apart : (o : Operand) → In o before → o.at + o.width ≤ place
  pub part : IsPart section place own to

-- ---- what is known of places

-- A mark at a place is the number of a row, counted from 1, and so much is known of that.
abbrev pub KnowMarks : List ListRow → List ℕ → (ℕ → ListRow → Type 0) → Type 0
KnowMarks rows marks P = (place k : ℕ) → slice_get marks place ≡ Some (suc k) → (w : ListRow) × (slice_get rows k ≡ Some w) × P place w

abbrev pub IsMarked : List ListRow → List ℕ → ℕ → ListRow → Type 0
IsMarked rows marks place w = (k : ℕ) × (slice_get marks place ≡ Some (suc k)) × (slice_get rows k ≡ Some w)

abbrev pub WasMarked : List ListRow → List ℕ → ℕ → ℕ → Type 0
WasMarked rows marks place unit = (w : ListRow) × IsMarked rows marks place w × (w.unit ≡ unit)

abbrev pub IsMark : List ListRow → List ℕ → ℕ → Option ListRow → Type 0
IsMark rows marks place None = Unit {0}
IsMark rows marks place (Some w) = IsMarked rows marks place w

-- a row without operands: the list at the place ends with it, and has none either
abbrev pub IsPlain : List ℕ → ℕ → ListRow → Type 0
IsPlain section place w = w.plain ≡ true → WalksInto section place [] (Ok w.end)

-- a place is marked with a number, and others only where they were
abbrev pub Puts : List ℕ → ℕ → ℕ → List ℕ → Type 0
Puts old place number new = (q n : ℕ) → slice_get new q ≡ Some n → (slice_get old q ≡ Some n) ⊎ ((q ≡ place) × (n ≡ number))

-- these places are marked with a number, and others only where they were
abbrev pub Marks : List ℕ → List ℕ → ℕ → List ℕ → Type 0
Marks old places number new = (place n : ℕ) → slice_get new place ≡ Some n → (slice_get old place ≡ Some n) ⊎ (In place places × (n ≡ number))

-- where no number is, there may be 0
abbrev pub Fits : List ℕ → List ℕ → Type 0
Fits old new = (place k : ℕ) → slice_get new place ≡ Some (suc k) → slice_get old place ≡ Some (suc k)

-- ---- where reading stops

-- at a list that has no operands, up to its end; or at an entry that the unit with that number read before
abbrev pub StopsBy : ListRow → ℕ → ℕ → Stop → Type 0
StopsBy w unit place x = ((x.plain ≡ true) × (w.plain ≡ true) × (x.end ≡ w.end)) ⊎ ((x.plain ≡ false) × (w.unit ≡ unit) × (x.end ≡ place))

pub record StopsAt (rows : List ListRow) (marks : List ℕ) (unit place : ℕ) (x : Stop) : Type 0 where
  pub row : ListRow
  pub marked : IsMarked rows marks place row
  pub by : StopsBy row unit place x

abbrev pub MayStop : List ListRow → List ℕ → ℕ → ℕ → Option Stop → Type 0
MayStop rows marks unit place None = Unit {0}
MayStop rows marks unit place (Some x) = StopsAt rows marks unit place x

-- there is the end of the list, or an entry behind the first at which reading stops
abbrev pub IsStop : List ℕ → List ListRow → List ℕ → ℕ → ℕ → ℕ → Stop → Type 0
IsStop section rows marks unit from place x = (IsEnd section place × (x.plain ≡ true) × (x.end ≡ place + 1))
    ⊎ ((from < place) × StopsAt rows marks unit place x)

pub record IsReadUp (section : List ℕ) (rows : List ListRow) (marks : List ℕ) (unit from : ℕ) (operands : List Operand) (places : List ℕ)
    (x : Stop) : Type 0 where
  pub to : ℕ
  pub part : IsPart section from operands to
  pub passes : (place : ℕ) → In place places → Passes section from operands to place
  pub stop : IsStop section rows marks unit from to x

-- entries up to where reading stops, or the fault of layout; the operands are those that are looked up before
abbrev pub ReadsUp : List ℕ → List ListRow → List ℕ → ℕ → ℕ → List Operand → List ℕ → Result Stop ReadErr → Type 0
ReadsUp section rows marks unit from operands places (Ok x) = IsReadUp section rows marks unit from operands places x
ReadsUp section rows marks unit from operands places (Err NoMemory) = Unit {0}
ReadsUp section rows marks unit from operands places (Err (Refused f)) = (c : ExprContext) → c.section ≡ 7 → read_from (list_at c) section from
    ≡ asked c operands (Err f)
