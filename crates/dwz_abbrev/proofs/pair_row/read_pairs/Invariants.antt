use Rattle.std.proofs.Common.{◌≡◌, ℕ, [], drop, length, List}
use Rattle.dwz_def_reading.specs.Abbrevs.{pairs_at}
use Rattle.dwz_abbrev.specs.ReadParts.{IsIn}
use Rattle.dwz_abbrev.specs.Written.{Begins}
use Rattle.dwz_abbrev.proofs.PairLemmas.{ArePassed}
use Rattle.dwz_abbrev.proofs.pair_row.read_pairs.Given as goal

abbrev pub invariant-loop-pair : goal.invariant-loop-pair
invariant-loop-pair l = record {
  here : l.at ≡ l.cursor.at;
  begins : Begins l.initial.row.items l.row.items;
  before : Begins l.initial.places.items l.places.items;
  many : length l.places.items ≡ length l.row.items;
  read : pairs_at l.start (drop (length l.initial.row.items) l.row.items) l.cursor ≡ pairs_at l.start [] l.initial.cursor;
  passed : (section : List ℕ) → IsIn section l.initial.cursor
      → ArePassed section l.start (drop (length l.initial.row.items) l.row.items) (drop (length l.initial.row.items) l.places.items) l.cursor;
}

abbrev pub decreases-loop-pair : goal.decreases-loop-pair
decreases-loop-pair l = length l.cursor.rest
