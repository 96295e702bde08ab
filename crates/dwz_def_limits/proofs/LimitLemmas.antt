-- Limits that leave room for files leave room for some of them.
use Rattle.std.proofs.Common.{ℕ, ◌≤◌, List, ◌∷◌, length, map, arith}
use Rattle.std.proofs.lemmas.List.Sums.{sum_by-cons}
use Rattle.std.specs.List.{sum}
use Rattle.dwz_def_reading.specs.Files.{longest_files, most_entries}
use Rattle.dwz_def_reading.specs.Units.{entries_in}
use Rattle.dwz_def_limits.specs.Laws.{FewerLaw}

fewer : (n most : ℕ) (ns : List ℕ) → sum (n ∷ ns) ≤ most → sum ns ≤ most
fewer n most ns h = let both = sum_by-cons (λ x. x) n ns in omega (arith, h, both)

pub fewer_files : FewerLaw
fewer_files file files units stored within =
    record {
      each = within.each.1;
      bytes = fewer (length file) longest_files (map (λ bytes. length bytes) files) within.bytes;
      entries = λ others each. fewer (entries_in units) most_entries (map entries_in others) (within.entries (units ∷ others) (stored, each));
    }
