-- The labels of two files of a graph and of their common one.
use Rattle.std.specs.Prelude.{◌≡◌, ℕ, List, [], ◌∷◌, length, Option, Some, None, Ok}
use Rattle.dwz_def_reading.specs.Documents.{Doc, DwUnit}
use Rattle.dwz_def_reading.specs.Files.{Limits, file_meaning_by, limits_after, no_files_before}
use Rattle.dwz_def_reading.specs.Finished.{common_read, rule_of_back, rule_of_common}
use Rattle.dwz_def_reading.specs.Lists.{In}
use Rattle.dwz_def_reading.specs.Places.{Place}
use Rattle.dwz_def_reading.specs.Rules.{ReadingRule}
use Rattle.dwz_def_reading.specs.Units.{RawUnit}
use Rattle.dwz_def_check.specs.Answer.{beside_common}
use Rattle.dwz_def_check.specs.CrossNames.{CrossName, cross_names}
use Rattle.dwz_def_check.specs.CrossNodes.{AreInLists, new_side, node_count, old_side}
use Rattle.dwz_check_index.specs.Both.{AreCrossIndexes}
use Rattle.dwz_check_index.specs.declared.both.CrossIndexes.{CrossIndexes}
use Rattle.dwz_graph.specs.ByRule.{numbered_rule}
use Rattle.dwz_graph.specs.Files.{FilesRead, said_finished}

-- ---- what the files say

-- two files say this by a rule, behind others
abbrev pub SayTwo : ReadingRule ℕ → Limits → List (List ℕ) → List (DwUnit ℕ) → List (DwUnit ℕ) → Type 0
SayTwo rule l (old ∷ new ∷ []) a b =
    (raw : List RawUnit) × (doc : Doc ℕ) × (file_meaning_by rule l old ≡ Ok (raw, doc)) × (doc.units ≡ a)
    × ((others : List RawUnit) × (other : Doc ℕ) × (file_meaning_by rule (limits_after l old raw) new ≡ Ok (others, other)) × (other.units
    ≡ b))
SayTwo rule l _ a b = ⊥

-- two files and their common one say this, where numbers stand for places
abbrev pub SayNumbered : Option (List ℕ) → List (List ℕ) → List (DwUnit ℕ) → List (DwUnit ℕ) → List (DwUnit ℕ) → Type 0
SayNumbered None contents a b c = SayTwo (numbered_rule (rule_of_back None 0)) no_files_before contents a b × (c ≡ [])
SayNumbered (Some bytes) contents a b c =
    (raw : List RawUnit) × (doc : Doc ℕ) × (file_meaning_by (numbered_rule (rule_of_common (length contents))) no_files_before bytes ≡ Ok
    (raw, doc))
    × (doc.units ≡ c)
    × SayTwo (numbered_rule (rule_of_back (Some (common_read contents bytes raw)) 0)) (limits_after no_files_before bytes raw) contents a b

-- the indexes are those of the two files of a graph and of their common one
abbrev pub AreIndexesOf : FilesRead → CrossIndexes → Type 0
AreIndexesOf r x = (a b c : List (DwUnit ℕ)) → SayNumbered r.common r.back a b c → AreCrossIndexes a b c x

-- ---- labels and targets

-- where one function names the places of the files of a graph as their lists of names do, there is a label for each top, root and space of
-- both and of the common one, and the tops that it leads into: at its number
abbrev pub AreLabelsOf : FilesRead → List (List ℕ) → List (List ℕ) → Type 0
AreLabelsOf r labels targets =
    (a b : Doc Place) → (said_finished r).docs ≡ a ∷ b ∷ [] → (name : Place → CrossName)
    → let v = beside_common (said_finished r) a in
    let w = beside_common (said_finished r) b in
    let s = old_side v w name in
    let t = new_side v w name in
    ((p : Place) (x : CrossName) → In (p, x) (cross_names s) → name p ≡ x) → ((p : Place) (x : CrossName) → In (p, x) (cross_names t)
    → name p ≡ x)
    → (length labels ≡ node_count v w) × AreInLists s labels targets × AreInLists t labels targets
