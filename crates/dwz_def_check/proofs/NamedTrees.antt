-- Trees of which the names are related, one by one.
use Rattle.std.proofs.Common.{◌≡◌, ℕ, List, [], ◌∷◌}
use Rattle.dwz_def_reading.specs.Documents.{Attr, Entries, Node}
use Rattle.dwz_def_reading.specs.Trees.{End, Entry}
use Rattle.dwz_def_cross.specs.Tops.{CrossTop}
use Rattle.dwz_def_check.specs.CrossNames.{AtPath, CrossName, PartRoot, PartSpace, WholeRoot, WholeSpace}

-- R holds of the tops
abbrev pub SameName : (ℕ → ℕ → Type 0) → CrossName → CrossName → Type 0
SameName R (AtPath m path) (AtPath n other) = (path ≡ other) × R m n
SameName R (WholeRoot m) (WholeRoot n) = m ≡ n
SameName R (WholeSpace m names) (WholeSpace n others) = (m ≡ n) × (names ≡ others)
SameName R PartRoot PartRoot = Unit {0}
SameName R (PartSpace names) (PartSpace others) = names ≡ others
SameName R _ _ = ⊥

abbrev pub NamesBy : (ℕ → ℕ → Type 0) → List CrossName → List CrossName → Type 0
NamesBy R [] [] = Unit {0}
NamesBy R (x ∷ xs) (y ∷ ys) = SameName R x y × NamesBy R xs ys
NamesBy R _ _ = ⊥

abbrev pub AttrsBy : (ℕ → ℕ → Type 0) → List (Attr CrossName) → List (Attr CrossName) → Type 0
AttrsBy R [] [] = Unit {0}
AttrsBy R (a ∷ attrs) (b ∷ others) = (a.name ≡ b.name) × ((a.value.plain ≡ b.value.plain) × NamesBy R a.value.refs b.value.refs) × AttrsBy R attrs others
AttrsBy R _ _ = ⊥

abbrev pub NodeBy : (ℕ → ℕ → Type 0) → Node CrossName → Node CrossName → Type 0
NodeBy R d e = (d.tag ≡ e.tag) × AttrsBy R d.attrs e.attrs

abbrev pub EntriesBy : (ℕ → ℕ → Type 0) → Entries CrossName → Entries CrossName → Type 0
EntriesBy R End End = Unit {0}
EntriesBy R (Entry d f g) (Entry e f' g') = NodeBy R d e × EntriesBy R f f' × EntriesBy R g g'
EntriesBy R _ _ = ⊥

abbrev pub TopBy : (ℕ → ℕ → Type 0) → CrossTop CrossName → CrossTop CrossName → Type 0
TopBy R a b = (a.names ≡ b.names) × NodeBy R a.node b.node × EntriesBy R a.below b.below

-- whatever the tops are
abbrev pub AnyNumbers : ℕ → ℕ → Type 0
AnyNumbers m n = Unit {0}
