-- What the items of a unit say, once all that they number has names.
use Rattle.std.specs.Prelude.{◌≡◌, ℕ, suc, ◌-◌, List, [], ◌∷◌, ◌++◌}
use Rattle.dwz_def_reading.specs.Documents.{DwUnit, Entries, Node}
use Rattle.dwz_layout_items.specs.Lines.{Line, line, lines, unit_lines}
use Rattle.dwz_layout_items.specs.declared.order.Item.{Item}
use Rattle.dwz_layout_items.specs.declared.order.ItemKind.{ItemKind}
use Rattle.dwz_layout_items.specs.declared.order.ItemKind.TheVariants.{Import, InChain, Root, Space, Top, Whole}

-- what numbers stand for in a unit after: its root, and what is below that where all of it stays; tops by their numbers, with what is
-- below them; spaces by theirs; spaces of a chain, by the chain's number, by how many spaces each stands in, and by the space that its
-- name comes from; and imports by the numbers of partial units
pub record Names (K : Type 0) : Type 0 where
  pub root : Node K
  pub whole : Entries K
  pub top : ℕ → Node K
  pub below : ℕ → Entries K
  pub space : ℕ → Node K
  pub in_chain : (chain depth space : ℕ) → Node K
  pub import : ℕ → Node K

-- the outermost space of a chain stands below a root, at depth 2
abbrev pub what_lines : {K : Type 0} → Names K → ℕ → ItemKind → List (Line K)
what_lines n depth Root = line depth n.root ∷ []
what_lines n depth Whole = line depth n.root ∷ lines (suc depth) n.whole
what_lines n depth (Top t) = line depth (n.top t) ∷ lines (suc depth) (n.below t)
what_lines n depth (Space s) = line depth (n.space s) ∷ []
what_lines n depth (InChain chain s) = line depth (n.in_chain chain (depth - 2) s) ∷ []
what_lines n depth (Import part) = line depth (n.import part) ∷ []

unfoldable pub order_lines : {K : Type 0} → Names K → List Item → List (Line K)
order_lines n [] = []
order_lines n (item ∷ items) = what_lines n item.depth item.what ++ order_lines n items

unfoldable pub import_lines : {K : Type 0} → Names K → List ℕ → List (Line K)
import_lines n [] = []
import_lines n (part ∷ parts) = line 2 (n.import part) ∷ import_lines n parts

-- the items are those of the unit: the same entries in preorder, at the same depths
abbrev pub ShowsUnit : {K : Type 0} → Names K → List Item → DwUnit K → Type 0
ShowsUnit n items u = order_lines n items ≡ unit_lines u
