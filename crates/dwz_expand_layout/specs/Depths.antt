-- Inner: entries with their depths, from which follows where lists of children begin and end.
use Rattle.std.specs.Prelude.{◌≡◌, ℕ, suc, ◌-◌, List, [], ◌∷◌, map, nat_lt}
use Rattle.dwz_encode.specs.Shown.{attr_held, held_of}
use Rattle.dwz_layout.specs.Attributes.{OutAttr}
use Rattle.dwz_layout_items.specs.Lines.{Line}
use Rattle.dwz_expand_layout.specs.Entries.{NewLine}
use Rattle.dwz_expand_layout.specs.Shown.{keys_of}

-- an entry that stands so deep: a root has depth 1
pub record DeepLine : Type 0 where
  pub depth : ℕ
  pub tag : ℕ
  pub attrs : List OutAttr

-- how deep the first one stands; behind all a root would follow
abbrev pub depth_of : List DeepLine → ℕ
depth_of [] = 1
depth_of (d ∷ lines) = d.depth

-- An entry has children if the next one stands deeper, and behind it as many lists end as the next one stands higher.
unfoldable pub with_ends : List DeepLine → List NewLine
with_ends [] = []
with_ends (d ∷ lines) = record {
  tag = d.tag;
  children = nat_lt d.depth (depth_of lines);
  attrs = d.attrs;
  ends =
      d.depth - depth_of lines;
} ∷ with_ends lines

-- the copy with that number shows an entry
pub record ShowsLine {K : Type 0} (key : ℕ → K) (number : ℕ) (d : DeepLine) (l : Line K) : Type 0 where
  pub depth : d.depth ≡ l.depth
  pub place : key number ≡ l.node.at
  pub tag : d.tag ≡ l.node.tag
  pub attrs : map (attr_held (keys_of key)) d.attrs ≡ map held_of l.node.attrs

-- copies, of which the first has that number, show entries one by one
abbrev pub ShowLines : {K : Type 0} → (ℕ → K) → ℕ → List DeepLine → List (Line K) → Type 0
ShowLines key number [] [] = Unit {0}
ShowLines key number (d ∷ deep) (l ∷ lines) = ShowsLine key number d l × ShowLines key (suc number) deep lines
ShowLines key number _ _ = ⊥
