-- The tops and spaces of a sibling list below the root of a compile unit, or below a space of it, one by one.
use Rattle.std.specs.Prelude.{ℕ, suc, ◌+◌, ◌<◌, ◌^◌, Bool, true, false, List, [], ◌∷◌, ◌++◌, ◌||◌, ◌&&◌, length}
use Rattle.dwz_def_reading.specs.Trees.{End, Entry, Forest}
use Rattle.dwz_graph.specs.Steps.{spaces_by, tops_by}
use Rattle.dwz_layout_items.specs.declared.order.Outer.{Outer}
use Rattle.dwz_layout_items.specs.declared.order.ItemKind.TheVariants.{Space, Top}
use Rattle.dwz_layout_order.specs.declared.marks.Marks.{Marks}
use Rattle.dwz_layout_order.specs.declared.outline.Next.{Next}
use Rattle.dwz_layout_order.specs.Marks.{flag_at, mark_at}

-- as many tops and spaces as there are entries from one number to before another have numbers of 32 bits
pub record HasRoom (next : Next) (first end : ℕ) : Type 0 where
  pub tops : next.top + end < 2 ^ 32 + first
  pub spaces : next.space + end < 2 ^ 32 + first

-- ---- what is written down of a top, and of a space

abbrev pub top_outer : Marks → ℕ → Outer
top_outer m t = let x = mark_at m.tops.now t in record { what = Top t; inside = 0; stays = x.stays; pinned = x.pinned }

-- of a space, before what is in it is known
abbrev pub space_opened : Marks → ℕ → Outer
space_opened m s = record { what = Space s; inside = 0; stays = true; pinned = flag_at m.spaces.now s }

-- so many tops and spaces stand in it, of which one that stays is pinned, or none
abbrev pub closed : Outer → (inside : ℕ) → (pinned : Bool) → Outer
closed x inside pinned = record { what = x.what; inside = inside; stays = x.stays; pinned = x.pinned || pinned }

abbrev pub behind_top : Next → Next
behind_top n = record { top = suc n.top; space = n.space }

abbrev pub behind_space : Next → Next
behind_space n = record { top = n.top; space = suc n.space }

-- ---- of a list

abbrev pub behind_list : {E : Type 0} → (E → Bool) → Forest E → Next → Next
behind_list test f n = record { top = n.top + tops_by test f; space = n.space + spaces_by test f }

-- one that stays is pinned, where the test is true of spaces
unfoldable pub pinned_in : {E : Type 0} → (E → Bool) → Marks → Next → Forest E → Bool
pinned_in test m n End = false
pinned_in test m n (Entry e children next) = elim (test e) as (λ _. Bool) [
  | false ↦ (mark_at m.tops.now n.top).stays && (mark_at m.tops.now n.top).pinned || pinned_in test m (behind_top n) next
  | true ↦ (flag_at m.spaces.now n.space || pinned_in test m (behind_space n) children)
      || pinned_in test m (behind_list test children (behind_space n)) next
]

-- each with what is in it behind it
unfoldable pub outers_in : {E : Type 0} → (E → Bool) → Marks → Next → Forest E → List Outer
outers_in test m n End = []
outers_in test m n (Entry e children next) = elim (test e) as (λ _. List Outer) [
  | false ↦ top_outer m n.top ∷ outers_in test m (behind_top n) next
  | true ↦
      closed (space_opened m n.space) (length (outers_in test m (behind_space n) children)) (pinned_in test m (behind_space n) children)
      ∷ (outers_in test m (behind_space n) children ++ outers_in test m (behind_list test children (behind_space n)) next)
]
