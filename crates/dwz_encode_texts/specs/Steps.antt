-- The texts of an entry that was read, value by value. This is of the inside alone.
use Rattle.std.specs.Prelude.{ℕ, ◌+◌, List, [], ◌∷◌}
use Rattle.dwz_layout.specs.declared.known.EntryTable.{EntryTable}
use Rattle.dwz_layout.specs.declared.known.TextAt.{TextAt}
use Rattle.dwz_layout.specs.declared.known.TextAt.TheVariants.{Own, Pooled, Shared}
use Rattle.dwz_layout.specs.declared.ways.Rewrite.{Rewrite}
use Rattle.dwz_layout.specs.declared.ways.Rewrite.TheVariants.{AsEntry, AsExpression, AsFile, AsRead, AsText, Dropped, KeepsText}
use Rattle.dwz_layout.specs.Known.{text_at}

-- the offset of a text that stands in the file of the unit itself
abbrev pub text_uses : TextAt → List ℕ
text_uses (Own offset) = offset ∷ []
text_uses (Shared offset) = []
text_uses (Pooled offset) = offset ∷ []

-- of a value of that way, where the next text of the file has that number
abbrev pub way_uses : EntryTable → ℕ → ℕ → Rewrite → List ℕ
way_uses k file next AsText = text_uses (text_at k file next)
way_uses k file next Dropped = []
way_uses k file next AsRead = []
way_uses k file next KeepsText = []
way_uses k file next AsFile = []
way_uses k file next AsEntry = []
way_uses k file next AsExpression = []

-- the number of the text behind it
abbrev pub text_behind : ℕ → Rewrite → ℕ
text_behind next AsText = next + 1
text_behind next KeepsText = next + 1
text_behind next Dropped = next
text_behind next AsRead = next
text_behind next AsFile = next
text_behind next AsEntry = next
text_behind next AsExpression = next
