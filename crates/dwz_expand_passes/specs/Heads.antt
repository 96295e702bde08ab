-- Inner: The tags and depths of entries, as they are stored and as they are said.
use Rattle.std.specs.Prelude.{◌≡◌}
use Rattle.dwz_expand_layout.specs.Lines.{Line}
use Rattle.dwz_expand_passes.specs.declared.heads.Head.{Head}
use Rattle.dwz_unit.specs.Rows.{EntryRow}

pub record IsHead (row : EntryRow) (h : Head) : Type 0 where
  pub depth : h.depth ≡ row.depth
  pub tag : h.tag ≡ row.entry.tag

pub record IsHeadOf {K : Type 0} (l : Line K) (h : Head) : Type 0 where
  pub depth : h.depth ≡ l.depth
  pub tag : h.tag ≡ l.node.tag
