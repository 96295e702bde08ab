use Rattle.dwz_layout_items.proofs.partial.+put_spaces.Given as goal

abbrev pub decreases-put_spaces : goal.decreases-put_spaces
decreases-put_spaces l = l.inner
