use Rattle.dwz_layout_input.proofs.space_laws.space_mark_laws.Goals as goal

pub returns : goal.returns
returns c = λ moved units marks tops pinned. record { tops = tops; spaces = pinned.each }
